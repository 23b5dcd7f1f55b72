-- `proposal::report` meets its contract: a site that is not marked has the empty part, a marked one its row.
use mathlib.Core.Path.{sym, ◌∙◌}
use Rattle.proposal.proofs.ProposalLaws.{report_marked, report_unmarked}
use Rattle.proposal.proofs.report.Goals as goal

pub returns-then-contains : goal.returns-then-contains
returns-then-contains c = c.row.ensures ∙ sym (report_marked _ _ _ _ (sym c.contains.ensures ∙ c.if-contains.true))

pub returns-else-contains : goal.returns-else-contains
returns-else-contains c = sym (report_unmarked _ _ _ _ (sym c.contains.ensures ∙ c.if-contains.false))

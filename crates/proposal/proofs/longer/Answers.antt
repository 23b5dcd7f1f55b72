-- `proposal::longer` meets its contract: the test of the lengths is the definition's.
use mathlib.Core.Path.{sym}
use Rattle.proposal.proofs.ProposalLaws.{longer_first, longer_second}
use Rattle.proposal.proofs.longer.Goals as goal

pub returns-then-g-h : goal.returns-then-g-h
returns-then-g-h c = sym (longer_second _ _ c.if-g-h.true)

pub returns-else-g-h : goal.returns-else-g-h
returns-else-g-h c = sym (longer_first _ _ c.if-g-h.false)

-- `proposal::longest` meets its contract: the loop keeps the longest report of the sites looked at.
use Rattle.std.proofs.Common.{◌≡◌, ℕ, sym, ap, ap₂, ◌∙◌, arith, add-one}
use Rattle.proposal.specs.Proposal.{report, longer, longest_to}
use Rattle.proposal.proofs.ProposalLaws.{longest_zero, longest_suc}
use Rattle.proposal.proofs.longest.Goals as goal

pub loop-i-init : goal.loop-i-init
loop-i-init c = sym (longest_zero _)

pub loop-i-preserved : goal.loop-i-preserved
loop-i-preserved c =
    let turn = c.loop-i in
    let reports = report c.args.rows.words.now c.args.rows.counts.now c.args.reported in
    rw (add-one, longest_suc turn.i reports) (c.longer-best.ensures ∙ ap₂ longer turn.invariant c.report.ensures)

pub returns : goal.returns
returns c =
    let turn = c.loop-i in
    let end : turn.i ≡ c.args.n = omega arith in
    turn.invariant ∙ ap (λ (k : ℕ). longest_to k (report c.args.rows.words.now c.args.rows.counts.now c.args.reported)) end

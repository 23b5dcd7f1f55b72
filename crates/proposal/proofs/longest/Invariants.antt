-- `proposal::longest` meets its contract: the loop keeps the longest report of the sites looked at.
use Rattle.std.proofs.Common.{◌≡◌}
use Rattle.proposal.specs.Proposal.{report, longest_to}
use Rattle.proposal.proofs.longest.Given as goal

abbrev pub invariant-loop-i : goal.invariant-loop-i
invariant-loop-i l = l.best ≡ longest_to l.i (report l.rows.words.now l.rows.counts.now l.reported)

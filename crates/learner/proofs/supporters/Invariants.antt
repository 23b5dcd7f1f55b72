-- `learner::supporters` meets its contract: the loop keeps that the count is that of the sites looked at.
use Rattle.std.proofs.Common.{◌≡◌}
use Rattle.roster.specs.Sites.{count_to}
use Rattle.learner.specs.Code.Vote.{stands}
use Rattle.learner.proofs.supporters.Given as goal

abbrev pub invariant-loop-i : goal.invariant-loop-i
invariant-loop-i l = l.count ≡ count_to l.i (stands l.entries.words l.entries.counts l.site l.h)

-- `acceptor::verify::certify` meets its contract: the loop keeps that the mask is that of the sites looked at.
use Rattle.std.proofs.Common.{◌≡◌}
use Rattle.roster.specs.Sites.{mask_to}
use Rattle.acceptor.specs.Acceptor.{matches}
use Rattle.acceptor.proofs.verify.certify.Given as goal

abbrev pub invariant-loop-i : goal.invariant-loop-i
invariant-loop-i l = l.mask ≡ mask_to l.i (matches l.verified l.h)

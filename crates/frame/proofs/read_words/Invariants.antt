-- `frame::read_words` meets its contract: the loop keeps that the digits' test and the numbers go on from the command it is at.
use Prim.Native.Nat.{◌*◌}
use lib.ListN.{length}
use Rattle.frame.specs.Format.{commands}
use Rattle.frame.proofs.Runs.{Gathering}
use Rattle.frame.proofs.read_words.Given as goal

abbrev pub invariant-loop-k : goal.invariant-loop-k
invariant-loop-k l = Gathering (commands (length l.initial.words)) l.digits l.words (16 * l.k) l.k

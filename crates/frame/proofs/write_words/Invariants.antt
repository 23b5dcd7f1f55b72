-- `frame::write_words` meets its contract: the loop keeps that what is written, and then the digits of the commands from k on, are the goal.
use Prim.Native.Nat.{◌*◌}
use lib.ListN.{length}
use Rattle.frame.specs.Format.{commands}
use Rattle.frame.proofs.Runs.{Laying}
use Rattle.frame.proofs.write_words.Given as goal

abbrev pub invariant-loop-k : goal.invariant-loop-k
invariant-loop-k l = Laying (commands (length l.words)) l.words l.digits (16 * l.k) l.k

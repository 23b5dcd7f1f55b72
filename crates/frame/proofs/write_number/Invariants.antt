-- `frame::write_number` meets its contract: the loop keeps that the digits of what is left of the number, and then those written, are the goal.
use Rattle.frame.proofs.Turns.{Putting}
use Rattle.frame.specs.Hex.{digits_of}
use lib.ListN.{length}
use Rattle.frame.proofs.write_number.Given as goal

abbrev pub invariant-loop-k : goal.invariant-loop-k
invariant-loop-k l = Putting l.digits l.x l.k (length l.initial.digits) (digits_of l.width l.number)

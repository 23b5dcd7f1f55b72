-- `frame::number` meets its contract: the loop keeps that the digits' test and the number go on from the byte it is at.
use Rattle.frame.proofs.Turns.{Spelling}
use Rattle.frame.proofs.number.Given as goal

abbrev pub invariant-loop-i : goal.invariant-loop-i
invariant-loop-i l = Spelling l.digits l.width l.x l.i

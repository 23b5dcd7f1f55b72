-- `history::repeated_by_marks` meets its contract: the loop keeps that the part passed has no repeat and that the marks of its commands are set.
use Rattle.history.proofs.Marks.{Marking}
use Rattle.history.proofs.repeated_by_marks.Given as goal

abbrev pub invariant-loop-i : goal.invariant-loop-i
invariant-loop-i l = Marking l.h l.seen l.i

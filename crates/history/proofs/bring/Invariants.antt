-- `history::bring` meets its contract: the loop keeps that the first i commands of g stand in front, and that the test and the result go on from there.
use lib.ListN.{length}
use Rattle.history.specs.History.{extends}
use Rattle.history.specs.Front.{fronted}
use Rattle.history.proofs.Turns.{Bringing}
use Rattle.history.proofs.bring.Given as goal

abbrev pub invariant-loop-i : goal.invariant-loop-i
invariant-loop-i l = Bringing l.work l.g l.i (length l.initial.work) (extends l.initial.work l.g) (fronted l.initial.work l.g)

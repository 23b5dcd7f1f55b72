-- `history::put_in_order` meets its contract: the loop keeps that inserting the commands from i on behind the first i, which are in order, gives the canonical order.
use lib.ListN.{length}
use Rattle.history.specs.History.{canonical}
use Rattle.history.proofs.Turns.{Arranging}
use Rattle.history.proofs.put_in_order.Given as goal

abbrev pub invariant-loop-i : goal.invariant-loop-i
invariant-loop-i l = Arranging l.h l.i l.largest (length l.initial.h) (canonical l.initial.h)

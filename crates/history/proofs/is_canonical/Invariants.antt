-- `history::is_canonical` meets its contract: the loop keeps that the test by places from the start is the test from here on, with no command so far above the largest.
use mathlib.Core.Path.{◌≡◌}
use lib.ListN.{take, drop}
use Rattle.history.specs.History.{is_canonical}
use Rattle.history.specs.Code.Insertion.{stays, Bounded}
use Rattle.history.proofs.is_canonical.Given as goal

abbrev pub invariant-loop-i : goal.invariant-loop-i
invariant-loop-i l = (stays (take l.i l.h) (drop l.i l.h) ≡ is_canonical l.h) × Bounded l.largest (take l.i l.h)

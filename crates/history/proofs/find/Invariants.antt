-- `history::find` meets its contract: the loop keeps that the place in the whole slice is i more than the place in what is left of it.
use Prim.Native.Nat.{◌+◌}
use mathlib.Core.Path.{◌≡◌}
use lib.ListN.{drop}
use Rattle.history.specs.Front.{off_at}
use Rattle.history.proofs.find.Given as goal

abbrev pub invariant-loop-i : goal.invariant-loop-i
invariant-loop-i l = l.i + off_at l.c (drop l.i l.h) ≡ off_at l.c l.h

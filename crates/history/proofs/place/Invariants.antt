-- `history::place` meets its contract: the loop keeps that the walk from position n with place n is the walk from k with the place found so far.
use Prim.Native.Nat.{◌≤◌}
use mathlib.Core.Path.{◌≡◌}
use Rattle.history.specs.Code.Insertion.{walk}
use Rattle.history.proofs.place.Given as goal

abbrev pub invariant-loop-k : goal.invariant-loop-k
invariant-loop-k l = (l.at ≤ l.n) × (walk l.c l.h l.k l.at ≡ walk l.c l.h l.n l.n)

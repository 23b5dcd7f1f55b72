-- `merge::holds` meets its contract: the loop keeps that the answer for the whole slice is the answer for what is left of it.
use mathlib.Core.Path.{◌≡◌}
use lib.ListN.{drop}
use Rattle.merge.specs.Appending.{holds}
use Rattle.merge.proofs.holds.Given as goal

abbrev pub invariant-loop-d : goal.invariant-loop-d
invariant-loop-d l = holds (drop l.d-index l.g) l.c ≡ holds l.g l.c

-- `history::present` meets its contract: the loop keeps that the answer for the whole slice is the answer for what is left of it.
use mathlib.Core.Path.{◌≡◌}
use lib.ListN.{drop}
use Rattle.history.specs.History.{present}
use Rattle.history.proofs.present.Given as goal

abbrev pub invariant-loop-d : goal.invariant-loop-d
invariant-loop-d l = present l.c (drop l.d-index l.h) ≡ present l.c l.h

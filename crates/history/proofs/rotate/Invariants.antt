-- `history::rotate` meets its contract: the loop keeps that the first elements, and then the carried one with the rest shifted behind it, are the rotated slice.
use Rattle.std.specs.Prelude.{◌≡◌, ◌++◌, take, drop}
use Rattle.history.specs.Front.{rotated, shifted}
use Rattle.history.proofs.rotate.Given as goal

abbrev pub invariant-loop-d : goal.invariant-loop-d
invariant-loop-d l = take l.d-index l.s ++ shifted l.carry (drop l.d-index l.s) ≡ rotated l.initial.s

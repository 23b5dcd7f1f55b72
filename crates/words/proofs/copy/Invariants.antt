-- `words::copy` meets its contract: the loop keeps that the first i words are those of src.
use Rattle.std.specs.Prelude.{◌≡◌, take}
use Rattle.words.proofs.copy.Given as goal

abbrev pub invariant-loop-i : goal.invariant-loop-i
invariant-loop-i l = take l.i l.dst ≡ take l.i l.src

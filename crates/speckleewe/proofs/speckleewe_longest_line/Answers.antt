-- `speckleewe::speckleewe_longest_line` meets its contract: the constant is the length of a line with 64 commands.
use mathlib.Core.Path.{refl}
use Rattle.frame.specs.Hex.{total}
use Rattle.speckleewe.proofs.speckleewe_longest_line.Goals as goal

pub returns : goal.returns
unfolding total
returns c = refl

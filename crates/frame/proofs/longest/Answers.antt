-- `frame::longest` meets its contract: the layout's longest line is computed, and is the constant.
use mathlib.Core.Path.{refl}
use Rattle.frame.specs.Hex.{total}
use Rattle.frame.proofs.longest.Goals as goal

pub returns : goal.returns
unfolding total
returns c = refl

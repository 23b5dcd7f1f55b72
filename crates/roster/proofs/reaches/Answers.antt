-- `roster::reaches` meets its contract: the code's test is the definition's.
use mathlib.Core.Path.{refl}
use Rattle.roster.specs.Mask.{reaches}
use Rattle.roster.proofs.reaches.Goals as goal

pub returns : goal.returns
unfolding reaches
returns c = refl

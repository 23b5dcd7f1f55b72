-- `roster::Roster::valid` meets its contract: its tests are the definition's, and `3 * f + 1` fits.
use mathlib.Core.Path.{refl}
use Rattle.roster.specs.Roster.{valid_roster}
use Rattle.roster.proofs.Roster.valid.Goals as goal

pub returns : goal.returns
unfolding valid_roster
returns c = refl

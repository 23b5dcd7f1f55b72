-- `roster::Roster::weak_certificate` meets its contract: a byte and 1 fit 32 bits.
use mathlib.Core.Path.{refl}
use Rattle.roster.specs.Roster.{weak_certificate}
use Rattle.roster.proofs.Roster.weak_certificate.Goals as goal

pub returns : goal.returns
unfolding weak_certificate
returns c = refl

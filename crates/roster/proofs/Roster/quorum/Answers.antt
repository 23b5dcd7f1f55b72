-- `roster::Roster::quorum` meets its contract: where `f` is above `n` the natural difference is 0.
use native.Mathlib.Omega.{arith}
use Rattle.roster.specs.Roster.{quorum}
use Rattle.roster.proofs.Roster.quorum.Goals as goal

pub returns-then-f-n : goal.returns-then-f-n
unfolding quorum
returns-then-f-n c = omega arith

pub returns-else-f-n : goal.returns-else-f-n
unfolding quorum
returns-else-f-n c = omega arith

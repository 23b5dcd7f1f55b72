-- `roster::unproven` meets its contract: it asks for a bit beyond the sites, and for the ones.
use Rattle.roster.specs.Mask.{unproven}
use Rattle.roster.proofs.unproven.Goals as goal

pub returns : goal.returns
unfolding unproven
returns c = cc

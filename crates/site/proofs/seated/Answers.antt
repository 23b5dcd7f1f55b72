-- `site::seated` meets its contract: it is the test that the definition names.
use Rattle.frame.specs.Hex.{total}
use Rattle.site.specs.Site.{seated}
use Rattle.site.proofs.seated.Goals as goal

pub returns : goal.returns
unfolding seated total
returns c = rw c.valid.ensures

-- `site::ViewRecord::is_valid` meets its contract: it asks both masks.
use Rattle.site.specs.Site.{valid_record}
use Rattle.site.proofs.ViewRecord.is_valid.Goals as goal

pub returns : goal.returns
unfolding valid_record
returns c = rw (c.beyond.ensures, c.beyond-2.ensures)

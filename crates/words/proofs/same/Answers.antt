-- `words::same` meets its contract: the slices are compared word by word, as the lists are in the definition.
use Rattle.std.proofs.Common.{sym, ◌∙◌}
use Rattle.words.proofs.Scans.{equal_pointwise}
use Rattle.words.proofs.same.Goals as goal

pub returns : goal.returns
returns c = c.eq.ensures ∙ sym (equal_pointwise c.args.g.now c.args.h.now)

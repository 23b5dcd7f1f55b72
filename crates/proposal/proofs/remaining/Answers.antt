-- `proposal::remaining` meets its contract: `keep` writes the first 32 of the commands that remain, and those are what is stored.
use mathlib.Core.Path.{sym, ap, ◌∙◌}
use lib.Seq.{length-take-le}
use Rattle.history.specs.Words.{stored}
use Rattle.history.specs.WordsLaws.{stored_first}
use Rattle.proposal.proofs.remaining.Goals as goal

pub slice_bounds-of-end : goal.slice_bounds-of-end
slice_bounds-of-end c = sym (length-take-le _ _ c.keep-n.ensures.0)

pub returns : goal.returns
returns c = c.of.ensures ∙ ap stored c.keep-n.ensures.1 ∙ stored_first _

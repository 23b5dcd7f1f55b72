-- `history::mark` meets its contract: it is the definition, on numbers that are far from the largest.
use mathlib.Core.Path.{sym}
use Rattle.history.proofs.mark.Goals as goal

pub returns : goal.returns
returns c = rw (sym c.serial.ensures, sym c.proposer.ensures)

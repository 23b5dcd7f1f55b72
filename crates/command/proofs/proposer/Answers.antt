-- `command::proposer` meets its contract: it is the word, of which a byte fits.
use native.Mathlib.Omega.{arith}
use Rattle.command.specs.Command.{field, proposer}
use Rattle.command.proofs.proposer.Goals as goal

pub overflow_cast-result : goal.overflow_cast-result
unfolding proposer field
overflow_cast-result c = omega (arith, c.proposer_word.ensures)

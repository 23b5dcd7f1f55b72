-- `command::serial` meets its contract: it is the word, of which a remainder by 65536 fits.
use native.Mathlib.Omega.{arith}
use Rattle.command.specs.Command.{field, serial}
use Rattle.command.proofs.serial.Goals as goal

pub overflow_cast-result : goal.overflow_cast-result
unfolding serial field
overflow_cast-result c = omega (arith, c.serial_word.ensures)

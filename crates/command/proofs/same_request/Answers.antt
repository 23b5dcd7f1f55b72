-- `command::same_request` meets its contract: the tests of proposer and serial are the definition's.
use mathlib.Core.Path.{sym}
use Rattle.command.specs.Command.{same_request}
use Rattle.command.proofs.same_request.Goals as goal

pub returns : goal.returns
unfolding same_request
returns c = rw (sym c.proposer_word.ensures, sym c.proposer_word-2.ensures, sym c.serial_word.ensures, sym c.serial_word-2.ensures)

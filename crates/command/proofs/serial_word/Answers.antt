-- `command::serial_word` meets its contract: the shift by 32 and the remainder by 65536 are the definition's division and remainder.
use borrow.Author.Rules.{rules}
use Rattle.command.specs.Command.{field, serial}
use Rattle.command.proofs.serial_word.Goals as goal

pub returns : goal.returns
unfolding serial field
returns c = search rules

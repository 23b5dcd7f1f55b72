-- `command::slot` meets its contract: the shift by 16 and the remainder by 65536 are the definition's division and remainder.
use borrow.Author.Rules.{rules}
use Rattle.command.specs.Command.{field, slot}
use Rattle.command.proofs.slot.Goals as goal

pub returns : goal.returns
unfolding slot field
returns c = search rules

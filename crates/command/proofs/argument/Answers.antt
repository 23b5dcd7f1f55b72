-- `command::argument` meets its contract: the remainder by 65536 is the definition's, which divides by 1 first.
use borrow.Author.Rules.{rules}
use Rattle.command.specs.Command.{field, argument}
use Rattle.command.proofs.argument.Goals as goal

pub returns : goal.returns
unfolding argument field
returns c = search rules

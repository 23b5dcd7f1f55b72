-- `command::kind` meets its contract: the shift by 48 and the remainder by 256 are the definition's division and remainder.
use borrow.Author.Rules.{rules}
use Rattle.command.specs.Command.{field, kind}
use Rattle.command.proofs.kind.Goals as goal

pub returns : goal.returns
unfolding kind field
returns c = search rules

-- `command::proposer_word` meets its contract: the shift by 56 leaves the highest byte.
use borrow.Author.Rules.{rules}
use Rattle.command.specs.Command.{field, proposer}
use Rattle.command.proofs.proposer_word.Goals as goal

pub returns : goal.returns
unfolding proposer field
returns c = search rules

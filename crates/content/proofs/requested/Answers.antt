-- `content::requested` meets its contract: COMMAND is given first, and then what HISTORY answers.
use Rattle.command.specs.Command.{wrong}
use Rattle.refusal.specs.Rules.{judged}
use Rattle.content.proofs.requested.Goals as goal

pub returns-then-wrong : goal.returns-then-wrong
unfolding judged wrong
returns-then-wrong c = rw (← c.all_valid.ensures, ← c.all_by.ensures, c.if-wrong.true)

pub returns : goal.returns
unfolding judged wrong
returns c = rw (← c.all_valid.ensures, ← c.all_by.ensures, c.if-wrong.false) (cc)

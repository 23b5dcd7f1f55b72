-- `content::reported` meets its contract: COMMAND of both histories is given first, and then what HISTORY answers of both.
use Rattle.command.specs.Command.{wrong}
use Rattle.refusal.specs.Rules.{judged}
use Rattle.content.proofs.reported.Goals as goal

pub returns-then-wrong : goal.returns-then-wrong
unfolding judged wrong
returns-then-wrong c = rw (← c.all_valid.ensures, ← c.all_valid-2.ensures, c.if-wrong.true)

pub returns : goal.returns
unfolding judged wrong
returns c = rw (← c.all_valid.ensures, ← c.all_valid-2.ensures, c.if-wrong.false) (cc)

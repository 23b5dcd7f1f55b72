-- `content::appendable` meets its contract: it asks the tests of REUSED, NOTHING and FULL in their order.
use Rattle.refusal.specs.Rules.{judged}
use Rattle.content.proofs.appendable.Goals as goal

pub returns-then-reused : goal.returns-then-reused
unfolding judged
returns-then-reused c = rw (← c.reuses-reused.ensures, c.if-reused.true)

pub returns-then-nothing : goal.returns-then-nothing
unfolding judged
returns-then-nothing c = rw (← c.reuses-reused.ensures, c.if-reused.false, ← c.nothing_new-nothing.ensures, c.if-nothing.true)

pub returns : goal.returns
unfolding judged
returns c = rw (← c.reuses-reused.ensures, c.if-reused.false, ← c.nothing_new-nothing.ensures, c.if-nothing.false, ← c.overflows-full.ensures) c.given.ensures

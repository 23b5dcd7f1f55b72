-- `learner::merge_claims` meets its contract: h is the one claim if there are enough supporters, else there is none.
use Rattle.std.proofs.lemmas.Bool.{le-leb, lt-leb}
use Rattle.learner.specs.Learner.{merging, further}
use Rattle.learner.proofs.merge_claims.Goals as goal

pub returns-then-quorum-k : goal.returns-then-quorum-k
unfolding merging further
returns-then-quorum-k c = rw (← c.quorum.ensures, le-leb _ _ c.if-quorum-k.true, ← c.commands.ensures) c.merge.ensures

pub returns : goal.returns
unfolding merging further
returns c = rw (← c.quorum.ensures, lt-leb _ _ c.if-quorum-k.false)

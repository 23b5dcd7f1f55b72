-- `learner::State::fresh` meets its contract: an empty table, and the empty history by value.
use Rattle.learner.proofs.State.fresh.Goals as goal

pub returns : goal.returns
returns c = let empty-call = c.empty in
    λ i. record { entries = empty-call.ensures i; learned = c.of.ensures i }

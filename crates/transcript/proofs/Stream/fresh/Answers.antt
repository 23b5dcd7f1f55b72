-- `transcript::Stream::fresh` meets its contract: its state is a fresh learner's.
use mathlib.Core.Path.{ap}
use mathlib.Core.Bool.{false}
use Rattle.learner.specs.declared.State.{State}
use Rattle.transcript.specs.declared.Stream.{Stream}
use Rattle.transcript.proofs.Stream.fresh.Goals as goal

with_state : State → Stream
with_state s = record { roster = record { n = 0; f = 0 }; state = s; started = false; len = 0 }

pub returns : goal.returns
unfolding with_state
returns c = ap with_state c.fresh.ensures

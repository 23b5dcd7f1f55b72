-- What the functions of the crate cite that no public contract reaches: what a frame of a kind does, and what a call leaves.
use Rattle.std.specs.Prelude.{◌≡◌, List, ℕ, Result}
use Rattle.roster.specs.declared.Roster.{Roster}
use Rattle.refusal.specs.declared.Refusal.{Refusal}
use Rattle.refusal.specs.Rules.{judged}
use Rattle.frame.specs.declared.Frame.{Frame}
use Rattle.site.specs.Reply as reply
use Rattle.site.specs.Reply.{Reply, refuse, buffer}
use Rattle.leader.specs.declared.State.{State}
use Rattle.leader.specs.Leader.{Kind, frame_rules, accepted, outcome}

-- what a frame of this kind does that FORM lets pass: it is checked, and then taken
abbrev pub taken_as : Kind → Roster → ℕ → State → Frame → Reply State
taken_as kind r own s m = judged (refuse s) (accepted kind r own s m) (frame_rules kind r own s m)

-- a call with `out` lent to it does this: it answers a length or a refusal, and leaves this state and this buffer
abbrev pub Done : Reply State → List ℕ → Result ℕ Refusal → State → List ℕ → Type 0
Done o out answered left written = (reply.outcome answered left ≡ outcome o out) × (written ≡ buffer o.sending out)

-- and one that sends nothing does it with any buffer, which stays
abbrev pub Silently : Reply State → Result ℕ Refusal → State → Type 0
Silently o answered left = (out : List ℕ) → Done o out answered left out

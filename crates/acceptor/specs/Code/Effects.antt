-- What the checks let pass, and that an effect is done.
use Rattle.std.specs.Prelude.{◌≡◌, false, List, ℕ, ◌≤◌, length}
use Rattle.words.specs.Sizes.{capacity}
use Rattle.roster.specs.declared.Roster.{Roster}
use Rattle.merge.specs.Merge.{appended}
use Rattle.content.specs.Content.{contradicts}
use Rattle.frame.specs.declared.Frame.{Frame}
use Rattle.site.specs.Reply.{Reply, Outcome, buffer}
use Rattle.acceptor.specs.declared.State.{State}
use Rattle.acceptor.specs.Acceptor.{PROPOSE, VERIFY, kind_of, carried, held_of, proven_of, entry_of, outcome}

-- what the checks let pass: at most 16 sites, at most 32 commands in each history, and that a PROPOSE leaves, and no VERIFY that contradicts its
-- sender's entry
pub record Performable (r : Roster) (s : State) (m : Frame) : Type 0 where
  pub few_sites : r.n ≤ 16
  pub held_short : length (held_of s) ≤ capacity
  pub proven_short : length (proven_of s) ≤ capacity
  pub short : m.n ≤ capacity
  pub fits : kind_of m.kind ≡ PROPOSE → length (appended (held_of s) (carried m)) ≤ capacity
  pub agrees : kind_of m.kind ≡ VERIFY → contradicts (entry_of s m) (carried m) ≡ false

-- a call with `out` lent to it does this: it ends with that outcome, and `left` is the buffer that it leaves
abbrev pub Done : Reply State → List ℕ → Outcome State → List ℕ → Type 0
Done o out ended left = (ended ≡ outcome o out) × (left ≡ buffer o.sending out)

-- What the laws in proofs/RunLaws.antt speak of.
use Rattle.std.specs.Prelude.{◌≡◌, true, List, ℕ, ◌≤◌, length}
use Rattle.history.specs.History.{Extends, is_canonical}
use Rattle.history.specs.Words.{limit, commands}
use Rattle.table.specs.Table.{row_of}
use Rattle.learner.specs.declared.State.{State}

-- what is learned and each entry only grow by extension; what is learned stays canonical and at most 32
pub record Kept (before after : State) : Type 0 where
  pub learned_grows : Extends (commands after.learned) (commands before.learned)
  pub entries_grow : (i : ℕ) → Extends (row_of after.entries i) (row_of before.entries i)
  pub canonical : is_canonical (commands after.learned) ≡ true
  pub short : length (commands after.learned) ≤ limit

-- site i's entry extends h
abbrev pub Entered : State → List ℕ → ℕ → Type 0
Entered s h i = Extends (row_of s.entries i) h

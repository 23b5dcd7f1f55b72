-- What the laws in proofs/VoteLaws.antt speak of.
use Rattle.std.specs.Prelude.{◌≡◌, false, List, ℕ, ◌≤◌, leb}
use Rattle.roster.specs.declared.Roster.{Roster}
use Rattle.roster.specs.Roster.{quorum}
use Rattle.roster.specs.Sites.{count_to}
use Rattle.command.specs.Command.{wrong}
use Rattle.history.specs.History.{Compatible, Least, improper, extends}
use Rattle.history.specs.Words.{commands}
use Rattle.table.specs.declared.Table.{Table}
use Rattle.table.specs.Table.{row_of}
use Rattle.learner.specs.declared.State.{State}
use Rattle.learner.specs.Learner.{form, vote, arrived, with_vote, step}

-- a vote that passes the checks before those of the merge, as far as they matter here
pub record Heard (r : Roster) (line : List ℕ) : Type 0 where
  pub framed : form line ≡ false
  pub from_site : leb r.n (vote line).sender ≡ false
  pub right : wrong (arrived (vote line)) ≡ false
  pub proper : improper (arrived (vote line)) ≡ false

-- entry i with site's vote for h: what it was, or h if the vote is its own
pub data Entry (t : Table) (site : ℕ) (h : List ℕ) (i : ℕ) : Type 0 where
  kept : row_of (with_vote t site h) i ≡ row_of t i → Entry t site h i
  entered : site ≡ i → row_of (with_vote t site h) i ≡ h → Entry t site h i

-- the entries that a line's vote makes of a state's
abbrev pub with_line : State → List ℕ → Table
with_line s line = with_vote s.entries (vote line).sender (arrived (vote line))

-- N-f entries of a table extend h
abbrev pub Backing : Roster → Table → List ℕ → Type 0
Backing r t h = quorum r ≤ count_to r.n (λ i. extends (row_of t i) h)

-- after an accepted vote: what was learned before, or the least history that extends it and the arrived one, which N-f entries extend
pub data Learns (r : Roster) (s : State) (line : List ℕ) : Type 0 where
  as_before : (step r s line).state.learned ≡ s.learned → Learns r s line
  merges : Backing r (with_line s line) (arrived (vote line)) → Least (commands s.learned) (arrived (vote line)) (commands (step r s line).state.learned)
      → Learns r s line

-- N-f entries extend the arrived history, and no common extension of it and what is learned exists
pub record Splits (r : Roster) (s : State) (line : List ℕ) : Type 0 where
  pub heard : Heard r line
  pub backing : Backing r (with_line s line) (arrived (vote line))
  pub apart : Compatible (commands s.learned) (arrived (vote line)) → ⊥

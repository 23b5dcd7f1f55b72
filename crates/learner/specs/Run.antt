-- A learner's run over a list of lines.
use Rattle.std.specs.Prelude.{◌≡◌, List, [], ◌∷◌, ℕ}
use Rattle.roster.specs.declared.Roster.{Roster}
use Rattle.learner.specs.declared.State.{State}
use Rattle.learner.specs.declared.Outcome.{Outcome}
use Rattle.refusal.specs.Refusal.{Accepted}
use Rattle.learner.specs.Learner.{step, vote, arrived}

-- the state after some lines: each step gets the state that the last one left
unfoldable pub run : Roster → State → List (List ℕ) → State
run r s [] = s
run r s (line ∷ lines) = run r (step r s line).state lines

-- the outcomes of the steps, in the order of the lines
unfoldable pub outcomes : Roster → State → List (List ℕ) → List Outcome
outcomes r s [] = []
outcomes r s (line ∷ lines) = step r s line ∷ outcomes r (step r s line).state lines

-- among the lines of a run from s, site i has an accepted vote that carries h
pub data Voted (r : Roster) (i : ℕ) (h : List ℕ) : State → List (List ℕ) → Type 0 where
  now : {s : State} {line : List ℕ} {lines : List (List ℕ)} → (step r s line).answer ≡ Accepted → (vote line).sender ≡ i → arrived (vote line) ≡ h
      → Voted r i h s (line ∷ lines)
  later : {s : State} {line : List ℕ} {lines : List (List ℕ)} → Voted r i h (step r s line).state lines → Voted r i h s (line ∷ lines)

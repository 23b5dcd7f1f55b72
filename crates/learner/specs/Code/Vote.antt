-- How the code takes a vote: the checks up to the merge, and then the merge with the effect. The supporters are counted among the entries as they
-- were, the sender being one of them.
use Rattle.std.specs.Prelude.{◌≡◌, Bool, false, not, ◌||◌, List, ◌∷◌, ℕ, ◌≤◌, ◌<◌, eqb, length}
use Rattle.roster.specs.declared.Roster.{Roster}
use Rattle.history.specs.History.{extends}
use Rattle.history.specs.Words.{limit}
use Rattle.table.specs.Table.{sites, row, row_of}
use Rattle.merge.specs.declared.Unmerged.{Unmerged}
use Rattle.merge.specs.declared.Unmerged.TheVariants as Unmerged
use Rattle.refusal.specs.declared.Refusal.{Refusal}
use Rattle.refusal.specs.declared.Refusal.TheVariants.{Config, Form, Split, Full}
use Rattle.refusal.specs.Rules.{Rule, ◌gives◌, judged}
use Rattle.frame.specs.Format.{Reading}
use Rattle.content.specs.Content.{contradicts}
use Rattle.learner.specs.declared.State.{State}
use Rattle.learner.specs.declared.Outcome.{Outcome}
use Rattle.learner.specs.Learner.{config, arrived, with_vote, merge_of, accepted, refuse, vote_rules, merge_rules}

-- the checks of a line of which this was read, up to those of the merge
abbrev pub checks : Roster → State → Reading → List Rule
checks r s m =
    config r s gives Config ∷ not m.found gives Form ∷ vote_rules r (row_of s.entries m.frame.sender) m.frame (arrived m.frame)

-- what is known of a vote that passes them
pub record Passed (words counts : List ℕ) (site : ℕ) (h : List ℕ) : Type 0 where
  pub inside : site < sites
  pub short : length h ≤ limit
  pub agrees : contradicts (row words counts site) h ≡ false

-- what it gives: the checks of the merge, and the effect
abbrev pub concluded : Roster → State → ℕ → List ℕ → Outcome
concluded r s site h = judged (refuse s) (accepted r s site h) (merge_rules (merge_of r (with_vote s.entries site h) s h))

-- the refusal of a vote whose claim has no merge
abbrev pub refusal_of : Unmerged → Refusal
refusal_of Unmerged.Split = Split
refusal_of Unmerged.Full = Full

-- whether site i stands behind h once `site` has voted for it
abbrev pub stands : List ℕ → List ℕ → ℕ → List ℕ → ℕ → Bool
stands words counts site h i = eqb i site || extends (row words counts i) h

-- "Checks run in this order; the first that applies is given."
use Rattle.std.specs.Prelude.{Bool, cond, List, [], ◌∷◌}
use Rattle.refusal.specs.declared.Refusal.{Refusal}
use Rattle.refusal.specs.Refusal.{Answer}
use Rattle.refusal.specs.Refusal.{Accepted, Refused}

infix 68 ◌gives◌
-- a rule: the refusal is given where the test holds
pub data Rule : Type 0 where
  ◌gives◌ : Bool → Refusal → Rule

-- what the first rule whose test holds refuses with, or else the accepted outcome
unfoldable pub judged : {A : Type 0} → (Refusal → A) → A → List Rule → A
judged refuse accepted [] = accepted
judged refuse accepted (test gives r ∷ rules) = cond test (refuse r) (judged refuse accepted rules)

-- what rules answer
abbrev pub answer : List Rule → Answer
answer rules = judged Refused Accepted rules

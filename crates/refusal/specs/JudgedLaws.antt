-- A judgement is either refused by some rule, or accepted with every test false.
use Rattle.std.specs.Prelude.{◌≡◌, refl, ◌↔◌, Bool, true, false, cond, eqb, List, [], ◌∷◌}
use Rattle.std.proofs.Common.{◌∙◌}
use Rattle.refusal.specs.Refusal.{number}
use Rattle.refusal.specs.declared.Refusal.{Refusal}
use Rattle.refusal.specs.Rules.{Rule, ◌gives◌, judged}
use Rattle.refusal.specs.RulesLaws.{judged_none, judged_first, judged_next}

-- no rule's test holds
pub data NoneHolds : List Rule → Type 0 where
  passed : NoneHolds []
  pass : {test : Bool} {r : Refusal} {rules : List Rule} → test ≡ false → NoneHolds rules → NoneHolds (test gives r ∷ rules)

-- the first rule whose test holds gives r
pub data GivenFirst (r : Refusal) : List Rule → Type 0 where
  at_once : {test : Bool} {rules : List Rule} → test ≡ true → GivenFirst r (test gives r ∷ rules)
  behind : {test : Bool} {q : Refusal} {rules : List Rule} → test ≡ false → GivenFirst r rules → GivenFirst r (test gives q ∷ rules)

-- "the first that applies is given": the refusal of a rule that holds, behind rules that don't; or accepted, where none holds
pub data Judgement {A : Type 0} (refuse : Refusal → A) (accepted : A) (rules : List Rule) : Type 0 where
  refused : (r : Refusal) → GivenFirst r rules → judged refuse accepted rules ≡ refuse r → Judgement refuse accepted rules
  accepts : NoneHolds rules → judged refuse accepted rules ≡ accepted → Judgement refuse accepted rules

pub judgement : {A : Type 0} (refuse : Refusal → A) (accepted : A) (rules : List Rule) → Judgement refuse accepted rules
judgement refuse accepted [] = accepts passed (judged_none refuse accepted)
judgement {A} refuse accepted (test gives r ∷ rules) = go test refl (judgement refuse accepted rules)
  where
    later : test ≡ false → Judgement refuse accepted rules → Judgement refuse accepted (test gives r ∷ rules)
    later e (refused q g f) = refused q (behind e g) (judged_next refuse accepted test r rules e ∙ f)
    later e (accepts n f) = accepts (pass e n) (judged_next refuse accepted test r rules e ∙ f)

    go : (b : Bool) → test ≡ b → Judgement refuse accepted rules → Judgement refuse accepted (test gives r ∷ rules)
    go true e j = refused r (at_once e) (judged_first refuse accepted test r rules e)
    go false e j = later e j

-- ---- by name

-- the test of a refusal in a list of rules: that of its first rule, and false where it has none
unfoldable pub test_of : Refusal → List Rule → Bool
test_of e [] = false
test_of e (test gives r ∷ rules) = cond (eqb (number e) (number r)) test (test_of e rules)

-- "needs P, else" e: by these rules e's test is false exactly where P holds
abbrev pub Needs : Refusal → Type 0 → List Rule → Type 0
Needs e P rules = (test_of e rules ≡ false) ↔ P

-- where no rule holds, the test of each refusal is false
pub no_test : {rules : List Rule} → NoneHolds rules → (e : Refusal) → test_of e rules ≡ false
unfolding test_of
no_test passed e = refl
no_test (pass {test} {r} {rules} f n) e = go (eqb (number e) (number r)) (no_test n e)
  where
    go : (b : Bool) → test_of e rules ≡ false → cond b test (test_of e rules) ≡ false
    go true g = f
    go false g = g

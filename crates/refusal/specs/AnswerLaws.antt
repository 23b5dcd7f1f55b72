-- Laws of answers: what `given` makes of a rule and of the answer of those after it; rules in tiers, of which the first that refuses answers; and what
-- an answer says of the judgement by the same rules.
use Rattle.std.specs.Prelude.{◌≡◌, refl, Bool, true, false, cond, List, [], ◌∷◌, ◌++◌, ℕ, Result, Err}
use Rattle.std.specs.Result.{IsErrAnd}
use Rattle.std.proofs.lemmas.Result.{err_from_is_err_and}
use Rattle.std.proofs.Common.{sym, ap, ◌∙◌, true≢false, arith}
use Rattle.refusal.specs.declared.Refusal.{Refusal}
use Rattle.refusal.specs.Refusal.{Answer}
use Rattle.refusal.specs.Refusal.{Accepted, Refused}
use Rattle.refusal.specs.Refusal.{is_refused}
use Rattle.refusal.specs.Rules.{Rule, ◌gives◌, judged, answer}
use Rattle.refusal.specs.JudgedLaws.{NoneHolds, passed, pass}

pub accepted_not_refused : {e : Refusal} → ◌≡◌ {A = Answer} Accepted (Refused e) → ⊥
accepted_not_refused x = let z : ◌≡◌ {A = ℕ} 0 1 = cc in omega arith

pub refused_same : {d e : Refusal} → ◌≡◌ {A = Answer} (Refused d) (Refused e) → d ≡ e
refused_same x = cc

-- what the exit of a `?` returns: the refusal that the call gave
pub passed_on : {T : Type 0} {e : Refusal} (r : Result T Refusal) → IsErrAnd r (λ y. y ≡ e) → r ≡ Err e
passed_on r h = let p = err_from_is_err_and r h in p.1 ∙ ap Err p.2

-- ---- the answer of rules, rule by rule

pub no_rule : Accepted ≡ answer []
unfolding judged
no_rule = refl

-- one rule more: x is what `given` makes of its test and of the answer y of the rules after it
pub rule : (e : Refusal) (rules : List Rule) {x y : Answer} {t test : Bool} → x ≡ cond t (Refused e) y → t ≡ test → y ≡ answer rules
    → x ≡ answer (test gives e ∷ rules)
unfolding judged
rule e rules p q f = p ∙ rw (q, f)

-- the first rule's test holds: its refusal is the answer
pub at_once : (e : Refusal) (rules : List Rule) {test : Bool} → test ≡ true → Refused e ≡ answer (test gives e ∷ rules)
unfolding judged
at_once e rules f = rw f

-- it does not: the rules after it answer
pub later : (e : Refusal) (rules : List Rule) {x : Answer} {test : Bool} → test ≡ false → x ≡ answer rules → x ≡ answer (test gives e ∷ rules)
unfolding judged
later e rules f g = rw f g

-- ---- and in parts: x is the answer of the first rules, a, and t tells whether it refuses

-- a refusal by them is the answer
answer_stops : (a b : List Rule) (x : Answer) → x ≡ answer a → is_refused x ≡ true → x ≡ answer (a ++ b)
unfolding judged
answer_stops [] b x e f = absurd (true≢false (sym f ∙ ap is_refused e))
answer_stops (true gives r ∷ a) b x e f = e
answer_stops (false gives r ∷ a) b x e f = answer_stops a b x e f

pub stops : (a b : List Rule) {x : Answer} {t : Bool} → x ≡ answer a → t ≡ is_refused x → t ≡ true → x ≡ answer (a ++ b)
stops a b {x} e f g = answer_stops a b x e (sym f ∙ g)

-- else the rules after them answer
answer_goes_on : (a b : List Rule) (x y : Answer) → x ≡ answer a → is_refused x ≡ false → y ≡ answer b → y ≡ answer (a ++ b)
unfolding judged
answer_goes_on [] b x y e f g = g
answer_goes_on (true gives r ∷ a) b x y e f g = absurd (true≢false (sym (ap is_refused e) ∙ f))
answer_goes_on (false gives r ∷ a) b x y e f g = answer_goes_on a b x y e f g

pub goes_on : (a b : List Rule) {x y : Answer} {t : Bool} → x ≡ answer a → t ≡ is_refused x → t ≡ false → y ≡ answer b → y ≡ answer (a ++ b)
goes_on a b {x} {y} e f g h = answer_goes_on a b x y e (sym f ∙ g) h

-- ---- what a judgement gives, by the answer x of its rules

pub judged_refused : {A : Type 0} (refuse : Refusal → A) (accepted : A) (rules : List Rule) (x : Answer) → x ≡ answer rules → is_refused x ≡ true
    → (P : Answer → A → Type 0) → ((e : Refusal) → P (Refused e) (refuse e)) → P x (judged refuse accepted rules)
unfolding judged
judged_refused refuse accepted [] x e f P p = absurd (true≢false (sym f ∙ ap is_refused e))
judged_refused refuse accepted (true gives r ∷ rules) x e f P p = rw e (p r)
judged_refused refuse accepted (false gives r ∷ rules) x e f P p = judged_refused refuse accepted rules x e f P p

pub judged_accepted : {A : Type 0} (refuse : Refusal → A) (accepted : A) (rules : List Rule) (x : Answer) → x ≡ answer rules → is_refused x ≡ false
    → judged refuse accepted rules ≡ accepted
unfolding judged
judged_accepted refuse accepted [] x e f = refl
judged_accepted refuse accepted (true gives r ∷ rules) x e f = absurd (true≢false (sym (ap is_refused e) ∙ f))
judged_accepted refuse accepted (false gives r ∷ rules) x e f = judged_accepted refuse accepted rules x e f

-- where the answer is one refusal, it is what refuses; and where it is that of an accepted frame, the accepted outcome is given
pub judged_by_refused : {A : Type 0} (refuse : Refusal → A) (accepted : A) (rules : List Rule) {e : Refusal} → Refused e ≡ answer rules
    → judged refuse accepted rules ≡ refuse e
judged_by_refused refuse accepted rules {e} f =
    judged_refused refuse accepted rules (Refused e) f refl (λ x o. x ≡ Refused e → o ≡ refuse e) (λ d h. ap refuse (refused_same h)) refl

pub judged_by_accepted : {A : Type 0} (refuse : Refusal → A) (accepted : A) (rules : List Rule) → Accepted ≡ answer rules
    → judged refuse accepted rules ≡ accepted
judged_by_accepted refuse accepted rules f = judged_accepted refuse accepted rules Accepted f refl

-- where it accepts, no rule holds
pub answer_none : (rules : List Rule) (x : Answer) → x ≡ answer rules → is_refused x ≡ false → NoneHolds rules
unfolding judged
answer_none [] x e f = passed
answer_none (true gives r ∷ rules) x e f = absurd (true≢false (sym (ap is_refused e) ∙ f))
answer_none (false gives r ∷ rules) x e f = pass refl (answer_none rules x e f)

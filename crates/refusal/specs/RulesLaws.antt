-- Laws of rules, and that no refusal has the number of an accepted frame, 0.
use Rattle.std.specs.Prelude.{◌<◌, ◌≡◌, Bool, true, false, List, [], ◌∷◌}
use Rattle.std.proofs.Math.Path.{refl}
use Rattle.refusal.specs.declared.Refusal.{Refusal}
use Rattle.refusal.specs.declared.Refusal.TheVariants.{
  Config,
  Form,
  Sender,
  Stale,
  Proof,
  Command,
  History,
  Behind,
  Reused,
  Contradiction,
  Split,
  Nothing,
  Full,
}
use Rattle.std.proofs.Common.{lit<}
use Rattle.refusal.specs.Refusal.{number}
use Rattle.refusal.specs.Rules.{Rule, ◌gives◌, judged}

module _ {A : Type 0} (refuse : Refusal → A) (accepted : A) where
  -- no rule is left: accepted
  pub judged_none : judged refuse accepted [] ≡ accepted
  unfolding judged
  judged_none = refl

  -- the first rule's test holds: its refusal
  pub judged_first : (test : Bool) (r : Refusal) (rules : List Rule) → test ≡ true → judged refuse accepted (test gives r ∷ rules) ≡ refuse r
  unfolding judged
  judged_first test r rules e = rw e

  -- it does not: the rules after it decide
  pub judged_next : (test : Bool) (r : Refusal) (rules : List Rule) → test ≡ false → judged refuse accepted (test gives r ∷ rules) ≡ judged refuse accepted rules
  unfolding judged
  judged_next test r rules e = rw e

-- the columns No. and Name of document 01's table of refusals
pub numbers_are : (number Config ≡ 1)
    × (number Form ≡ 2)
    × (number Sender ≡ 3)
    × (number Stale ≡ 4)
    × (number Proof ≡ 5)
    × (number Command ≡ 6)
    × (number History ≡ 7)
    × (number Behind ≡ 8)
    × (number Reused ≡ 9)
    × (number Contradiction ≡ 10)
    × (number Split ≡ 11)
    × (number Nothing ≡ 12)
    × (number Full ≡ 13)
numbers_are = (refl, refl, refl, refl, refl, refl, refl, refl, refl, refl, refl, refl, refl)

-- an accepted frame answers 0, and no refusal does
pub number_pos : (r : Refusal) → 0 < number r
number_pos Config = lit< tt
number_pos Form = lit< tt
number_pos Sender = lit< tt
number_pos Stale = lit< tt
number_pos Proof = lit< tt
number_pos Command = lit< tt
number_pos History = lit< tt
number_pos Behind = lit< tt
number_pos Reused = lit< tt
number_pos Contradiction = lit< tt
number_pos Split = lit< tt
number_pos Nothing = lit< tt
number_pos Full = lit< tt

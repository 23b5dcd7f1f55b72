-- "Checks run in this order": the refusals as one list, and when rules follow it. The order is the list's, not that of the numbers.
use Rattle.std.specs.Prelude.{Bool, true, false, cond, List, [], ◌∷◌, eqb}
use Rattle.refusal.specs.declared.Refusal.{Refusal}
use Rattle.refusal.specs.declared.Refusal.TheVariants.{
  Config,
  Form,
  Sender,
  Stale,
  Proof,
  Command,
  History,
  Behind,
  Reused,
  Contradiction,
  Split,
  Nothing,
  Full,
}
use Rattle.refusal.specs.Refusal.{number}
use Rattle.refusal.specs.Rules.{Rule, ◌gives◌}

-- the rows of the table of refusals, from the top
abbrev pub in_order : List Refusal
in_order =
    Config ∷ Form ∷ Sender ∷ Stale ∷ Proof ∷ Command ∷ History ∷ Behind ∷ Reused ∷ Contradiction ∷ Split ∷ Nothing ∷ Full ∷ []

-- whether the rules' refusals are some of these, each at most once, and in this order
unfoldable pub follows : List Refusal → List Rule → Bool
follows order [] = true
follows [] (test gives r ∷ rules) = false
follows (e ∷ order) (test gives r ∷ rules) = cond (eqb (number e) (number r)) (follows order rules) (follows order (test gives r ∷ rules))

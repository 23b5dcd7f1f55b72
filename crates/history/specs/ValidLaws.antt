-- What a valid history is, and that appending a new valid command keeps commands valid and requests apart.
use Rattle.std.specs.Prelude.{◌≡◌, refl, Bool, true, false, not, ◌&&◌, ◌||◌, List, [], ◌∷◌, ◌++◌, ℕ, ◌<◌, length}
use Rattle.std.proofs.Common.{ap, ◌∙◌, arith}
use Rattle.std.proofs.lemmas.Bool.{not-true, not-false, eqb-false}
use Rattle.basics.specs.Bools.{and_left, and_right, or_left, or_right}
use Rattle.command.specs.Command.{same_request, valid_command, all_valid}
use Rattle.command.specs.CommandLaws.{same_sym}
use Rattle.history.specs.History.{present, repeated, canonical, equal, is_canonical, valid_history, improper, ordered}

-- the three parts of a valid history
pub record ValidHistory (h : List ℕ) : Type 0 where
  pub commands : all_valid h ≡ true
  pub distinct : repeated h ≡ false
  pub in_order : is_canonical h ≡ true

pub valid_parts : (h : List ℕ) → valid_history h ≡ true → ValidHistory h
unfolding valid_history
valid_parts h e =
    let rest = and_right (all_valid h) _ e in
    record { commands = and_left (all_valid h) _ e; distinct = not-true (repeated h) (and_left (not (repeated h)) _ rest); in_order = and_right (not (repeated h)) _ rest }

pub parts_valid : {h : List ℕ} → ValidHistory h → valid_history h ≡ true
unfolding valid_history
parts_valid p = rw (p.commands, p.distinct, p.in_order)

pub valid_nil : valid_history [] ≡ true
unfolding valid_history all_valid repeated is_canonical canonical ordered equal
valid_nil = refl

-- valid commands that are not improper are a valid history
pub not_improper : (h : List ℕ) → all_valid h ≡ true → improper h ≡ false → ValidHistory h
unfolding improper
not_improper h a e =
    record {
      commands = a;
      distinct = or_left (repeated h) _ e;
      in_order = not-false (is_canonical h) (or_left (not (is_canonical h)) _ (or_right (repeated h) _ e));
    }

-- and has a command
pub proper_some : (h : List ℕ) → improper h ≡ false → 0 < length h
unfolding improper
proper_some h e =
    let some_command = eqb-false (length h) 0 (or_right (not (is_canonical h)) _ (or_right (repeated h) _ e)) in
    omega (arith, some_command)

-- ---- appending

pub all_valid_append : (g x : List ℕ) → all_valid (g ++ x) ≡ (all_valid g && all_valid x)
unfolding all_valid
all_valid_append [] x = refl
all_valid_append (c ∷ g) x = ap (λ (b : Bool). valid_command c && b) (all_valid_append g x) ∙ regroup (valid_command c) (all_valid g) (all_valid x)
  where
    regroup : (a b c : Bool) → (a && (b && c)) ≡ ((a && b) && c)
    regroup true b c = refl
    regroup false b c = refl

pub present_append : (c : ℕ) (g x : List ℕ) → present c (g ++ x) ≡ (present c g || present c x)
unfolding present
present_append c [] x = refl
present_append c (d ∷ g) x = ap (λ (b : Bool). same_request c d || b) (present_append c g x) ∙ regroup (same_request c d) (present c g) (present c x)
  where
    regroup : (a b c : Bool) → (a || (b || c)) ≡ ((a || b) || c)
    regroup true b c = refl
    regroup false b c = refl

pub distinct_append : (g : List ℕ) (c : ℕ) → repeated g ≡ false → present c g ≡ false → repeated (g ++ c ∷ []) ≡ false
unfolding repeated present
distinct_append [] c u a = refl
distinct_append (d ∷ g) c u a =
    rw (present_append d g (c ∷ []), or_left (present d g) _ u, same_sym d c, or_left (same_request c d) _ a)
    (distinct_append g c (or_right (present d g) _ u) (or_right (same_request c d) _ a))

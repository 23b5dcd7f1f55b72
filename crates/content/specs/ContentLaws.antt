-- Valid commands that are not disordered are a history. What the tests of a contradiction say: within its length the code's test is the test, and of two lists that don't contradict each other the
-- longer extends the other.
use Rattle.std.specs.Prelude.{◌≡◌, refl, Bool, true, false, List, [], ◌∷◌, ◌++◌, ℕ, ◌≤◌, leb, length}
use Rattle.std.proofs.Common.{sym, ap, subst, ◌∙◌, ⊎_elim, append-nil, arith, le-leb, length-append}
use Rattle.std.proofs.lemmas.Bool.{lt-leb, not-false}
use Rattle.basics.specs.Bools.{lt_or_le, true_or_false, or_left, or_right}
use Rattle.command.specs.Command.{all_valid}
use Rattle.history.specs.History.{Equivalent, Extends, repeated, is_canonical, extends}
use Rattle.history.specs.ValidLaws.{ValidHistory}
use Rattle.history.specs.TakesLaws.{equivalent_sym, equivalent_length}
use Rattle.history.specs.ExtensionLaws.{extends_refl, extends_along, extends_length, extends_sound, extends_refuted}
use Rattle.history.specs.WordsLaws.{extends_within_lem}
use Rattle.content.specs.Content.{disordered, contradicts, contradicts_within}

pub not_disordered : (h : List ℕ) → all_valid h ≡ true → disordered h ≡ false → ValidHistory h
unfolding disordered
not_disordered h a e =
    record { commands = a; distinct = or_left (repeated h) _ e; in_order = not-false (is_canonical h) (or_right (repeated h) _ e) }

pub contradicts_within_lem : (n : ℕ) (entry h : List ℕ) → length entry ≤ n → length h ≤ n → contradicts_within n entry h ≡ contradicts entry h
unfolding contradicts contradicts_within
contradicts_within_lem n entry h p q = rw (extends_within_lem n h entry q, extends_within_lem n entry h p)

nothing : (l : List ℕ) → length l ≡ 0 → l ≡ []
nothing [] z = refl
nothing (c ∷ l) z = absurd (omega (arith, z))

-- a history that extends one that is not shorter is extended by it
no_longer : {g h : List ℕ} → Extends h g → length h ≤ length g → Extends g h
no_longer {g} {h} p l = extends_along (equivalent_sym whole) (extends_refl h)
  where
    whole : Equivalent g h
    whole =
        let none = nothing p.x (omega (arith, equivalent_length p.equivalent, length-append g p.x)) in
        subst (λ (y : List ℕ). Equivalent y h) (ap (λ (y : List ℕ). g ++ y) none ∙ append-nil g) p.equivalent

-- without a contradiction h extends the entry exactly if it is not shorter
pub newer_is : (entry h : List ℕ) → contradicts entry h ≡ false → (b : Bool) → leb (length entry) (length h) ≡ b → extends h entry ≡ b
unfolding contradicts
newer_is entry h agrees b e = ⊎_elim longer shorter (true_or_false (extends h entry))
  where
    longer : extends h entry ≡ true → extends h entry ≡ b
    longer f = f ∙ sym (le-leb (length entry) (length h) (extends_length (extends_sound h entry f))) ∙ e

    shorter : extends h entry ≡ false → extends h entry ≡ b
    shorter f =
        let older : extends entry h ≡ true = not-false (extends entry h) (rw f at agrees) in
        ⊎_elim (λ l. f ∙ sym (lt-leb (length entry) (length h) l) ∙ e)
        (λ l. absurd (extends_refuted h entry f (no_longer (extends_sound entry h older) l)))
        (lt_or_le (length h) (length entry))

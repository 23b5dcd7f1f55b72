-- Laws of bringing commands to the front.
use Rattle.std.specs.Prelude.{◌≡◌, refl, Bool, true, false, cond, List, [], ◌∷◌, ◌++◌, ℕ, zero, suc, ◌≤◌, ◌<◌, eqb, length, take, drop, get_or}
use Rattle.std.proofs.Common.{sym, ap, ap₂, ◌∙◌, arith, eqb-true, eq-eqb, length-append, take-append-drop, add-one, sub-one}
use Rattle.std.proofs.Math.Seq.{get_or-append_seam, take-length, drop-length}
use Rattle.command.specs.Command.{conflict}
use Rattle.history.specs.History.{Equivalent, same, keep, trans, comes_off, without, extends}
use Rattle.history.specs.TakesLaws.{takes_equivalent}
use Rattle.history.specs.ExtensionLaws.{comes_off_takes}
use Rattle.history.specs.Front.{off_at, fronted, shifted, rotated}

-- where c stands, and that it comes off exactly where it stands in h
pub off_at_absent : (c : ℕ) (h : List ℕ) → length h ≤ off_at c h → comes_off c h ≡ false
unfolding off_at comes_off
off_at_absent c [] p = refl
off_at_absent c (d ∷ h) p = go (eqb c d) refl (conflict c d) refl (off_at_absent c h)
  where
    go : (a : Bool) → eqb c d ≡ a → (b : Bool) → conflict c d ≡ b → (length h ≤ off_at c h → comes_off c h ≡ false) → comes_off c (d ∷ h) ≡ false
    go true e b f ih = absurd (omega (arith, rw e at p))
    go false e true f ih = rw (e, f)
    go false e false f ih = rw (e, f) (ih (omega (arith, rw (e, f) at p)))

pub record Standing (c : ℕ) (h : List ℕ) (n : ℕ) : Type 0 where
  pub comes : comes_off c h ≡ true
  pub found : get_or h n 0 ≡ c
  pub left : without c h ≡ take n h ++ drop (suc n) h

pub off_at_standing : (c : ℕ) (h : List ℕ) → off_at c h < length h → Standing c h (off_at c h)
unfolding off_at comes_off without
off_at_standing c [] p = absurd (omega arith)
off_at_standing c (d ∷ h) p = go (eqb c d) refl (conflict c d) refl (off_at_standing c h)
  where
    go : (a : Bool) → eqb c d ≡ a → (b : Bool) → conflict c d ≡ b → (off_at c h < length h → Standing c h (off_at c h)) → Standing c (d ∷ h) (off_at c (d ∷ h))
    go true e b f ih = rw e (record { comes = rw e; found = sym (eqb-true c d e); left = rw e })
    go false e true f ih = absurd (omega (arith, rw (e, f) at p))
    go false e false f ih =
        let r = ih (omega (arith, rw (e, f) at p)) in
        rw (e, f) (record { comes = rw (e, f) r.comes; found = r.found; left = rw e (ap (λ (x : List ℕ). d ∷ x) r.left) })

-- what is brought to the front is equivalent
pub fronted_equivalent : (h g : List ℕ) → Equivalent (fronted h g) h
unfolding fronted
fronted_equivalent h [] = same
fronted_equivalent h (c ∷ g) = go (comes_off c h) refl (fronted_equivalent (without c h) g)
  where
    go : (b : Bool) → comes_off c h ≡ b → Equivalent (fronted (without c h) g) (without c h) → Equivalent (fronted h (c ∷ g)) h
    go true e ih = rw e (trans (keep ih) (takes_equivalent (comes_off_takes c h e)))
    go false e ih = rw e same

-- rotating brings the last to the front
shifted_last : (c x : ℕ) (p : List ℕ) → shifted c (p ++ x ∷ []) ≡ c ∷ p
unfolding shifted
shifted_last c x [] = refl
shifted_last c x (d ∷ p) = ap (λ (l : List ℕ). c ∷ l) (shifted_last d x p)

pub rotated_last : (p : List ℕ) (c : ℕ) → rotated (p ++ c ∷ []) ≡ c ∷ p
unfolding rotated
rotated_last p c = rw (length-append, add-one, sub-one, get_or-append_seam) (shifted_last c c p)

pub off_at_le : (c : ℕ) (h : List ℕ) → off_at c h ≤ length h
unfolding off_at
off_at_le c [] = omega arith
off_at_le c (d ∷ h) = go (eqb c d) (conflict c d) (off_at_le c h)
  where
    go : (a b : Bool) → off_at c h ≤ length h → cond a zero (cond b (suc (length h)) (suc (off_at c h))) ≤ suc (length h)
    go true b ih = omega arith
    go false true ih = omega arith
    go false false ih = omega arith

-- the same commands in front of two histories make no difference to extension
pub extends_before : (p h g : List ℕ) → extends (p ++ h) (p ++ g) ≡ extends h g
unfolding extends comes_off without
extends_before [] h g = refl
extends_before (c ∷ p) h g = rw (eq-eqb c c refl) (extends_before p h g)

pub extends_past_lem : (h g : List ℕ) (k : ℕ) → take k h ≡ take k g → extends (drop k h) (drop k g) ≡ extends h g
extends_past_lem h g k e =
    sym (extends_before (take k h) (drop k h) (drop k g))
    ∙ ap₂ extends (take-append-drop k h) (ap (λ (l : List ℕ). l ++ drop k g) e ∙ take-append-drop k g)

-- so a history extends its first commands
pub extends_first : (h g : List ℕ) → take (length g) h ≡ g → extends h g ≡ true
unfolding extends
extends_first h g e =
    sym (extends_past_lem h g (length g) (e ∙ sym (take-length g))) ∙ ap (extends (drop (length g) h)) (drop-length g)

-- Extension is an order up to equivalence, and the test `extends` decides it.
use Rattle.std.specs.Prelude.{◌≡◌, refl, Bool, true, false, List, [], ◌∷◌, ◌++◌, ℕ, ◌≤◌, ◌<◌, eqb, length}
use Rattle.std.proofs.Common.{sym, ◌∙◌, subst, true≢false, append-nil, append_assoc, arith, eqb-true, eq-eqb, ne_eqb, length-append}
use Rattle.command.specs.Command.{conflict}
use Rattle.basics.specs.Bools.{and_left, and_right}
use Rattle.history.specs.History.{Equivalent, same, keep, trans, Extends, comes_off, without, extends}
use Rattle.history.specs.TakesLaws.{Takes, here, there, no_pass, takes_equivalent, Taken, taken, takes_along, equivalent_sym, equivalent_length, equivalent_behind, equivalent_refl}

-- ---- an order up to equivalence

pub extends_refl : (h : List ℕ) → Extends h h
extends_refl h = record { x = []; equivalent = equivalent_refl (append-nil h) }

pub extends_nil : (h : List ℕ) → Extends h []
extends_nil h = record { x = h; equivalent = same }

pub extends_append : (g x : List ℕ) → Extends (g ++ x) g
extends_append g x = record { x = x; equivalent = same }

pub extends_trans : {g h k : List ℕ} → Extends k h → Extends h g → Extends k g
extends_trans {g} p q =
    record { x = q.x ++ p.x; equivalent = trans (equivalent_refl (sym (append_assoc g q.x p.x))) (trans (equivalent_behind p.x q.equivalent) p.equivalent) }

-- equivalent histories extend the same, and are extended by the same
pub extends_along : {g h k : List ℕ} → Equivalent h k → Extends h g → Extends k g
extends_along e p = record { x = p.x; equivalent = trans p.equivalent e }

pub extended_along : {f g h : List ℕ} → Equivalent f g → Extends h f → Extends h g
extended_along e p = record { x = p.x; equivalent = trans (equivalent_behind p.x (equivalent_sym e)) p.equivalent }

pub extends_length : {g h : List ℕ} → Extends h g → length g ≤ length h
extends_length {g} p = omega (arith, equivalent_length p.equivalent, length-append g p.x)

-- two histories that extend each other are equivalent
pub extends_antisym : {g h : List ℕ} → Extends h g → Extends g h → Equivalent g h
extends_antisym {g} {h} p q =
    trans (equivalent_refl (sym (append-nil g))) (subst (λ (y : List ℕ). Equivalent (g ++ y) h) (nothing p.x (omega (arith, extends_length q, equivalent_length p.equivalent, length-append g p.x))) p.equivalent)
  where
    nothing : (l : List ℕ) → length l ≡ 0 → l ≡ []
    nothing [] z = refl
    nothing (c ∷ l) z = absurd (omega (arith, z))

-- ---- extension, one command after the other

-- g's commands can be taken off h
pub data Below : List ℕ → List ℕ → Type 0 where
  none : {h : List ℕ} → Below [] h
  take : {c : ℕ} {g h k : List ℕ} → Takes c h k → Below g k → Below (c ∷ g) h

pub below_extends : {g h : List ℕ} → Below g h → Extends h g
below_extends {h = h} none = extends_nil h
below_extends (take t b) = first t (below_extends b)
  where
    first : {c : ℕ} {g h k : List ℕ} → Takes c h k → Extends k g → Extends h (c ∷ g)
    first t p = record { x = p.x; equivalent = trans (keep p.equivalent) (takes_equivalent t) }

below_equivalent : (g x : List ℕ) {h : List ℕ} → Equivalent (g ++ x) h → Below g h
below_equivalent [] x e = none
below_equivalent (c ∷ g) x {h} e = off (takes_along e (here refl)) (λ l f. below_equivalent g x f)
  where
    off : Taken c (g ++ x) h → ((l : List ℕ) → Equivalent (g ++ x) l → Below g l) → Below (c ∷ g) h
    off (taken {l = l} t f) next = take t (next l f)

pub extends_below : {g h : List ℕ} → Extends h g → Below g h
extends_below {g} p = below_equivalent g p.x p.equivalent

-- ---- the test

-- what the test `comes_off` says is that c can be taken off, which leaves h without c
pub comes_off_takes : (c : ℕ) (h : List ℕ) → comes_off c h ≡ true → Takes c h (without c h)
unfolding comes_off without
comes_off_takes c [] e = absurd (true≢false (sym e))
comes_off_takes c (d ∷ h) e = go (eqb c d) refl (conflict c d) refl (comes_off_takes c h)
  where
    go : (a : Bool) → eqb c d ≡ a → (b : Bool) → conflict c d ≡ b → (comes_off c h ≡ true → Takes c h (without c h)) → Takes c (d ∷ h) (without c (d ∷ h))
    go true p b q next = rw p (here (eqb-true c d p))
    go false p true q next = absurd (true≢false (sym (rw (p, q) at e)))
    go false p false q next = rw p (there q (next (rw (p, q) at e)))

-- a command that can be taken off is found by the test, and what is left is the history without it
pub takes_comes_off : {c : ℕ} {h k : List ℕ} → Takes c h k → comes_off c h ≡ true
unfolding comes_off
takes_comes_off {c} (here {d = d} e) = rw (eq-eqb c d e)
takes_comes_off {c} (there {d = d} p t) = rw (p, takes_comes_off t, ne_eqb c d (λ e. no_pass e p))

pub takes_without : {c : ℕ} {h k : List ℕ} → Takes c h k → without c h ≡ k
unfolding without
takes_without {c} (here {d = d} e) = rw (eq-eqb c d e)
takes_without {c} (there {d = d} p t) = rw (ne_eqb c d (λ e. no_pass e p), takes_without t)

-- the test is sound: it holds of extensions only
sound : (h g : List ℕ) → extends h g ≡ true → Below g h
unfolding extends
sound h [] e = none
sound h (c ∷ g) e = take (comes_off_takes c h (and_left _ _ e)) (sound (without c h) g (and_right (comes_off c h) _ e))

pub extends_sound : (h g : List ℕ) → extends h g ≡ true → Extends h g
extends_sound h g e = below_extends (sound h g e)

-- the test is complete: it holds of every extension
complete : {g h : List ℕ} → Below g h → extends h g ≡ true
unfolding extends
complete none = refl
complete (take {g = g} t b) = rw (takes_comes_off t, takes_without t) (complete b)

pub extends_complete : {g h : List ℕ} → Extends h g → extends h g ≡ true
extends_complete p = complete (extends_below p)

pub extends_refuted : (h g : List ℕ) → extends h g ≡ false → Extends h g → ⊥
extends_refuted h g e p = true≢false (sym (extends_complete p) ∙ e)

-- a shorter history extends none
pub extends_shorter : (h g : List ℕ) → length h < length g → extends h g ≡ false
extends_shorter h g l = go (extends h g) refl
  where
    go : (b : Bool) → extends h g ≡ b → extends h g ≡ false
    go true e = absurd (omega (arith, extends_length (extends_sound h g e)))
    go false e = e

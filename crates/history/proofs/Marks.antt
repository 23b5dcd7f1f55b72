-- One turn of the test for a repeat by marks, and what it leaves at its end.
use mathlib.Core.Path.{◌≡◌, refl, sym, ap, ap₂, ◌∙◌}
use mathlib.Core.Bool.{Bool, true, false, or-true, true≢false}
use mathlib.Core.List.{List, [], ◌∷◌}
use Prim.Native.Nat.{ℕ, zero, suc, ◌+◌, ◌-◌, ◌*◌, ◌%◌, ◌<◌, ◌≤◌}
use native.Mathlib.Omega.{arith}
use lib.ListN.{length, drop, get_or, set, length-set}
use lib.Seq.{get_or-set_same, drop-length}
use Rattle.basics.specs.Bools.{and_left, and_right}
use Rattle.basics.specs.Lists.{drop_next}
use Rattle.command.specs.Command.{same_request}
use Rattle.command.specs.CommandLaws.{same_fields}
use Rattle.history.specs.History.{present, repeated}
use Rattle.history.specs.Code.Marks.{mark, marked}

-- a command whose mark is not set is not among those whose marks are
pub unmarked_absent : (s : List Bool) (c : ℕ) (h : List ℕ) → marked s h ≡ true → get_or s (mark c) false ≡ false → present c h ≡ false
unfolding marked present
unmarked_absent s c [] m e = refl
unmarked_absent s c (d ∷ h) m e = go (same_request c d) refl (unmarked_absent s c h (and_right (get_or s (mark d) false) (marked s h) m) e)
  where
    go : (b : Bool) → same_request c d ≡ b → present c h ≡ false → present c (d ∷ h) ≡ false
    go true f r =
        let same : mark c ≡ mark d = ap₂ (λ (p q : ℕ). (q + 157 * p) % 256) (same_fields c d f).0 (same_fields c d f).1 in
        absurd (true≢false (sym (and_left (get_or s (mark d) false) (marked s h) m) ∙ ap (λ (k : ℕ). get_or s k false) (sym same) ∙ e))
    go false f r = rw f r

-- one mark more leaves the others set
still : (s : List Bool) (k j : ℕ) → get_or s j false ≡ true → get_or (set s k true) j false ≡ true
still [] k j e = e
still (b ∷ s) zero zero e = refl
still (b ∷ s) zero (suc j) e = e
still (b ∷ s) (suc k) zero e = e
still (b ∷ s) (suc k) (suc j) e = still s k j e

still_marked : (s : List Bool) (k : ℕ) (h : List ℕ) → marked s h ≡ true → marked (set s k true) h ≡ true
unfolding marked
still_marked s k [] m = refl
still_marked s k (d ∷ h) m =
    rw (
      still s k (mark d) (and_left (get_or s (mark d) false) (marked s h) m),
      still_marked s k h (and_right (get_or s (mark d) false) (marked s h) m),
    )

-- what the loop keeps at position i: from there on h has no repeat, and all marks are set
pub record Marking (h : List ℕ) (s : List Bool) (i : ℕ) : Type 0 where
  pub inside : i ≤ length h
  pub room : length s ≡ 256
  pub single : repeated (drop i h) ≡ false
  pub marks : marked s (drop i h) ≡ true

pub marking_start : (h : List ℕ) (s : List Bool) → length s ≡ 256 → Marking h s (length h)
unfolding repeated marked
marking_start h s e = record { inside = omega arith; room = e; single = rw (drop-length h); marks = rw (drop-length h) }

-- a repeat in what comes last is one in the whole
repeated_within : (h : List ℕ) (i : ℕ) → repeated (drop i h) ≡ true → repeated h ≡ true
unfolding repeated
repeated_within h zero e = e
repeated_within [] (suc i) e = e
repeated_within (c ∷ h) (suc i) e = rw (repeated_within h i e) (or-true (present c h))

module _ (h : List ℕ) (i : ℕ) (p : 0 < i) (q : i ≤ length h) where
  drop_back : drop (i - 1) h ≡ get_or h (i - 1) 0 ∷ drop i h
  drop_back =
      let e : i - 1 + 1 ≡ i = omega arith in
      drop_next h (i - 1) (omega arith) ∙ ap (λ (k : ℕ). get_or h (i - 1) 0 ∷ drop k h) e

  pub marking_stop : present (get_or h (i - 1) 0) (drop i h) ≡ true → repeated h ≡ true
  unfolding repeated
  marking_stop e = repeated_within h (i - 1) (rw (drop_back, e))

  pub marking_turn : (s : List Bool) → Marking h s i → present (get_or h (i - 1) 0) (drop i h) ≡ false → Marking h (set s (mark (get_or h (i - 1) 0)) true) (i - 1)
  unfolding repeated marked
  marking_turn s inv e =
      let k = mark (get_or h (i - 1) 0) in
      record {
        inside = omega arith;
        room = length-set s k true ∙ inv.room;
        single = rw (drop_back, e) inv.single;
        marks = rw (drop_back, get_or-set_same s k true false (omega (arith, inv.room))) (still_marked s k (drop i h) inv.marks);
      }

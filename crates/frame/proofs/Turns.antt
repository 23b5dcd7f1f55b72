-- One turn of each loop, what it leaves at its end, and what a chain answers by the definitions.
use Prim.Native.Nat.{ℕ, zero, suc, ◌+◌, ◌-◌, ◌*◌, ◌/◌, ◌%◌, ◌^◌, ◌≤◌, ◌<◌, zero-le}
use native.Mathlib.Nat.{add-zero, pow-suc, pow-le-pow_right, zero-lt-suc}
use native.Mathlib.Numerals.{add-one}
use native.Mathlib.Omega.{arith}
use mathlib.Core.Path.{◌≡◌, refl, sym, ap, ap₂, ◌∙◌}
use mathlib.Core.Bool.{Bool, true, false, cond, ◌&&◌, ◌||◌, and_assoc}
use mathlib.Core.List.{List, [], ◌∷◌, ◌++◌, append-nil, append_assoc}
use lib.Dec.{leb, ltb, eqb}
use lib.ListN.{length, get_or, drop, set, length-set, drop_of_length-le}
use lib.Seq.{drop-set-add}
use borrow.Author.Tests.{ltb-true, lt-ltb}
use Rattle.basics.specs.Lists.{drop_next}
use Rattle.basics.specs.Bools.{and_left, and_right}
use Rattle.std.specs.Prelude.{Option, None, Some}
use Rattle.std.specs.List.{list_all, zip}
use Rattle.frame.specs.Hex.{digit, is_digit, value_of, all_digits, byte_of, number_from, number, digits_of}
use Rattle.frame.specs.HexLaws.{value_lt}
use Rattle.frame.specs.Kinds.{uses, is_kind, zero_unless}
use Rattle.frame.specs.Format.{all_zero}
use Rattle.frame.specs.Code.Leaves.{full_stop, digit_in, number_in, proper_header}

-- ---- words that are all 0

pub all_zero_chain : (l : List ℕ) → all_zero l ≡ list_all (λ w. eqb w 0) l
unfolding all_zero
all_zero_chain [] = refl
all_zero_chain (w ∷ l) = ap (λ b. eqb w 0 && b) (all_zero_chain l)

-- ---- fields that a kind doesn't use

pub unused_chain : (r : List Bool) (l : List ℕ) → zero_unless r l ≡ list_all (λ p. p.0 || eqb p.1 0) (zip r l)
unfolding zero_unless
unused_chain [] l = refl
unused_chain (u ∷ r) [] = refl
unused_chain (u ∷ r) (x ∷ l) = ap (λ b. (u || eqb x 0) && b) (unused_chain r l)

-- ---- the digit of a character

digit_in_lem : (c : ℕ) → is_digit c ≡ true → digit_in c ≡ value_of c
unfolding digit_in
digit_in_lem c e = rw e

-- below 16 exactly if it is one
fine_is : (c : ℕ) → ltb (digit_in c) 16 ≡ is_digit c
unfolding digit_in
fine_is c = go (is_digit c) refl
  where
    go : (b : Bool) → is_digit c ≡ b → ltb (cond b (value_of c) full_stop) 16 ≡ b
    go true e = lt-ltb (value_of c) 16 (value_lt c e)
    go false e = refl

-- ---- a header's values

abbrev pub known : List ℕ → Bool
known h = leb 1 (get_or h 0 0) && ltb (get_or h 0 0) 11

abbrev pub few : ℕ → List ℕ → Bool
few limit h = leb (get_or h 6 0) limit && leb (get_or h 7 0) limit

-- a known kind, counts that are low enough, and the fields that the kind doesn't use
pub proper_tests : (limit : ℕ) (h : List ℕ) → proper_header limit h ≡ (known h && (few limit h && zero_unless (get_or uses (get_or h 0 0) []) h))
unfolding proper_header is_kind uses
proper_tests limit h = refl

-- ---- one number that is read

-- two digits that are fine
pub fine_below : (p q : ℕ) → (ltb p 16 && ltb q 16) ≡ true → (p < 16) × (q < 16)
fine_below p q e = (ltb-true p 16 (and_left (ltb p 16) (ltb q 16) e), ltb-true q 16 (and_right (ltb p 16) (ltb q 16) e))

-- what is left of digits at a byte: its two digits, and what is left after it
two_next : (l : List ℕ) (i : ℕ) → 2 * i + 1 < length l → drop (2 * i) l ≡ get_or l (2 * i) 0 ∷ get_or l (2 * i + 1) 0 ∷ drop (2 * (i + 1)) l
two_next l i h =
    let e : 2 * i + 1 + 1 ≡ 2 * (i + 1) = omega arith in
    drop_next l (2 * i) (omega arith)
    ∙ ap (λ (r : List ℕ). get_or l (2 * i) 0 ∷ r) (drop_next l (2 * i + 1) h ∙ ap (λ (n : ℕ). get_or l (2 * i + 1) 0 ∷ drop n l) e)

-- what the loop keeps at byte i, x being the number so far: the digits' test and the number go on from there
pub record Spelling (l : List ℕ) (width x i : ℕ) : Type 0 where
  pub inside : i ≤ width
  pub below : x < 256 ^ i
  pub digits : all_digits (drop (2 * i) l) ≡ all_digits l
  pub value : number_from x (drop (2 * i) l) ≡ number l

pub spelling_start : (l : List ℕ) (width : ℕ) → Spelling l width 0 0
spelling_start l width = record { inside = zero-le; below = zero-lt-suc 0; digits = refl; value = refl }

-- a number so far has room for one byte more
pub room : (i x : ℕ) → x < 256 ^ i → i < 8 → 256 * x + 255 < 2 ^ 64
room i x h l = omega (arith, pow-le-pow_right {n = 256} (zero-lt-suc 255) {i = i} {j = 7} (omega arith))

module _ (l : List ℕ) (width x i : ℕ) (inv : Spelling l width x i) where
  module _ (size : length l ≡ 2 * width) (more : i < width) (p q : ℕ) (ep : p ≡ digit_in (get_or l (2 * i) 0)) (eq : q ≡ digit_in (get_or l (2 * i + 1) 0)) where
    a : ℕ
    a = get_or l (2 * i) 0

    b : ℕ
    b = get_or l (2 * i + 1) 0

    next : drop (2 * i) l ≡ a ∷ b ∷ drop (2 * (i + 1)) l
    unfolding a b
    next = two_next l i (omega arith)

    both_fine : (ltb p 16 && ltb q 16) ≡ (is_digit a && is_digit b)
    unfolding a b
    both_fine = ap₂ (λ (x y : ℕ). ltb x 16 && ltb y 16) ep eq ∙ ap₂ ◌&&◌ (fine_is a) (fine_is b)

    -- not both are digits
    pub spelling_stop : (ltb p 16 && ltb q 16) ≡ false → ◌≡◌ {A = Option ℕ} None (number_in l)
    unfolding number_in all_digits
    spelling_stop h =
        let bad : all_digits l ≡ false =
        sym inv.digits ∙ ap all_digits next ∙ sym (and_assoc (is_digit a) (is_digit b) (all_digits (drop (2 * (i + 1)) l)))
        ∙ ap (λ (t : Bool). t && all_digits (drop (2 * (i + 1)) l)) (sym both_fine ∙ h) in
        sym (ap (λ (t : Bool). cond t (Some (number l)) None) bad)

    -- both are, and make a byte
    pub spelling_turn : (ltb p 16 && ltb q 16) ≡ true → Spelling l width (256 * x + 16 * p + q) (i + 1)
    unfolding all_digits number_from byte_of a b
    spelling_turn h =
        let da = and_left (is_digit a) (is_digit b) (sym both_fine ∙ h) in
        let db = and_right (is_digit a) (is_digit b) (sym both_fine ∙ h) in
        let byte : 256 * x + 16 * p + q ≡ 256 * x + byte_of a b = omega (arith, digit_in_lem a da, digit_in_lem b db) in
        record {
          inside = omega arith;
          below = rw (add-one i, pow-suc 256 i) (omega (arith, inv.below, digit_in_lem a da, digit_in_lem b db, value_lt a da, value_lt b db));
          digits = sym (ap all_digits next ∙ ap₂ (λ (s t : Bool). s && (t && all_digits (drop (2 * (i + 1)) l))) da db) ∙ inv.digits;
          value =
              ap (λ (n : ℕ). number_from n (drop (2 * (i + 1)) l)) byte
              ∙ sym (ap (number_from x) next) ∙ inv.value;
        }

  pub spelling_end : length l ≡ 2 * width → width ≤ i → ◌≡◌ {A = Option ℕ} (Some x) (number_in l)
  unfolding number_in all_digits number_from
  spelling_end size h =
      let over : drop (2 * i) l ≡ [] = drop_of_length-le l {i = 2 * i} (omega arith) in
      let good : true ≡ all_digits l = sym (ap all_digits over) ∙ inv.digits in
      let same : x ≡ number l = sym (ap (number_from x) over) ∙ inv.value in
      ap₂ (λ (t : Bool) (n : ℕ). cond t (Some n) None) good same

-- ---- one number that is written

-- two elements that are stored, as what is left there shows
two_set : (l : List ℕ) (at u v : ℕ) → at + 1 < length l → drop at (set (set l at u) (at + 1) v) ≡ u ∷ v ∷ drop (at + 2) l
two_set l at u v h =
    let e : at + 1 + 1 ≡ at + 2 = omega arith in
    let whole : drop at l ≡ get_or l at 0 ∷ get_or l (at + 1) 0 ∷ drop (at + 2) l =
    drop_next l at (omega arith) ∙ ap (λ (r : List ℕ). get_or l at 0 ∷ r) (drop_next l (at + 1) h ∙ ap (λ (n : ℕ). get_or l (at + 1) 0 ∷ drop n l) e) in
    let one : drop at (set l at u) ≡ set (drop at l) 0 u =
    ap (λ (n : ℕ). drop at (set l n u)) (sym (add-zero at)) ∙ drop-set-add at l 0 u in
    drop-set-add at (set l at u) 1 v ∙ ap (λ (r : List ℕ). set r 1 v) (one ∙ ap (λ (r : List ℕ). set r 0 u) whole)

-- what the loop keeps: the first k bytes, those of x, and then what is written make the goal
pub record Putting (l : List ℕ) (x k n : ℕ) (goal : List ℕ) : Type 0 where
  pub size : length l ≡ n
  pub inside : 2 * k ≤ n
  pub rest : digits_of k x ++ drop (2 * k) l ≡ goal

pub putting_start : (l : List ℕ) (width x : ℕ) → length l ≡ 2 * width → Putting l x width (length l) (digits_of width x)
putting_start l width x e =
    record {
      size = refl;
      inside = omega arith;
      rest =
          ap (λ (r : List ℕ). digits_of width x ++ r) (drop_of_length-le l {i = 2 * width} (omega arith))
          ∙ append-nil (digits_of width x);
    }

pub putting_turn : (l : List ℕ) (x k n : ℕ) (goal : List ℕ) (u v : ℕ) → Putting l x k n goal → 0 < k → u ≡ digit (x % 256 / 16) → v ≡ digit (x % 256 % 16)
    → Putting (set (set l (2 * (k - 1)) u) (2 * (k - 1) + 1) v) (x / 256) (k - 1) n goal
unfolding digits_of
putting_turn l x k n goal u v inv h eu ev =
    let j = k - 1 in
    let at : 2 * j + 2 ≡ 2 * k = omega arith in
    let up : k ≡ suc j = omega arith in
    let last : digits_of k x ≡ digits_of j (x / 256) ++ digit (x % 256 / 16) ∷ digit (x % 256 % 16) ∷ [] =
    ap (λ (m : ℕ). digits_of m x) up in
    record {
      size = length-set (set l (2 * j) u) (2 * j + 1) v ∙ length-set l (2 * j) u ∙ inv.size;
      inside = omega (arith, inv.inside);
      rest =
          ap (λ (r : List ℕ). digits_of j (x / 256) ++ r)
          (two_set l (2 * j) u v (omega (arith, inv.inside, inv.size))
          ∙ ap₂ (λ (a b : ℕ). a ∷ b ∷ drop (2 * j + 2) l) eu ev
          ∙ ap (λ (m : ℕ). digit (x % 256 / 16) ∷ digit (x % 256 % 16) ∷ drop m l) at)
          ∙ sym (append_assoc (digits_of j (x / 256)) (digit (x % 256 / 16) ∷ digit (x % 256 % 16) ∷ []) (drop (2 * k) l))
          ∙ sym (ap (λ (s : List ℕ). s ++ drop (2 * k) l) last)
          ∙ inv.rest;
    }

pub putting_end : (l : List ℕ) (x k n : ℕ) (goal : List ℕ) → Putting l x k n goal → k ≤ 0 → l ≡ goal
unfolding digits_of
putting_end l x zero n goal inv h = inv.rest
putting_end l x (suc k) n goal inv h = absurd (omega arith)

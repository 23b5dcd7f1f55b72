-- The first line's digits, one by one and four at once, and the roster that they spell.
use Prim.Native.Nat.{ℕ, ◌+◌, ◌*◌, ◌≤◌, ◌<◌}
use native.Mathlib.Omega.{arith}
use mathlib.Core.Path.{◌≡◌, refl}
use mathlib.Core.Logic.{◌⊎◌, inl, inr}
use mathlib.Core.Bool.{Bool, true, false, cond, ◌&&◌, and-false}
use mathlib.Core.List.{List}
use Rattle.std.specs.Prelude.{Option, None, Some}
use Rattle.std.specs.Option.{unwrap_or}
use lib.ListN.{length, get_or}
use borrow.Author.Tests.{eq-eqb, ne_eqb}
use Rattle.basics.specs.Bools.{true_or_false, and_left, and_right}
use Rattle.roster.specs.declared.Roster.{Roster}
use Rattle.frame.specs.Hex.{is_digit, value_of, byte_of}
use Rattle.frame.specs.HexLaws.{value_lt}
use Rattle.lines.specs.Lines.{digit_of, byte_in, are_digits, is_roster_line, roster_of}

-- ---- a value that there is under a test

abbrev pub when : {A : Type 0} → Bool → A → Option A
when b v = cond b (Some v) None

pub some_when : {A : Type 0} (b : Bool) (v x : A) → Some x ≡ when b v → (b ≡ true) × (x ≡ v)
some_when true v x e = (refl, cc)
some_when false v x e = absurd (cc)

pub none_when : {A : Type 0} (b : Bool) (v : A) → None ≡ when b v → b ≡ false
none_when true v e = absurd (cc)
none_when false v e = refl

-- ---- a byte

pub digit_small : (c x : ℕ) → Some x ≡ digit_of c → x ≤ 15
digit_small c x e = let s = some_when (is_digit c) (value_of c) x e in omega (arith, s.1, value_lt c s.0)

pub byte_some : (a b x y : ℕ) → Some x ≡ digit_of a → Some y ≡ digit_of b → Some (16 * x + y) ≡ byte_in a b
unfolding byte_of
byte_some a b x y e f =
    let s = some_when (is_digit a) (value_of a) x e in
    let t = some_when (is_digit b) (value_of b) y f in
    rw (s.0, t.0, s.1, t.1) refl

-- ---- the first line

-- four digits spell two bytes
and_apart : (x c d : Bool) → c && d ≡ false → (x && c) && d ≡ false
and_apart true c d e = e
and_apart false c d e = refl

abbrev pub bytes : ℕ → ℕ → ℕ → ℕ → Roster
bytes a b c d = record { n = byte_of a b; f = byte_of c d }

module _ (a b c d : ℕ) where
  pub roster_some : (n f : ℕ) → Some n ≡ byte_in a b → Some f ≡ byte_in c d → Some (record { n = n; f = f }) ≡ when (are_digits a b c d) (bytes a b c d)
  unfolding are_digits
  roster_some n f p q =
      let s = some_when (is_digit a && is_digit b) (byte_of a b) n p in
      let t = some_when (is_digit c && is_digit d) (byte_of c d) f q in
      rw (s.0, and_left (is_digit c) (is_digit d) t.0, and_right (is_digit c) (is_digit d) t.0, s.1, t.1) refl

  pub no_first : None ≡ byte_in a b → None ≡ when (are_digits a b c d) (bytes a b c d)
  unfolding are_digits
  no_first p = rw (none_when (is_digit a && is_digit b) (byte_of a b) p) refl

  pub no_second : None ≡ byte_in c d → None ≡ when (are_digits a b c d) (bytes a b c d)
  unfolding are_digits
  no_second p = rw (and_apart (is_digit a && is_digit b) (is_digit c) (is_digit d) (none_when (is_digit c && is_digit d) (byte_of c d) p)) refl

abbrev pub nobody : Roster
nobody = record { n = 0; f = 0 }

abbrev pub spelled : List ℕ → Bool
spelled l = are_digits (get_or l 0 0) (get_or l 1 0) (get_or l 2 0) (get_or l 3 0)

-- the roster r of the first line, where o is that of its first four characters if they are digits: five characters of which the last is a line feed
pub ended_line : (l : List ℕ) (r : Roster) (o : Option Roster) → 5 ≤ length l → length l < 6 → get_or l 4 0 ≡ 10
    → o ≡ when (spelled l) (bytes (get_or l 0 0) (get_or l 1 0) (get_or l 2 0) (get_or l 3 0)) → r ≡ unwrap_or o nobody → r ≡ roster_of l
unfolding roster_of is_roster_line
ended_line l r o p q e f g = rw (g, f, eq-eqb (length l) 5 (omega arith), eq-eqb (get_or l 4 0) 10 e) (go (true_or_false (spelled l)))
  where
    s : Roster
    s = bytes (get_or l 0 0) (get_or l 1 0) (get_or l 2 0) (get_or l 3 0)

    go : (spelled l ≡ true) ⊎ (spelled l ≡ false) → unwrap_or (when (spelled l) s) nobody ≡ cond (spelled l && true) s nobody
    go (inl t) = rw t refl
    go (inr t) = rw t refl

-- a line of another length or another end counts as N=0
pub other_length : (l : List ℕ) → (length l ≡ 5 → ⊥) → nobody ≡ roster_of l
unfolding roster_of is_roster_line
other_length l h = rw (ne_eqb (length l) 5 h)

pub other_end : (l : List ℕ) → (get_or l 4 0 ≡ 10 → ⊥) → nobody ≡ roster_of l
unfolding roster_of is_roster_line
other_end l h = rw (ne_eqb (get_or l 4 0) 10 h, and-false (spelled l), and-false) refl

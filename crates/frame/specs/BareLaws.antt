-- A role whose kinds use neither n nor m reads every line of these kinds as one with no commands.
use Rattle.std.specs.Prelude.{ℕ, zero, suc, ◌-◌, ◌<◌, ◌≡◌, Bool, ◌&&◌, ◌||◌, ltb, length, take}
use Rattle.std.proofs.Common.{zero-le, ◌∙◌, true≢false}
use Rattle.std.proofs.Math.Path.{refl, sym, ap}
use Rattle.std.proofs.Math.Bool.{true, false, not, and-false}
use mathlib.Core.List.{List, [], ◌∷◌}
use Rattle.std.proofs.Math.Dec.{leb, eqb}
use Rattle.std.proofs.Math.ListN.{get_or}
use borrow.Author.Tests.{eqb-true, le-leb, ltb-true, not-true}
use Rattle.basics.specs.Bools.{and_left, and_right, implies, every_below, every_at}
use Rattle.roster.specs.Mask.{bit}
use Rattle.frame.specs.declared.Frame.{Frame}
use Rattle.frame.specs.Hex.{all_digits}
use Rattle.frame.specs.Layout.{values, count, line_length}
use Rattle.frame.specs.Kinds.{uses, is_kind, zero_unless, unused_zero}
use Rattle.frame.specs.Format.{line_feed, proper, frame_of, is_line, reading_of}

-- whether a kind uses neither n nor m, the fields 6 and 7; and whether each of these kinds (kind k is bit k) does so
unfoldable pub bare_kind : ℕ → Bool
bare_kind k = not (get_or (get_or uses k []) 6 true) && not (get_or (get_or uses k []) 7 true)

unfoldable pub bare_kinds : ℕ → Bool
bare_kinds kinds = every_below 11 (λ k. not (bit kinds k) || bare_kind k)

-- a field that a row doesn't use is 0
unused_at : (r : List Bool) (xs : List ℕ) (k : ℕ) → zero_unless r xs ≡ true → get_or r k true ≡ false → get_or xs k 0 ≡ 0
unfolding zero_unless
unused_at [] xs k z e = absurd (true≢false e)
unused_at (u ∷ us) [] k z e = refl
unused_at (u ∷ us) (x ∷ xs) zero z e =
    eqb-true x 0 (ap (λ (b : Bool). b || eqb x 0) (sym e) ∙ and_left (u || eqb x 0) (zero_unless us xs) z)
unused_at (u ∷ us) (x ∷ xs) (suc k) z e = unused_at us xs k (and_right (u || eqb x 0) (zero_unless us xs) z) e

-- so the limit is nothing to whether a frame of such a kind is proper
module _ (limit : ℕ) (f : Frame) (bare : is_kind f.kind ≡ true → bare_kind f.kind ≡ true) where
  none : is_kind f.kind ≡ true → unused_zero f ≡ true → (f.n ≡ 0) × (f.m ≡ 0)
  unfolding bare_kind unused_zero
  none k z =
      let row = get_or uses f.kind [] in (
        unused_at row (values f) 6 z (not-true (get_or row 6 true) (and_left (not (get_or row 6 true)) _ (bare k))),
        unused_at row (values f) 7 z (not-true (get_or row 7 true) (and_right (not (get_or row 6 true)) _ (bare k))),
      )

  bare_proper : proper 0 f ≡ proper limit f
  unfolding proper
  bare_proper = go (is_kind f.kind) (unused_zero f) refl refl
    where
      go : (k u : Bool) → is_kind f.kind ≡ k → unused_zero f ≡ u
          → (k && ((leb f.n 0 && leb f.m 0) && u)) ≡ (k && ((leb f.n limit && leb f.m limit) && u))
      go false u e z = refl
      go true false e z = and-false (leb f.n 0 && leb f.m 0) ∙ sym (and-false (leb f.n limit && leb f.m limit))
      go true true e z = let zeros = none e z in rw (zeros.0, zeros.1, le-leb 0 limit zero-le)

known_below : (k : ℕ) → is_kind k ≡ true → k < 11
unfolding is_kind uses
known_below k e = ltb-true k 11 (and_right (leb 1 k) (ltb k 11) e)

-- a role that takes such kinds alone reads a line under each limit as one with no commands
module _ (limit : ℕ) (l : List ℕ) (kinds : ℕ) (k : bare_kinds kinds ≡ true) where
  bare_line : bit kinds (frame_of l).kind ≡ true → is_line 0 l ≡ is_line limit l
  unfolding is_line bare_kinds
  bare_line taken =
      ap (λ (b : Bool). (all_digits (take (length l - 1) l) && eqb (get_or l (length l - 1) 0) line_feed) && (eqb (length l) (line_length (count (frame_of l))) && b))
      (bare_proper limit (frame_of l)
      (λ e. implies (bit kinds (frame_of l).kind) (bare_kind (frame_of l).kind) taken
      (every_at 11 (λ i. not (bit kinds i) || bare_kind i) k (frame_of l).kind (known_below (frame_of l).kind e))))

  pub bare_reading : reading_of 0 l kinds ≡ reading_of limit l kinds
  unfolding reading_of
  bare_reading = go (bit kinds (frame_of l).kind) refl
    where
      go : (b : Bool) → bit kinds (frame_of l).kind ≡ b → reading_of 0 l kinds ≡ reading_of limit l kinds
      go false e = rw (e, and-false (is_line 0 l), and-false (is_line limit l))
      go true e = rw (bare_line e)

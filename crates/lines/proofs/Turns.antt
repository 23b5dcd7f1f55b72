-- Bytes put into a buffer, as many as there is room for; and a line out of bytes.
use Prim.Native.Nat.{ℕ, suc, ◌+◌, ◌-◌, ◌≤◌, ◌<◌}
use native.Mathlib.Nat.{add-zero}
use native.Mathlib.Omega.{arith}
use mathlib.Core.Path.{◌≡◌, refl, sym, ap, ◌∙◌}
use mathlib.Core.Bool.{true, false}
use mathlib.Core.List.{List, [], ◌∷◌, append_assoc}
use mathlib.Core.Logic.{◌⊎◌, inl, inr}
use lib.Dec.{eqb, ltb}
use lib.ListN.{length, take, drop, length-take, drop_of_length-le}
use lib.Seq.{sets, drop-drop}
use borrow.Rule.Slice.PartMut.{put_mid}
use Rattle.std.specs.Prelude.{None, Some, position}
use Rattle.std.specs.List.{position_or_len}
use Rattle.std.proofs.Common.{take_all, length-take-le}
use Rattle.std.proofs.Math.Seq.{take-nil}
use Rattle.std.proofs.lemmas.Bool.Decides.{nat_tests}
use Rattle.std.proofs.lemmas.List.Edits.{sets-eq}
use borrow.Author.Tests.{ltb-false, lt-ltb}
use Rattle.basics.specs.Bools.{true_or_false}
use Rattle.frame.specs.Format.{line_feed}
use Rattle.lines.specs.declared.Pulled.{Pulled}
use Rattle.lines.specs.Lines.{through, ends, kept, kept_length, pulled}
use Rattle.lines.proofs.Digits.{some_when, none_when}
use Rattle.lines.specs.BufferLaws.{kept_none, length_none}

-- ---- text behind text

module _ (out : List ℕ) (n : ℕ) (text : List ℕ) where
  pub put_none : length out ≤ n → (n ≡ kept_length out n text) × (out ≡ kept out n text)
  unfolding kept kept_length
  put_none h = let e : length out - n ≡ 0 = omega arith in rw e (sym (add-zero n), refl)

  -- fit are the bytes of the text that there is room for, and copied what stands in their place then
  pub put_fit : (fit copied : List ℕ) → n < length out → fit ≡ take (length out - n) text → copied ≡ fit
      → (n + length fit ≡ kept_length out n text) × (put_mid n (n + length fit - n) out copied ≡ kept out n text)
  unfolding kept kept_length
  put_fit fit copied h f c =
      let short : n + length fit ≤ length out = omega (arith, ap length f, length-take (length out - n) text) in
      let size : n + (n + length fit - n) ≡ n + length fit = omega arith in
      let rest : drop (n + length fit - n) (drop n out) ≡ drop (n + length fit) out
      = drop-drop (n + length fit - n) n out ∙ ap (λ (k : ℕ). drop k out) size in
      let e : put_mid n (n + length fit - n) out copied ≡ sets out n fit = rw (c, rest) (sym (append_assoc (take n out) fit (drop (n + length fit) out)) ∙ sym (sets-eq fit out n short)) in
      (ap (λ (s : List ℕ). n + length s) f, e ∙ ap (sets out n) f)

-- ---- a line out of bytes

-- how many bytes come before the first line feed
abbrev before_feed : List ℕ → ℕ
before_feed bs = position_or_len (λ b. eqb b line_feed) bs

through_take : (bs : List ℕ) → through bs ≡ take (before_feed bs + 1) bs
unfolding through
through_take [] = sym (take-nil (before_feed [] + 1))
through_take (b ∷ bs) = go (true_or_false (eqb b line_feed)) (through_take bs)
  where
    go : (eqb b line_feed ≡ true) ⊎ (eqb b line_feed ≡ false) → through bs ≡ take (before_feed bs + 1) bs
        → through (b ∷ bs) ≡ take (before_feed (b ∷ bs) + 1) (b ∷ bs)
    go (inl e) ih = rw e refl
    go (inr e) ih =
        let more : 1 + before_feed bs + 1 ≡ suc (before_feed bs + 1) = omega arith in
        rw (e, more) (ap (λ (s : List ℕ). b ∷ s) ih)

one_more : (m n : ℕ) → ltb m n ≡ ltb (1 + m) (suc n)
one_more m n = grind (arith, nat_tests)

ends_at : (bs : List ℕ) → ends bs ≡ ltb (before_feed bs) (length bs)
unfolding ends
ends_at [] = refl
ends_at (b ∷ bs) = go (true_or_false (eqb b line_feed)) (ends_at bs)
  where
    go : (eqb b line_feed ≡ true) ⊎ (eqb b line_feed ≡ false) → ends bs ≡ ltb (before_feed bs) (length bs)
        → ends (b ∷ bs) ≡ ltb (before_feed (b ∷ bs)) (length (b ∷ bs))
    go (inl e) ih = rw e (sym (lt-ltb 0 (length (b ∷ bs)) (omega arith)))
    go (inr e) ih = rw e (ih ∙ one_more (before_feed bs) (length bs))

-- pulled from bytes, of which place i is the first: r and l' are what putting those through the first line feed answers and leaves
module _ (l : List ℕ) (n i : ℕ) (bs : List ℕ) (r : ℕ) (l' : List ℕ) where
  pub pull_ends : (k : ℕ) → Some k ≡ position (λ b. eqb b line_feed) bs → k < length bs
      → (r ≡ kept_length l n (take (k + 1) bs)) × (l' ≡ kept l n (take (k + 1) bs))
      → (◌≡◌ {A = Pulled} (record { len = r; next = i + k + 1; whole = true }) (pulled l n bs i)) × (l' ≡ kept l n (through bs))
  unfolding pulled
  pull_ends k e h p =
      let w = some_when (ltb (before_feed bs) (length bs)) (before_feed bs) k e in
      let t : through bs ≡ take (k + 1) bs = rw w.1 (through_take bs) in
      let len : r ≡ kept_length l n (through bs) = rw t p.0 in
      let next : i + k + 1 ≡ i + length (through bs) = rw t (omega (arith, length-take-le (k + 1) bs (omega arith))) in
      let whole : true ≡ ends bs = sym (ends_at bs ∙ w.0) in
      ((λ j. record { len = len j; next = next j; whole = whole j }), rw t p.1)

  pub pull_stops : None ≡ position (λ b. eqb b line_feed) bs → (r ≡ kept_length l n bs) × (l' ≡ kept l n bs)
      → (◌≡◌ {A = Pulled} (record { len = r; next = i + length bs; whole = false }) (pulled l n bs i)) × (l' ≡ kept l n (through bs))
  unfolding pulled
  pull_stops e p =
      let w = none_when (ltb (before_feed bs) (length bs)) (before_feed bs) e in
      let t : through bs ≡ bs = through_take bs ∙ take_all (before_feed bs + 1) bs (omega (arith, ltb-false (before_feed bs) (length bs) w)) in
      let len : r ≡ kept_length l n (through bs) = rw t p.0 in
      let next : i + length bs ≡ i + length (through bs) = rw t refl in
      let whole : false ≡ ends bs = sym (ends_at bs ∙ w) in
      ((λ j. record { len = len j; next = next j; whole = whole j }), rw t p.1)

-- and from none
pub pull_none : (l : List ℕ) (n : ℕ) (bytes : List ℕ) (i : ℕ) → length bytes ≤ i
    → (◌≡◌ {A = Pulled} (record { len = n; next = i; whole = false }) (pulled l n (drop i bytes) i)) × (l ≡ kept l n (through (drop i bytes)))
unfolding pulled through ends
pull_none l n bytes i h = rw (drop_of_length-le bytes h, length_none l n, kept_none l n, add-zero i) (refl, refl)

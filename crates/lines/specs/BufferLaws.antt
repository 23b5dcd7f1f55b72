-- Laws of bytes put behind those that are in use in a buffer.
use Rattle.std.specs.Prelude.{ℕ, zero, suc, ◌+◌, ◌-◌, ◌≤◌, ◌<◌, ◌≡◌, take, drop, set}
use Rattle.std.proofs.Common.{add-zero, add-suc, suc-add, arith, sym, ap₂, ◌∙◌, take_all, take_at, length-take-le}
use Rattle.std.proofs.Math.Nat.{zero-sub, sub-zero, suc-sub-suc}
use Rattle.std.proofs.Math.Path.{ap}
use mathlib.Core.List.{List, [], ◌∷◌, ◌++◌}
use Rattle.std.proofs.Math.ListN.{length, length-append, length-take}
use Rattle.std.proofs.Math.Seq.{sets, take-nil, length-sets}
use Rattle.std.proofs.lemmas.List.Edits.{sets-eq}
use native.Mathlib.Decide.{dec_lt}
use mathlib.Core.Bool.{cond}
use lib.Dec.{ltb}
use borrow.Author.Tests.{lt-ltb, le-ltb}
use Rattle.lines.specs.Lines.{pushed, pushed_length, kept, kept_length}

-- stores behind stores are the stores of both
pub sets_append : (l : List ℕ) (i : ℕ) (a b : List ℕ) → sets (sets l i a) (i + length a) b ≡ sets l i (a ++ b)
sets_append l i [] b = ap (λ (k : ℕ). sets l k b) (add-zero i)
sets_append l i (x ∷ a) b =
    ap (λ (k : ℕ). sets (sets (set l i x) (suc i) a) k b) (add-suc i (length a) ∙ sym (suc-add i (length a)))
    ∙ sets_append (set l i x) (suc i) a b

-- the first m of one list and another: those of the first, and of the second as many as are left
take_of_append : (m : ℕ) (a b : List ℕ) → take m (a ++ b) ≡ take m a ++ take (m - length a) b
take_of_append m [] b = ap₂ (λ (x : List ℕ) (k : ℕ). x ++ take k b) (sym (take-nil m)) (sym (sub-zero m))
take_of_append zero (x ∷ a) b = ap (λ (k : ℕ). take k b) (sym (zero-sub (suc (length a))))
take_of_append (suc m) (x ∷ a) b =
    ap (λ (s : List ℕ). x ∷ s) (take_of_append m a b ∙ ap (λ (k : ℕ). take m a ++ take k b) (sym (suc-sub-suc m (length a))))

pub length_kept : (l : List ℕ) (n : ℕ) (bs : List ℕ) → length (kept l n bs) ≡ length l
unfolding kept
length_kept l n bs = length-sets l n (take (length l - n) bs)

-- to put one byte is to push it
module _ (l : List ℕ) (n b : ℕ) where
  pub kept_one : kept l n (b ∷ []) ≡ pushed l n b
  unfolding kept pushed
  kept_one = go (dec_lt n (length l))
    where
      go : Dec (n < length l) → sets l n (take (length l - n) (b ∷ [])) ≡ cond (ltb n (length l)) (set l n b) l
      go (yes h) = let e : length l - n ≡ suc (length l - n - 1) = omega arith in rw (lt-ltb n (length l) h, e, take-nil {A = ℕ} (length l - n - 1))
      go (no h) = let e : length l - n ≡ 0 = omega arith in rw (le-ltb n (length l) (omega arith), e)

  pub length_one : kept_length l n (b ∷ []) ≡ pushed_length l n
  unfolding kept_length pushed_length
  length_one = go (dec_lt n (length l))
    where
      go : Dec (n < length l) → n + length (take (length l - n) (b ∷ [])) ≡ cond (ltb n (length l)) (n + 1) n
      go (yes h) = let e : length l - n ≡ suc (length l - n - 1) = omega arith in rw (lt-ltb n (length l) h, e, take-nil {A = ℕ} (length l - n - 1))
      go (no h) = let e : length l - n ≡ 0 = omega arith in rw (le-ltb n (length l) (omega arith), e) (add-zero n)

-- to put none changes nothing
pub kept_none : (l : List ℕ) (n : ℕ) → kept l n [] ≡ l
unfolding kept
kept_none l n = ap (sets l n) (take-nil (length l - n))

pub length_none : (l : List ℕ) (n : ℕ) → kept_length l n [] ≡ n
unfolding kept_length
length_none l n = ap (λ (s : List ℕ). n + length s) (take-nil (length l - n)) ∙ add-zero n

-- bytes behind bytes are those of both
module _ (l : List ℕ) (n : ℕ) (a b : List ℕ) where
  left : length (kept l n a) - kept_length l n a ≡ length l - n - length a
  unfolding kept_length
  left = omega (arith, length_kept l n a, length-take (length l - n) a)

  pub kept_append : kept (kept l n a) (kept_length l n a) b ≡ kept l n (a ++ b)
  unfolding kept kept_length
  kept_append =
      ap (λ (k : ℕ). sets (sets l n (take (length l - n) a)) (n + length (take (length l - n) a)) (take k b)) left
      ∙ sets_append l n (take (length l - n) a) (take (length l - n - length a) b)
      ∙ ap (sets l n) (sym (take_of_append (length l - n) a b))

  pub length_append_kept : kept_length (kept l n a) (kept_length l n a) b ≡ kept_length l n (a ++ b)
  unfolding kept_length
  length_append_kept =
      ap (λ (k : ℕ). n + length (take (length l - n) a) + length (take k b)) left
      ∙ omega (arith, ap length (take_of_append (length l - n) a b), length-append (take (length l - n) a) (take (length l - n - length a) b))

-- where there is room for all, all are put
module _ (l : List ℕ) (n : ℕ) (bs : List ℕ) (fits : n + length bs ≤ length l) where
  pub kept_all : kept l n bs ≡ sets l n bs
  unfolding kept
  kept_all = ap (sets l n) (take_all (length l - n) bs (omega arith))

  pub length_all : kept_length l n bs ≡ n + length bs
  unfolding kept_length
  length_all = ap (λ (s : List ℕ). n + length s) (take_all (length l - n) bs (omega arith))

-- the bytes in use then are those that were, and those that there was room for
pub kept_front : (l : List ℕ) (n : ℕ) (bs : List ℕ) → n ≤ length l → take (kept_length l n bs) (kept l n bs) ≡ take n l ++ take (length l - n) bs
unfolding kept kept_length
kept_front l n bs h =
    let v = take (length l - n) bs in
    let front = take n l ++ v in
    let rest = drop (n + length v) l in
    let size : length front ≡ n + length v = length-append (take n l) v ∙ ap (λ (k : ℕ). k + length v) (length-take-le n l h) in
    ap (take (n + length v)) (sets-eq v l n (omega (arith, length-take (length l - n) bs)))
    ∙ take_at front rest (n + length v) size

-- so with all of them, where there is room for all
pub all_front : (l : List ℕ) (n : ℕ) (bs : List ℕ) → n + length bs ≤ length l → take (n + length bs) (sets l n bs) ≡ take n l ++ bs
all_front l n bs fits =
    ap₂ take (sym (length_all l n bs fits)) (sym (kept_all l n bs fits))
    ∙ kept_front l n bs (omega arith)
    ∙ ap (λ (v : List ℕ). take n l ++ v) (take_all (length l - n) bs (omega arith))

-- and of a line u, of which as much is kept as there is room for, and more of it, as much is kept as there is room for
pub kept_line : (l : List ℕ) (n : ℕ) (u bs : List ℕ) → take n l ≡ take (length l) u → n ≡ length (take (length l) u)
    → (take (kept_length l n bs) (kept l n bs) ≡ take (length l) (u ++ bs)) × (kept_length l n bs ≡ length (take (length l) (u ++ bs)))
unfolding kept_length
kept_line l n u bs e size =
    let few : n ≤ length l = omega (arith, length-take (length l) u) in
    let left : length l - n ≡ length l - length u = omega (arith, length-take (length l) u) in
    let both : take n l ++ take (length l - n) bs ≡ take (length l) (u ++ bs)
    = rw (e, left) (sym (take_of_append (length l) u bs)) in (
      kept_front l n bs few ∙ both,
      omega (arith, ap length both, length-append (take n l) (take (length l - n) bs), length-take-le n l few),
    )

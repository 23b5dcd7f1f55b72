-- Lists: where one is cut, and zeros.
use Rattle.std.specs.Prelude.{◌≡◌, List, [], ◌∷◌, ◌++◌, ℕ, zero, suc, ◌+◌, ◌-◌, ◌<◌, length, take, drop, get_or, replicate}
use Rattle.std.proofs.Common.{sym, ap, ◌∙◌, add-one, drop-cons, take-suc}
use Rattle.std.proofs.Math.Nat.{sub-zero, zero-sub, suc-sub-suc}
use Rattle.std.proofs.Math.Seq.{take-nil}

-- the list from i on: the element at i, and the list from i + 1 on
pub drop_next : (l : List ℕ) (i : ℕ) → i < length l → drop i l ≡ get_or l i 0 ∷ drop (i + 1) l
drop_next l i p = rw add-one (drop-cons l i 0 p)

-- the list up to i + 1: the list up to i, and the element at i
pub take_next : (l : List ℕ) (i : ℕ) → i < length l → take (i + 1) l ≡ take i l ++ get_or l i 0 ∷ []
take_next l i p = rw add-one (take-suc l i 0 p)

-- what is cut off at the front and at the end may be cut off in either order
pub drop_take : (m n : ℕ) (l : List ℕ) → drop m (take n l) ≡ take (n - m) (drop m l)
drop_take zero n l = ap (λ (k : ℕ). take k l) (sym (sub-zero n))
drop_take (suc m) zero l = ap (λ (k : ℕ). take k (drop (suc m) l)) (sym (zero-sub (suc m)))
drop_take (suc m) (suc n) [] = sym (take-nil (suc n - suc m))
drop_take (suc m) (suc n) (c ∷ l) = drop_take m n l ∙ ap (λ (k : ℕ). take k (drop m l)) (sym (suc-sub-suc n m))

-- zeros from k on are zeros
pub drop_zeros : (k n : ℕ) → ◌≡◌ {A = List ℕ} (drop k (replicate n 0)) (replicate (n - k) 0)
drop_zeros zero n = ap (λ (j : ℕ). replicate {A = ℕ} j 0) (sym (sub-zero n))
drop_zeros (suc k) zero = ap (λ (j : ℕ). replicate {A = ℕ} j 0) (sym (zero-sub (suc k)))
drop_zeros (suc k) (suc n) = drop_zeros k n ∙ ap (λ (j : ℕ). replicate {A = ℕ} j 0) (sym (suc-sub-suc n k))

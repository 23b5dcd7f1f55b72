-- Laws of lists of words.
use Rattle.std.specs.Prelude.{◌≡◌, refl, List, [], ◌∷◌, ◌++◌, ℕ, zero, suc, ◌-◌, ◌≤◌, length, take, drop, replicate}
use Rattle.std.proofs.Common.{ap, ◌∙◌, arith, length-take}
use Rattle.std.proofs.Math.Nat.{sub-zero}
use Rattle.words.specs.Words.{padded, cleared}

pub length_padded : (n : ℕ) (l : List ℕ) → length (padded n l) ≡ n
unfolding padded
length_padded zero l = refl
length_padded (suc n) l = ap suc (length_padded n (drop 1 l))

-- a list that fits is there whole, and zeros after it
pub take_padded : (n : ℕ) (l : List ℕ) → length l ≤ n → take (length l) (padded n l) ≡ l
unfolding padded
take_padded n [] p = refl
take_padded zero (c ∷ l) p = absurd (omega arith)
take_padded (suc n) (c ∷ l) p = ap (λ (x : List ℕ). c ∷ x) (take_padded n l (omega arith))

pub padded_whole : (l : List ℕ) → padded (length l) l ≡ l
unfolding padded
padded_whole [] = refl
padded_whole (c ∷ l) = ap (λ (x : List ℕ). c ∷ x) (padded_whole l)

pub padded_zeros : (n : ℕ) (l : List ℕ) → length l ≤ n → l ++ replicate (n - length l) 0 ≡ padded n l
unfolding padded
padded_zeros n [] p = rw sub-zero (zeros n)
  where
    zeros : (n : ℕ) → replicate n 0 ≡ padded n []
    zeros zero = refl
    zeros (suc n) = ap (λ (x : List ℕ). 0 ∷ x) (zeros n)
padded_zeros zero (c ∷ l) p = absurd (omega arith)
padded_zeros (suc n) (c ∷ l) p =
    let e : suc n - length (c ∷ l) ≡ n - length l = omega arith in
    rw e (ap (λ (x : List ℕ). c ∷ x) (padded_zeros n l (omega arith)))

-- of a longer one the first words are
pub padded_first : (n : ℕ) (l : List ℕ) → padded n (take n l) ≡ padded n l
unfolding padded
padded_first zero l = refl
padded_first (suc n) [] = refl
padded_first (suc n) (c ∷ l) = ap (λ (x : List ℕ). c ∷ x) (padded_first n l)

-- a list whose first words were copied, as many as fit, and whose rest was cleared
pub filled : (d s fit : List ℕ) (n : ℕ) → length d ≡ n → fit ≡ take n s → take (length fit) d ≡ fit → cleared d (length fit) ≡ padded n s
unfolding cleared
filled d s fit n e f c =
    let size : length fit ≤ n = omega (arith, simp length-take at (ap length f)) in
    rw (c, e) (padded_zeros n fit size ∙ ap (padded n) f ∙ padded_first n s)

-- A test of all numbers below n, and the same over the list of a range.
use Rattle.std.specs.Prelude.{◌≡◌, refl, Bool, ◌&&◌, ℕ, zero, suc, ◌+◌}
use Rattle.std.specs.List.{list_all, range_with_len}
use Rattle.std.proofs.Common.{sym, ap, ◌∙◌, arith, add-zero}
use Rattle.std.proofs.Math.Bool.{and-true, and_assoc}
use Rattle.roster.specs.Sites.{all_to}

module _ (p : ℕ → Bool) where
  -- the last of a range apart
  all_last : (a n : ℕ) → list_all p (range_with_len a (suc n)) ≡ (list_all p (range_with_len a n) && p (a + n))
  all_last a zero = rw add-zero (and-true (p a))
  all_last a (suc n) =
      let place : a + 1 + n ≡ a + suc n = omega arith in
      ap (λ b. p a && b) (all_last (a + 1) n) ∙ rw place (sym (and_assoc (p a) (list_all p (range_with_len (a + 1) n)) (p (a + suc n))))

  pub all_range : (n : ℕ) → all_to n p ≡ list_all p (range_with_len 0 n)
  unfolding all_to
  all_range zero = refl
  all_range (suc n) = ap (λ b. b && p n) (all_range n) ∙ sym (all_last 0 n ∙ zero_place)
    where
      zero_place : (list_all p (range_with_len 0 n) && p (0 + n)) ≡ (list_all p (range_with_len 0 n) && p n)
      zero_place = let e : 0 + n ≡ n = omega arith in rw e

-- The laws of counting over sites: none, one more, where a scan stops early, what all and some say of each site, and how two sets
-- compare. A loop over sites counts up from 0, so "one more" is also stated at the code's `n + 1`.
use Rattle.std.specs.Prelude.{ℕ, zero, suc, ◌+◌, ◌*◌, ◌^◌, ◌≤◌, ◌<◌, ◌≡◌, refl, ◌⊎◌, Bool, true, false, not, ◌&&◌}
use Rattle.std.proofs.Common.{zero-le, sym, ap, ap₂, ◌∙◌, ⊎_elim, true≢false, le_refl, le_of_eq, lt-suc_self, not-suc-le-zero, le_of_suc-le-suc, eq-or-lt_of_le, add-zero, zero-mul, zero-add, add-one, arith}
use Rattle.std.proofs.Math.Nat.{le_step}
use Rattle.basics.specs.Bools.{and_left, and_right, and_both, true_or_false}
use Rattle.roster.specs.Sites.{to_nat, count_to, all_to, mask_to}

-- ---- tests as numbers

pub to_nat_le : (b : Bool) → to_nat b ≤ 1
to_nat_le true = le_refl 1
to_nat_le false = zero-le

to_nat_mono : (a b : Bool) → (a ≡ true → b ≡ true) → to_nat a ≤ to_nat b
to_nat_mono true b h = le_of_eq (sym (ap to_nat (h refl)))
to_nat_mono false b h = zero-le

to_nat_both : (a b : Bool) → to_nat a + to_nat b ≤ 1 + to_nat (a && b)
to_nat_both true b = le_refl (1 + to_nat b)
to_nat_both false b = omega (arith, to_nat_le b)

to_nat_not : (b : Bool) → to_nat b + to_nat (not b) ≡ 1
to_nat_not true = refl
to_nat_not false = refl

-- below n + 1, a number is n or below n
pub last_or_below : {i n : ℕ} → i < suc n → (i ≡ n) ⊎ (i < n)
last_or_below h = eq-or-lt_of_le (le_of_suc-le-suc h)

-- ---- how many

-- none, and one more
pub count_zero : (p : ℕ → Bool) → count_to 0 p ≡ 0
unfolding count_to
count_zero p = refl

pub count_suc : (n : ℕ) (p : ℕ → Bool) → count_to (suc n) p ≡ count_to n p + to_nat (p n)
unfolding count_to
count_suc n p = refl

-- one more site at the code's n + 1: one that has p, and one that has not
pub count_hit : (n : ℕ) (p : ℕ → Bool) → p n ≡ true → count_to (n + 1) p ≡ count_to n p + 1
count_hit n p e = ap (λ (k : ℕ). count_to k p) (add-one n) ∙ count_suc n p ∙ ap (λ (b : Bool). count_to n p + to_nat b) e

pub count_miss : (n : ℕ) (p : ℕ → Bool) → p n ≡ false → count_to (n + 1) p ≡ count_to n p
count_miss n p e =
    ap (λ (k : ℕ). count_to k p) (add-one n) ∙ count_suc n p ∙ ap (λ (b : Bool). count_to n p + to_nat b) e ∙ add-zero (count_to n p)

-- no more than there are sites; more where more have it; as many where the same have it
pub count_le : (n : ℕ) (p : ℕ → Bool) → count_to n p ≤ n
unfolding count_to
count_le zero p = zero-le
count_le (suc n) p = omega (arith, count_le n p, to_nat_le (p n))

pub count_mono : (n : ℕ) (p q : ℕ → Bool) → ((i : ℕ) → i < n → p i ≡ true → q i ≡ true) → count_to n p ≤ count_to n q
unfolding count_to
count_mono zero p q h = zero-le
count_mono (suc n) p q h =
    omega (arith, count_mono n p q (λ i l. h i (le_step l)), to_nat_mono (p n) (q n) (h n (lt-suc_self n)))

pub count_cong : (n : ℕ) (p q : ℕ → Bool) → ((i : ℕ) → i < n → p i ≡ q i) → count_to n p ≡ count_to n q
unfolding count_to
count_cong zero p q h = refl
count_cong (suc n) p q h = ap₂ (λ (k : ℕ) (b : Bool). k + to_nat b) (count_cong n p q (λ i l. h i (le_step l))) (h n (lt-suc_self n))

-- some site has p, if any is counted
pub count_some : (n : ℕ) (p : ℕ → Bool) → 0 < count_to n p → (i : ℕ) × (i < n) × (p i ≡ true)
unfolding count_to
count_some zero p h = absurd (not-suc-le-zero h)
count_some (suc n) p h =
    ⊎_elim (λ e. (n, lt-suc_self n, e))
    (λ e. let s = count_some n p (omega (arith, h, ap to_nat e)) in (s.0, le_step s.1, s.2))
    (true_or_false (p n))

-- those that have p and those that have q share all but n of their number
pub count_both : (n : ℕ) (p q : ℕ → Bool) → count_to n p + count_to n q ≤ n + count_to n (λ i. p i && q i)
unfolding count_to
count_both zero p q = zero-le
count_both (suc n) p q = omega (arith, count_both n p q, to_nat_both (p n) (q n))

-- each site has p or has not
pub count_not : (n : ℕ) (p : ℕ → Bool) → count_to n p + count_to n (λ i. not (p i)) ≡ n
unfolding count_to
count_not zero p = refl
count_not (suc n) p = omega (arith, count_not n p, to_nat_not (p n))

-- ---- whether all

-- none, and one more
pub all_zero_lem : (p : ℕ → Bool) → all_to 0 p ≡ true
unfolding all_to
all_zero_lem p = refl

pub all_suc : (n : ℕ) (p : ℕ → Bool) → all_to (suc n) p ≡ (all_to n p && p n)
unfolding all_to
all_suc n p = refl

-- one more site that has p
pub all_hit : (n : ℕ) (p : ℕ → Bool) → all_to n p ≡ true → p n ≡ true → all_to (n + 1) p ≡ true
all_hit n p a e = ap (λ (k : ℕ). all_to k p) (add-one n) ∙ all_suc n p ∙ and_both (all_to n p) (p n) a e

-- all have p exactly where each has
pub all_each : (n : ℕ) (p : ℕ → Bool) → all_to n p ≡ true → (i : ℕ) → i < n → p i ≡ true
unfolding all_to
all_each zero p a i l = absurd (not-suc-le-zero l)
all_each (suc n) p a i l =
    ⊎_elim (λ s. ap p s ∙ and_right (all_to n p) (p n) a) (all_each n p (and_left (all_to n p) (p n) a) i) (last_or_below l)

pub each_all : (n : ℕ) (p : ℕ → Bool) → ((i : ℕ) → i < n → p i ≡ true) → all_to n p ≡ true
unfolding all_to
each_all zero p h = refl
each_all (suc n) p h = and_both (all_to n p) (p n) (each_all n p (λ i l. h i (le_step l))) (h n (lt-suc_self n))

-- an early stop: one site has not p
pub all_stop : (n : ℕ) (p : ℕ → Bool) (i : ℕ) → i < n → p i ≡ false → all_to n p ≡ false
all_stop n p i l e = ⊎_elim (λ a. absurd (true≢false (sym (all_each n p a i l) ∙ e))) (λ a. a) (true_or_false (all_to n p))

-- ---- the mask

-- none, and one more; what gathers one that has p is `with_mask` of MaskLaws
pub mask_zero : (p : ℕ → Bool) → mask_to 0 p ≡ 0
unfolding mask_to
mask_zero p = refl

pub mask_suc : (n : ℕ) (p : ℕ → Bool) → mask_to (suc n) p ≡ to_nat (p n) * 2 ^ n + mask_to n p
unfolding mask_to
mask_suc n p = refl

-- one more site that has not p
pub mask_miss : (n : ℕ) (p : ℕ → Bool) → p n ≡ false → mask_to (n + 1) p ≡ mask_to n p
mask_miss n p e =
    ap (λ (k : ℕ). mask_to k p) (add-one n) ∙ mask_suc n p ∙ ap (λ (b : Bool). to_nat b * 2 ^ n + mask_to n p) e
    ∙ ap (λ (k : ℕ). k + mask_to n p) (zero-mul (2 ^ n)) ∙ zero-add (mask_to n p)

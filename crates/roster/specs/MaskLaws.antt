-- The laws of masks: a mask's ones are the sites whose bit is set; what `beyond` says of each site; the mask of a set of sites; and
-- the mask with one site more.
use Rattle.std.specs.Prelude.{ℕ, zero, suc, ◌+◌, ◌*◌, ◌/◌, ◌%◌, ◌^◌, ◌≤◌, ◌<◌, ◌≡◌, refl, ◌↔◌, ◌≢◌, Bool, true, false, not, cond, ◌&&◌, ◌||◌, leb, ltb, eqb}
use Rattle.std.proofs.Common.{zero-le, sym, ap, ap₂, ◌∙◌, subst, ⊎_elim, le_trans, le-add_right, lt_of_lt_of_le, not-suc-le-zero, zero-lt-suc, mod-lt, mod-eq_of_lt, pow-suc, mul_comm, add-zero, add_comm, le_of_eq, lt_irrefl, le-add_left, le_refl, lt-suc_self, le-div_iff_mul-le, one-mul, add-suc, add-mul, add-one, arith, pow_pos, pow_mono, shr-shr, shr_lt, leb-true, leb-false, le-leb, lt-ltb, le-ltb}
use Rattle.std.proofs.Math.Bool.{and-false, or-true, or-false}
use Rattle.std.proofs.lemmas.Bool.{false≢true, lt-leb, not-false}
use Rattle.std.proofs.Math.Nat.{le_dest, div-eq_of_lt}
use Rattle.std.proofs.Math.Decide.{ℕ_discrete}
use Rattle.std.proofs.Math.Arith.{lt-one, digits_lt, lt_of_le-ne}
use Rattle.std.specs.Int.Bits.{bit_or, bit_and, or_add_and}
use Rattle.std.proofs.lemmas.Nat.Bits.{and_high}
use Rattle.std.proofs.lemmas.Nat.{or_shr, or_mod, or_lt, ones_cat}
use Rattle.std.specs.Int.Count.{ones, ones_in, ones_step}
use Rattle.std.proofs.Math.Pow.{split, high, low, field, mod-mod-pow, high_ones, pow-lt}
use Rattle.basics.specs.Bools.{lt_or_le, true_or_false, or_left as or_first, or_right as or_second}
use Rattle.roster.specs.Sites.{to_nat, count_to, mask_to}
use Rattle.roster.specs.SitesLaws.{last_or_below, to_nat_le, count_cong, mask_suc}
use Rattle.roster.specs.Mask.{bit, reaches, beyond, unproven, with_site}

-- ---- a bit

-- a bit as a digit, 0 or 1
digit : (x : ℕ) → x < 2 → to_nat (eqb x 1) ≡ x
digit zero h = refl
digit (suc zero) h = refl
digit (suc (suc x)) h = omega arith

bit_of : (b : Bool) → bit (to_nat b) 0 ≡ b
unfolding bit
bit_of true = refl
bit_of false = refl

pub bit_digit : (m i : ℕ) → to_nat (bit m i) ≡ m / 2 ^ i % 2
unfolding bit
bit_digit m i = digit (m / 2 ^ i % 2) (mod-lt (m / 2 ^ i) (zero-lt-suc 1))

-- no bit at n or above, in a number below 2 ^ n
pub bit_out : (m n i : ℕ) → m < 2 ^ n → n ≤ i → bit m i ≡ false
unfolding bit
bit_out m n i h l = ap (λ (x : ℕ). eqb (x % 2) 1) (div-eq_of_lt (lt_of_lt_of_le h (pow_mono l)))

-- bits of hi * 2 ^ k + lo: those from k on are hi's, those below k are lo's
bit_high : (hi k d : ℕ) {lo : ℕ} → lo < 2 ^ k → bit (hi * 2 ^ k + lo) (k + d) ≡ bit hi d
unfolding bit
bit_high hi k d {lo} h =
    ap (λ (x : ℕ). eqb (x % 2) 1) (sym (shr-shr (hi * 2 ^ k + lo) k d) ∙ ap (λ (x : ℕ). x / 2 ^ d) (high hi k h))

bit_mod : (m n i : ℕ) → i < n → bit (m % 2 ^ n) i ≡ bit m i
unfolding bit
bit_mod m n i l =
    let k = le_dest l in
    let e : n ≡ (k.0 + 1) + i = omega (arith, k.1) in
    ap (λ (x : ℕ). eqb (x % 2) 1) (ap (λ (x : ℕ). m % 2 ^ x / 2 ^ i) e ∙ field m (k.0 + 1) i)
    ∙ ap (λ (x : ℕ). eqb x 1) (mod-mod-pow (m / 2 ^ i) k.0 1)

bit_low : (hi k i : ℕ) {lo : ℕ} → lo < 2 ^ k → i < k → bit (hi * 2 ^ k + lo) i ≡ bit lo i
bit_low hi k i {lo} h l = sym (bit_mod (hi * 2 ^ k + lo) k i l) ∙ ap (λ (x : ℕ). bit x i) (low hi k h)

-- the top digit of a number below 2 ^ (n + 1)
top_lt : (m n : ℕ) → m < 2 ^ suc n → m / 2 ^ n < 2
top_lt m n h = shr_lt 1 n (subst (λ (x : ℕ). m < 2 ^ x) (omega arith) h)

top_bit : (m n : ℕ) → m < 2 ^ suc n → to_nat (bit m n) ≡ m / 2 ^ n
top_bit m n h = bit_digit m n ∙ mod-eq_of_lt (top_lt m n h)

to_nat_pos : (b : Bool) → 0 < to_nat b → b ≡ true
to_nat_pos true h = refl
to_nat_pos false h = absurd (not-suc-le-zero h)

shift_pos : (m n : ℕ) → 2 ^ n ≤ m → 0 < m / 2 ^ n
shift_pos m n l = (le-div_iff_mul-le {k = 2 ^ n} {x = 1} (pow_pos n)).1 (le_trans (le_of_eq (one-mul (2 ^ n))) l)

bit_top : (m n : ℕ) → 2 ^ n ≤ m → m < 2 ^ suc n → bit m n ≡ true
bit_top m n l h = to_nat_pos (bit m n) (subst (λ (x : ℕ). 0 < x) (sym (top_bit m n h)) (shift_pos m n l))

-- ---- counting ones

ones_digit : (x : ℕ) → x < 2 → ones x ≡ x
unfolding ones ones_in
ones_digit zero h = refl
ones_digit (suc zero) h = refl
ones_digit (suc (suc x)) h = omega arith

-- the ones of a mask are the sites whose bit is set
pub ones_count : (n mask : ℕ) → mask < 2 ^ n → ones mask ≡ count_to n (bit mask)
unfolding count_to ones ones_in
ones_count zero mask h = ap ones (lt-one h)
ones_count (suc n) mask h =
    let lo : mask % 2 ^ n < 2 ^ n = mod-lt mask (pow_pos n) in
    ap ones (sym (split mask n)) ∙ ones_cat n (mask / 2 ^ n) (mask % 2 ^ n) lo ∙ add_comm (ones (mask / 2 ^ n)) (ones (mask % 2 ^ n))
    ∙ ap₂ ◌+◌ (ones_count n (mask % 2 ^ n) lo ∙ count_cong n (bit (mask % 2 ^ n)) (bit mask) (λ i l. bit_mod mask n i l))
    (ones_digit (mask / 2 ^ n) (top_lt mask n h) ∙ sym (top_bit mask n h))

-- ---- the mask of a set of sites

-- it fits n bits; its bits below n are p's, and it has none from n on
pub mask_lt : (n : ℕ) (p : ℕ → Bool) → mask_to n p < 2 ^ n
unfolding mask_to
mask_lt zero p = zero-lt-suc 0
mask_lt (suc n) p =
    subst (λ (x : ℕ). to_nat (p n) * 2 ^ n + mask_to n p < x) (mul_comm 2 (2 ^ n) ∙ sym (pow-suc 2 n)) (digits_lt (omega (arith, to_nat_le (p n))) (mask_lt n p))

pub mask_bit : (n : ℕ) (p : ℕ → Bool) (i : ℕ) → i < n → bit (mask_to n p) i ≡ p i
unfolding mask_to
mask_bit zero p i l = absurd (not-suc-le-zero l)
mask_bit (suc n) p i l =
    ⊎_elim
    (λ s.
    ap (λ (j : ℕ). bit (mask_to (suc n) p) j) (s ∙ sym (add-zero n)) ∙ bit_high (to_nat (p n)) n 0 (mask_lt n p) ∙ bit_of (p n) ∙ ap p (sym s))
    (λ k. bit_low (to_nat (p n)) n i (mask_lt n p) k ∙ mask_bit n p i k)
    (last_or_below l)

pub mask_bit_out : (n : ℕ) (p : ℕ → Bool) (i : ℕ) → n ≤ i → bit (mask_to n p) i ≡ false
mask_bit_out n p i l = bit_out (mask_to n p) n i (mask_lt n p) l

-- its bits are exactly the sites below n that have p
pub mask_bit_is : (n : ℕ) (p : ℕ → Bool) (i : ℕ) → bit (mask_to n p) i ≡ (ltb i n && p i)
mask_bit_is n p i =
    ⊎_elim (λ l. mask_bit n p i l ∙ ap (λ (b : Bool). b && p i) (sym (lt-ltb i n l)))
    (λ l. mask_bit_out n p i l ∙ ap (λ (b : Bool). b && p i) (sym (le-ltb i n l)))
    (lt_or_le i n)

-- ---- enough ones: at least t, of the mask, of the first n sites

pub reaches_iff : (mask t : ℕ) → (reaches mask t ≡ true) ↔ (t ≤ ones mask)
unfolding reaches
reaches_iff mask t = (leb-true t (ones mask), le-leb t (ones mask))

pub reaches_count : (n mask t : ℕ) → mask < 2 ^ n → reaches mask t ≡ leb t (count_to n (bit mask))
unfolding reaches
reaches_count n mask t h = ap (leb t) (ones_count n mask h)

-- ---- bits at n or above

-- there is none exactly where the mask is below 2 ^ n
pub beyond_false : (mask n : ℕ) → (beyond mask n ≡ false) ↔ (mask < 2 ^ n)
unfolding beyond
beyond_false mask n = (leb-false (2 ^ n) mask, lt-leb (2 ^ n) mask)

-- the highest set bit of a mask that is no less than 2 ^ n stands at n or above; d is how far above at most
highest : (mask n d : ℕ) → 2 ^ n ≤ mask → mask < 2 ^ (n + d) → (i : ℕ) × (n ≤ i) × (bit mask i ≡ true)
highest mask n zero l h = absurd (lt_irrefl mask (lt_of_lt_of_le h (le_trans (pow_mono (le_of_eq (add-zero n))) l)))
highest mask n (suc d) l h =
    ⊎_elim (highest mask n d l)
    (λ t. (n + d, le-add_right n d, bit_top mask (n + d) t (subst (λ (x : ℕ). mask < 2 ^ x) (add-suc n d) h)))
    (lt_or_le mask (2 ^ (n + d)))

lt_two_pow : (n : ℕ) → n < 2 ^ n
lt_two_pow zero = zero-lt-suc 0
lt_two_pow (suc n) = subst (λ (x : ℕ). suc n < x) (sym (pow-suc 2 n)) (omega (arith, lt_two_pow n))

-- a mask has a bit at n or above exactly where some site from n on has its bit set
pub beyond_iff : (mask n : ℕ) → (beyond mask n ≡ true) ↔ ((i : ℕ) × (n ≤ i) × (bit mask i ≡ true))
unfolding beyond
beyond_iff mask n = (
  λ e. highest mask n mask (leb-true (2 ^ n) mask e) (lt_of_lt_of_le (lt_two_pow mask) (pow_mono (le-add_left mask n))),
  λ s.
      ⊎_elim (λ l. absurd (false≢true (sym (bit_out mask n s.0 l s.1) ∙ s.2))) (le-leb (2 ^ n) mask) (lt_or_le mask (2 ^ n)),
)

-- what is left of the mask when its n lowest bits are shifted out tells the same
pub beyond_shift : (mask n : ℕ) → beyond mask n ≡ leb 1 (mask / 2 ^ n)
unfolding beyond
beyond_shift mask n =
    ⊎_elim (λ l. lt-leb (2 ^ n) mask l ∙ sym (ap (leb 1) (div-eq_of_lt l)))
    (λ l. le-leb (2 ^ n) mask l ∙ sym (le-leb 1 (mask / 2 ^ n) (shift_pos mask n l)))
    (lt_or_le mask (2 ^ n))

-- a mask of k bits has none at n or above, for n from k on
pub beyond_wide : (k mask n : ℕ) → mask < 2 ^ k → k ≤ n → beyond mask n ≡ false
beyond_wide k mask n h l = (beyond_false mask n).1 (lt_of_lt_of_le h (pow_mono l))

-- where there is none, the ones are sites below n
pub inside_ones : (mask n : ℕ) → beyond mask n ≡ false → ones mask ≡ count_to n (bit mask)
inside_ones mask n e = ones_count n mask ((beyond_false mask n).0 e)

-- PROOF is not given where no bit is "at N or above" and the ones are not "too few"
pub proven_iff : (mask n needed : ℕ) → (unproven mask n needed ≡ false) ↔ ((mask < 2 ^ n) × (needed ≤ ones mask))
unfolding unproven
proven_iff mask n needed = (
  λ e. ((beyond_false mask n).0 (or_first (beyond mask n) _ e), (reaches_iff mask needed).0 (not-false (reaches mask needed) (or_second (beyond mask n) _ e))),
  λ p. rw ((beyond_false mask n).1 p.0, (reaches_iff mask needed).1 p.1),
)

-- the mask of a set of sites below n has none
pub mask_inside : (n : ℕ) (p : ℕ → Bool) → beyond (mask_to n p) n ≡ false
mask_inside n p = (beyond_false (mask_to n p) n).1 (mask_lt n p)

-- ---- one site more

-- a site of 16 or more, or one that is there, changes nothing; another adds its power of two
pub with_past : (mask i : ℕ) → 16 ≤ i → with_site mask i ≡ mask
unfolding with_site
with_past mask i l = ap (λ (b : Bool). cond (b && not (bit mask i)) (mask + 2 ^ i) mask) (le-ltb i 16 l)

pub with_old : (mask i : ℕ) → bit mask i ≡ true → with_site mask i ≡ mask
unfolding with_site
with_old mask i e = ap (λ (b : Bool). cond (ltb i 16 && not b) (mask + 2 ^ i) mask) e ∙ ap (λ (b : Bool). cond b (mask + 2 ^ i) mask) (and-false (ltb i 16))

pub with_new : (mask i : ℕ) → i < 16 → bit mask i ≡ false → with_site mask i ≡ mask + 2 ^ i
unfolding with_site
with_new mask i l e = ap₂ (λ (a b : Bool). cond (a && not b) (mask + 2 ^ i) mask) (lt-ltb i 16 l) e

-- so it is what `|` makes of the mask and the site's power of two
and_pow : (mask i : ℕ) → bit_and mask (2 ^ i) ≡ to_nat (bit mask i) * 2 ^ i
and_pow mask i =
    ap (bit_and mask) (sym (high_ones 1 i ∙ one-mul (2 ^ i))) ∙ and_high mask 1 i ∙ ap (λ (x : ℕ). x * 2 ^ i) (sym (bit_digit mask i))

-- of o + a = m + x, where a, what the two have in common, is all of x or nothing
or_left : (o a m x : ℕ) → o + a ≡ m + x → a ≡ 1 * x → m ≡ o
or_left o a m x e h = omega arith

or_sum : (o a m x : ℕ) → o + a ≡ m + x → a ≡ 0 * x → m + x ≡ o
or_sum o a m x e h = omega arith

pub with_or : (mask i : ℕ) → i < 16 → with_site mask i ≡ bit_or mask (2 ^ i)
with_or mask i l =
    ⊎_elim
    (λ e. with_old mask i e ∙ or_left _ _ mask (2 ^ i) (or_add_and mask (2 ^ i)) (and_pow mask i ∙ ap (λ (b : Bool). to_nat b * 2 ^ i) e))
    (λ e. with_new mask i l e ∙ or_sum _ _ mask (2 ^ i) (or_add_and mask (2 ^ i)) (and_pow mask i ∙ ap (λ (b : Bool). to_nat b * 2 ^ i) e))
    (true_or_false (bit mask i))

-- at 16 bits, where the shift cuts nothing off
pub with_shifted : (mask i : ℕ) → i < 16 → with_site mask i ≡ bit_or mask (1 * 2 ^ i % 2 ^ 16)
with_shifted mask i l =
    with_or mask i l ∙ ap (bit_or mask) (sym (mod-eq_of_lt (pow-lt l)) ∙ ap (λ (x : ℕ). x % 2 ^ 16) (sym (one-mul (2 ^ i))))

-- the bits of `|`, and of a power of two
or_digit : (x y : ℕ) → x < 2 → y < 2 → eqb (bit_or x y) 1 ≡ (eqb x 1 || eqb y 1)
or_digit zero y hx hy = refl
or_digit (suc zero) zero hx hy = refl
or_digit (suc zero) (suc zero) hx hy = refl
or_digit (suc zero) (suc (suc y)) hx hy = absurd (omega arith)
or_digit (suc (suc x)) y hx hy = absurd (omega arith)

or_bit : (a b j : ℕ) → bit (bit_or a b) j ≡ (bit a j || bit b j)
unfolding bit
or_bit a b j =
    ap (λ (x : ℕ). eqb (x % 2) 1) (or_shr a b j) ∙ ap (λ (x : ℕ). eqb x 1) (or_mod (a / 2 ^ j) (b / 2 ^ j) 1)
    ∙ or_digit (a / 2 ^ j % 2) (b / 2 ^ j % 2) (mod-lt (a / 2 ^ j) (zero-lt-suc 1)) (mod-lt (b / 2 ^ j) (zero-lt-suc 1))

pow_bit_same : (i : ℕ) → bit (2 ^ i) i ≡ true
pow_bit_same i = bit_top (2 ^ i) i (le_refl (2 ^ i)) (pow-lt (lt-suc_self i))

pow_bit_other : (i j : ℕ) → i ≢ j → bit (2 ^ i) j ≡ false
pow_bit_other i j h =
    ⊎_elim
    (λ l.
    ap (λ (x : ℕ). bit x j) (sym (add-zero (1 * 2 ^ i) ∙ one-mul (2 ^ i))) ∙ bit_low 1 i j (pow_pos i) l ∙ bit_out 0 0 j (zero-lt-suc 0) zero-le)
    (λ l. bit_out (2 ^ i) (suc i) j (pow-lt (lt-suc_self i)) (lt_of_le-ne l h))
    (lt_or_le j i)

-- its bits: the site's own is set, every other is as before
pub with_bit_same : (mask i : ℕ) → i < 16 → bit (with_site mask i) i ≡ true
with_bit_same mask i l =
    ap (λ (x : ℕ). bit x i) (with_or mask i l) ∙ or_bit mask (2 ^ i) i ∙ ap (λ (b : Bool). bit mask i || b) (pow_bit_same i) ∙ or-true (bit mask i)

pub with_bit_other : (mask i j : ℕ) → i ≢ j → bit (with_site mask i) j ≡ bit mask j
with_bit_other mask i j h =
    ⊎_elim
    (λ l.
    ap (λ (x : ℕ). bit x j) (with_or mask i l) ∙ or_bit mask (2 ^ i) j ∙ ap (λ (b : Bool). bit mask j || b) (pow_bit_other i j h)
    ∙ or-false (bit mask j))
    (λ l. ap (λ (x : ℕ). bit x j) (with_past mask i l))
    (lt_or_le i 16)

-- no bit is lost
pub with_keeps : (mask i j : ℕ) → bit mask j ≡ true → bit (with_site mask i) j ≡ true
with_keeps mask i j e =
    elim (ℕ_discrete i j) [ yes s ↦ ap (λ (x : ℕ). bit x j) (with_old mask i (ap (bit mask) s ∙ e)) ∙ e | no h ↦ with_bit_other mask i j h ∙ e ]

-- it stays within n sites if the site is one of them, and within 16 bits in any case
pub with_lt : (n mask i : ℕ) → i < n → mask < 2 ^ n → with_site mask i < 2 ^ n
with_lt n mask i l h =
    ⊎_elim (λ k. subst (λ (x : ℕ). x < 2 ^ n) (sym (with_or mask i k)) (or_lt n mask (2 ^ i) h (pow-lt l)))
    (λ k. subst (λ (x : ℕ). x < 2 ^ n) (sym (with_past mask i k)) h)
    (lt_or_le i 16)

pub with_fits : (mask i : ℕ) → mask < 2 ^ 16 → with_site mask i < 2 ^ 16
with_fits mask i h =
    ⊎_elim (λ k. with_lt 16 mask i k h) (λ k. subst (λ (x : ℕ). x < 2 ^ 16) (sym (with_past mask i k)) h) (lt_or_le i 16)

pub with_inside : (n mask i : ℕ) → i < n → beyond mask n ≡ false → beyond (with_site mask i) n ≡ false
with_inside n mask i l e = (beyond_false (with_site mask i) n).1 (with_lt n mask i l ((beyond_false mask n).0 e))

-- it has one more, if the site is new
next_ones : (h : ℕ) → h % 2 ≡ 0 → ones (h + 1) ≡ ones h + 1
next_ones h e =
    let half : (h + 1) / 2 ≡ h / 2 = omega arith in
    omega (arith, ones_step (h + 1), ones_step h, ap ones half)

pub with_ones : (mask i : ℕ) → i < 16 → bit mask i ≡ false → ones (with_site mask i) ≡ ones mask + 1
with_ones mask i l e =
    let hi : ℕ = mask / 2 ^ i in
    let lo : ℕ = mask % 2 ^ i in
    let fits : lo < 2 ^ i = mod-lt mask (pow_pos i) in
    let sum : mask + 2 ^ i ≡ (hi + 1) * 2 ^ i + lo = omega (arith, split mask i, add-mul hi 1 (2 ^ i), one-mul (2 ^ i)) in
    let even : hi % 2 ≡ 0 = sym (bit_digit mask i) ∙ ap to_nat e in
    ap ones (with_new mask i l e ∙ sum) ∙ ones_cat i (hi + 1) lo fits
    ∙ omega (arith, next_ones hi even, ones_cat i hi lo fits, ap ones (split mask i))

-- a loop that gathers the mask of a set: one more site that has p
pub with_mask : (n : ℕ) (p : ℕ → Bool) → n < 16 → p n ≡ true → with_site (mask_to n p) n ≡ mask_to (n + 1) p
with_mask n p l e =
    with_new (mask_to n p) n l (mask_bit_out n p n (le_refl n))
    ∙ omega (arith, ap (λ (k : ℕ). mask_to k p) (add-one n), mask_suc n p, ap (λ (b : Bool). to_nat b * 2 ^ n) e)

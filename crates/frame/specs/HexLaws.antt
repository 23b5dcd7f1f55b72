-- Laws of digits: reading a number's digits gives the number, and writing the number that digits spell gives the digits; the same of a
-- list of numbers with their widths.
use Rattle.std.specs.Prelude.{ℕ, zero, suc, ◌+◌, ◌-◌, ◌*◌, ◌/◌, ◌%◌, ◌^◌, ◌≤◌, ◌<◌, ◌≡◌, refl, Bool, true, false, not, ◌&&◌, ◌||◌, List, [], ◌∷◌, ◌++◌, leb, ltb, eqb, length, get_or, take, drop}
use Rattle.std.proofs.Common.{add-zero, zero-add, add-suc, suc-add, pow-suc, zero-lt-suc, arith, sym, ap, ap₂, subst, ◌∙◌, true≢false, append-nil, append_assoc, length-append, take-append-drop, take_at, drop_at, take-take, eqb-true, ltb-true, lt-ltb}
use Rattle.std.proofs.Math.Decide.{dec_lt}
use Rattle.std.proofs.Math.Bool.{and-false, and_assoc}
use Rattle.std.proofs.Math.Arith.{lt-one}
use Rattle.std.proofs.Math.ListN.{length-drop}
use Rattle.std.proofs.Math.Seq.{length-take-le}
use Rattle.std.proofs.lemmas.Bool.{lt-leb}
use Rattle.basics.specs.Lists.{drop_take}
use Rattle.basics.specs.Bools.{and_both, and_left, and_right, every_at, every_below}
use Rattle.frame.specs.Hex.{digit, is_digit, value_of, all_digits, byte_of, number_from, number, digits_of, spell, numbers, all_fit, total}

-- ---- one digit

digit_test : ℕ → Bool
digit_test d = is_digit (digit d) && eqb (value_of (digit d)) d

value_test : ℕ → Bool
value_test c = not (is_digit c) || (eqb (digit (value_of c)) c && ltb (value_of c) 16)

all_digit_test : every_below 16 digit_test ≡ true
unfolding every_below digit_test is_digit digit value_of
all_digit_test = refl

all_value_test : every_below 103 value_test ≡ true
unfolding every_below value_test is_digit digit value_of
all_value_test = refl

-- the character of a digit is one, and stands for the digit
pub digit_is : (d : ℕ) → d < 16 → is_digit (digit d) ≡ true
unfolding digit_test
digit_is d h = and_left (is_digit (digit d)) (eqb (value_of (digit d)) d) (every_at 16 digit_test all_digit_test d h)

pub value_digit : (d : ℕ) → d < 16 → value_of (digit d) ≡ d
unfolding digit_test
value_digit d h = eqb-true (value_of (digit d)) d (and_right (is_digit (digit d)) (eqb (value_of (digit d)) d) (every_at 16 digit_test all_digit_test d h))

no_digit : (c : ℕ) → 103 ≤ c → is_digit c ≡ false
unfolding is_digit
no_digit c h = rw (lt-leb c 57 (omega arith), lt-leb c 102 (omega arith), and-false (leb 48 c), and-false (leb 97 c))

value_of_lem : (c : ℕ) → is_digit c ≡ true → (eqb (digit (value_of c)) c && ltb (value_of c) 16) ≡ true
unfolding value_test
value_of_lem c e = go (dec_lt c 103)
  where
    go : Dec (c < 103) → (eqb (digit (value_of c)) c && ltb (value_of c) 16) ≡ true
    go (yes h) = rw e at (every_at 103 value_test all_value_test c h)
    go (no h) = absurd (true≢false (sym e ∙ no_digit c (omega arith)))

pub digit_value : (c : ℕ) → is_digit c ≡ true → digit (value_of c) ≡ c
digit_value c e = eqb-true (digit (value_of c)) c (and_left (eqb (digit (value_of c)) c) (ltb (value_of c) 16) (value_of_lem c e))

pub value_lt : (c : ℕ) → is_digit c ≡ true → value_of c < 16
value_lt c e = ltb-true (value_of c) 16 (and_right (eqb (digit (value_of c)) c) (ltb (value_of c) 16) (value_of_lem c e))

-- ---- one byte

pub byte_digits : (b : ℕ) → b < 256 → byte_of (digit (b / 16)) (digit (b % 16)) ≡ b
unfolding byte_of
byte_digits b h =
    rw (value_digit (b / 16) (omega arith), value_digit (b % 16) (omega arith)) (omega arith)

-- what is known of the byte of two digits
pub record Byte (a b y : ℕ) : Type 0 where
  pub below : y < 256
  pub first : digit (y / 16) ≡ a
  pub second : digit (y % 16) ≡ b

pub byte_of_lem : (a b : ℕ) → is_digit a ≡ true → is_digit b ≡ true → Byte a b (byte_of a b)
unfolding byte_of
byte_of_lem a b p q =
    let u = value_lt a p in
    let v = value_lt b q in
    let f : (16 * value_of a + value_of b) / 16 ≡ value_of a = omega arith in
    let s : (16 * value_of a + value_of b) % 16 ≡ value_of b = omega arith in
    record { below = omega arith; first = ap digit f ∙ digit_value a p; second = ap digit s ∙ digit_value b q }

-- ---- lists of digits

pub all_append : (s t : List ℕ) → all_digits (s ++ t) ≡ (all_digits s && all_digits t)
unfolding all_digits
all_append [] t = refl
all_append (c ∷ s) t = ap (λ (b : Bool). is_digit c && b) (all_append s t) ∙ sym (and_assoc (is_digit c) (all_digits s) (all_digits t))

-- a list of k pairs
pub data Pairs : List ℕ → ℕ → Type 0 where
  none : Pairs [] 0
  more : (a b : ℕ) {l : List ℕ} {k : ℕ} → Pairs l k → Pairs (a ∷ b ∷ l) (suc k)

pub pairs_of : (k : ℕ) (l : List ℕ) → length l ≡ 2 * k → Pairs l k
pairs_of zero [] e = none
pairs_of zero (a ∷ l) e = absurd (omega arith)
pairs_of (suc k) [] e = absurd (omega arith)
pairs_of (suc k) (a ∷ []) e = absurd (omega arith)
pairs_of (suc k) (a ∷ b ∷ l) e = more a b (pairs_of k l (omega arith))

-- ---- one number

number_append : {l : List ℕ} {k : ℕ} → Pairs l k → (x : ℕ) (r : List ℕ) → number_from x (l ++ r) ≡ number_from (number_from x l) r
unfolding number_from
number_append none x r = refl
number_append (more a b p) x r = number_append p (256 * x + byte_of a b) r

pub length_digits : (w x : ℕ) → length (digits_of w x) ≡ 2 * w
unfolding digits_of
length_digits zero x = refl
length_digits (suc w) x = omega (arith, length-append (digits_of w (x / 256)) (digit (x % 256 / 16) ∷ digit (x % 256 % 16) ∷ []), length_digits w (x / 256))

pub all_digits_of : (w x : ℕ) → all_digits (digits_of w x) ≡ true
unfolding digits_of all_digits
all_digits_of zero x = refl
all_digits_of (suc w) x =
    rw (all_append, all_digits_of w (x / 256), digit_is (x % 256 / 16) (omega arith), digit_is (x % 256 % 16) (omega arith))

-- reading the digits of a number that fits gives the number
pub number_digits : (w x : ℕ) → x < 256 ^ w → number (digits_of w x) ≡ x
unfolding digits_of number_from
number_digits zero x h = sym (lt-one h)
number_digits (suc w) x h =
    let y = x / 256 in
    let fits : y < 256 ^ w = omega (arith, pow-suc 256 w) in
    number_append (pairs_of w (digits_of w y) (length_digits w y)) 0 (digit (x % 256 / 16) ∷ digit (x % 256 % 16) ∷ [])
    ∙ ap₂ (λ (a b : ℕ). 256 * a + b) (number_digits w y fits) (byte_digits (x % 256) (omega arith))
    ∙ omega arith

-- the digits of the number that digits spell are those digits, here with the digits of x before them
digits_from : {l : List ℕ} {k : ℕ} → Pairs l k → (w x : ℕ) → all_digits l ≡ true → digits_of (w + k) (number_from x l) ≡ digits_of w x ++ l
unfolding number_from all_digits digits_of
digits_from none w x e = ap (λ (n : ℕ). digits_of n x) (add-zero w) ∙ sym (append-nil (digits_of w x))
digits_from (more a b {l} {k} p) w x e =
    let da = and_left (is_digit a) (is_digit b && all_digits l) e in
    let r = and_right (is_digit a) (is_digit b && all_digits l) e in
    let y = byte_of a b in
    let known : Byte a b y = byte_of_lem a b da (and_left (is_digit b) (all_digits l) r) in
    let hi : (256 * x + y) / 256 ≡ x = omega (arith, known.below) in
    let lo : (256 * x + y) % 256 ≡ y = omega (arith, known.below) in
    let last : digits_of (suc w) (256 * x + y) ≡ digits_of w x ++ a ∷ b ∷ [] = rw (hi, lo, known.first, known.second) in
    ap (λ (n : ℕ). digits_of n (number_from (256 * x + y) l)) (add-suc w k ∙ sym (suc-add w k))
    ∙ digits_from p (suc w) (256 * x + y) (and_right (is_digit b) (all_digits l) r)
    ∙ ap (λ (s : List ℕ). s ++ l) last
    ∙ append_assoc (digits_of w x) (a ∷ b ∷ []) l

pub digits_number : (k : ℕ) (l : List ℕ) → length l ≡ 2 * k → all_digits l ≡ true → digits_of k (number l) ≡ l
unfolding digits_of
digits_number k l e d = ap (λ (n : ℕ). digits_of n (number l)) (sym (zero-add k)) ∙ digits_from (pairs_of k l e) 0 0 d

-- a number fits its bytes
number_below : {l : List ℕ} {k : ℕ} → Pairs l k → (w x : ℕ) → all_digits l ≡ true → x < 256 ^ w → number_from x l < 256 ^ (w + k)
unfolding number_from all_digits
number_below none w x e h = subst (λ (n : ℕ). x < 256 ^ n) (sym (add-zero w)) h
number_below (more a b {l} {k} p) w x e h =
    let da = and_left (is_digit a) (is_digit b && all_digits l) e in
    let r = and_right (is_digit a) (is_digit b && all_digits l) e in
    let known : Byte a b (byte_of a b) = byte_of_lem a b da (and_left (is_digit b) (all_digits l) r) in
    subst (λ (n : ℕ). number_from (256 * x + byte_of a b) l < 256 ^ n) (suc-add w k ∙ sym (add-suc w k))
    (number_below p (suc w) (256 * x + byte_of a b) (and_right (is_digit b) (all_digits l) r)
    (omega (arith, pow-suc 256 w, known.below)))

pub number_fits : (k : ℕ) (l : List ℕ) → length l ≡ 2 * k → all_digits l ≡ true → number l < 256 ^ k
number_fits k l e d = subst (λ (n : ℕ). number l < 256 ^ n) (zero-add k) (number_below (pairs_of k l e) 0 0 d (zero-lt-suc 0))

-- ---- numbers with their widths

pub length_spell : (ws xs : List ℕ) → all_fit ws xs ≡ true → length (spell ws xs) ≡ 2 * total ws
unfolding spell total all_fit
length_spell [] xs f = refl
length_spell (w ∷ ws) [] f = absurd (true≢false (sym f))
length_spell (w ∷ ws) (x ∷ xs) f =
    omega (arith, length-append (digits_of w x) (spell ws xs), length_digits w x, length_spell ws xs (and_right (ltb x (256 ^ w)) (all_fit ws xs) f))

pub all_spell : (ws xs : List ℕ) → all_digits (spell ws xs) ≡ true
unfolding spell all_digits
all_spell [] xs = refl
all_spell (w ∷ ws) [] = refl
all_spell (w ∷ ws) (x ∷ xs) = rw (all_append, all_digits_of w x, all_spell ws xs)

-- reading the digits of numbers that fit gives the numbers, whatever comes after
pub numbers_spell : (ws xs r : List ℕ) → all_fit ws xs ≡ true → numbers ws (spell ws xs ++ r) ≡ xs
unfolding spell numbers all_fit
numbers_spell [] [] r f = refl
numbers_spell [] (x ∷ xs) r f = absurd (true≢false (sym f))
numbers_spell (w ∷ ws) [] r f = absurd (true≢false (sym f))
numbers_spell (w ∷ ws) (x ∷ xs) r f =
    let front : take (2 * w) ((digits_of w x ++ spell ws xs) ++ r) ≡ digits_of w x =
    ap (take (2 * w)) (append_assoc (digits_of w x) (spell ws xs) r) ∙ take_at (digits_of w x) (spell ws xs ++ r) (2 * w) (length_digits w x) in
    let back : drop (2 * w) ((digits_of w x ++ spell ws xs) ++ r) ≡ spell ws xs ++ r =
    ap (drop (2 * w)) (append_assoc (digits_of w x) (spell ws xs) r) ∙ drop_at (digits_of w x) (spell ws xs ++ r) (2 * w) (length_digits w x) in
    ap₂ (λ (n : ℕ) (s : List ℕ). n ∷ s)
    (ap number front ∙ number_digits w x (ltb-true x (256 ^ w) (and_left (ltb x (256 ^ w)) (all_fit ws xs) f)))
    (ap (numbers ws) back ∙ numbers_spell ws xs r (and_right (ltb x (256 ^ w)) (all_fit ws xs) f))

-- and the numbers that digits spell fit, and have these digits
module _ (w : ℕ) (ws l : List ℕ) (e : length l ≡ 2 * total (w ∷ ws)) (d : all_digits l ≡ true) where
  front_size : length (take (2 * w) l) ≡ 2 * w
  unfolding total
  front_size = length-take-le (2 * w) l (omega arith)

  back_size : length (drop (2 * w) l) ≡ 2 * total ws
  unfolding total
  back_size = omega (arith, length-drop (2 * w) l)

  both_digits : (all_digits (take (2 * w) l) && all_digits (drop (2 * w) l)) ≡ true
  both_digits = sym (all_append (take (2 * w) l) (drop (2 * w) l)) ∙ ap all_digits (take-append-drop (2 * w) l) ∙ d

  front_digits : all_digits (take (2 * w) l) ≡ true
  front_digits = and_left (all_digits (take (2 * w) l)) (all_digits (drop (2 * w) l)) both_digits

  back_digits : all_digits (drop (2 * w) l) ≡ true
  back_digits = and_right (all_digits (take (2 * w) l)) (all_digits (drop (2 * w) l)) both_digits

pub numbers_fit : (ws l : List ℕ) → length l ≡ 2 * total ws → all_digits l ≡ true → all_fit ws (numbers ws l) ≡ true
unfolding numbers all_fit
numbers_fit [] l e d = refl
numbers_fit (w ∷ ws) l e d =
    and_both (ltb (number (take (2 * w) l)) (256 ^ w)) (all_fit ws (numbers ws (drop (2 * w) l)))
    (lt-ltb (number (take (2 * w) l)) (256 ^ w) (number_fits w (take (2 * w) l) (front_size w ws l e d) (front_digits w ws l e d)))
    (numbers_fit ws (drop (2 * w) l) (back_size w ws l e d) (back_digits w ws l e d))

pub spell_numbers : (ws l : List ℕ) → length l ≡ 2 * total ws → all_digits l ≡ true → spell ws (numbers ws l) ≡ l
unfolding spell numbers total
spell_numbers [] [] e d = refl
spell_numbers [] (c ∷ l) e d = absurd (omega arith)
spell_numbers (w ∷ ws) l e d =
    ap₂ (λ (s t : List ℕ). s ++ t)
    (digits_number w (take (2 * w) l) (front_size w ws l e d) (front_digits w ws l e d))
    (spell_numbers ws (drop (2 * w) l) (back_size w ws l e d) (back_digits w ws l e d))
    ∙ take-append-drop (2 * w) l

-- there is a number for each width
pub length_numbers : (ws l : List ℕ) → length (numbers ws l) ≡ length ws
unfolding numbers
length_numbers [] l = refl
length_numbers (w ∷ ws) l = ap suc (length_numbers ws (drop (2 * w) l))

-- numbers look at their own digits only
pub numbers_take : (ws l : List ℕ) (n : ℕ) → 2 * total ws ≤ n → numbers ws (take n l) ≡ numbers ws l
unfolding numbers total
numbers_take [] l n h = refl
numbers_take (w ∷ ws) l n h =
    ap₂ (λ (x : ℕ) (s : List ℕ). x ∷ s)
    (ap number (take-take (2 * w) n l (omega arith)))
    (ap (numbers ws) (drop_take (2 * w) n l) ∙ numbers_take ws (drop (2 * w) l) (n - 2 * w) (omega arith))

-- one of the numbers that fit their widths
pub fit_at : (ws xs : List ℕ) → all_fit ws xs ≡ true → (k : ℕ) → k < length ws → get_or xs k 0 < 256 ^ get_or ws k 0
unfolding all_fit
fit_at [] xs e k h = absurd (omega arith)
fit_at (w ∷ ws) [] e k h = absurd (true≢false (sym e))
fit_at (w ∷ ws) (x ∷ xs) e zero h = ltb-true x (256 ^ w) (and_left (ltb x (256 ^ w)) (all_fit ws xs) e)
fit_at (w ∷ ws) (x ∷ xs) e (suc k) h = fit_at ws xs (and_right (ltb x (256 ^ w)) (all_fit ws xs) e) k (omega arith)

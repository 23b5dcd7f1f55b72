-- Lower-case hex digits, and numbers of given widths as digits: two digits a byte, bytes big-endian.
use Rattle.std.specs.Prelude.{ℕ, zero, suc, ◌+◌, ◌-◌, ◌*◌, ◌/◌, ◌%◌, ◌^◌, Bool, true, false, cond, ◌&&◌, ◌||◌, List, [], ◌∷◌, ◌++◌, leb, ltb, take, drop}

-- the character of a digit: 0 to 9 from 48 on, a to f from 97 on
unfoldable pub digit : ℕ → ℕ
digit d = cond (ltb d 10) (48 + d) (87 + d)

-- whether a character is a lower-case hex digit, and the digit that it is
unfoldable pub is_digit : ℕ → Bool
is_digit c = (leb 48 c && leb c 57) || (leb 97 c && leb c 102)

unfoldable pub value_of : ℕ → ℕ
value_of c = cond (leb c 57) (c - 48) (c - 87)

-- whether all characters are digits
unfoldable pub all_digits : List ℕ → Bool
all_digits [] = true
all_digits (c ∷ l) = is_digit c && all_digits l

-- the byte of two digits
unfoldable pub byte_of : ℕ → ℕ → ℕ
byte_of a b = 16 * value_of a + value_of b

-- the number that digits spell, byte after byte, x being that of the bytes before them
unfoldable pub number_from : ℕ → List ℕ → ℕ
number_from x [] = x
number_from x (a ∷ []) = x
number_from x (a ∷ b ∷ l) = number_from (256 * x + byte_of a b) l

abbrev pub number : List ℕ → ℕ
number l = number_from 0 l

-- the digits of a number of w bytes
unfoldable pub digits_of : ℕ → ℕ → List ℕ
digits_of zero x = []
digits_of (suc w) x = digits_of w (x / 256) ++ digit (x % 256 / 16) ∷ digit (x % 256 % 16) ∷ []

-- numbers of these widths, one after the other: their digits, and the numbers that digits spell
unfoldable pub spell : List ℕ → List ℕ → List ℕ
spell [] xs = []
spell (w ∷ ws) [] = []
spell (w ∷ ws) (x ∷ xs) = digits_of w x ++ spell ws xs

unfoldable pub numbers : List ℕ → List ℕ → List ℕ
numbers [] l = []
numbers (w ∷ ws) l = number (take (2 * w) l) ∷ numbers ws (drop (2 * w) l)

-- whether there are as many numbers as widths, and each fits its own
unfoldable pub all_fit : List ℕ → List ℕ → Bool
all_fit [] [] = true
all_fit [] (x ∷ xs) = false
all_fit (w ∷ ws) [] = false
all_fit (w ∷ ws) (x ∷ xs) = ltb x (256 ^ w) && all_fit ws xs

-- the bytes that numbers of these widths take
unfoldable pub total : List ℕ → ℕ
total [] = 0
total (w ∷ ws) = w + total ws

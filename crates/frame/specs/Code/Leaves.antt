-- What the functions inside `read_into`, `read_bare` and `write_from` give.
use Rattle.std.specs.Prelude.{ℕ, zero, suc, ◌-◌, ◌*◌, ◌^◌, ◌≤◌, ◌<◌, Bool, true, cond, ◌&&◌, List, [], ◌∷◌, ◌≡◌, leb, eqb, length, get_or, take, drop, Option, None, Some}
use Rattle.frame.specs.declared.Heading.{Heading}
use Rattle.roster.specs.Mask.{bit}
use Rattle.frame.specs.Hex.{digit, is_digit, value_of, all_digits, number, numbers, total}
use Rattle.frame.specs.Layout.{widths, with_values, count, line_length}
use Rattle.frame.specs.Kinds.{uses, is_kind, zero_unless}
use Rattle.frame.specs.Format.{Reading, frame_of, line_feed, nothing, reading_of, head_of}

-- the digit that a character is; for what is none a full stop, which is more than any digit
abbrev pub full_stop : ℕ
full_stop = 46

unfoldable pub digit_in : ℕ → ℕ
digit_in c = cond (is_digit c) (value_of c) full_stop

-- the list of what a rule gives at each number below n
abbrev pub tabled : ℕ → (ℕ → ℕ) → List ℕ
tabled zero rule = []
tabled (suc n) rule = rule 0 ∷ tabled n (λ k. rule (suc k))

-- the table of the digits that characters are, and that of the characters of digits
unfoldable pub values : List ℕ
values = tabled 256 digit_in

unfoldable pub characters : List ℕ
characters = tabled 16 digit

-- a number read from digits, if all are digits
unfoldable pub number_in : List ℕ → Option ℕ
number_in l = cond (all_digits l) (Some (number l)) None

-- numbers read from digits into a slice: all of them, if all are digits
pub record NumbersIn (ws l : List ℕ) (good : Bool) (xs : List ℕ) : Type 0 where
  pub all : good ≡ all_digits l
  pub are : good ≡ true → xs ≡ numbers ws l

-- whether a header's values are proper, as `proper` says of a frame
unfoldable pub proper_header : ℕ → List ℕ → Bool
proper_header limit h =
    is_kind (get_or h 0 0) && ((leb (get_or h 6 0) limit && leb (get_or h 7 0) limit) && zero_unless (get_or uses (get_or h 0 0) []) h)

-- a header's values that fit their widths, and the heading that they are
abbrev pub Fitting : List ℕ → Type 0
Fitting h = (k : ℕ) → k < 8 → get_or h k 0 < 256 ^ get_or widths k 0

abbrev pub heading_of : List ℕ → Heading
heading_of h = head_of (with_values h [])

-- a line that is long enough, whose header's digits spell proper values
pub record Headed (limit : ℕ) (l : List ℕ) : Type 0 where
  pub long : line_length 0 ≤ length l
  pub spelled : all_digits (take (2 * total widths) l) ≡ true
  pub proper : proper_header limit (numbers widths l) ≡ true

-- the counts that a line's header spells
pub record Counted (l : List ℕ) (n m : ℕ) : Type 0 where
  pub first : n ≡ get_or (numbers widths l) 6 0
  pub second : m ≡ get_or (numbers widths l) 7 0

-- what reading a line's header finds: the heading that it spells, of a kind that is taken, or that there is no frame
pub record Found (limit : ℕ) (l : List ℕ) (kinds : ℕ) (h : Heading) : Type 0 where
  pub headed : Headed limit l
  pub heading : h ≡ heading_of (numbers widths l)
  pub taken : bit kinds (get_or (numbers widths l) 0 0) ≡ true

abbrev pub HeadIn : ℕ → List ℕ → ℕ → Option Heading → Type 0
HeadIn limit l kinds (Some h) = Found limit l kinds h
HeadIn limit l kinds None = nothing ≡ reading_of limit l kinds

-- what is left to test of a line whose header was read: the length, the line feed, and the digits of the commands
unfoldable pub body_good : List ℕ → Bool
body_good l =
    eqb (length l) (line_length (count (frame_of l)))
    && (eqb (get_or l (length l - 1) 0) line_feed && all_digits (take (length l - 1 - 2 * total widths) (drop (2 * total widths) l)))

unfoldable pub body_reading : List ℕ → Reading
body_reading l = cond (body_good l) (record { found = true; frame = frame_of l }) nothing

-- what reading the rest finds: whether it is good, and the words if so
pub record BodyIn (l : List ℕ) (good : Bool) (ws : List ℕ) : Type 0 where
  pub is : good ≡ body_good l
  pub words : good ≡ true → ws ≡ (frame_of l).words

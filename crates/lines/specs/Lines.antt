-- The lines of the learner's program: the first line, "N and f, two hex bytes (a bad one counts as N=0)"; what is kept of a line while
-- it arrives; how bytes are lines, and a line out of bytes that arrive in pieces; text behind text in a buffer; and the answer to each later
-- line, "answer and supporters in decimal, as `0 4`".
use Rattle.std.specs.Prelude.{ℕ, ◌+◌, ◌-◌, ◌/◌, ◌%◌, Bool, false, cond, ◌&&◌, ◌||◌, List, [], ◌∷◌, ◌++◌, ltb, eqb, length, get_or, take, set, Option, None, Some}
use Rattle.std.proofs.lemmas.List.Edits.{sets}
use Rattle.words.specs.Words.{padded}
use Rattle.roster.specs.declared.Roster.{Roster}
use Rattle.frame.specs.Hex.{is_digit, value_of, byte_of}
use Rattle.frame.specs.Format.{line_feed}
use Rattle.lines.specs.declared.Text.{Text}
use Rattle.lines.specs.declared.Pulled.{Pulled}

-- the character of a space
abbrev pub space : ℕ
space = 32

-- ---- the first line

-- the digit that a character is, and the byte of two, if they are lower-case hex digits
abbrev pub digit_of : ℕ → Option ℕ
digit_of c = cond (is_digit c) (Some (value_of c)) None

abbrev pub byte_in : ℕ → ℕ → Option ℕ
byte_in a b = cond (is_digit a && is_digit b) (Some (byte_of a b)) None

-- whether four characters are lower-case hex digits
unfoldable pub are_digits : ℕ → ℕ → ℕ → ℕ → Bool
are_digits a b c d = ((is_digit a && is_digit b) && is_digit c) && is_digit d

-- whether a line is exactly four lower-case hex digits and a line feed
unfoldable pub is_roster_line : List ℕ → Bool
is_roster_line l = eqb (length l) 5 && (are_digits (get_or l 0 0) (get_or l 1 0) (get_or l 2 0) (get_or l 3 0) && eqb (get_or l 4 0) line_feed)

-- how many characters it has
abbrev pub roster_line_length : ℕ
roster_line_length = 5

-- the roster of the first line; another line counts as N=0, f=0
unfoldable pub roster_of : List ℕ → Roster
roster_of l =
    cond (is_roster_line l)
    (record { n = byte_of (get_or l 0 0) (get_or l 1 0); f = byte_of (get_or l 2 0) (get_or l 3 0) })
    (record { n = 0; f = 0 })

-- ---- a line while it arrives

-- a buffer whose first n bytes are in use, with b put behind them if there is room, and how many are in use then
unfoldable pub pushed : List ℕ → ℕ → ℕ → List ℕ
pushed l n b = cond (ltb n (length l)) (set l n b) l

unfoldable pub pushed_length : List ℕ → ℕ → ℕ
pushed_length l n = cond (ltb n (length l)) (n + 1) n

-- ---- the lines of bytes

-- a byte in front of the first line, or as a line of its own where there is none
unfoldable pub joined : ℕ → List (List ℕ) → List (List ℕ)
joined b [] = (b ∷ []) ∷ []
joined b (line ∷ lines) = (b ∷ line) ∷ lines

-- bytes as lines: each goes through its line feed, and bytes after the last line feed are a line too, an unfinished one
unfoldable pub lines_of : List ℕ → List (List ℕ)
lines_of [] = []
lines_of (b ∷ bs) = cond (eqb b line_feed) ((b ∷ []) ∷ lines_of bs) (joined b (lines_of bs))

-- the bytes through the first line feed, or all of them where there is none; and whether there is one
unfoldable pub through : List ℕ → List ℕ
through [] = []
through (b ∷ bs) = b ∷ cond (eqb b line_feed) [] (through bs)

unfoldable pub ends : List ℕ → Bool
ends [] = false
ends (b ∷ bs) = eqb b line_feed || ends bs

-- ---- bytes put into a buffer, or a line pulled into it

-- a buffer whose first n bytes are in use, with bytes put behind them, as many as there is room for, and how many are in use then: one byte
-- is `pushed`
unfoldable pub kept : List ℕ → ℕ → List ℕ → List ℕ
kept l n bs = sets l n (take (length l - n) bs)

unfoldable pub kept_length : List ℕ → ℕ → List ℕ → ℕ
kept_length l n bs = n + length (take (length l - n) bs)

-- what pulling a line out of bytes answers, which are those from a place `from` on: they are kept through the first line feed
unfoldable pub pulled : List ℕ → ℕ → List ℕ → ℕ → Pulled
pulled l n bs from = record { len = kept_length l n (through bs); next = from + length (through bs); whole = ends bs }

-- ---- an answer

-- the character of a decimal digit
abbrev pub digit : ℕ → ℕ
digit d = 48 + d

-- a number below 256 in decimal, with no leading zeros
unfoldable pub decimal : ℕ → List ℕ
decimal n =
    cond (ltb n 10)
    (digit n ∷ [])
    (cond (ltb n 100)
    (digit (n / 10) ∷ digit (n % 10) ∷ [])
    (digit (n / 100) ∷ digit (n / 10 % 10) ∷ digit (n % 10) ∷ []))

-- the line that answers a line: the answer's number n and the supporters s
unfoldable pub answer_line : ℕ → ℕ → List ℕ
answer_line n s = decimal n ++ space ∷ (decimal s ++ line_feed ∷ [])

-- the most characters that such a line has, with its line feed
abbrev pub longest_answer : ℕ
longest_answer = 8

-- that line by value: its length, and its characters with zeros after them, eight in all
unfoldable pub answer_text : ℕ → ℕ → Text
answer_text n s =
    record {
      len = length (answer_line n s);
      bytes = padded 8 (answer_line n s);
    }

-- The whole example line is the line of that vote, and a line with two lists that of its P1B, both ways; the kinds have document 01's numbers, and each
-- uses the fields that its table names. All is computed from text, so that an error made alike in definition, reader and writer, which no inverse law
-- can see, is refused here.
use Rattle.std.specs.Prelude.{◌≡◌, refl, true, [], ◌∷◌}
use Rattle.words.specs.Sizes.{limit}
use Rattle.words.specs.Words.{padded}
use Rattle.frame.specs.Hex.{digit, is_digit, value_of, all_digits, byte_of, number_from, digits_of, spell, numbers, total}
use Rattle.frame.specs.Layout.{first, second}
use Rattle.frame.specs.Kinds.{P1A, FAST, P1B, PROPOSE, P2A, VERIFY, P2B, SUSPICION, VIEWCHANGE, LEADER, uses, is_kind, zero_unless, unused_zero}
use Rattle.frame.specs.Format.{line_of, proper, framed, frame_of, is_line}
use Rattle.frame.specs.Example.{characters, A, B, example, example_line, report, report_line, used_of, used}

pub example_line_lem : (line_of example ≡ characters example_line) × (line_of report ≡ characters report_line)
unfolding characters padded digit digits_of spell line_of
example_line_lem = (refl, refl)

pub example_read : (is_line limit (characters example_line) ≡ true) × (frame_of (characters example_line) ≡ example)
    × (is_line limit (characters report_line) ≡ true) × (frame_of (characters report_line) ≡ report)
unfolding characters padded is_digit value_of all_digits byte_of number_from numbers total uses is_kind zero_unless unused_zero proper framed frame_of is_line
example_read = (refl, refl, refl, refl)

-- "then n commands, then m"
pub example_lists : (first (frame_of (characters report_line)) ≡ A ∷ []) × (second (frame_of (characters report_line)) ≡ B ∷ [])
unfolding characters padded value_of byte_of number_from numbers total framed frame_of
example_lists = (refl, refl)

-- "1 P1A, 2 FAST", "3 P1B", "4 PROPOSE", "5 P2A, 6 VERIFY", "7 P2B", "8 SUSPICION", "9 VIEWCHANGE, 10 LEADER"
pub kinds_numbered : (P1A ≡ 1) × (FAST ≡ 2) × (P1B ≡ 3) × (PROPOSE ≡ 4) × (P2A ≡ 5) × (VERIFY ≡ 6) × (P2B ≡ 7) × (SUSPICION ≡ 8) × (VIEWCHANGE ≡ 9)
    × (LEADER ≡ 10)
kinds_numbered = (refl, refl, refl, refl, refl, refl, refl, refl, refl, refl)

-- "Fields a kind doesn't use are 0." The table "Uses besides sender", by the kinds' numbers; those before and after it are no kinds.
pub kinds_use : (used "00" ≡ [])
    × (used "01" ≡ "view" ∷ "ballot" ∷ [])
    × (used "02" ≡ "view" ∷ "ballot" ∷ [])
    × (used "03" ≡ "ballot" ∷ "proven ballot" ∷ "mask" ∷ "n" ∷ "m" ∷ [])
    × (used "04" ≡ "ballot" ∷ "n" ∷ [])
    × (used "05" ≡ "view" ∷ "ballot" ∷ "n" ∷ [])
    × (used "06" ≡ "view" ∷ "ballot" ∷ "n" ∷ [])
    × (used "07" ≡ "ballot" ∷ "mask" ∷ "n" ∷ [])
    × (used "08" ≡ "view" ∷ [])
    × (used "09" ≡ "view" ∷ "mask" ∷ [])
    × (used "0a" ≡ "view" ∷ "mask" ∷ [])
    × (used "0b" ≡ [])
unfolding used_of characters is_digit value_of all_digits byte_of number_from numbers total uses is_kind zero_unless unused_zero proper framed frame_of is_line
kinds_use = (refl, refl, refl, refl, refl, refl, refl, refl, refl, refl, refl, refl)

-- What is to be written for bytes of input: "Its first line is N and f, two hex bytes (a bad one counts as N=0); each later line gets answer and
-- supporters in decimal, as `0 4`."
use Rattle.std.specs.Prelude.{ℕ, List, [], ◌∷◌, ◌++◌}
use Rattle.refusal.specs.Refusal.{answer_number}
use Rattle.learner.specs.declared.Outcome.{Outcome}
use Rattle.learner.specs.Learner.{fresh}
use Rattle.learner.specs.Run.{outcomes}
use Rattle.lines.specs.Lines.{lines_of, roster_of, answer_line}

-- the line that an outcome gives, and the text of some outcomes
abbrev pub said : Outcome → List ℕ
said o = answer_line (answer_number o.answer) o.supporters

unfoldable pub text : List Outcome → List ℕ
text [] = []
text (o ∷ os) = said o ++ text os

-- the text of a fresh learner's outcomes over the lines after the first, which is the roster
unfoldable pub answers : List (List ℕ) → List ℕ
answers [] = []
answers (line ∷ lines) = text (outcomes (roster_of line) fresh lines)

-- what is to be written for all bytes of the input together
unfoldable pub transcript : List ℕ → List ℕ
transcript bytes = answers (lines_of bytes)

-- Laws of an answer's line: a number has three digits at most, and the line eight characters.
use Rattle.std.specs.Prelude.{ℕ, ◌+◌, ◌/◌, ◌%◌, ◌≤◌, ◌≡◌, Bool, true, false, cond, [], ◌∷◌, ◌++◌, ltb, length}
use Rattle.std.proofs.Common.{arith}
use Rattle.std.proofs.Math.ListN.{length-append}
use Rattle.frame.specs.Format.{line_feed}
use Rattle.lines.specs.Lines.{space, digit, decimal, answer_line, longest_answer}

pub decimal_short : (n : ℕ) → length (decimal n) ≤ 3
unfolding decimal
decimal_short n = go (ltb n 10) (ltb n 100)
  where
    go : (a b : Bool) → length (cond a (digit n ∷ []) (cond b (digit (n / 10) ∷ digit (n % 10) ∷ []) (digit (n / 100) ∷ digit (n / 10 % 10) ∷ digit (n % 10) ∷ []))) ≤ 3
    go true b = omega arith
    go false true = omega arith
    go false false = omega arith

module _ (n s : ℕ) where
  pub line_length_lem : length (answer_line n s) ≡ length (decimal n) + 1 + length (decimal s) + 1
  unfolding answer_line
  line_length_lem = omega (arith, length-append (decimal n) (space ∷ (decimal s ++ line_feed ∷ [])), length-append (decimal s) (line_feed ∷ []))

  pub line_short : length (answer_line n s) ≤ longest_answer
  line_short = omega (arith, line_length_lem, decimal_short n, decimal_short s)

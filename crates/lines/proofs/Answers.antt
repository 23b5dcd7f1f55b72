-- An answer's line: what is written one part after the other is the line with zeros after it.
use Prim.Native.Nat.{ℕ, ◌+◌}
use native.Mathlib.Nat.{zero-add}
use native.Mathlib.Numerals.{add-one}
use native.Mathlib.Omega.{arith}
use mathlib.Core.Path.{◌≡◌, ap, ◌∙◌}
use mathlib.Core.List.{List, [], ◌∷◌, ◌++◌}
use lib.ListN.{length, take, drop, set, replicate, length-replicate}
use lib.Seq.{sets, sets-eq}
use Rattle.basics.specs.Lists.{drop_zeros}
use Rattle.words.specs.Words.{padded}
use Rattle.words.specs.WordsLaws.{padded_zeros, take_padded}
use Rattle.frame.specs.Format.{line_feed}
use Rattle.lines.specs.declared.Text.{Text}
use Rattle.lines.specs.AnswerLaws.{line_length_lem, line_short}
use Rattle.lines.specs.BufferLaws.{sets_append}
use Rattle.lines.specs.Lines.{space, decimal, answer_line, longest_answer, answer_text}

abbrev zeros : ℕ → List ℕ
zeros n = replicate n 0

module _ (n s : ℕ) where
  -- the number, a space, the supporters and a line feed, each written where the one before it ended
  written : (l : List ℕ) (at : ℕ) → at ≡ 0 + length (decimal n)
      → set (sets (set (sets l 0 (decimal n)) at space) (at + 1) (decimal s)) (at + 1 + length (decimal s)) line_feed ≡ sets l 0 (answer_line n s)
  unfolding answer_line
  written l at p =
      let rest = decimal s ++ line_feed ∷ [] in
      sets_append (set (sets l 0 (decimal n)) at space) (at + 1) (decimal s) (line_feed ∷ [])
      ∙ ap (λ (k : ℕ). sets (set (sets l 0 (decimal n)) at space) k rest) (add-one at)
      ∙ ap (λ (k : ℕ). sets (sets l 0 (decimal n)) k (space ∷ rest)) p
      ∙ sets_append l 0 (decimal n) (space ∷ rest)

  on_zeros : sets (zeros 8) 0 (answer_line n s) ≡ padded 8 (answer_line n s)
  on_zeros =
      sets-eq (answer_line n s) (zeros 8) 0 (omega (arith, line_short n s, length-replicate {A = ℕ} 8 0))
      ∙ ap (λ (k : ℕ). answer_line n s ++ drop k (zeros 8)) (zero-add (length (answer_line n s)))
      ∙ ap (λ (z : List ℕ). answer_line n s ++ z) (drop_zeros (length (answer_line n s)) 8)
      ∙ padded_zeros 8 (answer_line n s) (line_short n s)

  -- so the text is the answer's, whatever its parts are called
  pub text_is : (at end : ℕ) (a b : List ℕ)
      → at ≡ 0 + length (decimal n)
      → a ≡ sets (zeros 8) 0 (decimal n)
      → end ≡ at + 1 + length (decimal s)
      → b ≡ sets (set a at space) (at + 1) (decimal s)
      → ◌≡◌ {A = Text} (record { len = end + 1; bytes = set b end line_feed }) (answer_text n s)
  unfolding answer_text
  text_is at end a b p q r t =
      let size : end + 1 ≡ length (answer_line n s) = omega (arith, line_length_lem n s) in
      let bytes : set b end line_feed ≡ padded 8 (answer_line n s) = rw (t, q, r) (written (zeros 8) at p ∙ on_zeros) in
      λ i. record { len = size i; bytes = bytes i }

-- and its first bytes are the line
pub text_front : (n s : ℕ) → take (answer_text n s).len (answer_text n s).bytes ≡ answer_line n s
unfolding answer_text
text_front n s = take_padded longest_answer (answer_line n s) (line_short n s)

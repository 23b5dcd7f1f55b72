-- Laws of histories in arrays.
use Rattle.std.specs.Prelude.{◌≡◌, List, ℕ, min, ◌≤◌, true, leb, length, take}
use Rattle.std.proofs.Common.{ap, ◌∙◌, arith, length-take}
use borrow.Author.Tests.{le-leb, leb-true}
use Rattle.basics.specs.Bools.{and_left, and_right}
pub use Rattle.words.specs.WordsLaws.{length_padded, take_padded}
use Rattle.words.specs.WordsLaws.{padded_first}
use Rattle.history.specs.declared.History.{History}
use Rattle.history.specs.History.{valid_history, extends}
use Rattle.history.specs.Words.{capacity, padded, commands, stored, valid_stored, extends_within}

-- a list that there is room for, stored by value, is there whole
pub commands_stored : (l : List ℕ) → length l ≤ capacity → commands (stored l) ≡ l
commands_stored l p =
    let whole : min (length l) capacity ≡ length l = omega arith in
    ap (λ (n : ℕ). take n (padded capacity l)) whole ∙ take_padded capacity l p

pub stored_valid : (limit : ℕ) (l : List ℕ) → length l ≤ limit → length l ≤ capacity → valid_history l ≡ true → valid_stored limit (stored l) ≡ true
unfolding valid_stored
stored_valid limit l p q v =
    let counted : leb (min (length l) capacity) limit ≡ true = le-leb (min (length l) capacity) limit (omega arith) in
    rw (counted, commands_stored l q) v

-- storing takes the first commands of a list
pub stored_first : (l : List ℕ) → stored (take capacity l) ≡ stored l
stored_first l =
    let counts : min (length (take capacity l)) capacity ≡ min (length l) capacity = rw length-take (omega arith) in
    λ i. record { count = counts i; words = padded_first capacity l i }

-- within its length, the code's test of extension is the test
pub extends_within_lem : (n : ℕ) (h g : List ℕ) → length h ≤ n → extends_within n h g ≡ extends h g
extends_within_lem n h g p = rw (le-leb (length h) n p)

-- what `valid_stored` says under a limit
module _ (limit : ℕ) (h : History) (e : valid_stored limit h ≡ true) where
  pub valid_stored_count : h.count ≤ limit
  unfolding valid_stored
  valid_stored_count = leb-true h.count limit (and_left (leb h.count limit) _ e)

  pub valid_stored_history : valid_history (commands h) ≡ true
  unfolding valid_stored
  valid_stored_history = and_right (leb h.count limit) _ e

  pub valid_stored_length : length (commands h) ≤ limit
  valid_stored_length = rw length-take (omega (arith, valid_stored_count))

-- Lists of words that fit eight bytes, as a command does: their parts, and what is made of them.
use Rattle.std.specs.Prelude.{List, [], ◌∷◌, ◌++◌, ℕ, zero, suc, ◌^◌, ◌<◌, take, drop, set, replicate}
use Rattle.std.proofs.Common.{lit<}
use Rattle.std.proofs.lemmas.List.Edits.{sets}
use Rattle.history.specs.History.{Equivalent, same, swap, keep, trans}
use Rattle.history.specs.Words.{padded}

-- each word of a list fits eight bytes
pub data EachFits : List ℕ → Type 0 where
  none : EachFits []
  more : {c : ℕ} {l : List ℕ} → c < 2 ^ 64 → EachFits l → EachFits (c ∷ l)

-- so it is with a part of it, with two lists of such words, with zeros after them, and with such words stored in it
pub each_take : (n : ℕ) {l : List ℕ} → EachFits l → EachFits (take n l)
each_take zero w = none
each_take (suc n) none = none
each_take (suc n) (more p w) = more p (each_take n w)

pub each_drop : (n : ℕ) {l : List ℕ} → EachFits l → EachFits (drop n l)
each_drop zero w = w
each_drop (suc n) none = none
each_drop (suc n) (more p w) = each_drop n w

pub each_append : {g h : List ℕ} → EachFits g → EachFits h → EachFits (g ++ h)
each_append none w = w
each_append (more p v) w = more p (each_append v w)

pub each_padded : (n : ℕ) {l : List ℕ} → EachFits l → EachFits (padded n l)
unfolding padded
each_padded zero w = none
each_padded (suc n) none = more (lit< tt) (each_padded n none)
each_padded (suc n) (more p w) = more p (each_padded n w)

each_set : (i : ℕ) {c : ℕ} {l : List ℕ} → EachFits l → c < 2 ^ 64 → EachFits (set l i c)
each_set i none q = none
each_set zero (more p w) q = more q w
each_set (suc i) (more p w) q = more p (each_set i w q)

pub each_sets : (i : ℕ) {l h : List ℕ} → EachFits l → EachFits h → EachFits (sets l i h)
each_sets i v none = v
each_sets i v (more p w) = each_sets (suc i) (each_set i v p) w

-- with zeros alone
pub each_zeros : (n : ℕ) → EachFits (replicate n 0)
each_zeros zero = none
each_zeros (suc n) = more (lit< tt) (each_zeros n)

-- and with the same words in another order
pub each_along : {g h : List ℕ} → Equivalent g h → EachFits g → EachFits h
each_along same w = w
each_along (swap p) (more a (more b w)) = more b (more a w)
each_along (keep e) (more a w) = more a (each_along e w)
each_along (trans e f) w = each_along f (each_along e w)

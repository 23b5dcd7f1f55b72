-- Histories in arrays and by value. The words after a history's commands mean nothing; `fill` and `History::of` write zeros there.
use Rattle.std.specs.Prelude.{Bool, ◌&&◌, List, ℕ, ◌+◌, min, leb, length, take}
unfoldable pub use Rattle.words.specs.Words.{padded}
pub use Rattle.words.specs.Sizes.{limit, capacity}
use Rattle.history.specs.declared.History.{History}
use Rattle.history.specs.History.{valid_history, extends}

-- the history by value of its words and its count
abbrev pub history_of : List ℕ → ℕ → History
history_of words count = record { count = count; words = words }

-- the commands of a history by value: its first `count` words
abbrev pub commands : History → List ℕ
commands h = take h.count h.words

-- the first commands of a list by value, as many as there is room for, and zeros after them
abbrev pub stored : List ℕ → History
stored l = record { count = min (length l) capacity; words = padded capacity l }

-- whether a history by value is one that may be lent: a count up to the limit, and `valid_history` of its commands
unfoldable pub valid_stored : ℕ → History → Bool
valid_stored limit h = leb h.count limit && valid_history (commands h)

-- how many words a union of two histories has at most: the longest list of which extension is tested
abbrev pub union_capacity : ℕ
union_capacity = capacity + capacity

-- extension, asked of lists of at most n commands only: a longer one extends nothing
abbrev pub extends_within : ℕ → List ℕ → List ℕ → Bool
extends_within n h g = leb (length h) n && extends h g

-- The work array in which the code puts the proposal together.
use Rattle.std.specs.Prelude.{◌≡◌, List, ℕ, ◌≤◌, length, take}

-- the first n of `room` words are these commands
pub record Begins (room : ℕ) (words : List ℕ) (n : ℕ) (h : List ℕ) : Type 0 where
  pub length_is : length words ≡ room
  pub count : n ≡ length h
  pub words_are : take n words ≡ h
  pub short : n ≤ room

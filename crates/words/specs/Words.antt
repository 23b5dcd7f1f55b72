-- Lists of words: comparing them, and filling one with another.
use Rattle.std.specs.Prelude.{◌≡◌, Bool, true, false, ◌&&◌, List, [], ◌∷◌, ◌++◌, ℕ, zero, suc, ◌-◌, ◌≤◌, ◌<◌, eqb, length, get_or, take, drop, replicate}

-- whether two lists are equal
unfoldable pub equal : List ℕ → List ℕ → Bool
equal [] [] = true
equal [] (d ∷ h) = false
equal (c ∷ g) [] = false
equal (c ∷ g) (d ∷ h) = eqb c d && equal g h

-- n is how many first words two lists have in common: those are the same, and behind them the lists differ or one of them ends
pub record Common (h g : List ℕ) (n : ℕ) : Type 0 where
  pub first : n ≤ length h
  pub second : n ≤ length g
  pub same : take n h ≡ take n g
  pub differ : n < length h → n < length g → get_or h n 0 ≡ get_or g n 0 → ⊥

-- the first n words of a list, with zeros where it has none
unfoldable pub padded : ℕ → List ℕ → List ℕ
padded zero l = []
padded (suc n) l = get_or l 0 0 ∷ padded n (drop 1 l)

-- a list with zeros from n on
unfoldable pub cleared : List ℕ → ℕ → List ℕ
cleared l n = take n l ++ replicate (length l - n) 0

-- Merging two histories, and appending commands to one, as document 01 words them. Merging knows no limit on length.
use Rattle.std.specs.Prelude.{◌≡◌, true, cond, List, [], ◌∷◌, ◌++◌, ℕ, length, take}
use Rattle.std.proofs.Math.Option.{Option, none, some}
use Rattle.history.specs.History.{Least, present, canonical, is_canonical, extends}

-- "The merge of g and h is the canonical least history extending both; it may not exist."
pub record IsMerge (g h m : List ℕ) : Type 0 where
  pub in_order : is_canonical m ≡ true
  pub common : Least g h m

-- g with the commands of h appended, one after the other, whose proposer and serial are not present yet
unfoldable pub appended : List ℕ → List ℕ → List ℕ
appended g [] = g
appended g (c ∷ h) = appended (cond (present c g) g (g ++ c ∷ [])) h

-- The merge, computed: g with h appended, if that extends h. Where h repeats no proposer and serial, as a history doesn't, this is the merge, and
-- there is none only where no common extension exists (`merge_found` and `merge_none` of MergeLaws.antt).
unfoldable pub merge : List ℕ → List ℕ → Option (List ℕ)
merge g h = cond (extends (appended g h) h) (some (canonical (appended g h))) none

-- the first count words of a buffer with commands appended, as many as the buffer has room for
abbrev pub appended_in : List ℕ → ℕ → List ℕ → List ℕ
appended_in buf count more = take (length buf) (appended (take count buf) more)

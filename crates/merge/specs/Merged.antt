-- What merging answers in code: the merge, that there is none, or that it is too long.
use Rattle.std.specs.Prelude.{Bool, true, false, cond, ◌&&◌, List, [], ℕ, leb, length, Result, Ok, Err}
use Rattle.std.proofs.Math.Option.{Option, none, some}
use Rattle.history.specs.History.{extends, canonical}
use Rattle.history.specs.Words.{stored}
use Rattle.history.specs.declared.History.{History}
use Rattle.merge.specs.declared.Unmerged.{Unmerged}
use Rattle.merge.specs.declared.Unmerged.TheVariants.{Split, Full}
use Rattle.merge.specs.Merge.{merge}

-- what merging answers: that there is no common extension, that the merge is too long, or else the merge
pub record Merged : Type 0 where
  pub split : Bool
  pub full : Bool
  pub history : History

-- no common extension exists
abbrev pub split : Merged
split = record { split = true; full = false; history = stored [] }

-- the merge is too long
abbrev pub full : Merged
full = record { split = false; full = true; history = stored [] }

-- the merge
abbrev pub found : List ℕ → Merged
found m = record { split = false; full = false; history = stored m }

-- what a call that answers a merge, or why there is none, has answered
abbrev pub given : Result History Unmerged → Merged
given (Ok h) = record { split = false; full = false; history = h }
given (Err Split) = split
given (Err Full) = full

-- the answer for a merge, or for none, under a limit on its length
unfoldable pub answered : ℕ → Option (List ℕ) → Merged
answered limit none = split
answered limit (some m) = cond (leb (length m) limit) (found m) full

-- The answer for g and h under a limit on their lengths and the merge's. A g or h over the limit is answered as full, since a merge of it would be
-- over the limit too; whether there is one is then not looked at.
unfoldable pub merged : ℕ → List ℕ → List ℕ → Merged
merged limit g h = cond (leb (length g) limit && leb (length h) limit) (answered limit (merge g h)) full

-- the answer for a union w of g and h that is their merge if it extends h
unfoldable pub answer_of : ℕ → List ℕ → List ℕ → Merged
answer_of limit w h = cond (extends w h) (cond (leb (length w) limit) (found (canonical w)) full) split

-- The answers of `settle` and `merge`, case by case.
use mathlib.Core.Path.{◌≡◌, refl}
use mathlib.Core.Bool.{Bool, true, false, cond, and-false}
use mathlib.Core.List.{List}
use mathlib.Core.Option.{none, some}
use Prim.Native.Nat.{ℕ}
use lib.Dec.{leb}
use lib.ListN.{length}
use Rattle.history.specs.History.{extends, canonical}
use Rattle.history.specs.CanonicalLaws.{canonical_length}
use Rattle.history.specs.declared.History.{History}
use Rattle.history.specs.Words.{stored}
use Rattle.merge.specs.Merge.{appended, merge}
use Rattle.merge.specs.Merged.{split, full, found, answered, merged, answer_of}

pub answer_split : (limit : ℕ) (w h : List ℕ) → extends w h ≡ false → answer_of limit w h ≡ split
unfolding answer_of
answer_split limit w h e = rw e

-- v is what bringing h's commands to the front of w leaves, of the same length
pub answer_full : (limit : ℕ) (w h v : List ℕ) → extends w h ≡ true → length v ≡ length w → leb (length v) limit ≡ false → answer_of limit w h ≡ full
unfolding answer_of
answer_full limit w h v e k p = rw (e, ← k, p)

pub answer_found : (limit : ℕ) (w h v : List ℕ) (o : History) → extends w h ≡ true → length v ≡ length w → leb (length v) limit ≡ true → o ≡ stored (canonical w)
    → record { split = false; full = false; history = o } ≡ answer_of limit w h
unfolding answer_of
answer_found limit w h v o e k p q = rw (e, ← k, p, q)

pub merged_long_left : (limit : ℕ) (g h : List ℕ) → leb (length g) limit ≡ false → merged limit g h ≡ full
unfolding merged
merged_long_left limit g h p = rw p

pub merged_long_right : (limit : ℕ) (g h : List ℕ) → leb (length h) limit ≡ false → merged limit g h ≡ full
unfolding merged
merged_long_right limit g h p = rw (p, and-false (leb (length g) limit))

pub merged_union : (limit : ℕ) (g h : List ℕ) → leb (length g) limit ≡ true → leb (length h) limit ≡ true → merged limit g h ≡ answer_of limit (appended g h) h
unfolding merged merge answer_of answered
merged_union limit g h p q = rw (p, q) (go (extends (appended g h) h))
  where
    m : List ℕ
    m = canonical (appended g h)

    go : (b : Bool) → answered limit (cond b (some m) none) ≡ cond b (cond (leb (length (appended g h)) limit) (found m) full) split
    go true = rw (canonical_length (appended g h))
    go false = refl

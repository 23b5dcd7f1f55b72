-- What the answer of a merge means: split exactly where no common extension exists, full where the merge is over the limit, else the merge.
use Rattle.std.specs.Prelude.{◌≡◌, refl, Bool, true, false, cond, ◌&&◌, List, ℕ, ◌≤◌, ◌<◌, leb, length}
use Rattle.std.proofs.Common.{ap, ◌∙◌, le-leb, leb-true, leb-false}
use Rattle.std.proofs.Math.Bool.{and_comm}
use Rattle.std.proofs.Math.Option.{Option, none, some}
use Rattle.history.specs.History.{Compatible, repeated}
use Rattle.merge.specs.Merge.{IsMerge, merge}
use Rattle.merge.specs.MergeLaws.{merge_none, merge_found, merge_comm}
use Rattle.merge.specs.Merged.{split, full, found, answered, merged}

-- the three answers under a limit, each with what it means
pub data Answers (limit : ℕ) (g h : List ℕ) : Type 0 where
  is_split : merged limit g h ≡ split → (Compatible g h → ⊥) → Answers limit g h
  is_full : {m : List ℕ} → merged limit g h ≡ full → IsMerge g h m → limit < length m → Answers limit g h
  is_found : {m : List ℕ} → merged limit g h ≡ found m → IsMerge g h m → length m ≤ limit → Answers limit g h

pub merged_answers : (limit : ℕ) (g h : List ℕ) → length g ≤ limit → length h ≤ limit → repeated h ≡ false → Answers limit g h
unfolding merged answered
merged_answers limit g h p q u = go (merge g h) refl
  where
    answer : merged limit g h ≡ answered limit (merge g h)
    answer = rw (le-leb (length g) limit p, le-leb (length h) limit q)

    sized : (m : List ℕ) → merge g h ≡ some m → (b : Bool) → leb (length m) limit ≡ b → merged limit g h ≡ cond b (found m) full
    sized m e b f = answer ∙ ap (answered limit) e ∙ ap (λ (x : Bool). cond x (found m) full) f

    fits : (m : List ℕ) → merge g h ≡ some m → (b : Bool) → leb (length m) limit ≡ b → Answers limit g h
    fits m e true f = is_found (sized m e true f) (merge_found g h u e) (leb-true (length m) limit f)
    fits m e false f = is_full (sized m e false f) (merge_found g h u e) (leb-false (length m) limit f)

    go : (o : Option (List ℕ)) → merge g h ≡ o → Answers limit g h
    go none e = is_split (answer ∙ ap (answered limit) e) (merge_none g h u e)
    go (some m) e = fits m e (leb (length m) limit) refl

-- the answer is the same in either order
pub merged_comm : (limit : ℕ) (g h : List ℕ) → repeated g ≡ false → repeated h ≡ false → merged limit g h ≡ merged limit h g
unfolding merged
merged_comm limit g h u v =
    ap (λ (o : Option (List ℕ)). cond (leb (length g) limit && leb (length h) limit) (answered limit o) full) (merge_comm g h u v)
    ∙ ap (λ (b : Bool). cond b (answered limit (merge h g)) full) (and_comm (leb (length g) limit) (leb (length h) limit))

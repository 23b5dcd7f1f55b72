-- What the laws in proofs/ProposalLaws.antt speak of.
use Rattle.std.specs.Prelude.{◌≡◌}
use mathlib.Core.List.{List, []}
use Prim.Native.Nat.{ℕ, ◌≤◌, ◌<◌}
use Rattle.std.proofs.Math.ListN.{length, take}
use Rattle.history.specs.History.{Equivalent}
use Rattle.merge.specs.Merge.{appended}

-- where g is from: it is empty, or site i's for an i below n, and each lower site's is shorter
pub data From (n : ℕ) (f : ℕ → List ℕ) (g : List ℕ) : Type 0 where
  nowhere : g ≡ [] → From n f g
  site : (i : ℕ) → i < n → g ≡ f i → ((j : ℕ) → j < i → length (f j) < length g) → From n f g

-- g is the longest, "of equals, the lowest site's", of those that f gives of the sites below n: none of them is longer
pub record Longest (n : ℕ) (f : ℕ → List ℕ) (g : List ℕ) : Type 0 where
  pub from : From n f g
  pub most : (j : ℕ) → j < n → length (f j) ≤ length g

-- P stays with a history that is cut off after n commands, to which one that has Q is appended, or whose order changes to an equivalent one
pub record Closed (P Q : List ℕ → Type 0) : Type 0 where
  pub cut : (n : ℕ) {h : List ℕ} → P h → P (take n h)
  pub appending : {g h : List ℕ} → P g → Q h → P (appended g h)
  pub reordering : {g h : List ℕ} → Equivalent g h → P g → P h

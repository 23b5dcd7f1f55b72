-- The leader's proposal, made of the reports and of what is pending, as document 01, "Leader", words it.
use Rattle.std.specs.Prelude.{cond, List, [], ◌∷◌, ℕ, zero, suc, ltb, length, take}
use Rattle.roster.specs.Mask.{bit}
use Rattle.history.specs.History.{canonical}
use Rattle.merge.specs.Merge.{appended}
use Rattle.merge.specs.Appending.{holds}
use Rattle.table.specs.Table.{row}

-- the history of site i's report in a table's words and counts; none where the site is not marked as one that reported
unfoldable pub report : List ℕ → List ℕ → ℕ → ℕ → List ℕ
report words counts reported i = cond (bit reported i) (row words counts i) []

-- the longer of two histories, the first of two equally long ones
unfoldable pub longer : List ℕ → List ℕ → List ℕ
longer g h = cond (ltb (length g) (length h)) h g

-- "the longest proven history (of equals, the lowest site's)": of those that f gives of the sites below n
unfoldable pub longest_to : ℕ → (ℕ → List ℕ) → List ℕ
longest_to zero f = []
longest_to (suc n) f = longer (longest_to n f) (f n)

-- g with h appended, "skipping any proposer and serial present and stopping at 32": at the limit
unfoldable pub filled : ℕ → List ℕ → List ℕ → List ℕ
filled limit g h = take limit (appended g h)

-- "Then it appends the held histories by rising site": those that f gives of the sites below n
unfoldable pub filled_to : ℕ → ℕ → (ℕ → List ℕ) → List ℕ → List ℕ
filled_to limit zero f g = g
filled_to limit (suc n) f g = filled limit (filled_to limit n f g) (f n)

-- what the leader puts together of n sites' reports, proven and held, "then pending"
unfoldable pub assembled : ℕ → ℕ → (ℕ → List ℕ) → (ℕ → List ℕ) → List ℕ → List ℕ
assembled limit n proven held pending = filled limit (filled_to limit n held (longest_to n proven)) pending

-- the proposal: "the canonical result"
unfoldable pub proposal : ℕ → ℕ → (ℕ → List ℕ) → (ℕ → List ℕ) → List ℕ → List ℕ
proposal limit n proven held pending = canonical (assembled limit n proven held pending)

-- "Pending keeps what the result doesn't hold": the commands of `pending`, in their order, that h does not hold
unfoldable pub remaining : List ℕ → List ℕ → List ℕ
remaining [] h = []
remaining (c ∷ pending) h = cond (holds h c) (remaining pending h) (c ∷ remaining pending h)

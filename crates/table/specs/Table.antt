-- Tables: one history a site, sixteen in all, in rows of `capacity` words. Row i is the words from `capacity` * i on; its first words, as many as
-- count i says, are the history, and the words after them mean nothing.
use Rattle.std.specs.Prelude.{Bool, cond, ◌&&◌, List, [], ℕ, ◌+◌, ◌*◌, leb, ltb, eqb, length, take, drop, get_or, set, replicate}
use Rattle.std.proofs.lemmas.List.Edits.{sets}
use Rattle.roster.specs.Sites.{all_to}
use Rattle.history.specs.History.{valid_history}
use Rattle.history.specs.Words.{capacity, padded}
use Rattle.table.specs.declared.Table.{Table}

-- "4 ≤ N ≤ 16": the most sites, one row for each
abbrev pub sites : ℕ
sites = 16

-- whether there is a history i: it has a count, for which a row has room, and a row
unfoldable pub in_range : List ℕ → List ℕ → ℕ → Bool
in_range words counts i = ltb i (length counts) && (leb (capacity * i + capacity) (length words) && leb (get_or counts i 0) capacity)

-- history i of the words and the counts; none where it is out of range
unfoldable pub row : List ℕ → List ℕ → ℕ → List ℕ
row words counts i = cond (in_range words counts i) (take (get_or counts i 0) (drop (capacity * i) words)) []

-- history i of a table
abbrev pub row_of : Table → ℕ → List ℕ
row_of t i = row t.words t.counts i

-- the table with l in row i: the count is l's length, the words are l with zeros after it; all else stays
abbrev pub with_row : Table → ℕ → List ℕ → Table
with_row t i l = record { counts = set t.counts i (length l); words = sets t.words (capacity * i) (padded capacity l) }

-- history l stored as row i; the table stays where there is no such row, or l is too long for one
unfoldable pub stored_at : Table → ℕ → List ℕ → Table
stored_at t i l = cond (ltb i sites && leb (length l) capacity) (with_row t i l) t

-- a table of these words and counts, and history l stored as row i of it; they stay where one of them is shorter than a table's
abbrev pub table_of : List ℕ → List ℕ → Table
table_of words counts = record { counts = counts; words = words }

unfoldable pub stored_in : List ℕ → List ℕ → ℕ → List ℕ → Table
stored_in words counts i l =
    cond (leb sites (length counts) && leb (capacity * sites) (length words)) (stored_at (table_of words counts) i l) (table_of words counts)

-- all counts and words 0, as at the start of a ballot
unfoldable pub empty_table : Table
empty_table = record { counts = replicate sites 0; words = replicate (capacity * sites) 0 }

-- what CONFIG asks of row i of lent state, under a limit and for N sites: no "count over 32", "a wrong command, a repeated proposer and serial in one
-- list, a stored history not canonical", nor an "entry at N or above"
unfoldable pub valid_row : ℕ → ℕ → List ℕ → List ℕ → ℕ → Bool
valid_row limit n words counts i =
    leb (get_or counts i 0) limit && cond (ltb i n) (valid_history (row words counts i)) (eqb (get_or counts i 0) 0)

-- and of a table: every row
unfoldable pub valid_table : ℕ → ℕ → Table → Bool
valid_table limit n t = all_to sites (valid_row limit n t.words t.counts)

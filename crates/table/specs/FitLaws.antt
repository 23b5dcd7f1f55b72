-- The words of a table's rows fit eight bytes if all its words do, and a history of such words that is stored keeps this.
use Rattle.std.specs.Prelude.{Bool, true, false, cond, List, [], ℕ, ◌*◌, get_or, take, drop}
use Rattle.history.specs.Words.{capacity}
use Rattle.history.specs.FitLaws.{EachFits, none, each_take, each_drop, each_padded, each_sets, each_zeros}
use Rattle.table.specs.declared.Table.{Table}
use Rattle.table.specs.Table.{sites, in_range, row, stored_at, empty_table}
use Rattle.table.specs.TableLaws.{stored_keeps}

-- the words of a row
pub each_row : (words counts : List ℕ) (i : ℕ) → EachFits words → EachFits (row words counts i)
unfolding row
each_row words counts i w = go (in_range words counts i)
  where
    go : (b : Bool) → EachFits (cond b (take (get_or counts i 0) (drop (capacity * i) words)) [])
    go true = each_take (get_or counts i 0) (each_drop (capacity * i) w)
    go false = none

-- a table with a history stored in it
pub each_stored : (t : Table) (i : ℕ) {l : List ℕ} → EachFits t.words → EachFits l → EachFits (stored_at t i l).words
each_stored t i {l} v w = stored_keeps (λ x. EachFits x.words) t i l v (λ p q. each_sets (capacity * i) v (each_padded capacity w))

-- the empty table
pub each_empty : EachFits empty_table.words
unfolding empty_table
each_empty = each_zeros (capacity * sites)

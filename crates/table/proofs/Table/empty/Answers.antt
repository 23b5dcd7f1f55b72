-- `table::Table::empty` meets its contract: both arrays are the zeros that the definition has.
use mathlib.Core.Path.{refl}
use Rattle.table.specs.Table.{empty_table}
use Rattle.table.proofs.Table.empty.Goals as goal

pub returns : goal.returns
unfolding empty_table
returns c = refl

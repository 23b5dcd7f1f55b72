-- `table::Table::store` meets its contract: a table's words and counts are as many as `store` asks for.
use Rattle.std.proofs.Common.{◌∙◌, rules}
use Rattle.table.specs.TableLaws.{stored_in_lem}
use Rattle.table.proofs.Table.store.Goals as goal

pub returns : goal.returns
returns c = c.store.ensures ∙ stored_in_lem _ _ _ _ (search rules) (search rules)

-- `table::Rows::valid` meets its contract: the chain asks `row_valid` of each row, which is the definition.
use Rattle.std.proofs.Common.{rules, sym, refl, ◌∙◌}
use Rattle.std.proofs.lemmas.Iterator.{YieldsList-from_range}
use Rattle.std.proofs.lemmas.Iterator.Search.{all_from_yields_List}
use borrow.Author.Tests.{tests}
use Rattle.table.specs.Table.{valid_row}
use Rattle.table.proofs.Ranges.{all_range}
use Rattle.table.proofs.Rows.valid.Goals as goal

pub returns : goal.returns
returns c =
    all_from_yields_List (valid_row c.args.limit c.args.n c.args.self.words.now c.args.self.counts.now) _ _ _ c.all.ensures.ran (YieldsList-from_range 0 16 16 refl refl)
    (λ x b q k. search (rules, tests))
    ∙ sym (all_range _ 16)

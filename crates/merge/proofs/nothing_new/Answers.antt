-- `merge::nothing_new` meets its contract: the chain asks `holds` of each command, which is the definition.
use Rattle.std.proofs.Common.{rules, sym, ◌∙◌}
use Rattle.std.proofs.lemmas.Iterator.{YieldsList-from_slice}
use Rattle.std.proofs.lemmas.Iterator.Search.{all_from_yields_List}
use borrow.Author.Tests.{tests}
use Rattle.merge.specs.Appending.{holds}
use Rattle.merge.proofs.Scans.{nothing_all}
use Rattle.merge.proofs.nothing_new.Goals as goal

pub returns : goal.returns
returns c = let g = c.args.g.now in
    let h = c.args.h.now in
    all_from_yields_List (holds g) _ _ _ c.all.ensures.ran (YieldsList-from_slice h cc) (λ x b q k. search (rules, tests)) ∙ sym (nothing_all g h)

-- `merge::reuses` meets its contract: the chain asks `differs` of each command, which is the definition.
use Rattle.std.proofs.Common.{rules, sym, ◌∙◌}
use Rattle.std.proofs.lemmas.Iterator.{YieldsList-from_slice}
use Rattle.std.proofs.lemmas.Iterator.Search.{any_from_yields_List}
use borrow.Author.Tests.{tests}
use Rattle.merge.specs.Appending.{differs}
use Rattle.merge.proofs.Scans.{reuses_any}
use Rattle.merge.proofs.reuses.Goals as goal

pub returns : goal.returns
returns c = let g = c.args.g.now in
    let h = c.args.h.now in
    any_from_yields_List (differs g) _ _ _ c.any.ensures.ran (YieldsList-from_slice h cc) (λ x b q k. search (rules, tests)) ∙ sym (reuses_any g h)

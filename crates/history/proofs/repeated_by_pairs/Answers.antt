-- `history::repeated_by_pairs` meets its contract: the chain compares each command with those after it, which is the definition.
use Rattle.std.specs.Prelude.{◌+◌, ◌-◌, length, take, drop, get_or}
use Rattle.std.proofs.Common.{rules, arith, sym, refl, ◌∙◌}
use Rattle.std.proofs.lemmas.Iterator.{YieldsList-from_range}
use Rattle.std.proofs.lemmas.Iterator.Search.{any_from_yields_List}
use borrow.Author.Tests.{tests}
use Rattle.history.specs.History.{present}
use Rattle.history.proofs.Scans.{repeated_chain}
use Rattle.history.proofs.repeated_by_pairs.Goals as goal

pub returns : goal.returns
returns c = let h = c.args.h.now in
    any_from_yields_List (λ i. present (get_or h i 0) (take (length h - (i + 1)) (drop (i + 1) h))) _ _ _ c.any.ensures.ran (YieldsList-from_range 0 (length h) (length h) refl (omega arith)) (λ x b q k. search (rules, tests))
    ∙ sym (repeated_chain h)

-- `frame::all_zero` meets its contract: the chain asks of each word whether it is 0, which is the definition.
use Rattle.std.specs.Prelude.{eqb}
use Rattle.std.proofs.Common.{rules, sym, ◌∙◌}
use Rattle.std.proofs.lemmas.Iterator.{YieldsList-from_slice}
use Rattle.std.proofs.lemmas.Iterator.Search.{all_from_yields_List}
use borrow.Author.Tests.{tests}
use Rattle.frame.proofs.Turns.{all_zero_chain}
use Rattle.frame.proofs.all_zero.Goals as goal

pub returns : goal.returns
returns c = let ws = c.args.words.now in
    all_from_yields_List (λ w. eqb w 0) _ _ _ c.all.ensures.ran (YieldsList-from_slice ws cc) (λ x b q k. search (rules, tests)) ∙ sym (all_zero_chain ws)

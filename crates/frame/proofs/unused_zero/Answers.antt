-- `frame::unused_zero` meets its contract: the chain asks of each field whether the row has it or it is 0, which is the definition.
use Rattle.std.specs.Prelude.{◌||◌, [], eqb, get_or}
use Rattle.std.proofs.Common.{rules, sym, ◌∙◌}
use Rattle.std.proofs.lemmas.Iterator.{YieldsList-from_slice, YieldsList-from_zip}
use Rattle.std.proofs.lemmas.Iterator.Consumers.{YieldsList-at}
use Rattle.std.proofs.lemmas.Iterator.Search.{all_from_yields_List}
use borrow.Author.Tests.{tests}
use Rattle.frame.specs.Kinds.{uses}
use Rattle.frame.proofs.Turns.{unused_chain}
use Rattle.frame.proofs.unused_zero.Goals as goal

pub returns : goal.returns
unfolding uses
returns c = let row = get_or uses c.args.kind [] in
    let head = c.args.head.now in
    all_from_yields_List (λ p. p.0 || eqb p.1 0) c.all.new.self _ _ c.all.ensures.ran (YieldsList-from_zip (YieldsList-at c.zip.ensures.first (YieldsList-from_slice row c.iter.ensures.rest)) (YieldsList-from_slice head cc)) (λ x b q k. search (rules, tests))
    ∙ sym (unused_chain row head)

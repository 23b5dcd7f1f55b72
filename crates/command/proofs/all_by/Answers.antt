-- `command::all_by` meets its contract: the chain asks of each command whether it is by the proposer, which is the definition.
use Rattle.std.specs.Prelude.{eqb}
use Rattle.std.proofs.Common.{rules, sym, ◌∙◌}
use Rattle.std.proofs.lemmas.Iterator.{YieldsList-from_slice}
use Rattle.std.proofs.lemmas.Iterator.Search.{all_from_yields_List}
use borrow.Author.Tests.{tests}
use Rattle.command.specs.Command.{proposer}
use Rattle.command.proofs.Chains.{all_by_chain}
use Rattle.command.proofs.all_by.Goals as goal

pub returns : goal.returns
returns c = let by = c.args.by in
    let h = c.args.h.now in
    all_from_yields_List (λ d. eqb (proposer d) by) _ _ _ c.all.ensures.ran (YieldsList-from_slice h cc) (λ x b q k. search (rules, tests))
    ∙ sym (all_by_chain by h)

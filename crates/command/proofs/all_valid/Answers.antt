-- `command::all_valid` meets its contract: the chain asks `valid` of each command, which is the definition.
use Rattle.std.proofs.Common.{rules, sym, ◌∙◌}
use Rattle.std.proofs.lemmas.Iterator.{YieldsList-from_slice}
use Rattle.std.proofs.lemmas.Iterator.Search.{all_from_yields_List}
use borrow.Author.Tests.{tests}
use Rattle.command.specs.Command.{valid_command}
use Rattle.command.proofs.Chains.{all_valid_chain}
use Rattle.command.proofs.all_valid.Goals as goal

pub returns : goal.returns
returns c = let h = c.args.h.now in
    all_from_yields_List valid_command _ _ _ c.all.ensures.ran (YieldsList-from_slice h cc) (λ x b q k. search (rules, tests)) ∙ sym (all_valid_chain h)

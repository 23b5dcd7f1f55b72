-- `frame::proper` meets its contract: its tests are those of the contract, in the same order.
use Rattle.std.proofs.Common.{rules, sym, ◌∙◌}
use Rattle.frame.proofs.Turns.{proper_tests}
use Rattle.frame.proofs.proper.Goals as goal

pub returns-then-few : goal.returns-then-few
returns-then-few c = search rules ∙ sym (proper_tests c.args.limit c.args.head.now)

pub returns-else-few : goal.returns-else-few
returns-else-few c = search rules ∙ sym (proper_tests c.args.limit c.args.head.now)

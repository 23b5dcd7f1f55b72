-- `command::kinds_conflict` meets its contract: past the kinds the table says no, and at two numbers below 4 the constant is the table.
use native.Mathlib.Omega.{arith}
use mathlib.Core.Path.{sym, ◌∙◌}
use Rattle.command.specs.Command.{kinds_table, kinds_conflict}
use Rattle.command.proofs.KindsLaws.{kinds_past, kinds_sym}
use borrow.Author.Rules.{rules}
use Rattle.command.proofs.kinds_conflict.Goals as goal

pub returns-then-k-ge4 : goal.returns-then-k-ge4
returns-then-k-ge4 c = sym (kinds_past c.args.k c.args.l (omega arith))

pub returns-then-l-ge4 : goal.returns-then-l-ge4
returns-then-l-ge4 c = let args = c.args in
    sym (kinds_sym args.k args.l ∙ kinds_past args.l args.k (omega arith))

pub returns : goal.returns
unfolding kinds_conflict kinds_table
returns c = search rules

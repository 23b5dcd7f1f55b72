-- `command::valid_argument` meets its contract: each arm rewrites the definition with what is known of the kind there.
use native.Mathlib.Omega.{arith}
use mathlib.Core.Path.{sym}
use Rattle.command.specs.CommandLaws.{valid_raise, valid_other, valid_no_kind}
use Rattle.command.proofs.valid_argument.Goals as goal

pub returns-in-3 : goal.returns-in-3
returns-in-3 c = sym (valid_raise c.args.k c.args.a (omega arith))

pub returns-in-1 : goal.returns-in-1
returns-in-1 c = let args = c.args in
    sym (valid_other args.k args.a (omega arith) (omega arith))

pub returns-in_default : goal.returns-in_default
returns-in_default c = let args = c.args in
    sym (valid_no_kind args.k args.a (λ e. omega arith) (λ e. omega arith) (λ e. omega arith))

pub returns-in_default-2 : goal.returns-in_default-2
returns-in_default-2 c = let args = c.args in
    sym (valid_no_kind args.k args.a (λ e. omega arith) (λ e. omega arith) (λ e. omega arith))

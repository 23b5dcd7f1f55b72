-- `lines::roster` meets its contract: two bytes are four digits, and without one of the bytes there are not four.
use mathlib.Core.Path.{◌∙◌}
use Rattle.lines.proofs.Digits.{roster_some, no_first, no_second}
use Rattle.lines.proofs.roster.Goals as goal

pub returns-in_err-byte : goal.returns-in_err-byte
returns-in_err-byte c = c.from_residual.ensures ∙ no_first c.args.a c.args.b c.args.c c.args.d c.in_err-byte.ensures

pub returns-in_err-byte-2 : goal.returns-in_err-byte-2
returns-in_err-byte-2 c = c.from_residual-in_err-byte-2.ensures ∙ no_second c.args.a c.args.b c.args.c c.args.d c.in_err-byte-2.ensures

pub returns : goal.returns
returns c =
    roster_some c.args.a c.args.b c.args.c c.args.d c.in_ok-byte.field-0 c.in_ok-byte-2.field-0 c.in_ok-byte.ensures c.in_ok-byte-2.ensures

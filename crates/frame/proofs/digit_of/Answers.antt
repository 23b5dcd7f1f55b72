-- `frame::digit_of` meets its contract: the entry is what the table's rule gives at the character.
use Rattle.frame.proofs.Entries.{value_at}
use native.Mathlib.Omega.{arith}
use Rattle.frame.proofs.digit_of.Goals as goal

pub returns : goal.returns
returns c = value_at _ c.requires c.args.c (omega arith)

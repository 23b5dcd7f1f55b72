-- `history::place_below` meets its contract: a command at least as large as all before it has its place behind them.
use mathlib.Core.Path.{sym, ◌∙◌}
use native.Mathlib.Omega.{arith}
use borrow.Author.Rules.{rules}
use lib.Seq.{length-take-le}
use Rattle.history.proofs.Turns.{place_bounded}
use Rattle.history.proofs.place_below.Goals as goal

pub returns-then-largest-h : goal.returns-then-largest-h
returns-then-largest-h c = (search rules, sym (place_bounded _ c.if-largest-h.true c.requires.1 ∙ length-take-le c.args.n _ (omega arith)))

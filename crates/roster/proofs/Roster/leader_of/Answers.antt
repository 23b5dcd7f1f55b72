-- `roster::Roster::leader_of` meets its contract: where there are sites, the view mod their number is below it, so it fits a byte.
use mathlib.Core.Path.{sym}
use native.Mathlib.Nat.{lt_trans, mod-lt}
use native.Mathlib.Omega.{arith}
use borrow.Author.Rules.{rules}
use Rattle.roster.specs.RosterLaws.{leader_none, leader_is}
use Rattle.roster.proofs.Roster.leader_of.Goals as goal

pub returns-then-sites-eq0 : goal.returns-then-sites-eq0
returns-then-sites-eq0 c = sym (leader_none c.args.self c.args.view c.if-sites-eq0.true)

pub overflow_cast-result-2 : goal.overflow_cast-result-2
overflow_cast-result-2 c = record { fits = lt_trans (mod-lt _ (omega (arith, c.if-sites-eq0.false))) (search rules) }

pub returns : goal.returns
returns c = sym (leader_is c.args.self c.args.view (omega (arith, c.if-sites-eq0.false)))

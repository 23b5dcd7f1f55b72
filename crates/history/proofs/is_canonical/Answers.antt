-- `history::is_canonical` meets its contract: the loop keeps that the test by places from the start is the test from here on, with no command so far above the largest.
use native.Mathlib.Omega.{arith}
use mathlib.Core.Path.{sym, ◌∙◌}
use borrow.Author.Rules.{rules}
use Rattle.history.specs.Code.Insertion.{none}
use Rattle.history.specs.InsertionLaws.{stays_canonical}
use Rattle.history.proofs.Scans.{stays_stop, stays_more, stays_end}
use Rattle.history.proofs.Turns.{bounded_next}
use Rattle.history.proofs.is_canonical.Goals as goal

pub loop-i-init : goal.loop-i-init
loop-i-init c = (stays_canonical _, none)

pub place_below-requires : goal.place_below-requires
place_below-requires c = (search rules, c.loop-i.invariant.1)

pub returns-then-place_below-i : goal.returns-then-place_below-i
returns-then-place_below-i c = sym (stays_stop _ c.loop-i.i (omega arith) (λ e. c.if-place_below-i.true (c.place_below.ensures.1 ∙ e))) ∙ c.loop-i.invariant.0

pub loop-i-preserved : goal.loop-i-preserved
loop-i-preserved c = (
  sym (stays_more _ c.loop-i.i (omega arith) (sym c.place_below.ensures.1 ∙ c.if-place_below-i.false)) ∙ c.loop-i.invariant.0,
  bounded_next _ c.loop-i.i _ _ (omega arith) (omega arith) (omega arith) c.loop-i.invariant.1,
)

pub returns : goal.returns
returns c = sym (stays_end _ c.loop-i.i (omega arith)) ∙ c.loop-i.invariant.0

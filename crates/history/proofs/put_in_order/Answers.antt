-- `history::put_in_order` meets its contract: the loop keeps that inserting the commands from i on behind the first i, which are in order, gives the canonical order.
use native.Mathlib.Omega.{arith}
use mathlib.Core.Path.{sym, ◌∙◌}
use borrow.Author.Rules.{rules}
use Rattle.history.specs.Code.Insertion.{none}
use Rattle.history.specs.InsertionLaws.{arrange_canonical}
use Rattle.history.proofs.Turns.{arrange_turn, arrange_end}
use Rattle.history.proofs.put_in_order.Goals as goal

pub loop-i-init : goal.loop-i-init
loop-i-init c = record { inside = search rules; size = search rules; rest = arrange_canonical _; bound = none }

pub place_below-at-requires : goal.place_below-at-requires
place_below-at-requires c = (search rules, c.loop-i.invariant.bound)

pub loop-i-preserved : goal.loop-i-preserved
loop-i-preserved c = let turn = c.loop-i in
    arrange_turn turn.h turn.i c.place_below-at.result _ _ _ _ c.rotate.new.s turn.invariant c.place_below-at.ensures.0 (omega arith) c.place_below-at.ensures.1
    (omega arith) (omega arith) c.rotate.ensures

pub returns : goal.returns
returns c = sym (arrange_end _ c.loop-i.i (omega arith)) ∙ c.loop-i.invariant.rest

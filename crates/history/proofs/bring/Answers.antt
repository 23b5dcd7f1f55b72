-- `history::bring` meets its contract: the loop keeps that the first i commands of g stand in front, and that the test and the result go on from there.
use Prim.Native.Nat.{ℕ, ◌+◌}
use native.Mathlib.Omega.{arith}
use mathlib.Core.Path.{ap}
use lib.ListN.{drop, get_or, length-drop}
use Rattle.history.specs.FrontLaws.{off_at_le}
use Rattle.history.proofs.Scans.{tail_part}
use Rattle.history.proofs.Turns.{bring_start, bring_end, bring_stop, bring_turn}
use Rattle.history.proofs.bring.Goals as goal

pub loop-i-init : goal.loop-i-init
loop-i-init c = bring_start _ _

pub overflow_add-at : goal.overflow_add-at
overflow_add-at c = let given = c.args in
    let turn = c.loop-i in
    let found = rw tail_part at c.find.ensures in
    omega (arith, found, off_at_le (get_or given.g.now turn.i 0) (drop turn.i turn.work), length-drop turn.i turn.work)

pub returns-then-work-at : goal.returns-then-work-at
returns-then-work-at c = let turn = c.loop-i in
    bring_stop turn.work _ turn.i _ _ _ turn.invariant (omega arith) (rw (← rw tail_part at c.find.ensures) (omega arith))

pub loop-i-preserved : goal.loop-i-preserved
loop-i-preserved c = let turn = c.loop-i in
    bring_turn turn.work _ turn.i _ _ _ turn.invariant (omega arith) (turn.i + c.find.result) (ap (λ (j : ℕ). turn.i + j) (rw tail_part at c.find.ensures)) (omega arith) c.rotate.new.s c.rotate.ensures

pub returns : goal.returns
returns c = bring_end _ _ c.loop-i.i _ _ _ c.loop-i.invariant (omega arith)

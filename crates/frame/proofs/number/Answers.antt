-- `frame::number` meets its contract: the loop keeps that the digits' test and the number go on from the byte it is at.
use Rattle.frame.proofs.Turns.{fine_below, spelling_start, spelling_stop, spelling_turn, spelling_end, room}
use native.Mathlib.Omega.{arith}
use Rattle.frame.proofs.number.Goals as goal

pub loop-i-init : goal.loop-i-init
loop-i-init c = spelling_start _ _

pub digit_of-a-requires : goal.digit_of-a-requires
digit_of-a-requires c = c.requires.0

pub digit_of-b-requires : goal.digit_of-b-requires
digit_of-b-requires c = c.requires.0

pub returns-then-not-fine : goal.returns-then-not-fine
returns-then-not-fine c = spelling_stop _ _ c.loop-i.x c.loop-i.i c.loop-i.invariant c.requires.2 (omega arith) _ _ c.digit_of-a.ensures c.digit_of-b.ensures c.if-not-fine.true

pub overflow_mul-x : goal.overflow_mul-x
overflow_mul-x c = omega (arith, room c.loop-i.i c.loop-i.x c.loop-i.invariant.below (omega arith), fine_below c.digit_of-a.result c.digit_of-b.result c.if-not-fine.false)

pub overflow_mul-x-in-loop-i : goal.overflow_mul-x-in-loop-i
overflow_mul-x-in-loop-i c = omega (arith, room c.loop-i.i c.loop-i.x c.loop-i.invariant.below (omega arith), fine_below c.digit_of-a.result c.digit_of-b.result c.if-not-fine.false)

pub overflow_add-x : goal.overflow_add-x
overflow_add-x c = omega (arith, room c.loop-i.i c.loop-i.x c.loop-i.invariant.below (omega arith), fine_below c.digit_of-a.result c.digit_of-b.result c.if-not-fine.false)

pub overflow_add-x-in-loop-i : goal.overflow_add-x-in-loop-i
overflow_add-x-in-loop-i c = omega (arith, room c.loop-i.i c.loop-i.x c.loop-i.invariant.below (omega arith), fine_below c.digit_of-a.result c.digit_of-b.result c.if-not-fine.false)

pub loop-i-preserved : goal.loop-i-preserved
loop-i-preserved c = spelling_turn _ _ c.loop-i.x c.loop-i.i c.loop-i.invariant c.requires.2 (omega arith) _ _ c.digit_of-a.ensures c.digit_of-b.ensures c.if-not-fine.false

pub returns : goal.returns
returns c = spelling_end _ _ c.loop-i.x c.loop-i.i c.loop-i.invariant c.requires.2 (omega arith)

-- `history::repeated_by_marks` meets its contract: the loop keeps that the part passed has no repeat and that the marks of its commands are set.
use mathlib.Core.Path.{◌≡◌, sym, refl, ◌∙◌}
use native.Mathlib.Omega.{arith}
use Prim.Native.Nat.{◌+◌, ◌-◌}
use Rattle.history.proofs.Scans.{tail_part}
use Rattle.history.proofs.Marks.{marking_start, marking_stop, marking_turn}
use Rattle.history.proofs.repeated_by_marks.Goals as goal

pub loop-i-init : goal.loop-i-init
loop-i-init c = marking_start _ _ refl

pub met-requires : goal.met-requires
met-requires c = let back : c.loop-i.i - 1 + 1 ≡ c.loop-i.i = omega arith in
    rw (tail_part, back) c.loop-i.invariant.marks

pub returns-then-met : goal.returns-then-met
returns-then-met c = let back : c.loop-i.i - 1 + 1 ≡ c.loop-i.i = omega arith in
    sym (marking_stop _ c.loop-i.i (omega arith) c.loop-i.invariant.inside (sym (rw (tail_part, back) at c.met.ensures) ∙ c.if-met.true))

pub loop-i-preserved : goal.loop-i-preserved
loop-i-preserved c = let back : c.loop-i.i - 1 + 1 ≡ c.loop-i.i = omega arith in
    rw c.mark.ensures (marking_turn _ c.loop-i.i (omega arith) c.loop-i.invariant.inside _ c.loop-i.invariant (sym (rw (tail_part, back) at c.met.ensures) ∙ c.if-met.false))

pub returns : goal.returns
returns c = let e : c.loop-i.i ≡ 0 = omega arith in
    sym (rw e at c.loop-i.invariant.single)

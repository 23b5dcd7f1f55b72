-- `history::find` meets its contract: the loop keeps that the place in the whole slice is i more than the place in what is left of it.
use native.Mathlib.Omega.{arith}
use mathlib.Core.Path.{◌≡◌, sym, ◌∙◌}
use lib.ListN.{length}
use Rattle.history.proofs.Scans.{find_here, find_stop, find_more, find_end}
use Rattle.history.proofs.find.Goals as goal

pub loop-i-init : goal.loop-i-init
loop-i-init c = omega arith

pub returns-then-c-h : goal.returns-then-c-h
returns-then-c-h c = find_here _ _ c.loop-i.i (omega arith) c.if-c-h.true ∙ c.loop-i.invariant

pub returns-then-conflict : goal.returns-then-conflict
returns-then-conflict c = find_stop _ _ c.loop-i.i (omega arith) c.if-c-h.false (sym c.conflict.ensures ∙ c.if-conflict.true) ∙ c.loop-i.invariant

pub loop-i-preserved : goal.loop-i-preserved
loop-i-preserved c = find_more _ _ c.loop-i.i (omega arith) c.if-c-h.false (sym c.conflict.ensures ∙ c.if-conflict.false) ∙ c.loop-i.invariant

pub returns-after-loop-i : goal.returns-after-loop-i
returns-after-loop-i c = let end : length c.args.h.now ≡ c.loop-i.i = omega arith in
    end ∙ find_end _ _ c.loop-i.i (omega arith) ∙ c.loop-i.invariant

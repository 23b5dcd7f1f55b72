-- `history::place` meets its contract: the loop keeps that the walk from position n with place n is the walk from k with the place found so far.
use native.Mathlib.Omega.{arith}
use mathlib.Core.Path.{sym, ◌∙◌}
use borrow.Author.Rules.{rules}
use Rattle.history.specs.InsertionLaws.{walk_place}
use Rattle.history.proofs.Scans.{walk_stop, walk_before, walk_past, walk_end}
use Rattle.history.proofs.place.Goals as goal

pub returns-then-conflict : goal.returns-then-conflict
returns-then-conflict c = let turn = c.loop-k in
    (search rules, sym (walk_stop _ _ turn.k _ (omega arith) (sym c.conflict.ensures ∙ c.if-conflict.true)) ∙ turn.invariant.1 ∙ walk_place _ _ _ (omega arith))

pub loop-k-preserved-then-c-d : goal.loop-k-preserved-then-c-d
loop-k-preserved-then-c-d c = let turn = c.loop-k in
    (search rules, sym (walk_before _ _ turn.k turn.at (omega arith) (sym c.conflict.ensures ∙ c.if-conflict.false) c.if-c-d.true) ∙ turn.invariant.1)

pub loop-k-preserved : goal.loop-k-preserved
loop-k-preserved c = let turn = c.loop-k in
    (search rules, sym (walk_past _ _ turn.k turn.at (omega arith) (sym c.conflict.ensures ∙ c.if-conflict.false) c.if-c-d.false) ∙ turn.invariant.1)

pub returns-after-loop-k : goal.returns-after-loop-k
returns-after-loop-k c = (search rules, sym (walk_end _ _ c.loop-k.k _ (omega arith)) ∙ c.loop-k.invariant.1 ∙ walk_place _ _ _ (omega arith))

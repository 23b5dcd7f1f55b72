-- `history::present` meets its contract: the loop keeps that the answer for the whole slice is the answer for what is left of it.
use native.Mathlib.Omega.{arith}
use mathlib.Core.Path.{sym, refl, ◌∙◌}
use Rattle.history.proofs.Scans.{present_stop, present_more, present_end}
use Rattle.history.proofs.present.Goals as goal

pub loop-d-init : goal.loop-d-init
loop-d-init c = refl

pub returns-then-same_request : goal.returns-then-same_request
returns-then-same_request c = let turn = c.loop-d in
    sym (present_stop _ _ turn.d-index (omega arith) (sym c.same_request.ensures ∙ c.if-same_request.true)) ∙ turn.invariant

pub loop-d-preserved : goal.loop-d-preserved
loop-d-preserved c = let turn = c.loop-d in
    sym (present_more _ _ turn.d-index (omega arith) (sym c.same_request.ensures ∙ c.if-same_request.false)) ∙ turn.invariant

pub returns : goal.returns
returns c = sym (present_end _ _ c.loop-d.d-index (omega arith)) ∙ c.loop-d.invariant

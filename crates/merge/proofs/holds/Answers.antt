-- `merge::holds` meets its contract: the loop keeps that the answer for the whole slice is the answer for what is left of it.
use native.Mathlib.Omega.{arith}
use mathlib.Core.Path.{sym, refl, ◌∙◌}
use Rattle.merge.proofs.Scans.{holds_stop, holds_more, holds_end}
use Rattle.merge.proofs.holds.Goals as goal

pub loop-d-init : goal.loop-d-init
loop-d-init c = refl

pub returns-then-c-d : goal.returns-then-c-d
returns-then-c-d c = sym (holds_stop _ c.loop-d.d-index _ (omega arith) c.if-c-d.true) ∙ c.loop-d.invariant

pub loop-d-preserved : goal.loop-d-preserved
loop-d-preserved c = sym (holds_more _ c.loop-d.d-index _ (omega arith) c.if-c-d.false) ∙ c.loop-d.invariant

pub returns : goal.returns
returns c = sym (holds_end _ c.loop-d.d-index _ (omega arith)) ∙ c.loop-d.invariant

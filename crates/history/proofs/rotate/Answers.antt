-- `history::rotate` meets its contract: the loop keeps that the first elements, and then the carried one with the rest shifted behind it, are the rotated slice.
use Rattle.std.specs.Option.{unwrap_or}
use Rattle.std.proofs.Common.{arith, sym, ap, ◌∙◌}
use Rattle.history.proofs.Scans.{shifted_more, shifted_end, rotated_start}
use Rattle.history.proofs.rotate.Goals as goal

pub loop-d-init : goal.loop-d-init
loop-d-init c = rotated_start _ _ (c.unwrap_or-carry.ensures ∙ ap (λ x. unwrap_or x 0) (c.copied.ensures ∙ c.last.ensures.value))

pub loop-d-preserved : goal.loop-d-preserved
loop-d-preserved c = rw (c.swap.ensures.x_after, c.swap.ensures.y_after) (shifted_more _ c.loop-d.d-index c.loop-d.carry (omega arith) ∙ c.loop-d.invariant)

pub returns : goal.returns
returns c = sym (shifted_end _ c.loop-d.d-index c.loop-d.carry (omega arith)) ∙ c.loop-d.invariant

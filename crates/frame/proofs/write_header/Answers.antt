-- `frame::write_header` meets its contract: the loop keeps that what is written, and then the digits of the fields from k on, are the goal.
use native.Mathlib.Omega.{arith}
use mathlib.Core.Path.{refl, sym, ◌∙◌}
use Rattle.frame.specs.Layout.{widths}
use Rattle.frame.proofs.Runs.{width_most, end_within, part_size, laying_start, laying_turn, laying_end}
use Rattle.frame.proofs.write_header.Goals as goal

pub loop-k-init : goal.loop-k-init
loop-k-init c = laying_start widths _ _ c.requires.2 c.requires.1

pub overflow_mul-end : goal.overflow_mul-end
overflow_mul-end c = omega (arith, width_most c.loop-k.k (omega arith))

pub overflow_add-end : goal.overflow_add-end
overflow_add-end c = omega (arith, width_most c.loop-k.k (omega arith), end_within widths c.loop-k.digits c.loop-k.at c.loop-k.k (omega arith) c.loop-k.invariant.left)

pub slice_bounds-write_number-end : goal.slice_bounds-write_number-end
slice_bounds-write_number-end c = omega (arith, end_within widths c.loop-k.digits c.loop-k.at c.loop-k.k (omega arith) c.loop-k.invariant.left)

pub write_number-requires : goal.write_number-requires
write_number-requires c = (c.requires.0, part_size widths c.loop-k.digits c.loop-k.at c.loop-k.k (omega arith) c.loop-k.invariant.left _ refl)

pub loop-k-preserved : goal.loop-k-preserved
loop-k-preserved c = laying_turn widths _ _ c.loop-k.at c.loop-k.k c.loop-k.invariant (omega arith) _ refl c.write_number.new.digits c.write_number.ensures _ refl

pub shape_of-digits : goal.shape_of-digits
shape_of-digits c = c.loop-k.invariant.whole ∙ sym c.requires.1

pub returns : goal.returns
returns c = laying_end widths _ _ c.loop-k.at c.loop-k.k c.loop-k.invariant (omega arith)

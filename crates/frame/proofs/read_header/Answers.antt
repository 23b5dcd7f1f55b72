-- `frame::read_header` meets its contract: the loop keeps that the digits' test and the numbers go on from the field it is at.
use native.Mathlib.Omega.{arith}
use mathlib.Core.Path.{refl}
use Rattle.frame.specs.Layout.{widths}
use Rattle.frame.proofs.Runs.{width_most, end_within, part_size, gathering_start, gathering_stop, gathering_turn, gathering_end}
use Rattle.frame.proofs.read_header.Goals as goal

pub loop-k-init : goal.loop-k-init
loop-k-init c = gathering_start widths _ _ c.requires.2 c.requires.1

pub overflow_mul-end : goal.overflow_mul-end
overflow_mul-end c = omega (arith, width_most c.loop-k.k (omega arith))

pub overflow_add-end : goal.overflow_add-end
overflow_add-end c = omega (arith, width_most c.loop-k.k (omega arith), end_within widths c.args.digits.now c.loop-k.at c.loop-k.k (omega arith) c.loop-k.invariant.left)

pub slice_bounds-number-count : goal.slice_bounds-number-count
slice_bounds-number-count c = omega arith

pub slice_bounds-number-start : goal.slice_bounds-number-start
slice_bounds-number-start c = omega arith

pub slice_bounds-number-end : goal.slice_bounds-number-end
slice_bounds-number-end c = omega (arith, end_within widths c.args.digits.now c.loop-k.at c.loop-k.k (omega arith) c.loop-k.invariant.left)

pub number-requires : goal.number-requires
number-requires c = (c.requires.0, width_most c.loop-k.k (omega arith), part_size widths c.args.digits.now c.loop-k.at c.loop-k.k (omega arith) c.loop-k.invariant.left _ refl)

pub returns-in_default : goal.returns-in_default
returns-in_default c = gathering_stop widths _ _ c.loop-k.at c.loop-k.k c.loop-k.invariant (omega arith) _ refl c.number.result c.number.ensures c.in_default.is _

pub bounds-head-k : goal.bounds-head-k
bounds-head-k c = omega arith

pub loop-k-preserved : goal.loop-k-preserved
loop-k-preserved c = gathering_turn widths _ _ c.loop-k.at c.loop-k.k c.loop-k.invariant (omega arith) _ refl c.number.result c.number.ensures c.in-Some.is _ refl

pub shape_of-head : goal.shape_of-head
shape_of-head c = omega arith

pub returns : goal.returns
returns c = gathering_end widths _ _ c.loop-k.at c.loop-k.k c.loop-k.invariant (omega arith)

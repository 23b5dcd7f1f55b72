-- `proposal::propose` meets its contract: a part of the work array as long as the limit holds the longest proven history, then the held ones too, then
-- what is pending, and is put in order.
use mathlib.Core.Path.{sym, ap, ◌∙◌}
use Prim.Native.Nat.{min}
use native.Mathlib.Omega.{arith}
use lib.Seq.{length-take-le}
use Rattle.history.specs.Words.{capacity, stored}
use Rattle.proposal.specs.Proposal.{report}
use Rattle.proposal.proofs.Turns.{part_bound, begins_more, assembled_of, order_gathered}
use Rattle.proposal.proofs.propose.Goals as goal

pub slice_bounds-assemble-end : goal.slice_bounds-assemble-end
slice_bounds-assemble-end c = sym (length-take-le _ _ (omega (arith, c.min-most.ensures)))

pub slice_bounds-work-end-2 : goal.slice_bounds-work-end-2
slice_bounds-work-end-2 c = (begins_more c.assemble-all.ensures _).short

pub slice_bounds-put_in_order-end : goal.slice_bounds-put_in_order-end
slice_bounds-put_in_order-end c = sym (length-take-le _ _ (begins_more c.assemble-all.ensures _).short)

pub slice_bounds-work-end-3 : goal.slice_bounds-work-end-3
slice_bounds-work-end-3 c = part_bound _ c.put_in_order.new.h c.assemble-all.result (begins_more c.assemble-all.ensures _).short c.put_in_order.auto.h

pub slice_bounds-of-end : goal.slice_bounds-of-end
slice_bounds-of-end c = sym
    (length-take-le _ _
    (part_bound _ c.put_in_order.new.h c.assemble-all.result (begins_more c.assemble-all.ensures _).short c.put_in_order.auto.h))

pub returns : goal.returns
returns c = let given = c.args in
    let limit = min given.limit capacity in
    let proven = report given.proven.words.now given.proven.counts.now given.reported in
    let held = report given.held.words.now given.held.counts.now given.reported in
    let pending = given.pending.now in
    c.of.ensures
    ∙ ap stored
    (order_gathered limit given.n proven held pending
    (begins_more (assembled_of limit given.n proven held pending c.longest-best.result.now c.longest-best.ensures c.assemble-all.ensures
    (length-take-le _ _ (omega (arith, c.min-most.ensures)) ∙ c.min-most.ensures)) _)
    c.put_in_order.new.h c.put_in_order.ensures)

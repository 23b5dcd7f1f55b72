-- `frame::write_from` meets its contract: its tests are those of the contract, and what it writes is the header, the two lists and the line feed.
use Rattle.frame.proofs.Frames.{lists_short, not_listed, from_not_proper, too_small, header_kept, first_room, first_kept, second_room, both_kept, all_written}
use Rattle.frame.specs.Code.Leaves.{characters}
use Rattle.frame.specs.Format.{listed}
use Rattle.frame.specs.Hex.{total, digit}
use lib.Seq.{length-take-le}
use lib.ListN.{length-set}
use mathlib.Core.Path.{sym, refl, ◌∙◌}
use native.Mathlib.Omega.{arith}
use borrow.Author.Rules.{rules}
use Rattle.frame.proofs.write_from.Goals as goal

pub returns-then-not-listed : goal.returns-then-not-listed
unfolding listed
returns-then-not-listed c = not_listed _ _ _ _ c.if-not-listed.true

pub returns-then-not-fine : goal.returns-then-not-fine
unfolding listed
returns-then-not-fine c = from_not_proper _ _ _ _ c.if-not-listed.false (sym c.proper-fine.ensures ∙ c.if-not-fine.true)

pub overflow_mul-middle : goal.overflow_mul-middle
unfolding listed
overflow_mul-middle c = omega (arith, lists_short c.args.h c.args.g.now c.args.k.now (search rules) c.if-not-listed.false)

pub overflow_add-middle : goal.overflow_add-middle
unfolding listed
overflow_add-middle c = omega (arith, lists_short c.args.h c.args.g.now c.args.k.now (search rules) c.if-not-listed.false)

pub overflow_mul-end : goal.overflow_mul-end
unfolding listed
overflow_mul-end c = omega (arith, lists_short c.args.h c.args.g.now c.args.k.now (search rules) c.if-not-listed.false)

pub overflow_add-end : goal.overflow_add-end
unfolding listed
overflow_add-end c = omega (arith, lists_short c.args.h c.args.g.now c.args.k.now (search rules) c.if-not-listed.false)

pub returns-then-out-end : goal.returns-then-out-end
unfolding listed
returns-then-out-end c = too_small _ _ _ _ c.if-not-listed.false c.if-out-end.true

pub slice_bounds-write_header-end-2 : goal.slice_bounds-write_header-end-2
slice_bounds-write_header-end-2 c = sym (length-take-le 36 c.args.out.now (omega arith))

pub write_header-requires : goal.write_header-requires
unfolding total characters digit
write_header-requires c = (refl, length-take-le 36 c.args.out.now (omega arith), refl)

pub slice_bounds-write_words-end : goal.slice_bounds-write_words-end
slice_bounds-write_words-end c = omega (arith, header_kept c.args.out.now c.args.g.now c.args.k.now _ c.write_header.new.digits refl c.write_header.ensures c.if-out-end.false)

pub write_words-requires : goal.write_words-requires
unfolding characters digit
write_words-requires c = (refl, first_room c.args.out.now c.args.g.now c.args.k.now _ c.write_header.new.digits refl c.write_header.ensures c.if-out-end.false)

pub slice_bounds-write_words-start-2 : goal.slice_bounds-write_words-start-2
slice_bounds-write_words-start-2 c = omega (arith, first_kept c.args.out.now c.args.g.now c.args.k.now _ c.write_header.new.digits refl c.write_header.ensures c.if-out-end.false c.write_words.new.digits c.write_words.ensures)

pub slice_bounds-write_words-end-2 : goal.slice_bounds-write_words-end-2
slice_bounds-write_words-end-2 c = omega (arith, first_kept c.args.out.now c.args.g.now c.args.k.now _ c.write_header.new.digits refl c.write_header.ensures c.if-out-end.false c.write_words.new.digits c.write_words.ensures)

pub write_words-requires-2 : goal.write_words-requires-2
unfolding characters digit
write_words-requires-2 c = (refl, second_room c.args.out.now c.args.g.now c.args.k.now _ c.write_header.new.digits refl c.write_header.ensures c.if-out-end.false c.write_words.new.digits c.write_words.ensures)

pub bounds-out-end : goal.bounds-out-end
bounds-out-end c = omega (arith, both_kept c.args.out.now c.args.g.now c.args.k.now _ c.write_header.new.digits refl c.write_header.ensures c.if-out-end.false c.write_words.new.digits c.write_words.ensures c.write_words-2.new.digits c.write_words-2.ensures)

pub overflow_add-result : goal.overflow_add-result
unfolding listed
overflow_add-result c = omega (arith, lists_short c.args.h c.args.g.now c.args.k.now (search rules) c.if-not-listed.false)

pub shape_of-out : goal.shape_of-out
shape_of-out c = simp length-set (both_kept c.args.out.now c.args.g.now c.args.k.now _ c.write_header.new.digits refl c.write_header.ensures c.if-out-end.false c.write_words.new.digits c.write_words.ensures c.write_words-2.new.digits c.write_words-2.ensures)

pub returns : goal.returns
unfolding listed
returns c = all_written c.args.out.now c.args.g.now c.args.k.now _ c.write_header.new.digits refl c.write_header.ensures c.if-out-end.false c.write_words.new.digits c.write_words.ensures c.write_words-2.new.digits c.write_words-2.ensures c.args.h refl c.if-not-listed.false (search rules) (sym c.proper-fine.ensures ∙ c.if-not-fine.false) (λ i. (c.shared_slice_known-1.given i).fits) (λ i. (c.shared_slice_known-2-1.given i).fits)

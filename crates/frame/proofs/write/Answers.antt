-- `frame::write` meets its contract: the words after the commands are 0, so that the frame is that of its heading and its two lists, which `write_from` writes.
use Rattle.frame.proofs.Frames.{too_many, not_clear, parts_written}
use lib.Seq.{length-take-le}
use mathlib.Core.Path.{sym, ◌∙◌}
use native.Mathlib.Omega.{arith}
use borrow.Author.Rules.{rules}
use Rattle.frame.proofs.write.Goals as goal

pub returns-then-words-count : goal.returns-then-words-count
returns-then-words-count c = too_many c.args.frame c.args.out.now (search rules) c.if-words-count.true

pub slice_bounds-all_zero-count : goal.slice_bounds-all_zero-count
slice_bounds-all_zero-count c = omega arith

pub slice_bounds-all_zero-start : goal.slice_bounds-all_zero-start
slice_bounds-all_zero-start c = omega arith

pub returns-then-not-clear : goal.returns-then-not-clear
returns-then-not-clear c = not_clear c.args.frame c.args.out.now (search rules) (sym c.all_zero-clear.ensures ∙ c.if-not-clear.true)

pub slice_bounds-write_from-end : goal.slice_bounds-write_from-end
slice_bounds-write_from-end c = sym (length-take-le _ _ (omega arith))

pub returns : goal.returns
returns c = parts_written c.args.frame c.args.out.now (search rules) c.if-words-count.false (sym c.all_zero-clear.ensures ∙ c.if-not-clear.false) _ _ c.write_from.ensures

-- `frame::write_words` meets its contract: the loop keeps that what is written, and then the digits of the commands from k on, are the goal.
use Prim.Native.Nat.{◌*◌, ◌+◌}
use native.Mathlib.Omega.{arith}
use mathlib.Core.Path.{sym, ap, ◌∙◌}
use lib.ListN.{length, get_or}
use Rattle.frame.specs.Hex.{digits_of}
use Rattle.frame.specs.Format.{commands}
use Rattle.frame.proofs.Runs.{commands_length, commands_at, commands_total, command_end, part_size, laying_start, laying_turn, laying_end}
use Rattle.frame.proofs.write_words.Goals as goal

pub loop-k-init : goal.loop-k-init
loop-k-init c = laying_start _ _ _ (sym (commands_length _)) (c.requires.1 ∙ sym (commands_total _))

pub overflow_mul-at : goal.overflow_mul-at
overflow_mul-at c = omega (arith, c.requires, c.well_formed)

pub overflow_add-end : goal.overflow_add-end
overflow_add-end c = omega (arith, c.requires, c.well_formed)

pub slice_bounds-write_number-end : goal.slice_bounds-write_number-end
slice_bounds-write_number-end c = omega (arith, commands_length (length c.args.words.now), commands_total (length c.args.words.now), c.loop-k.invariant.whole)

pub write_number-requires : goal.write_number-requires
write_number-requires c = let n = length c.args.words.now in let k = c.loop-k.k in (c.requires.0, part_size (commands n) c.loop-k.digits (16 * k) k (omega (arith, commands_length n)) c.loop-k.invariant.left (16 * k + 16) (command_end n k (omega arith)) ∙ ap (λ w. 2 * w) (commands_at n k (omega arith)))

pub loop-k-preserved : goal.loop-k-preserved
loop-k-preserved c = let n = length c.args.words.now in let k = c.loop-k.k in laying_turn (commands n) _ _ (16 * k) k c.loop-k.invariant (omega (arith, commands_length n)) (16 * k + 16) (command_end n k (omega arith)) c.write_number.new.digits (c.write_number.ensures ∙ ap (λ w. digits_of w (get_or c.args.words.now k 0)) (sym (commands_at n k (omega arith)))) (16 * (k + 1)) (omega arith)

pub shape_of-digits : goal.shape_of-digits
shape_of-digits c = c.loop-k.invariant.whole ∙ commands_total _ ∙ sym c.requires.1

pub returns : goal.returns
returns c = let n = length c.args.words.now in laying_end (commands n) _ _ (16 * c.loop-k.k) c.loop-k.k c.loop-k.invariant (omega (arith, commands_length n))

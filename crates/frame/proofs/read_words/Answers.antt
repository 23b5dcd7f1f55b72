-- `frame::read_words` meets its contract: the loop keeps that the digits' test and the numbers go on from the command it is at.
use Prim.Native.Nat.{◌*◌, ◌+◌}
use native.Mathlib.Omega.{arith}
use native.Mathlib.Nat.{le_refl}
use mathlib.Core.Path.{sym, ap, ◌∙◌}
use lib.ListN.{length}
use Rattle.frame.specs.Format.{commands}
use Rattle.frame.proofs.Runs.{commands_length, commands_at, commands_total, command_end, part_size, gathering_start, gathering_stop, gathering_turn, gathering_end}
use Rattle.frame.proofs.read_words.Goals as goal

pub loop-k-init : goal.loop-k-init
loop-k-init c = gathering_start _ _ _ (sym (commands_length _)) (c.requires.1 ∙ sym (commands_total _))

pub overflow_mul-at : goal.overflow_mul-at
overflow_mul-at c = omega (arith, commands_length (length c.args.words.now), c.well_formed)

pub overflow_add-end : goal.overflow_add-end
overflow_add-end c = omega (arith, commands_length (length c.args.words.now), c.well_formed)

pub slice_bounds-number-end : goal.slice_bounds-number-end
slice_bounds-number-end c = omega (arith, commands_length (length c.args.words.now), c.requires)

pub number-requires : goal.number-requires
number-requires c = let n = length c.args.words.now in let k = c.loop-k.k in (c.requires.0, le_refl 8, part_size (commands n) c.args.digits.now (16 * k) k (omega (arith, commands_length n)) c.loop-k.invariant.left (16 * k + 16) (command_end n k (omega (arith, commands_length n))) ∙ ap (λ w. 2 * w) (commands_at n k (omega (arith, commands_length n))))

pub returns-in_default : goal.returns-in_default
returns-in_default c = let n = length c.args.words.now in let k = c.loop-k.k in gathering_stop (commands n) _ _ (16 * k) k c.loop-k.invariant (omega (arith, commands_length n)) (16 * k + 16) (command_end n k (omega (arith, commands_length n))) c.number.result c.number.ensures c.in_default.is _

pub loop-k-preserved : goal.loop-k-preserved
loop-k-preserved c = let n = length c.args.words.now in let k = c.loop-k.k in gathering_turn (commands n) _ _ (16 * k) k c.loop-k.invariant (omega (arith, commands_length n)) (16 * k + 16) (command_end n k (omega (arith, commands_length n))) c.number.result c.number.ensures c.in-Some.is (16 * (k + 1)) (omega arith)

pub shape_of-words : goal.shape_of-words
shape_of-words c = omega (arith, commands_length (length c.args.words.now))

pub returns : goal.returns
returns c = let n = length c.args.words.now in gathering_end (commands n) _ _ (16 * c.loop-k.k) c.loop-k.k c.loop-k.invariant (omega (arith, commands_length n))

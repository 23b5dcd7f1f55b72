-- `history::extends_past` meets its contract: the same first commands make no difference, and what is left is tried in a copy, for which there is room.
use mathlib.Core.Path.{sym, ap₂, ◌∙◌}
use native.Mathlib.Omega.{arith}
use Prim.Native.Nat.{◌-◌}
use lib.ListN.{length, replicate, length-drop}
use lib.Seq.{length-take-le}
use Rattle.history.specs.History.{extends}
use Rattle.history.specs.FrontLaws.{extends_past_lem}
use Rattle.history.proofs.Scans.{tail_part}
use Rattle.history.proofs.extends_past.Goals as goal

pub slice_bounds-extends_in-end : goal.slice_bounds-extends_in-end
slice_bounds-extends_in-end c = sym (length-take-le (length c.args.h.now - c.args.k) (replicate 64 0) (omega arith))

pub extends_in-requires : goal.extends_in-requires
extends_in-requires c = rw tail_part (length-take-le (length c.args.h.now - c.args.k) (replicate 64 0) (omega arith) ∙ sym (length-drop c.args.k c.args.h.now))

pub returns : goal.returns
returns c = c.extends_in.ensures ∙ ap₂ extends (tail_part c.args.h.now c.args.k) (tail_part c.args.g.now c.args.k) ∙ extends_past_lem c.args.h.now c.args.g.now c.args.k c.requires.3

-- `lines::put` meets its contract: where there is room it copies as many bytes as fit, and where there is none it changes nothing.
use mathlib.Core.Path.{ap, ◌∙◌}
use Prim.Native.Nat.{ℕ}
use lib.ListN.{take}
use Rattle.lines.proofs.Turns.{put_none, put_fit}
use Rattle.lines.proofs.put.Goals as goal

pub returns-then-out-used : goal.returns-then-out-used
returns-then-out-used c = put_none c.args.out.now c.args.used c.args.text.now c.if-out-used.true

pub returns : goal.returns
returns c =
    put_fit c.args.out.now c.args.used c.args.text.now c.first-fit.result.now c.copy_from_slice.new.self c.if-out-used.false
    (c.first-fit.ensures ∙ ap (λ (k : ℕ). take k c.args.text.now) c.room.ensures)
    c.copy_from_slice.ensures.after

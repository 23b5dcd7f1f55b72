-- `merge::append` meets its contract: the loop keeps that the first n words with the commands that are left appended are the answer, and that the words behind stay.
use native.Mathlib.Omega.{arith}
use mathlib.Core.Path.{sym, ◌∙◌}
use lib.Seq.{length-take-le}
use Rattle.merge.proofs.Turns.{append_start, append_end, append_full, append_old, append_new}
use Rattle.merge.proofs.append.Goals as goal
use Rattle.merge.proofs.append.Goals.{then-not-present, else-not-present}

pub loop-c-init : goal.loop-c-init
loop-c-init c = rw c.min-n.ensures (append_start _ _ _)

pub returns-then-buf-n : goal.returns-then-buf-n
returns-then-buf-n c = let turn = c.loop-c in
    append_full turn.buf _ turn.n turn.c-index _ _ turn.invariant c.if-buf-n.true

pub slice_bounds-present-end-in-loop-c : goal.slice_bounds-present-end-in-loop-c
slice_bounds-present-end-in-loop-c c = let turn = c.loop-c in
    sym (length-take-le turn.n turn.buf (omega arith))

pub loop-c-preserved : goal.loop-c-preserved
loop-c-preserved c = let turn = c.loop-c in
    elim c.if-not-present.branch [
      | then-not-present w ↦
          rw (w.buf-is, w.n-is)
          (append_new turn.buf _ turn.n turn.c-index _ _ turn.invariant (omega arith) c.if-buf-n.false (sym c.present.ensures ∙ w.if-not-present.true))
      | else-not-present w ↦
          rw (w.buf-is, w.n-is)
          (append_old turn.buf _ turn.n turn.c-index _ _ turn.invariant (omega arith) (sym c.present.ensures ∙ w.if-not-present.false))
    ]

pub returns-after-loop-c : goal.returns-after-loop-c
returns-after-loop-c c = append_end c.loop-c.buf _ c.loop-c.n c.loop-c.c-index _ _ c.loop-c.invariant (omega arith)

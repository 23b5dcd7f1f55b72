-- `proposal::keep` meets its contract: the loop keeps that the words written with what remains of the commands that are left are the answer.
use native.Mathlib.Omega.{arith}
use mathlib.Core.Path.{sym, ◌∙◌}
use Rattle.proposal.proofs.Turns.{keep_start, keep_end, keep_full, keep_done, keep_more}
use Rattle.proposal.proofs.keep.Goals as goal
use Rattle.proposal.proofs.keep.Goals.{then-not-holds, else-not-holds}

pub loop-c-init : goal.loop-c-init
loop-c-init c = keep_start _ _ _

pub returns-then-dst-n : goal.returns-then-dst-n
returns-then-dst-n c = keep_full c.loop-c.dst _ _ c.loop-c.n c.loop-c.c-index _ _ c.loop-c.invariant c.if-dst-n.true

pub loop-c-preserved : goal.loop-c-preserved
loop-c-preserved c = let turn = c.loop-c in
    elim c.if-not-holds.branch [
      | then-not-holds w ↦
          rw (w.dst-is, w.n-is)
          (keep_more turn.dst _ _ turn.n turn.c-index _ _ turn.invariant (omega arith) c.if-dst-n.false (sym c.holds.ensures ∙ w.if-not-holds.true))
      | else-not-holds w ↦
          rw (w.dst-is, w.n-is)
          (keep_done turn.dst _ _ turn.n turn.c-index _ _ turn.invariant (omega arith) (sym c.holds.ensures ∙ w.if-not-holds.false))
    ]

pub returns-after-loop-c : goal.returns-after-loop-c
returns-after-loop-c c = keep_end c.loop-c.dst _ _ c.loop-c.n c.loop-c.c-index _ _ c.loop-c.invariant (omega arith)

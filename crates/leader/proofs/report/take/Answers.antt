-- `leader::report::take` meets its contract: a refusal by the checks is the answer, else the two histories are stored, and the state with the report is concluded.
use Rattle.std.proofs.Common.{refl}
use Rattle.refusal.specs.AnswerLaws.{passed_on}
use Rattle.frame.specs.Format.{frame_with}
use Rattle.leader.specs.Leader.{P1B}
use Rattle.leader.proofs.Calls.{refused, passes}
use Rattle.leader.proofs.report.take.Goals as goal

pub returns-in_err-check : goal.returns-in_err-check
returns-in_err-check c = rw (passed_on _ c.from_residual.ensures.1, refused P1B c.args.r c.args.own c.args.s.now (frame_with c.args.head c.args.words.now) _ (rw (c.first-proven.ensures, c.after-held.ensures) at c.in_err-check.ensures))
    (refl, refl)

pub returns : goal.returns
returns c = rw (passes P1B c.args.r c.args.own c.args.s.now (frame_with c.args.head c.args.words.now) (rw (← c.first-proven.ensures, ← c.after-held.ensures) c.in_ok-check.ensures))
    (rw (← c.first-proven.ensures, ← c.after-held.ensures, ← c.with_site-s.ensures, ← c.store.ensures, ← c.store-2.ensures) c.conclude.ensures)

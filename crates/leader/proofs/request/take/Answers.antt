-- `leader::request::take` meets its contract: a refusal by the checks is the answer, else the commands are appended to those pending.
use Rattle.std.proofs.Common.{refl}
use Rattle.refusal.specs.AnswerLaws.{passed_on}
use Rattle.frame.specs.Format.{frame_with}
use Rattle.leader.specs.Leader.{PROPOSE}
use Rattle.leader.proofs.Calls.{refused, passes}
use Rattle.leader.proofs.request.take.Goals as goal

pub returns-in_err-check : goal.returns-in_err-check
returns-in_err-check c r own out = rw (passed_on _ c.from_residual.ensures.1, refused PROPOSE r own c.args.s.now (frame_with c.args.head c.args.words.now) _ (rw (c.commands.ensures, c.first-h.ensures) at c.in_err-check.ensures))
    (refl, refl)

pub returns : goal.returns
returns c r own out = rw (passes PROPOSE r own c.args.s.now (frame_with c.args.head c.args.words.now) (rw (← c.commands.ensures, ← c.first-h.ensures) c.in_ok-check.ensures))
    (rw (c.append.ensures, c.first-h.ensures) refl, refl)

-- `leader::view::take` meets its contract: a refusal by the checks is the answer, else the view is taken.
use Rattle.std.proofs.Common.{refl}
use Rattle.refusal.specs.AnswerLaws.{passed_on}
use Rattle.frame.specs.Format.{frame_with}
use Rattle.leader.specs.Leader.{LEADER}
use Rattle.leader.proofs.Calls.{refused, passes}
use Rattle.leader.proofs.view.take.Goals as goal

pub returns-in_err-check : goal.returns-in_err-check
returns-in_err-check c words out = rw (passed_on _ c.from_residual.ensures.1, refused LEADER c.args.r c.args.own c.args.s.now (frame_with c.args.head words) _ c.in_err-check.ensures) (refl, refl)

pub returns : goal.returns
returns c words out = rw (passes LEADER c.args.r c.args.own c.args.s.now (frame_with c.args.head words) c.in_ok-check.ensures) (refl, refl)

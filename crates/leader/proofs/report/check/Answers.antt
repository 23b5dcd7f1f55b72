-- `leader::report::check` meets its contract: a refusal by the heading is the answer, else that by the histories.
use Rattle.std.proofs.Common.{refl}
use Rattle.refusal.specs.AnswerLaws.{stops, goes_on, passed_on}
use Rattle.leader.proofs.report.check.Goals as goal

pub returns-in_err-heading : goal.returns-in_err-heading
returns-in_err-heading c = rw (passed_on _ c.from_residual.ensures.1) (stops _ _ c.in_err-heading.ensures refl refl)

pub returns : goal.returns
returns c = goes_on _ _ c.in_ok-heading.ensures refl refl c.reported.ensures

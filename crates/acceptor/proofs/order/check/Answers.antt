-- `acceptor::order::check` meets its contract: heading, commands and what the history must extend are asked in this order, and the first refusal is the answer.
use Rattle.std.proofs.Common.{refl}
use Rattle.refusal.specs.AnswerLaws.{rule, no_rule, stops, goes_on, passed_on}
use Rattle.acceptor.proofs.order.check.Goals as goal

pub returns-in_err-check_heading : goal.returns-in_err-check_heading
returns-in_err-check_heading c = rw (passed_on _ c.from_residual.ensures.1) (stops _ _ c.in_err-check_heading.ensures refl refl)

pub returns-in_err-ordered : goal.returns-in_err-ordered
returns-in_err-ordered c = rw (passed_on _ c.from_residual-in_err-ordered.ensures.1) (goes_on _ _ c.in_ok-check_heading.ensures refl refl (stops _ _ c.in_err-ordered.ensures refl refl))

pub returns : goal.returns
returns c = goes_on _ _ c.in_ok-check_heading.ensures refl refl (goes_on _ _ c.in_ok-ordered.ensures refl refl (rule _ _ c.given.ensures c.lags-behind.ensures no_rule))

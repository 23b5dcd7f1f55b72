-- `leader::request::check` meets its contract: sender, commands and what is pending are asked in this order, and the first refusal is the answer.
use Rattle.std.proofs.Common.{refl}
use Rattle.std.proofs.lemmas.Bool.{eq-eqb, ne_eqb}
use Rattle.refusal.specs.AnswerLaws.{at_once, later, stops, goes_on, passed_on}
use Rattle.leader.proofs.request.check.Goals as goal

pub returns-then-head-eq0 : goal.returns-then-head-eq0
returns-then-head-eq0 c = at_once _ _ (eq-eqb _ _ c.if-head-eq0.true)

pub returns-in_err-requested : goal.returns-in_err-requested
returns-in_err-requested c = rw (passed_on _ c.from_residual.ensures.1) (later _ _ (ne_eqb _ _ c.if-head-eq0.false) (stops _ _ c.in_err-requested.ensures refl refl))

pub returns : goal.returns
returns c = later _ _ (ne_eqb _ _ c.if-head-eq0.false) (goes_on _ _ c.in_ok-requested.ensures refl refl c.appendable.ensures)

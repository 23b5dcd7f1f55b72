-- `acceptor::request::check` meets its contract: heading, commands and the histories are asked in this order, and the first refusal is the answer.
use Rattle.std.proofs.Common.{◌≤◌, length, refl, ap, ◌∙◌}
use Rattle.std.proofs.Math.Bool.{not}
use Rattle.refusal.specs.AnswerLaws.{at_once, later, stops, goes_on, passed_on}
use Rattle.acceptor.proofs.Tests.{extends_is}
use Rattle.acceptor.proofs.request.check.Goals as goal

pub returns-in_err-check_heading : goal.returns-in_err-check_heading
returns-in_err-check_heading c = rw (passed_on _ c.from_residual.ensures.1) (stops _ _ c.in_err-check_heading.ensures refl refl)

pub returns-in_err-requested : goal.returns-in_err-requested
returns-in_err-requested c = rw (passed_on _ c.from_residual-in_err-requested.ensures.1) (goes_on _ _ c.in_ok-check_heading.ensures refl refl (stops _ _ c.in_err-requested.ensures refl refl))

pub returns-then-behind : goal.returns-then-behind
returns-then-behind c = let short : length c.commands-held.result.now ≤ 32 = rw c.commands-held.ensures c.requires in
    let behind = ap not (extends_is c.commands-held.result.now c.commands.result.now _ short c.extends-behind.ensures ∙ c.if-behind.true) in
    goes_on _ _ c.in_ok-check_heading.ensures refl refl (goes_on _ _ c.in_ok-requested.ensures refl refl (at_once _ _ (rw (← c.commands-held.ensures, ← c.commands.ensures) behind)))

pub returns : goal.returns
returns c = let short : length c.commands-held.result.now ≤ 32 = rw c.commands-held.ensures c.requires in
    let behind = ap not (extends_is c.commands-held.result.now c.commands.result.now _ short c.extends-behind.ensures ∙ c.if-behind.false) in
    goes_on _ _ c.in_ok-check_heading.ensures refl refl (goes_on _ _ c.in_ok-requested.ensures refl refl (later _ _ (rw (← c.commands-held.ensures, ← c.commands.ensures) behind) (rw (← c.commands-held.ensures) c.appendable.ensures)))

-- `acceptor::verify::check` meets its contract: heading, commands and entry are asked in this order, and the first refusal is the answer.
use Rattle.std.proofs.Common.{◌≤◌, refl, ◌∙◌, arith, length}
use Rattle.table.specs.TableLaws.{length_row}
use Rattle.content.specs.ContentLaws.{contradicts_within_lem}
use Rattle.refusal.specs.AnswerLaws.{rule, no_rule, stops, goes_on, passed_on}
use Rattle.acceptor.proofs.verify.check.Goals as goal

pub returns-in_err-check_heading : goal.returns-in_err-check_heading
returns-in_err-check_heading c = rw (passed_on _ c.from_residual.ensures.1) (stops _ _ c.in_err-check_heading.ensures refl refl)

pub returns-in_err-ordered : goal.returns-in_err-ordered
returns-in_err-ordered c = rw (passed_on _ c.from_residual-in_err-ordered.ensures.1) (goes_on _ _ c.in_ok-check_heading.ensures refl refl (stops _ _ c.in_err-ordered.ensures refl refl))

pub returns : goal.returns
returns c = let short : length c.row.result.now ≤ 64 = rw c.row.ensures (omega (arith, length_row c.args.s.now.verified.words c.args.s.now.verified.counts c.args.head.sender)) in
    goes_on _ _ c.in_ok-check_heading.ensures refl refl
    (goes_on _ _ c.in_ok-ordered.ensures refl refl (rw (← c.row.ensures) (rule _ _ c.given.ensures (c.contradicts-clash.ensures ∙ contradicts_within_lem 64 _ _ short (omega (arith, c.requires))) no_rule)))

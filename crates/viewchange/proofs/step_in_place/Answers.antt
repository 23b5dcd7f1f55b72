-- `viewchange::step_in_place` meets its contract: CONFIG comes first, then FORM, then the frame's checks, then the effect. Lines of its kinds have no commands, so the
-- bare reading is the reading.
use Rattle.std.proofs.Common.{sym, ◌∙◌}
use Rattle.words.specs.Sizes.{limit}
use Rattle.frame.specs.BareLaws.{bare_reading}
use Rattle.refusal.specs.AnswerLaws.{passed_on}
use Rattle.viewchange.specs.ViewChange.{taken}
use Rattle.viewchange.specs.ViewChangeLaws.{bare_taken}
use Rattle.viewchange.proofs.Calls.{not_full, refused, unfit, no_line, checked, done}
use Rattle.viewchange.proofs.step_in_place.Goals as goal

pub returns-then-unfit : goal.returns-then-unfit
returns-then-unfit c = refused _ _ _ _ _ (unfit _ _ _ _ _ (sym c.unfit.ensures ∙ c.if-unfit.true))

pub returns-in_default : goal.returns-in_default
returns-in_default c = refused _ _ _ _ _ (no_line _ _ _ _ _ (sym c.unfit.ensures ∙ c.if-unfit.false) (c.in_default.ensures ∙ bare_reading limit c.args.line.now taken bare_taken))

pub returns-in_err-check : goal.returns-in_err-check
returns-in_err-check c = rw (passed_on _ c.from_residual.ensures.1)
    (refused _ _ _ _ _ (checked _ _ _ _ _ (sym c.unfit.ensures ∙ c.if-unfit.false) (c.in-Some.ensures ∙ bare_reading limit c.args.line.now taken bare_taken) c.in_err-check.ensures))

pub perform-requires : goal.perform-requires
perform-requires c = not_full _ _ _ c.in_ok-check.ensures

pub returns : goal.returns
returns c = done _ _ _ _ _ (sym c.unfit.ensures ∙ c.if-unfit.false) (c.in-Some.ensures ∙ bare_reading limit c.args.line.now taken bare_taken) c.in_ok-check.ensures c.perform.ensures

-- `viewchange::suspicion_in_place` meets its contract: CONFIG comes first, then a SUSPICION from `own` itself, as which its line is read.
use Rattle.std.proofs.Common.{refl, sym, ◌∙◌, arith}
use Rattle.refusal.specs.AnswerLaws.{passed_on}
use Rattle.viewchange.proofs.Calls.{own_heading, own_heading_read, not_full, refused, unfit, checked, done}
use Rattle.viewchange.proofs.suspicion_in_place.Goals as goal

pub returns-then-barred : goal.returns-then-barred
returns-then-barred c = refused _ _ _ _ _ (unfit _ _ _ _ _ (sym c.unfit-barred.ensures ∙ c.if-barred.true))

pub returns-in_err-on_suspicion : goal.returns-in_err-on_suspicion
returns-in_err-on_suspicion c = rw (passed_on _ c.from_residual.ensures.1)
    (refused _ _ _ _ _ (checked _ _ _ _ _ (sym c.unfit-barred.ensures ∙ c.if-barred.false) {head = own_heading c.args.own c.args.view} (own_heading_read c.args.own c.args.view (omega arith) (omega arith)) c.in_err-on_suspicion.ensures))

pub suspect-requires : goal.suspect-requires
suspect-requires c = not_full c.args.r c.args.v.now (own_heading c.args.own c.args.view) c.in_ok-on_suspicion.ensures refl

pub returns : goal.returns
returns c = done _ _ _ _ _ (sym c.unfit-barred.ensures ∙ c.if-barred.false) {head = own_heading c.args.own c.args.view} (own_heading_read c.args.own c.args.view (omega arith) (omega (arith, c.well_formed))) c.in_ok-on_suspicion.ensures c.suspect.ensures

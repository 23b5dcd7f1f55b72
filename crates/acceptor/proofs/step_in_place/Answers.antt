-- `acceptor::step_in_place` meets its contract: CONFIG, FORM and the checks of the frame are asked in this order and change nothing; a frame that passes is performed.
use Rattle.std.proofs.Common.{refl, sym, ap, ◌∙◌, arith}
use Rattle.words.specs.Sizes.{limit}
use Rattle.refusal.specs.AnswerLaws.{at_once, later, passed_on}
use Rattle.frame.specs.Format.{Reading}
use Rattle.frame.specs.FormatLaws.{read_n}
use Rattle.acceptor.specs.Acceptor.{taken}
use Rattle.acceptor.proofs.Tests.{fit, steps_refused, steps_accepted, performable}
use Rattle.acceptor.proofs.step_in_place.Goals as goal

pub returns-then-unfit : goal.returns-then-unfit
returns-then-unfit c = steps_refused c.args.r c.args.own c.args.v c.args.s.now c.args.line.now c.args.out.now c.read_into-read.ensures
    (at_once _ _ (sym c.unfit.ensures ∙ c.if-unfit.true))

pub returns-in_default : goal.returns-in_default
returns-in_default c = steps_refused c.args.r c.args.own c.args.v c.args.s.now c.args.line.now c.args.out.now c.in_default.ensures
    (later _ _ (sym c.unfit.ensures ∙ c.if-unfit.false) (at_once _ _ refl))

pub check-requires : goal.check-requires
check-requires c = (
  (fit c.args.r c.args.own _ c.args.v c.args.s.now (sym c.unfit.ensures ∙ c.if-unfit.false)).held_short,
  omega (arith, ap (λ (o : Reading). o.frame.n) c.in-Some.ensures, read_n limit c.args.line.now taken),
)

pub returns-in_err-check : goal.returns-in_err-check
returns-in_err-check c = rw (passed_on _ c.from_residual.ensures.1)
    (steps_refused c.args.r c.args.own c.args.v c.args.s.now c.args.line.now c.args.out.now c.in-Some.ensures
    (later _ _ (sym c.unfit.ensures ∙ c.if-unfit.false) (later _ _ refl c.in_err-check.ensures)))

pub perform-requires : goal.perform-requires
perform-requires c = performable c.args.r c.args.own c.args.v c.args.s.now c.args.line.now c.args.out.now c.in-Some.head c.read_into-read.new.words c.in-Some.ensures
    (later _ _ (sym c.unfit.ensures ∙ c.if-unfit.false) (later _ _ refl c.in_ok-check.ensures))

pub returns : goal.returns
returns c = steps_accepted c.args.r c.args.own c.args.v c.args.s.now c.args.line.now c.args.out.now c.in-Some.head c.read_into-read.new.words c.in-Some.ensures
    (later _ _ (sym c.unfit.ensures ∙ c.if-unfit.false) (later _ _ refl c.in_ok-check.ensures)) c.perform.ensures

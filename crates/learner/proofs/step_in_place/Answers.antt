-- `learner::step_in_place` meets its contract: CONFIG, FORM and the checks of the vote are asked in this order and change nothing; a vote that passes is concluded.
use Rattle.std.proofs.Common.{refl, ◌∙◌, sym, ap, arith, true, false, None, Some}
use Rattle.table.specs.TableLaws.{length_row}
use Rattle.history.specs.Words.{limit}
use Rattle.frame.specs.Format.{Reading}
use Rattle.frame.specs.FormatLaws.{read_n}
use lib.ListN.{length-take}
use Rattle.learner.specs.Learner.{taken}
use Rattle.refusal.specs.Refusal.{Accepted}
use Rattle.refusal.specs.AnswerLaws.{at_once, later, passed_on}
use Rattle.learner.proofs.Tests.{steps_refused, passes, steps_concluded}
use Rattle.learner.proofs.step_in_place.Goals as goal

pub returns-then-unfit : goal.returns-then-unfit
returns-then-unfit c = steps_refused c.args.r c.args.s.now c.unfit.ensures.sized c.args.line.now c.read_into-read.result c.read_into-read.new.words _ true c.read_into-read.ensures
    (at_once _ _ (sym c.unfit.ensures.config ∙ c.if-unfit.true)) refl refl

pub returns-in_default : goal.returns-in_default
returns-in_default c = steps_refused c.args.r c.args.s.now c.unfit.ensures.sized c.args.line.now None c.read_into-read.new.words _ true c.in_default.ensures
    (later _ _ (sym c.unfit.ensures.config ∙ c.if-unfit.false) (at_once _ _ refl)) refl refl

pub check_vote-requires : goal.check_vote-requires
check_vote-requires c = (rw c.row.ensures (omega (arith, length_row c.args.s.now.entries.words c.args.s.now.entries.counts c.in-Some.head.sender)), rw (c.first-h.ensures, length-take) (omega (arith, ap (λ (o : Reading). o.frame.n) c.in-Some.ensures, read_n limit c.args.line.now taken)))

pub returns-in_err-check_vote : goal.returns-in_err-check_vote
returns-in_err-check_vote c = rw (passed_on _ c.from_residual.ensures.1)
    (steps_refused c.args.r c.args.s.now c.unfit.ensures.sized c.args.line.now (Some c.in-Some.head) c.read_into-read.new.words _ true c.in-Some.ensures
    (later _ _ (sym c.unfit.ensures.config ∙ c.if-unfit.false) (later _ _ refl (rw (← c.row.ensures, ← c.first-h.ensures) c.in_err-check_vote.ensures))) refl refl)

pub conclude-requires-clause-passed : goal.conclude-requires-clause-passed
conclude-requires-clause-passed c = rw c.first-h.ensures
    (passes c.args.r c.args.s.now c.unfit.ensures.sized c.args.line.now (Some c.in-Some.head) c.read_into-read.new.words Accepted false c.in-Some.ensures
    (later _ _ (sym c.unfit.ensures.config ∙ c.if-unfit.false) (later _ _ refl (rw (← c.row.ensures, ← c.first-h.ensures) c.in_ok-check_vote.ensures))) refl refl refl)

pub returns : goal.returns
returns c = c.conclude.ensures ∙ rw c.first-h.ensures
    (steps_concluded c.args.r c.args.s.now c.unfit.ensures.sized c.args.line.now (Some c.in-Some.head) c.read_into-read.new.words Accepted false c.in-Some.ensures
    (later _ _ (sym c.unfit.ensures.config ∙ c.if-unfit.false) (later _ _ refl (rw (← c.row.ensures, ← c.first-h.ensures) c.in_ok-check_vote.ensures))) refl refl refl)

-- `leader::step_in_place` meets its contract: CONFIG and FORM are asked in this order and change nothing; a frame is taken as its kind says.
use Rattle.std.proofs.Common.{refl, sym, ◌∙◌, arith}
use Rattle.std.proofs.lemmas.Bool.{ne_eqb}
use Rattle.frame.specs.Format.{malformed}
use Rattle.refusal.specs.Rules.{judged}
use Rattle.leader.specs.Leader.{P1B, PROPOSE, LEADER, step}
use Rattle.leader.proofs.Calls.{steps}
use Rattle.leader.proofs.step_in_place.Goals as goal

pub returns-then-unfit : goal.returns-then-unfit
unfolding step judged
returns-then-unfit c = rw (sym c.unfit.ensures ∙ c.if-unfit.true) (refl, refl)

pub returns-in_default : goal.returns-in_default
unfolding step judged malformed
returns-in_default c = rw (sym c.unfit.ensures ∙ c.if-unfit.false, ← c.in_default.ensures) (refl, refl)

pub returns-in-3 : goal.returns-in-3
returns-in-3 c = rw (steps c.args.r c.args.own c.args.s.now c.args.line.now c.args.out.now (sym c.unfit.ensures ∙ c.if-unfit.false) c.in-Some.head c.read_into-read.new.words c.in-Some.ensures P1B (rw c.in-3.is refl)) c.take.ensures

pub returns-in-4 : goal.returns-in-4
returns-in-4 c = rw (steps c.args.r c.args.own c.args.s.now c.args.line.now c.args.out.now (sym c.unfit.ensures ∙ c.if-unfit.false) c.in-Some.head c.read_into-read.new.words c.in-Some.ensures PROPOSE (rw c.in-4.is refl))
    (c.take-in-4.ensures c.args.r c.args.own c.args.out.now)

pub returns-in_default-kind : goal.returns-in_default-kind
returns-in_default-kind c = let kind = c.in-Some.head.kind in
    rw (steps c.args.r c.args.own c.args.s.now c.args.line.now c.args.out.now (sym c.unfit.ensures ∙ c.if-unfit.false) c.in-Some.head c.read_into-read.new.words c.in-Some.ensures LEADER
    (rw (ne_eqb kind 3 (omega arith), ne_eqb kind 4 (omega arith)) refl))
    (c.take-in_default-kind.ensures c.read_into-read.new.words c.args.out.now)

-- `leader::open_in_place` meets its contract: CONFIG and STALE are asked in this order and change nothing; an accepted opening sets the ballot, forgets the reports and hands over the frame.
use Rattle.std.specs.Prelude.{◌≡◌, cond, not, eqb}
use Rattle.std.proofs.Common.{refl, sym, ◌∙◌}
use Rattle.std.proofs.lemmas.Bool.{ne_eqb}
use Rattle.refusal.specs.Rules.{judged}
use Rattle.leader.specs.Leader.{opening}
use Rattle.leader.proofs.open_in_place.Goals.{then-fast-eq0, else-fast-eq0}
use Rattle.leader.proofs.open_in_place.Goals as goal

pub returns-then-unfit : goal.returns-then-unfit
unfolding opening judged
returns-then-unfit c = rw (sym c.unfit.ensures ∙ c.if-unfit.true) (refl, refl)

pub returns-then-not-may_open : goal.returns-then-not-may_open
unfolding opening judged
returns-then-not-may_open c = rw (sym c.unfit.ensures ∙ c.if-unfit.false, sym c.may_open.ensures ∙ c.if-not-may_open.true) (refl, refl)

pub returns : goal.returns
unfolding opening judged
returns c = let classic : c.if-fast-eq0.s ≡ cond (not (eqb c.args.fast 0)) 0 1 = elim c.if-fast-eq0.branch [
  | then-fast-eq0 w ↦ w.s-is ∙ rw w.if-fast-eq0.true refl
  | else-fast-eq0 w ↦ w.s-is ∙ rw (ne_eqb _ _ w.if-fast-eq0.false) refl
] in
    rw (sym c.unfit.ensures ∙ c.if-unfit.false, sym c.may_open.ensures ∙ c.if-not-may_open.false) (rw (classic, c.clear.ensures, c.clear-2.ensures, c.invite.ensures.0) refl, c.invite.ensures.1)

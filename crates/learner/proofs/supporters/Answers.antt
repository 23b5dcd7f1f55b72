-- `learner::supporters` meets its contract: the loop keeps that the count is that of the sites looked at.
use Rattle.std.proofs.Common.{ℕ, ◌+◌, sym, ap, ◌∙◌, arith}
use Rattle.roster.specs.SitesLaws.{count_zero, count_hit, count_miss, count_le}
use Rattle.learner.specs.Code.Vote.{stands}
use Rattle.learner.proofs.supporters.Goals.{then-stands, else-stands}
use Rattle.learner.proofs.supporters.Goals as goal

pub loop-i-init : goal.loop-i-init
loop-i-init c = sym (count_zero _)

pub overflow_add-count : goal.overflow_add-count
overflow_add-count c = omega (arith, count_le c.loop-i.i (stands c.args.entries.now.words c.args.entries.now.counts c.args.site c.args.h.now))

pub loop-i-preserved : goal.loop-i-preserved
loop-i-preserved c = let behind = stands c.args.entries.now.words c.args.entries.now.counts c.args.site c.args.h.now in
    elim c.if-stands.branch [
      | then-stands v ↦ v.count-is ∙ ap (λ (k : ℕ). k + 1) c.loop-i.invariant ∙ sym (count_hit c.loop-i.i behind (sym c.stands.ensures ∙ v.if-stands.true))
      | else-stands v ↦ v.count-is ∙ c.loop-i.invariant ∙ sym (count_miss c.loop-i.i behind (sym c.stands.ensures ∙ v.if-stands.false))
    ]

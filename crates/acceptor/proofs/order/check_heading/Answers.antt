-- `acceptor::order::check_heading` meets its contract: its tests are its rules' tests, and they are given in the rules' order.
use Rattle.std.proofs.Common.{sym, ap, ◌∙◌}
use Rattle.std.proofs.Math.Bool.{not}
use Rattle.refusal.specs.AnswerLaws.{rule, no_rule}
use Rattle.acceptor.proofs.order.check_heading.Goals.{then-eq+then-eq-2, then-eq+else-eq-2, else-eq}
use Rattle.acceptor.proofs.order.check_heading.Goals as goal

pub returns : goal.returns
returns c = rule _ _ c.given-2.ensures c.outsider-unknown.ensures
    (elim c.if-eq.branch [
      | then-eq+then-eq-2 v ↦ rule _ _ c.given.ensures (ap not (v.stale-is ∙ rw (sym c.eq.ensures ∙ v.if-eq.true, sym v.eq-then-eq.ensures ∙ v.if-eq-2.true))) no_rule
      | then-eq+else-eq-2 v ↦ rule _ _ c.given.ensures (ap not (v.stale-is ∙ rw (sym c.eq.ensures ∙ v.if-eq.true, sym v.eq-then-eq.ensures ∙ v.if-eq-2.false) v.if-eq-2.false)) no_rule
      | else-eq v ↦ rule _ _ c.given.ensures (ap not (v.stale-is ∙ rw (sym c.eq.ensures ∙ v.if-eq.false) v.if-eq.false)) no_rule
    ])

-- `acceptor::verify::check_heading` meets its contract: its tests are its rules' tests, and they are given in the rules' order.
use Rattle.std.proofs.Common.{rules, refl, sym, ap, ◌∙◌}
use Rattle.std.proofs.Math.Bool.{not}
use Rattle.refusal.specs.AnswerLaws.{rule, no_rule}
use Rattle.acceptor.proofs.verify.check_heading.Goals.{then-eq, else-eq}
use Rattle.acceptor.proofs.verify.check_heading.Goals as goal

pub returns : goal.returns
returns c = rule _ _ c.given-2.ensures refl
    (elim c.if-eq.branch [
      | then-eq v ↦ rule _ _ c.given.ensures (ap not (v.stale-is ∙ rw (sym c.eq.ensures ∙ v.if-eq.true) (search rules))) no_rule
      | else-eq v ↦ rule _ _ c.given.ensures (ap not (v.stale-is ∙ rw (sym c.eq.ensures ∙ v.if-eq.false) v.if-eq.false)) no_rule
    ])

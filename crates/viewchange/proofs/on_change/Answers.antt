-- `viewchange::on_change` meets its contract: each test is its rule's, and they are given in the rules' order.
use Rattle.std.proofs.Common.{ap, ap₂, ◌∙◌, not, ◌||◌, Bool}
use Rattle.roster.specs.CountsLaws.{later_count}
use Rattle.roster.specs.Mask.{unproven}
use Rattle.refusal.specs.AnswerLaws.{rule, no_rule}
use Rattle.viewchange.proofs.on_change.Goals as goal

pub returns : goal.returns
returns c = rule _ _ c.given-3.ensures c.unknown-nobody.ensures
    (rule _ _ c.given-2.ensures (ap₂ (λ (a b : Bool). not a || b) (c.gt.ensures ∙ later_count c.args.view.0 c.args.v.view.0) (c.gt-2.ensures ∙ later_count c.args.v.target.0 c.args.view.0))
    (rule _ _ c.given.ensures (c.unproven-lacks.ensures ∙ ap (unproven c.args.mask c.args.r.n) c.weak_certificate.ensures) no_rule))

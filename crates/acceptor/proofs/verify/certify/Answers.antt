-- `acceptor::verify::certify` meets its contract: the loop keeps that the mask is that of the sites looked at.
use Rattle.std.proofs.Common.{ℕ, List, sym, ap, ◌∙◌, arith}
use Rattle.roster.specs.Mask.{with_site}
use Rattle.roster.specs.SitesLaws.{mask_zero, mask_miss}
use Rattle.roster.specs.MaskLaws.{with_mask}
use Rattle.history.specs.History.{equal}
use Rattle.acceptor.specs.Acceptor.{matches}
use Rattle.acceptor.proofs.verify.certify.Goals.{then-same, else-same}
use Rattle.acceptor.proofs.verify.certify.Goals as goal

pub loop-i-init : goal.loop-i-init
loop-i-init c = sym (mask_zero _)

pub loop-i-preserved : goal.loop-i-preserved
loop-i-preserved c =
    let entry = matches c.args.verified.now c.args.h.now in
    let same = ap (λ (l : List ℕ). equal l c.args.h.now) (sym c.row.ensures) ∙ sym c.same.ensures in
    elim c.if-same.branch [
      | then-same v ↦ v.mask-is ∙ v.with_site-mask.ensures ∙ ap (λ (k : ℕ). with_site k c.loop-i.i) c.loop-i.invariant ∙ with_mask c.loop-i.i entry (omega arith) (same ∙ v.if-same.true)
      | else-same v ↦ v.mask-is ∙ c.loop-i.invariant ∙ sym (mask_miss c.loop-i.i entry (same ∙ v.if-same.false))
    ]

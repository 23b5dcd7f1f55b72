-- `acceptor::verify::convinces` meets its contract: it asks the quorum, extension and the proven history in their order.
use Rattle.std.proofs.Common.{◌≡◌, sym, ap, ◌∙◌}
use Rattle.std.proofs.Math.Bool.{not, ◌&&◌}
use Rattle.roster.specs.Counts.{same_ballot}
use Rattle.history.specs.History.{equal}
use Rattle.acceptor.specs.Acceptor.{convinces}
use Rattle.acceptor.proofs.Tests.{extends_is}
use Rattle.acceptor.proofs.verify.convinces.Goals.{then-same, else-same}
use Rattle.acceptor.proofs.verify.convinces.Goals as goal

pub returns-after-same : goal.returns-after-same
unfolding convinces
returns-after-same c =
    let proven = c.commands-proven.result.now in
    let known : c.if-same.result ≡ (equal proven c.args.h.now && same_ballot c.args.s.now.proven_ballot c.args.s.now.ballot) =
    elim c.if-same.branch [
      | then-same v ↦ v.result-is ∙ rw (sym c.same.ensures ∙ v.if-same.true) v.eq.ensures
      | else-same v ↦ v.result-is ∙ rw (sym c.same.ensures ∙ v.if-same.false) v.if-same.false
    ] in
    rw (← c.quorum.ensures, ← c.reaches.ensures, c.if-reaches.true, ← c.commands-proven.ensures, extends_is c.args.h.now proven _ c.requires c.extends.ensures, c.if-extends.true)
    (ap not known)

pub returns-else-extends : goal.returns-else-extends
unfolding convinces
returns-else-extends c = rw (← c.quorum.ensures, ← c.reaches.ensures, c.if-reaches.true, ← c.commands-proven.ensures, extends_is c.args.h.now c.commands-proven.result.now _ c.requires c.extends.ensures, c.if-extends.false)

pub returns-else-reaches : goal.returns-else-reaches
unfolding convinces
returns-else-reaches c = rw (← c.quorum.ensures, ← c.reaches.ensures, c.if-reaches.false)

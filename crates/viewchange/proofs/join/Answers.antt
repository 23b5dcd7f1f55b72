-- `viewchange::join` meets its contract: it adds the sender, and moves to the target at N-f sites.
use Rattle.std.proofs.Common.{sym, ◌∙◌}
use Rattle.viewchange.specs.ViewChange.{changed, join}
use Rattle.viewchange.proofs.join.Goals as goal

pub returns-then-not-reaches : goal.returns-then-not-reaches
unfolding join changed
returns-then-not-reaches c = let few = sym c.reaches.ensures ∙ c.if-not-reaches.true in
    (rw (← c.with_site-v.ensures, ← c.quorum.ensures, few), rw (← c.with_site-v.ensures, ← c.quorum.ensures, few))

pub returns : goal.returns
unfolding join changed
returns c = let enough = sym c.reaches.ensures ∙ c.if-not-reaches.false in
    (rw (← c.with_site-v.ensures, ← c.quorum.ensures, enough, c.notify-sent.ensures.0, c.fresh.ensures), rw (← c.with_site-v.ensures, ← c.quorum.ensures, enough) c.notify-sent.ensures.1)

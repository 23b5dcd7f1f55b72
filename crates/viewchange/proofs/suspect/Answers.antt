-- `viewchange::suspect` meets its contract: it adds the suspicion, and sets the target where the definition does. FULL is not given, so that the next view fits.
use Rattle.std.proofs.Common.{sym, ◌∙◌, arith}
use Rattle.viewchange.specs.ViewChange.{suspected, suspicion}
use Rattle.viewchange.specs.ViewChangeLaws.{not_last}
use Rattle.viewchange.proofs.suspect.Goals as goal

pub returns-then-not-targets : goal.returns-then-not-targets
unfolding suspicion suspected
returns-then-not-targets c = let unset = sym c.sets-targets.ensures ∙ c.if-not-targets.true in
    (rw (unset, c.with_site-v.ensures), rw unset)

pub overflow_add-v : goal.overflow_add-v
overflow_add-v c = let set = sym c.sets-targets.ensures ∙ c.if-not-targets.false in
    omega (arith, not_last c.args.r c.args.v.now c.args.site c.requires set)

pub returns : goal.returns
unfolding suspicion suspected
returns c = let set = sym c.sets-targets.ensures ∙ c.if-not-targets.false in
    (rw (set, c.with_site-v-2.ensures, ← c.with_site-v.ensures, c.notify.ensures.0), rw (set, ← c.with_site-v.ensures) c.notify.ensures.1)

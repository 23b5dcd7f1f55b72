-- `history::extends` meets its contract: a list of over 64 commands extends nothing, a shorter one does not extend, one that starts with g does,
-- and else what is left after the same first commands decides.
use mathlib.Core.Path.{◌≡◌, ◌∙◌}
use mathlib.Core.Bool.{and-false}
use borrow.Author.Tests.{le-leb, lt-leb, eq-eqb}
use Rattle.std.proofs.Math.Logic.{⊎_elim}
use lib.ListN.{length, take}
use lib.Dec.{leb}
use lib.Seq.{take-length}
use Rattle.history.specs.ExtensionLaws.{extends_shorter}
use Rattle.history.specs.FrontLaws.{extends_first}
use Rattle.history.proofs.extends.Goals as goal

pub returns-then-h-gt-WORK : goal.returns-then-h-gt-WORK
returns-then-h-gt-WORK c = let h = c.args.h.now in
    let g = c.args.g.now in
    ⊎_elim (λ p. rw (lt-leb (length h) 64 p)) (λ p. rw (extends_shorter h g p.1, and-false (leb (length h) 64))) c.then-h-gt-WORK.either

pub extends_past-requires : goal.extends_past-requires
extends_past-requires c = (c.if-h-gt-WORK.false, c.common-k.ensures.first, c.common-k.ensures.second, c.common-k.ensures.same)

pub returns-then-k-g : goal.returns-then-k-g
returns-then-k-g c = let same : take (length c.args.g.now) c.args.h.now ≡ c.args.g.now =
    (rw c.if-k-g.true at c.common-k.ensures.same) ∙ take-length c.args.g.now in
    rw (le-leb _ _ c.if-h-gt-WORK.false, extends_first _ _ same) (eq-eqb _ _ c.if-k-g.true)

pub returns-else-k-g : goal.returns-else-k-g
returns-else-k-g c = rw (le-leb _ _ c.if-h-gt-WORK.false) c.extends_past.ensures

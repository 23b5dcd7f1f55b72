-- `words::common` meets its contract: it counts the first pairs that are of equal words.
use Rattle.std.specs.Prelude.{◌≡◌, eqb}
use Rattle.std.specs.List.{zip}
use Rattle.std.proofs.Common.{rules, ◌∙◌}
use Rattle.std.proofs.lemmas.Iterator.{YieldsList-from_slice, YieldsList-from_zip}
use Rattle.std.proofs.lemmas.Iterator.Consumers.{YieldsList-at, count_from_yields_List}
use Rattle.std.proofs.lemmas.Iterator.Search.{YieldsList-from_take_while}
use Rattle.std.proofs.lemmas.List.Folds.{length-prefix_len}
use borrow.Author.Tests.{tests}
use Rattle.words.proofs.Scans.{matched, matched_common}
use Rattle.words.proofs.common.Goals as goal

pub returns : goal.returns
returns c = let h = c.args.h.now in
    let g = c.args.g.now in
    let counted : c.count.result ≡ matched h g =
    count_from_yields_List c.take_while.result c.count.result c.count.ensures.ran
    (YieldsList-from_take_while _ (λ p. eqb p.0 p.1)
    (YieldsList-at c.take_while.ensures.source
    (YieldsList-from_zip (YieldsList-at c.zip.ensures.first (YieldsList-from_slice h cc)) (YieldsList-from_slice g cc)))
    c.take_while.ensures.closure c.take_while.ensures.done (λ x b q k. search (rules, tests)))
    ∙ length-prefix_len _ (zip h g) in
    rw counted (matched_common h g)

-- `merge::settle` meets its contract: bringing h's commands to the front says whether the work extends h, and what it leaves is equivalent to the work, so its canonical order is the work's.
use Rattle.std.proofs.lemmas.Bool.{le-leb, lt-leb}
use mathlib.Core.Path.{sym, ap, ◌∙◌}
use Rattle.history.specs.History.{canonical}
use Rattle.history.specs.CanonicalLaws.{canonical_unique}
use Rattle.history.specs.FrontLaws.{fronted_equivalent}
use Rattle.history.specs.Words.{stored}
use Rattle.merge.proofs.Answers.{answer_split, answer_full, answer_found}
use Rattle.merge.proofs.settle.Goals as goal

pub returns-then-not-bring : goal.returns-then-not-bring
returns-then-not-bring c = let bring-call = c.bring in
    let if1 = c.if-not-bring in
    sym (answer_split _ _ _ (sym bring-call.ensures.0 ∙ if1.true))

pub returns-then-work-most : goal.returns-then-work-most
returns-then-work-most c = let bring-call = c.bring in
    let if1 = c.if-not-bring in
    let if2 = c.if-work-most in
    sym (answer_full _ _ _ bring-call.new.work (sym bring-call.ensures.0 ∙ if1.false) bring-call.auto.work (lt-leb _ _ if2.true))

pub returns : goal.returns
returns c = let bring-call = c.bring in
    let if1 = c.if-not-bring in
    let if2 = c.if-work-most in
    let put-in-order-call = c.put_in_order in
    answer_found _ _ _ bring-call.new.work c.of.result (sym bring-call.ensures.0 ∙ if1.false) bring-call.auto.work (le-leb _ _ if2.false)
    (c.of.ensures ∙ ap stored (put-in-order-call.ensures ∙ ap canonical bring-call.ensures.1 ∙ canonical_unique (fronted_equivalent _ _)))

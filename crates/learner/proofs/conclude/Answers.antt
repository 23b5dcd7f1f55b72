-- `learner::conclude` meets its contract: where the claims have no merge, that is SPLIT or FULL; else the merge is kept and the vote stored.
use Rattle.std.proofs.Common.{refl, true, false}
use Rattle.learner.proofs.Tests.{unmerged_answer, merged_answer, concludes_refused, concludes_accepted}
use Rattle.learner.proofs.conclude.Goals as goal

pub returns-in-Err : goal.returns-in-Err
returns-in-Err c = rw (c.refusal_of.ensures)
    (concludes_refused c.args.r c.args.s.now c.requires.sized c.args.site c.args.h.now c.requires.passed c.supporters-k.result c.supporters-k.ensures _ c.in-Err.ensures
    _ (unmerged_answer c.in-Err.unmerged) true refl refl)

pub returns : goal.returns
returns c = concludes_accepted c.args.r c.args.s.now c.requires.sized c.args.site c.args.h.now c.requires.passed c.supporters-k.result c.supporters-k.ensures _ c.in-Ok.ensures
    _ (merged_answer c.in-Ok.merged) false refl refl _ c.store.ensures

-- `learner::store` meets its contract: the history is stored if it is not shorter than the entry, which says that it extends it; else the entry stays.
use Rattle.std.proofs.Common.{sym, ◌∙◌, true, false}
use Rattle.std.proofs.lemmas.Bool.{le-leb, lt-leb}
use Rattle.learner.proofs.StepLaws.{vote_stored, vote_stays}
use Rattle.learner.proofs.Tests.{newer_is}
use Rattle.learner.proofs.store.Goals as goal

pub returns-then-row-h : goal.returns-then-row-h
returns-then-row-h c = c.store.ensures ∙ sym (vote_stored c.args.entries.now c.args.site c.args.h.now (newer_is c.args.site c.args.h.now c.requires true (rw (← c.row.ensures) (le-leb _ _ c.if-row-h.true))))

pub returns-else-row-h : goal.returns-else-row-h
returns-else-row-h c = sym (vote_stays c.args.entries.now c.args.site c.args.h.now (newer_is c.args.site c.args.h.now c.requires false (rw (← c.row.ensures) (lt-leb _ _ c.if-row-h.false))))

-- `learner::stands` meets its contract: the voter stands behind its vote, and another site if its row extends it.
use Rattle.std.proofs.Common.{sym, arith}
use Rattle.std.proofs.lemmas.Bool.{ne_eqb}
use Rattle.table.specs.TableLaws.{length_row}
use Rattle.learner.proofs.Tests.{extends_is}
use Rattle.learner.proofs.stands.Goals as goal

pub returns-else-i-site : goal.returns-else-i-site
returns-else-i-site c = rw (ne_eqb _ _ c.if-i-site.false)
    (sym (rw (← c.row.ensures) (extends_is c.row.result.now _ c.extends.result (rw c.row.ensures (omega (arith, length_row c.args.entries.now.words c.args.entries.now.counts c.args.i))) c.extends.ensures)))

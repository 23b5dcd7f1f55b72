-- `table::Rows::row_valid` meets its contract: each return is an arm of the definition, under the tests that led there.
use mathlib.Core.Path.{sym}
use borrow.Author.Tests.{lt-leb, le-leb, lt-ltb, le-ltb, ne_eqb}
use lib.ListN.{get_or-eq_default}
use Rattle.table.specs.Table.{valid_row}
use Rattle.table.specs.ValidLaws.{valid_row_none}
use Rattle.table.proofs.Rows.row_valid.Goals as goal

pub returns-then-site-self : goal.returns-then-site-self
returns-then-site-self c = sym (valid_row_none _ _ c.args.self.words.now c.args.self.counts.now c.args.site (get_or-eq_default c.args.self.counts.now 0 c.if-site-self.true))

pub returns-then-count-eq0 : goal.returns-then-count-eq0
returns-then-count-eq0 c = sym (valid_row_none _ _ c.args.self.words.now c.args.self.counts.now c.args.site c.if-count-eq0.true)

pub returns-then-limit-count : goal.returns-then-limit-count
unfolding valid_row
returns-then-limit-count c = rw (lt-leb _ _ c.if-limit-count.true)

pub returns-then-n-site : goal.returns-then-n-site
unfolding valid_row
returns-then-n-site c = rw (le-leb _ _ c.if-limit-count.false, le-ltb _ _ c.if-n-site.true, ne_eqb _ _ c.if-count-eq0.false)

pub returns : goal.returns
unfolding valid_row
returns c = rw (le-leb _ _ c.if-limit-count.false, lt-ltb _ _ c.if-n-site.false, sym c.row.ensures) c.valid.ensures

-- `table::Rows::row` meets its contract: each early return is one of the ways in which there is no such row, and past them the part is the row.
use mathlib.Core.Path.{◌≡◌, sym}
use Prim.Native.Nat.{◌+◌, ◌-◌, ◌*◌}
use native.Mathlib.Omega.{arith}
use lib.ListN.{get_or}
use Rattle.history.specs.Words.{capacity}
use Rattle.table.specs.TableLaws.{row_past, row_short, row_over, row_is}
use borrow.Author.Rules.{rules}
use Rattle.table.proofs.Rows.row.Goals as goal
use Rattle.table.proofs.Rows.row.Goals.{then-counts-site-via-then-counts-site, then-counts-site-via-else-counts-site+then-words-site}

pub returns-then-counts-site : goal.returns-then-counts-site
returns-then-counts-site c = let words = c.args.self.words.now in
    let counts = c.args.self.counts.now in
    let site = c.args.site in
    elim c.then-counts-site.branch [
      | then-counts-site-via-then-counts-site w ↦ sym (row_past words counts site w.if-counts-site.true)
      | then-counts-site-via-else-counts-site+then-words-site w ↦ sym (row_short words counts site (omega arith))
    ]

pub overflow_cast-n : goal.overflow_cast-n
overflow_cast-n c = let given = c.args in
    omega (arith, c.shared_slice_known-1.given given.site)

pub returns-then-n-gt-CAPACITY : goal.returns-then-n-gt-CAPACITY
returns-then-n-gt-CAPACITY c = sym (row_over _ _ _ c.if-n-gt-CAPACITY.true)

pub returns : goal.returns
returns c = let at = c.args in
    let n = get_or at.self.counts.now at.site 0 in
    let size : capacity * at.site + n - capacity * at.site ≡ n = omega arith in
    rw size (sym (row_is at.self.words.now at.self.counts.now at.site (search rules) (omega arith) c.if-n-gt-CAPACITY.false))

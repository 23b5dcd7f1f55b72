-- `frame::read_head` meets its contract: each of its tests is one that makes a line, and a header that passes them is proper and of a kind that is taken.
use Rattle.frame.proofs.Lines.{too_short, head_not_spelled, head_not_proper, head_not_taken, kind_fits, head_fitting, head_found}
use Rattle.frame.specs.Hex.{total}
use lib.Seq.{length-take-le}
use mathlib.Core.Path.{sym, refl, ◌∙◌}
use native.Mathlib.Omega.{arith}
use Rattle.frame.proofs.read_head.Goals as goal

pub returns-then-line-lt-SHORTEST : goal.returns-then-line-lt-SHORTEST
returns-then-line-lt-SHORTEST c = too_short _ _ _ c.if-line-lt-SHORTEST.true

pub slice_bounds-read_header-end : goal.slice_bounds-read_header-end
slice_bounds-read_header-end c = sym (length-take-le 36 c.args.line.now (omega arith))

pub read_header-spelled-requires : goal.read_header-spelled-requires
unfolding total
read_header-spelled-requires c = (c.requires, length-take-le 36 c.args.line.now (omega arith), refl)

pub returns-then-not-spelled : goal.returns-then-not-spelled
returns-then-not-spelled c = head_not_spelled _ _ _ _ c.if-line-lt-SHORTEST.false _ c.read_header-spelled.ensures c.if-not-spelled.true

pub returns-then-not-fine : goal.returns-then-not-fine
returns-then-not-fine c = head_not_proper _ _ _ _ c.if-line-lt-SHORTEST.false _ c.read_header-spelled.ensures c.if-not-spelled.false (sym c.proper-fine.ensures ∙ c.if-not-fine.true)

pub overflow_cast-head : goal.overflow_cast-head
overflow_cast-head c = record { fits = kind_fits c.args.limit c.args.line.now _ c.args.kinds c.if-line-lt-SHORTEST.false _ c.read_header-spelled.ensures c.if-not-spelled.false }

pub returns-then-not-taken : goal.returns-then-not-taken
returns-then-not-taken c = head_not_taken _ _ _ _ c.if-line-lt-SHORTEST.false _ c.read_header-spelled.ensures c.if-not-spelled.false (sym c.contains-taken.ensures ∙ c.if-not-taken.true)

pub heading_of-requires : goal.heading_of-requires
heading_of-requires c = head_fitting c.args.limit c.args.line.now _ c.args.kinds c.if-line-lt-SHORTEST.false _ c.read_header-spelled.ensures c.if-not-spelled.false

pub returns : goal.returns
returns c = head_found _ _ _ _ c.if-line-lt-SHORTEST.false _ c.read_header-spelled.ensures c.if-not-spelled.false (sym c.proper-fine.ensures ∙ c.if-not-fine.false) (sym c.contains-taken.ensures ∙ c.if-not-taken.false) c.heading_of.ensures

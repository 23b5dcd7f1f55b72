-- `merge::overflows` meets its contract: where there is room for all commands nothing overflows; else a work array of 64 words tells whether what is appended is over a limit of at most 32.
use mathlib.Core.Path.{ap, sym, ◌∙◌}
use mathlib.Core.List.{List}
use Prim.Native.Nat.{ℕ, min}
use native.Mathlib.Omega.{arith}
use borrow.Author.Tests.{le-ltb}
use lib.Dec.{ltb}
use lib.ListN.{length}
use Rattle.merge.specs.Merge.{appended, appended_in}
use Rattle.merge.specs.Appending.{overflows}
use Rattle.merge.specs.MergeLaws.{length_appended}
use Rattle.merge.specs.AppendingLaws.{overflows_in_work}
use Rattle.merge.proofs.overflows.Goals as goal

pub returns-then-h-most : goal.returns-then-h-most
unfolding overflows
returns-then-h-most c = let given = c.args in
    sym (le-ltb (min given.limit 32) (length (appended given.g.now given.h.now)) (omega (arith, length_appended given.g.now given.h.now, c.min-most.ensures)))

pub returns : goal.returns
returns c = let given = c.args in
    let most = min given.limit 32 in
    let g = given.g.now in
    let h = given.h.now in
    rw (c.min-most.ensures, c.append-n.ensures.0)
    (ap (λ (b : List ℕ). ltb most (length (appended_in b (length g) h))) c.fill.ensures ∙ overflows_in_work most g h (omega arith))

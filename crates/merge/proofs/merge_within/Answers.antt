-- `merge::merge_within` meets its contract: the work array holds g with h appended, which is settled against h.
use mathlib.Core.Path.{sym, ap, ◌∙◌}
use borrow.Author.Tests.{le-leb, lt-leb}
use lib.ListN.{length}
use lib.Seq.{length-take-le}
use mathlib.Core.List.{List}
use Prim.Native.Nat.{ℕ}
use Rattle.std.proofs.Math.Logic.{⊎_elim}
use native.Mathlib.Omega.{arith}
use Rattle.merge.specs.Merge.{appended_in}
use Rattle.merge.specs.Merged.{answer_of}
use Rattle.merge.specs.AppendingLaws.{appended_in_work, take_appended, append_bound}
use Rattle.merge.proofs.Answers.{merged_long_left, merged_long_right, merged_union}
use Rattle.merge.proofs.merge_within.Goals as goal

pub returns-then-g-most : goal.returns-then-g-most
returns-then-g-most c = let most = c.args.most in
    let g = c.args.g.now in
    let h = c.args.h.now in
    sym (⊎_elim (λ p. merged_long_left most g h (lt-leb (length g) most p)) (λ p. merged_long_right most g h (lt-leb (length h) most p.1)) c.then-g-most.either)

pub slice_bounds-work-end : goal.slice_bounds-work-end
slice_bounds-work-end c = let given = c.args in
    let fill-call = c.fill in
    let append-call = c.append-n in
    append_bound fill-call.new.dst (length given.g.now) given.h.now append-call.result append-call.new.buf append-call.ensures.0 append-call.ensures.1

pub slice_bounds-settle-end : goal.slice_bounds-settle-end
slice_bounds-settle-end c = let given = c.args in
    let fill-call = c.fill in
    let append-call = c.append-n in
    sym (length-take-le _ _ (append_bound fill-call.new.dst (length given.g.now) given.h.now append-call.result append-call.new.buf append-call.ensures.0 append-call.ensures.1))

pub returns : goal.returns
returns c = let given = c.args in
    let if1 = c.if-g-most in
    let if2 = c.if-h-most in
    let fill-call = c.fill in
    let append-call = c.append-n in
    let settle-call = c.settle in
    let most = given.most in
    let g = given.g.now in
    let h = given.h.now in
    settle-call.ensures
    ∙ ap (λ (w : List ℕ). answer_of most w h)
    (take_appended fill-call.new.dst (length given.g.now) given.h.now append-call.result append-call.new.buf append-call.ensures.0 append-call.ensures.1 ∙ ap (λ (b : List ℕ). appended_in b (length g) h) fill-call.ensures ∙ appended_in_work g h (omega (arith, if1.false)) (omega (arith, if2.false)))
    ∙ sym (merged_union most g h (le-leb _ _ if1.false) (le-leb _ _ if2.false))

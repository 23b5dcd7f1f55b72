-- `transcript::feed` meets its contract: each turn takes the bytes through the next line feed, and what is left to take leads to the same; without a
-- byte or room nothing is left.
use mathlib.Core.Path.{sym, ap, ◌∙◌}
use mathlib.Core.Logic.{inl, inr}
use Prim.Native.Nat.{◌-◌, ◌≤◌, ◌<◌}
use native.Mathlib.Omega.{arith}
use lib.ListN.{length}
use Rattle.learner.specs.Learner.{step}
use Rattle.lines.specs.Lines.{longest_answer}
use Rattle.transcript.proofs.StreamLaws.{room_for}
use Rattle.transcript.proofs.Turns.{stops, on_open, on_first, on_later, goes_on}
use Rattle.transcript.proofs.feed.Goals as goal

pub loop-next-smaller-then-stream : goal.loop-next-smaller-then-stream
loop-next-smaller-then-stream c =
    let turn = c.loop-next in
    let h : longest_answer ≤ length turn.out - turn.end = room_for (length turn.out - turn.end) (sym c.has_room.ensures ∙ c.if-has_room.true) in
    let g : turn.next < c.pull-p.result.next = goes_on turn.stream turn.line turn.out turn.end c.args.bytes.now turn.next h c.pull-p.result c.pull-p.new.line c.pull-p.ensures.0 c.pull-p.ensures.1 (omega (arith, c.loop-next-test.true)) in
    omega (arith, c.loop-next-test.true, g)

pub loop-next-preserved-then-stream : goal.loop-next-preserved-then-stream
loop-next-preserved-then-stream c =
    let turn = c.loop-next in
    let s = turn.stream in
    let answered = c.answer-end in
    let h : longest_answer ≤ length turn.out - turn.end = room_for (length turn.out - turn.end) (sym c.has_room.ensures ∙ c.if-has_room.true) in
    let o = step s.roster s.state c.first-arrived.result.now in
    let k = ap (step s.roster s.state) c.first-arrived.ensures in
    let t = on_later s turn.line turn.out turn.end c.args.bytes.now turn.next h c.pull-p.result c.pull-p.new.line c.pull-p.ensures.0 c.pull-p.ensures.1 c.if-p.true c.if-stream.true o k answered.new.out answered.result answered.ensures.out answered.ensures.used in
    (omega (arith, c.pull-p.auto.line, turn.invariant.0), omega (arith, answered.auto.out, turn.invariant.1), rw answered.ensures.state (t ∙ turn.invariant.2))

pub loop-next-smaller-else-stream : goal.loop-next-smaller-else-stream
loop-next-smaller-else-stream c =
    let turn = c.loop-next in
    let h : longest_answer ≤ length turn.out - turn.end = room_for (length turn.out - turn.end) (sym c.has_room.ensures ∙ c.if-has_room.true) in
    let g : turn.next < c.pull-p.result.next = goes_on turn.stream turn.line turn.out turn.end c.args.bytes.now turn.next h c.pull-p.result c.pull-p.new.line c.pull-p.ensures.0 c.pull-p.ensures.1 (omega (arith, c.loop-next-test.true)) in
    omega (arith, c.loop-next-test.true, g)

pub loop-next-preserved-else-stream : goal.loop-next-preserved-else-stream
loop-next-preserved-else-stream c =
    let turn = c.loop-next in
    let h : longest_answer ≤ length turn.out - turn.end = room_for (length turn.out - turn.end) (sym c.has_room.ensures ∙ c.if-has_room.true) in
    let t = on_first turn.stream turn.line turn.out turn.end c.args.bytes.now turn.next h c.pull-p.result c.pull-p.new.line c.pull-p.ensures.0 c.pull-p.ensures.1 c.if-p.true c.if-stream.false in
    (omega (arith, c.pull-p.auto.line, turn.invariant.0), turn.invariant.1, rw (c.roster_of-stream.ensures, c.first-arrived.ensures) t ∙ turn.invariant.2)

pub loop-next-smaller : goal.loop-next-smaller
loop-next-smaller c =
    let turn = c.loop-next in
    let h : longest_answer ≤ length turn.out - turn.end = room_for (length turn.out - turn.end) (sym c.has_room.ensures ∙ c.if-has_room.true) in
    let g : turn.next < c.pull-p.result.next = goes_on turn.stream turn.line turn.out turn.end c.args.bytes.now turn.next h c.pull-p.result c.pull-p.new.line c.pull-p.ensures.0 c.pull-p.ensures.1 (omega (arith, c.loop-next-test.true)) in
    omega (arith, c.loop-next-test.true, g)

pub loop-next-preserved : goal.loop-next-preserved
loop-next-preserved c =
    let turn = c.loop-next in
    let h : longest_answer ≤ length turn.out - turn.end = room_for (length turn.out - turn.end) (sym c.has_room.ensures ∙ c.if-has_room.true) in
    let t = on_open turn.stream turn.line turn.out turn.end c.args.bytes.now turn.next h c.pull-p.result c.pull-p.new.line c.pull-p.ensures.0 c.pull-p.ensures.1 c.if-p.false in
    (omega (arith, c.pull-p.auto.line, turn.invariant.0), turn.invariant.1, t ∙ turn.invariant.2)

pub returns-after-loop-next : goal.returns-after-loop-next
returns-after-loop-next c =
    let turn = c.loop-next in
    stops turn.stream turn.line turn.out turn.end c.args.bytes.now turn.next (inl (omega arith)) ∙ turn.invariant.2

pub returns-else-has_room : goal.returns-else-has_room
returns-else-has_room c =
    let turn = c.loop-next in
    stops turn.stream turn.line turn.out turn.end c.args.bytes.now turn.next (inr (sym c.has_room.ensures ∙ c.if-has_room.false)) ∙ turn.invariant.2

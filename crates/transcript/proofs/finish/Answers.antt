-- `transcript::finish` meets its contract: before the first line has ended, or where nothing is kept, nothing is put; else the answer to what is kept.
use mathlib.Core.Path.{ap, ◌∙◌}
use mathlib.Core.List.{List}
use Prim.Native.Nat.{ℕ}
use Rattle.learner.specs.declared.Outcome.{Outcome}
use Rattle.learner.specs.Learner.{step}
use Rattle.lines.specs.Lines.{kept, kept_length, answer_line}
use Rattle.transcript.specs.Transcript.{said}
use Rattle.transcript.proofs.Turns.{before_start, between_lines, unfinished}
use Rattle.transcript.proofs.finish.Goals.{else-s-via-then-s+else-s-ne0, else-s-via-else-s}
use Rattle.transcript.proofs.finish.Goals as goal

pub returns-then-s-ne0 : goal.returns-then-s-ne0
returns-then-s-ne0 c =
    let given = c.args in
    let s = given.s in
    let n =
    ap (λ (k : ℕ). answer_line k c.step-o.result.supporters) c.number.ensures
    ∙ ap (λ (o : Outcome). said o) c.step-o.ensures
    ∙ ap (λ (l : List ℕ). said (step s.roster s.state l)) c.first.ensures
    ∙ unfinished s given.line.now c.if-s.true c.if-s-ne0.true in
    (c.put_answer.ensures.0 ∙ ap (kept_length given.out.now given.used) n, c.put_answer.ensures.1 ∙ ap (kept given.out.now given.used) n)

pub returns-else-s : goal.returns-else-s
returns-else-s c =
    let given = c.args in
    elim c.else-s.branch [
      | else-s-via-then-s+else-s-ne0 w ↦ between_lines given.s given.line.now given.out.now given.used w.if-s-ne0.false
      | else-s-via-else-s w ↦ before_start given.s given.line.now given.out.now given.used w.if-s.false
    ]

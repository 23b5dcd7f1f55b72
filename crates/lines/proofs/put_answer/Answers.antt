-- `lines::put_answer` meets its contract: what it puts are the first bytes of the answer's text, which are its line.
use mathlib.Core.Path.{◌≡◌, ap, ◌∙◌}
use lib.ListN.{take}
use Rattle.lines.specs.declared.Text.{Text}
use Rattle.lines.specs.Lines.{answer_line}
use Rattle.lines.proofs.Answers.{text_front}
use Rattle.lines.proofs.put_answer.Goals as goal

pub returns : goal.returns
returns c =
    let t : c.first.result.now ≡ answer_line c.args.number c.args.supporters =
    c.first.ensures ∙ ap (λ (x : Text). take x.len x.bytes) c.answer_text-text.ensures ∙ text_front c.args.number c.args.supporters in
    (cc, cc)

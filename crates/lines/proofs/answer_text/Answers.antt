-- `lines::answer_text` meets its contract: the two numbers, each three digits at most, with a space and a line feed are written one
-- after the other over zeros.
use native.Mathlib.Omega.{arith}
use lib.ListN.{length-set}
use Rattle.lines.specs.AnswerLaws.{decimal_short}
use Rattle.lines.proofs.Answers.{text_is}
use Rattle.lines.proofs.answer_text.Goals as goal

pub bounds-bytes-at : goal.bounds-bytes-at
bounds-bytes-at c = omega (arith, c.put_decimal-at.ensures.0, decimal_short c.args.number)

pub overflow_add-at : goal.overflow_add-at
overflow_add-at c = omega (arith, c.put_decimal-at.ensures.0, decimal_short c.args.number)

pub put_decimal-end-requires : goal.put_decimal-end-requires
put_decimal-end-requires c = simp length-set (omega (arith, c.put_decimal-at.ensures.0, decimal_short c.args.number, c.put_decimal-at.auto.bytes))

pub bounds-bytes-end : goal.bounds-bytes-end
bounds-bytes-end c = omega (arith, c.put_decimal-at.ensures.0, decimal_short c.args.number, c.put_decimal-end.ensures.0, decimal_short c.args.supporters)

pub overflow_add-result : goal.overflow_add-result
overflow_add-result c = omega (arith, c.put_decimal-at.ensures.0, decimal_short c.args.number, c.put_decimal-end.ensures.0, decimal_short c.args.supporters)

pub returns : goal.returns
returns c = text_is c.args.number c.args.supporters c.put_decimal-at.result c.put_decimal-end.result c.put_decimal-at.new.bytes c.put_decimal-end.new.bytes c.put_decimal-at.ensures.0 c.put_decimal-at.ensures.1 c.put_decimal-end.ensures.0 c.put_decimal-end.ensures.1

-- `lines::byte` meets its contract: a digit is 15 at most, so that the sum is a byte, and without one of the digits there is none.
use native.Mathlib.Omega.{arith}
use Rattle.lines.proofs.Digits.{digit_small, byte_some}
use Rattle.lines.proofs.byte.Goals as goal

pub overflow_mul-result : goal.overflow_mul-result
overflow_mul-result c = omega (arith, digit_small _ _ c.in_ok-digit.ensures)

pub overflow_add-result : goal.overflow_add-result
overflow_add-result c =
    omega (
      arith,
      digit_small _ _ c.in_ok-digit.ensures,
      digit_small _ _ c.in_ok-digit-2.ensures,
    )

pub returns : goal.returns
returns c = byte_some c.args.a c.args.b c.in_ok-digit.field-0 c.in_ok-digit-2.field-0 c.in_ok-digit.ensures c.in_ok-digit-2.ensures

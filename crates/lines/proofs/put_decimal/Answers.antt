-- `lines::put_decimal` meets its contract: it stores the digits one by one, as many as the tests say.
use Rattle.std.proofs.lemmas.Bool.{lt-ltb, le-ltb}
use Prim.Native.Nat.{ℕ, suc, ◌+◌}
use native.Mathlib.Omega.{arith}
use native.Mathlib.Numerals.{add-one}
use mathlib.Core.Path.{◌≡◌, refl}
use lib.ListN.{length-set}
use Rattle.lines.specs.Lines.{decimal}
use Rattle.lines.proofs.put_decimal.Goals as goal

add_two : (n : ℕ) → n + 2 ≡ suc (suc n)
add_two n = omega arith

pub overflow_add-bytes : goal.overflow_add-bytes
overflow_add-bytes c = omega arith

pub returns-then-n-lt10 : goal.returns-then-n-lt10
unfolding decimal
returns-then-n-lt10 c = rw (lt-ltb _ _ c.if-n-lt10.true) (refl, refl)

pub bounds-bytes-at-then-n-lt100-2 : goal.bounds-bytes-at-then-n-lt100-2
bounds-bytes-at-then-n-lt100-2 c = simp length-set (omega arith)

pub returns-then-n-lt100 : goal.returns-then-n-lt100
unfolding decimal
returns-then-n-lt100 c = rw (le-ltb _ _ c.if-n-lt10.false, lt-ltb _ _ c.if-n-lt100.true) (refl, rw (add-one c.args.at))

pub bounds-bytes-at-3 : goal.bounds-bytes-at-3
bounds-bytes-at-3 c = simp length-set (omega arith)

pub bounds-bytes-at-4 : goal.bounds-bytes-at-4
bounds-bytes-at-4 c = simp length-set (omega arith)

pub returns : goal.returns
unfolding decimal
returns c = rw (le-ltb _ _ c.if-n-lt10.false, le-ltb _ _ c.if-n-lt100.false) (refl, rw (add-one c.args.at, add_two c.args.at))

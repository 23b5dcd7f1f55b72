-- `lines::pull` meets its contract: it puts the bytes through the first line feed, or all of them, and past the end of the bytes there are none.
use native.Mathlib.Omega.{arith}
use Prim.Native.Nat.{ℕ, ◌-◌, ◌≤◌}
use mathlib.Core.Path.{◌≡◌, sym, ◌∙◌}
use mathlib.Core.List.{List}
use lib.ListN.{length, drop, length-drop}
use Rattle.std.specs.List.{slice_range}
use Rattle.std.proofs.Common.{take_all}
use Rattle.lines.proofs.Turns.{pull_ends, pull_stops, pull_none}
use Rattle.lines.proofs.pull.Goals as goal

pub returns-in_default : goal.returns-in_default
returns-in_default c = pull_none c.args.line.now c.args.len c.args.bytes.now c.args.from (omega (arith, c.in_default.ensures.lookup))

-- the bytes from a place on
rest_is : (bytes rest : List ℕ) (i : ℕ) → i ≤ length bytes → rest ≡ slice_range bytes i (length bytes) → rest ≡ drop i bytes
rest_is bytes rest i h e = e ∙ take_all (length bytes - i) (drop i bytes) (omega (arith, length-drop i bytes))

pub returns-in-Some-line_end : goal.returns-in-Some-line_end
returns-in-Some-line_end c =
    let found = c.in-Some-line_end in
    let rest = c.in-Some.rest.now in
    let q = rest_is c.args.bytes.now rest c.args.from c.in-Some.ensures.lookup.0.0 c.in-Some.ensures.lookup.0.2 in
    rw (sym q) (pull_ends c.args.line.now c.args.len c.args.from rest c.put.result c.put.new.out found.k found.ensures.place found.ensures.bound c.put.ensures)

pub returns-in-None : goal.returns-in-None
returns-in-None c =
    let rest = c.in-Some.rest.now in
    let q = rest_is c.args.bytes.now rest c.args.from c.in-Some.ensures.lookup.0.0 c.in-Some.ensures.lookup.0.2 in
    rw (sym q) (pull_stops c.args.line.now c.args.len c.args.from rest c.put-in-None.result c.put-in-None.new.out c.in-None.ensures.place c.put-in-None.ensures)

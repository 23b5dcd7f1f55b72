-- `frame::write_number` meets its contract: the loop keeps that the digits of what is left of the number, and then those written, are the goal.
use Rattle.frame.proofs.Turns.{putting_start, putting_turn, putting_end}
use Rattle.frame.proofs.Entries.{character_at, characters_length}
use lib.ListN.{length-set}
use native.Mathlib.Omega.{arith}
use Prim.Native.Nat.{◌/◌, ◌%◌}
use Rattle.frame.proofs.write_number.Goals as goal

pub loop-k-init : goal.loop-k-init
loop-k-init c = putting_start _ _ _ c.requires.1

pub bounds-characters-byte : goal.bounds-characters-byte
bounds-characters-byte c = omega (arith, characters_length _ c.requires.0)

pub bounds-characters-byte-in-loop-k : goal.bounds-characters-byte-in-loop-k
bounds-characters-byte-in-loop-k c = omega (arith, characters_length _ c.requires.0)

pub bounds-digits-k-in-loop-k : goal.bounds-digits-k-in-loop-k
bounds-digits-k-in-loop-k c = simp length-set (omega arith)

pub loop-k-preserved : goal.loop-k-preserved
loop-k-preserved c = putting_turn _ c.loop-k.x c.loop-k.k _ _ _ _ c.loop-k.invariant (omega arith) (character_at _ c.requires.0 (c.loop-k.x % 256 / 16) (omega arith)) (character_at _ c.requires.0 (c.loop-k.x % 256 % 16) (omega arith))

pub returns : goal.returns
returns c = putting_end _ c.loop-k.x c.loop-k.k _ _ c.loop-k.invariant (omega arith)

-- `transcript::feed` meets its contract: each turn takes the bytes through the next line feed, and what is left to take leads to the same.
use mathlib.Core.Path.{◌≡◌}
use Prim.Native.Nat.{◌-◌}
use lib.ListN.{length}
use Rattle.transcript.specs.Stream.{feed}
use Rattle.transcript.proofs.feed.Given as goal

abbrev pub invariant-loop-next : goal.invariant-loop-next
invariant-loop-next l =
    (length l.line ≡ length l.initial.line)
    × (length l.out ≡ length l.initial.out)
    × (feed l.stream l.line l.out l.end l.bytes l.next
    ≡ feed l.fn.s l.initial.line l.initial.out l.used l.bytes l.from)

abbrev pub decreases-loop-next : goal.decreases-loop-next
decreases-loop-next l = length l.bytes - l.next

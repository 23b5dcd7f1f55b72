-- The length of a list that was cut, and what is written of two such lists.
use mathlib.Core.Path.{◌≡◌, ap₂, ◌∙◌}
use mathlib.Core.List.{List}
use Prim.Native.Nat.{ℕ, ◌^◌, ◌<◌}
use native.Mathlib.Omega.{arith}
use lib.ListN.{length, take, length-take}
use Rattle.roster.specs.declared.View.{View}
use Rattle.roster.specs.declared.Ballot.{Ballot}
use Rattle.words.specs.Sizes.{capacity}
use Rattle.frame.specs.Format.{head_of, written_length, written, length_from, written_from}
use Rattle.site.specs.Message.{message}
use Rattle.site.specs.MessageLaws.{message_length, message_written}

-- the length of a list's first words, as many as there is room for, fits a byte
pub cut_fits : (l w : List ℕ) → w ≡ take capacity l → length w < 2 ^ 8
cut_fits l w e = rw (e, length-take) (omega arith)

-- what is written of a heading and two lists that were cut is what is written of the message
pub message_sent : (kind own : ℕ) (view : View) (ballot provenBallot : Ballot) (mask : ℕ) (g h one two out : List ℕ) → one ≡ take capacity g → two ≡ take capacity h → (r : ℕ) (put : List ℕ)
    → (r ≡ length_from (head_of (message kind own view ballot provenBallot mask one two)) one two out) × (put ≡ written_from (head_of (message kind own view ballot provenBallot mask one two)) one two out)
    → (r ≡ written_length (message kind own view ballot provenBallot mask (take capacity g) (take capacity h)) out)
    × (put ≡ written (message kind own view ballot provenBallot mask (take capacity g) (take capacity h)) out)
message_sent kind own view ballot provenBallot mask g h one two out e f r put w = (
  w.0 ∙ message_length kind own view ballot provenBallot mask one two out
      ∙ ap₂ (λ (x y : List ℕ). written_length (message kind own view ballot provenBallot mask x y) out) e f,
  w.1 ∙ message_written kind own view ballot provenBallot mask one two out
      ∙ ap₂ (λ (x y : List ℕ). written (message kind own view ballot provenBallot mask x y) out) e f,
)

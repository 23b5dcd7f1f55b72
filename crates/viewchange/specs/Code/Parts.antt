-- A call in parts: the heading of a line is read before it is checked, and the frame to send is handed over where the effect is.
use Rattle.std.specs.Prelude.{◌≡◌, List, ℕ, replicate, Option}
use Rattle.frame.specs.declared.Heading.{Heading}
use Rattle.frame.specs.declared.Frame.{Frame}
use Rattle.frame.specs.Format.{Reading}
use Rattle.frame.specs.Layout.{frame_capacity}
use Rattle.frame.specs.Format.{reading_with, frame_with}
use Rattle.site.specs.declared.ViewRecord.{ViewRecord}
use Rattle.site.specs.Reply.{Reply, buffer}
use Rattle.refusal.specs.Refusal.{Accepted}
use Rattle.viewchange.specs.ViewChange.{outcome}

-- what was read of a line by its heading, and the frame of that heading: the kinds that are taken have no commands
abbrev pub read : Option Heading → Reading
read head = reading_with head (replicate frame_capacity 0)

abbrev pub bare : Heading → Frame
bare head = frame_with head (replicate frame_capacity 0)

-- an effect with `out` lent to it does this: it answers how many bytes are to be sent, and leaves this record and this buffer
abbrev pub Done : Reply ViewRecord → List ℕ → ℕ → ViewRecord → List ℕ → Type 0
Done o out sent v left = (record { answer = Accepted; sent = sent; state = v } ≡ outcome o out) × (left ≡ buffer o.sending out)

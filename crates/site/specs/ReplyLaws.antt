-- What is sent is the frame's line, where the frame has one and there is room for the longest.
use Rattle.std.specs.Prelude.{◌≡◌, refl, Bool, true, false, List, ◌++◌, ℕ, ◌≤◌, ◌<◌, length, take, drop}
use Rattle.std.proofs.Common.{sym, ap, ◌∙◌, arith}
use Rattle.basics.specs.Bools.{and_left}
use Rattle.frame.specs.declared.Frame.{Frame}
use Rattle.frame.specs.Layout.{longest, line_length, count}
use Rattle.frame.specs.Format.{line_of, frame_of, writable, has_room, written_length, written}
use Rattle.frame.specs.FormatLaws.{frame_of_line}
use Rattle.frame.specs.InverseLaws.{longest_room, written_front}
use Rattle.site.specs.Reply.{Sending, silent, sends, length_sent, buffer}

-- silence is no frame, and one frame is sent where two are equal as sent
pub silent_sends : {m : Frame} → silent ≡ sends m → ⊥
silent_sends x = let z : ◌≡◌ {A = ℕ} 0 1 = cc in omega arith

pub sends_same : {m n : Frame} → sends m ≡ sends n → m ≡ n
sends_same x = cc

-- a frame's line at the front of the buffer, and the bytes after it as they were
pub record Sent (m : Frame) (out : List ℕ) : Type 0 where
  pub size : length_sent (sends m) out ≡ line_length (count m)
  pub output : buffer (sends m) out ≡ line_of m ++ drop (line_length (count m)) out
  pub front : take (length_sent (sends m) out) (buffer (sends m) out) ≡ line_of m

pub sent_line : (m : Frame) (out : List ℕ) → writable m ≡ true → longest ≤ length out → Sent m out
unfolding written_length written
sent_line m out w h =
    let room = longest_room m w (length out) h in
    record { size = rw room; output = rw room; front = written_front m out room }

-- the bytes sent, if any, are the line of the frame to send
pub data Wrote (m : Sending) (line : List ℕ) : Type 0 where
  wrote : {f : Frame} → m ≡ sends f → frame_of line ≡ f → Wrote m line

pub sent_frame : (m : Sending) (out line : List ℕ) → 0 < length_sent m out → take (length_sent m out) (buffer m out) ≡ line → Wrote m line
unfolding written_length has_room
sent_frame silent out line p e = absurd (omega arith)
sent_frame (sends f) out line p e = go (has_room f (length out)) refl
  where
    go : (b : Bool) → has_room f (length out) ≡ b → Wrote (sends f) line
    go true h = wrote refl (ap frame_of (sym e ∙ written_front f out h) ∙ frame_of_line f (and_left (writable f) _ h))
    go false h = absurd (omega (arith, rw h at p))

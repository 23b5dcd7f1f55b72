-- What a call of a role that sends does: its answer, the state after it, and at most one frame to send.
use Rattle.std.specs.Prelude.{◌≡◌, Bool, cond, List, ℕ, Result, Ok, Err}
use Rattle.refusal.specs.declared.Refusal.{Refusal}
use Rattle.refusal.specs.Refusal.{Answer}
use Rattle.refusal.specs.Refusal.{Accepted, Refused}
use Rattle.frame.specs.declared.Frame.{Frame}
use Rattle.frame.specs.Format.{written_length, written}

-- "at most one frame to send"
pub data Sending : Type 0 where
  silent : Sending
  sends : Frame → Sending

-- a frame, if it is to be sent
abbrev pub sends_if : Bool → Frame → Sending
sends_if sent m = cond sent (sends m) silent

pub record Reply (S : Type 0) : Type 0 where
  pub answer : Answer
  pub state : S
  pub sending : Sending

-- "Each returns its number only, sends nothing and keeps state and output buffer unchanged."
abbrev pub refuse : {S : Type 0} → S → Refusal → Reply S
refuse s e = record { answer = Refused e; state = s; sending = silent }

-- "An accepted frame answers 0 and at most one frame to send"
abbrev pub accept : {S : Type 0} → S → Sending → Reply S
accept s m = record { answer = Accepted; state = s; sending = m }

-- what such a call gives its caller: its answer, how many bytes of the buffer are to be sent, and the state after it
pub record Outcome (S : Type 0) : Type 0 where
  pub answer : Answer
  pub sent : ℕ
  pub state : S

-- what a call in place gives that answers how many bytes are to be sent, or a refusal, and leaves this state
abbrev pub outcome : {S : Type 0} → Result ℕ Refusal → S → Outcome S
outcome (Ok n) s = record { answer = Accepted; sent = n; state = s }
outcome (Err e) s = record { answer = Refused e; sent = 0; state = s }

-- "its line at the front of the output buffer; the bytes after it stay": the length of that line, 0 if there is none, and the buffer
abbrev pub length_sent : Sending → List ℕ → ℕ
length_sent silent out = 0
length_sent (sends m) out = written_length m out

abbrev pub buffer : Sending → List ℕ → List ℕ
buffer silent out = out
buffer (sends m) out = written m out

-- what a call that hands over a frame answers and leaves of the buffer: "its line at the front of the output buffer; the bytes after it stay"
abbrev pub Handed : Sending → ℕ → List ℕ → List ℕ → Type 0
Handed x k out left = (k ≡ length_sent x out) × (left ≡ buffer x out)

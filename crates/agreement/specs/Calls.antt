-- Call lists, as document 01, "Call lists of demand 3", words them: a site's calls of acceptor and view change, and what each sent.
use Rattle.std.specs.Prelude.{◌≡◌, List, ◌∷◌, ℕ, ◌<◌, take}
use Rattle.roster.specs.declared.Roster.{Roster}
use Rattle.site.specs.declared.ViewRecord.{ViewRecord}
use Rattle.site.specs.Site as site
use Rattle.acceptor.specs.declared.State.{State}
use Rattle.acceptor.specs.Acceptor as acceptor
use Rattle.viewchange.specs.ViewChange as viewchange

-- A call of a site's acceptor or view change, with the line handed in and the output buffer lent: "Lines are any bytes, output buffers any". The host's
-- own suspicion is a call of the view change with the line of that SUSPICION.
pub data Call : Type 0 where
  to_acceptor : (line out : List ℕ) → Call
  to_view_change : (line out : List ℕ) → Call

-- the line that a call hands in
abbrev pub handed : Call → List ℕ
handed (to_acceptor line out) = line
handed (to_view_change line out) = line

-- What a site keeps from call to call, of "acceptor and view change, which share the record".
pub record Site : Type 0 where
  pub views : ViewRecord
  pub state : State

-- "Each starts fresh, the view-change record at 0"
abbrev pub start : Site
start = record { views = site.fresh; state = acceptor.fresh }

-- What a call leaves: what the site keeps, how many bytes are to be sent, and the output buffer.
pub record Left : Type 0 where
  pub kept : Site
  pub sent : ℕ
  pub output : List ℕ

-- a call of site i, by the contracts of acceptor and view change: `returned` is what the function returns, `output` the buffer that it leaves
abbrev pub call : Roster → ℕ → Site → Call → Left
call r i s (to_acceptor line out) =
    let o = acceptor.returned r i s.views s.state line out in
    record {
      kept = record { views = s.views; state = o.state };
      sent = o.sent;
      output = acceptor.output r i s.views s.state line out;
    }
call r i s (to_view_change line out) =
    let o = viewchange.returned r i s.views line out in
    record { kept = record { views = o.state; state = s.state }; sent = o.sent; output = viewchange.output r i s.views line out }

-- Among the calls of site i from s on, one sent this line: the bytes to be sent, "at the front of the output buffer"; 0 bytes are no line.
-- "each call gets the state that the last one in its list returned or left"
pub data Sent (r : Roster) (i : ℕ) (line : List ℕ) : Site → List Call → Type 0 where
  now : {s : Site} {c : Call} {calls : List Call} → 0 < (call r i s c).sent → take (call r i s c).sent (call r i s c).output ≡ line
      → Sent r i line s (c ∷ calls)
  later : {s : Site} {c : Call} {calls : List Call} → Sent r i line (call r i s c).kept calls → Sent r i line s (c ∷ calls)

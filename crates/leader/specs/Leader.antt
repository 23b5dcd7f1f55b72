-- The leader, as document 01, "Leader", words it: its refusals in their order, what an accepted frame does, and the opening of a ballot.
use Rattle.std.specs.Prelude.{Bool, not, cond, ◌&&◌, List, [], ◌∷◌, ◌++◌, ℕ, leb, eqb, length}
use Rattle.roster.specs.declared.Roster.{Roster}
use Rattle.roster.specs.declared.View.{View}
use Rattle.roster.specs.declared.Ballot.{Ballot}
use Rattle.roster.specs.Roster.{quorum, leader_of}
use Rattle.roster.specs.Counts.{later_view, same_ballot, later_ballot, zero_ballot}
use Rattle.roster.specs.Mask.{bit, reaches, beyond, unproven, with_site}
use Rattle.command.specs.Command.{all_valid}
use Rattle.history.specs.declared.History.{History}
use Rattle.history.specs.History.{repeated}
use Rattle.words.specs.Sizes.{limit}
use Rattle.history.specs.Words.{commands, stored}
use Rattle.merge.specs.Merge.{appended}
use Rattle.table.specs.declared.Table.{Table}
use Rattle.table.specs.Table.{stored_at, empty_table, valid_table}
use Rattle.proposal.specs.Proposal.{report, proposal, remaining}
use Rattle.refusal.specs.declared.Refusal.TheVariants.{Config, Form, Sender, Stale, Proof}
use Rattle.refusal.specs.Rules.{Rule, ◌gives◌, judged}
use Rattle.content.specs.Content.{request_rules, report_rules, append_rules}
use Rattle.frame.specs.declared.Frame.{Frame}
use Rattle.frame.specs.Layout.{first, second}
use Rattle.frame.specs.Format.{reading_of, malformed}
use Rattle.site.specs.Site.{seated, is_set}
use Rattle.site.specs.Message.{message}
use Rattle.site.specs.Reply.{silent, sends, Reply, refuse, accept, sends_if, Outcome, length_sent, buffer}
use Rattle.leader.specs.declared.State.{State}

-- ---- the frames that a leader takes

pub data Kind : Type 0 where
  P1B : Kind
  PROPOSE : Kind
  LEADER : Kind

-- the kind of a number of `taken`
abbrev pub kind_of : ℕ → Kind
kind_of k = cond (eqb k 3) P1B (cond (eqb k 4) PROPOSE LEADER)

-- 3 P1B, 4 PROPOSE, 10 LEADER as a set of kinds: kind k is bit k
abbrev pub taken : ℕ
taken = 1048

-- the frame that a line holds
abbrev pub received : List ℕ → Frame
received line = (reading_of limit line taken).frame

-- the pending commands as a list
abbrev pub pending_of : State → List ℕ
pending_of s = commands s.pending

-- "fresh: 0, none, empty"
abbrev pub fresh : State
fresh =
    record {
      view = record { 0 = 0 };
      ballot = record { 0 = 0 };
      classic = 0;
      pending = stored [];
      reported = 0;
      proven = empty_table;
      held = empty_table;
    }

-- ---- the refusals: "Checks run in this order; the first that applies is given."

-- CONFIG: a list of pending commands may be lent without a "count over 32, a wrong command, a repeated proposer and serial in one list"; its order
-- is free
unfoldable pub valid_pending : ℕ → History → Bool
valid_pending limit p = leb p.count limit && (all_valid (commands p) && not (repeated (commands p)))

-- roster, own number and buffer; pending; and of the reports no "stored history not canonical, or a mask bit or entry at N or above"
unfoldable pub config : Roster → ℕ → ℕ → State → Bool
config r own room s =
    not
    (seated r own room
    && (valid_pending limit s.pending && (not (beyond s.reported r.n) && (valid_table limit r.n s.proven && valid_table limit r.n s.held))))

-- FORM: no line of a kind that a leader takes
abbrev pub form : List ℕ → Bool
form line = malformed limit line taken

-- LEADER "needs view mod N its own number and a view above its own (else STALE)"
unfoldable pub leads : Roster → ℕ → State → View → Bool
leads r own s view = eqb (leader_of r view) own && later_view view s.view

-- PROOF: "and N-f ones"
abbrev pub leader_rules : Roster → ℕ → State → Frame → List Rule
leader_rules r own s m = leb r.n m.sender gives Sender ∷ not (leads r own s m.view) gives Stale ∷ unproven m.mask r.n (quorum r) gives Proof ∷ []

-- SENDER: "PROPOSE instead: sender 0"
abbrev pub propose_heading : Frame → List Rule
propose_heading m = eqb m.sender 0 gives Sender ∷ []

-- PROPOSE with the commands h, with any ballot: "REUSED, NOTHING and FULL are read against pending (at most 32)"
abbrev pub propose_rules : List ℕ → Frame → List ℕ → List Rule
propose_rules pending m h = propose_heading m ++ (request_rules m.sender h ++ append_rules limit pending h)

-- "P1B must be for the open classic ballot, the first from its site, and before N-f came, else STALE."
unfoldable pub awaited : Roster → State → Ballot → ℕ → Bool
awaited r s ballot site =
    is_set s.classic && (same_ballot ballot s.ballot && (not (bit s.reported site) && not (reaches s.reported (quorum r))))

-- "An empty proven history needs proven ballot 0 and mask 0; another needs N-f ones; else PROOF."
unfoldable pub unfounded : Roster → ℕ → Ballot → ℕ → Bool
unfounded r n provenBallot mask = cond (eqb n 0) (not (zero_ballot provenBallot && eqb mask 0)) (unproven mask r.n (quorum r))

abbrev pub report_heading : Roster → State → Frame → List Rule
report_heading r s m =
    leb r.n m.sender gives Sender ∷
    not (awaited r s m.ballot m.sender) gives Stale ∷
    unfounded r m.n m.proven_ballot m.mask gives Proof ∷ []

-- P1B with the proven history g and the held one h
abbrev pub p1b_rules : Roster → State → Frame → List ℕ → List ℕ → List Rule
p1b_rules r s m g h = report_heading r s m ++ report_rules g h

-- the checks of a frame of a kind
abbrev pub frame_rules : Kind → Roster → ℕ → State → Frame → List Rule
frame_rules P1B r own s m = p1b_rules r s m (first m) (second m)
frame_rules PROPOSE r own s m = propose_rules (pending_of s) m (first m)
frame_rules LEADER r own s m = leader_rules r own s m

-- all checks of a line
abbrev pub rules : Roster → ℕ → ℕ → State → List ℕ → List Rule
rules r own room s line =
    config r own room s gives Config ∷
    form line gives Form ∷
    frame_rules (kind_of (received line).kind) r own s (received line)

-- ---- an accepted frame

-- the state with another view, with other pending commands, and with one more report
abbrev pub in_view : State → View → State
in_view s view = record s { view = view }

abbrev pub waiting : State → List ℕ → State
waiting s pending = record s { pending = stored pending }

abbrev pub reporting : State → Frame → State
reporting s m =
    record s {
      reported = with_site s.reported m.sender;
      proven = stored_at s.proven m.sender (first m);
      held = stored_at s.held m.sender (second m);
    }

-- the history of site i's report in a table
abbrev pub report_in : State → Table → ℕ → List ℕ
report_in s t = report t.words t.counts s.reported

-- what the leader proposes of the reports and of what is pending, and its P2A
unfoldable pub proposed : Roster → State → List ℕ
proposed r s = proposal limit r.n (report_in s s.proven) (report_in s s.held) (pending_of s)

abbrev pub p2a : ℕ → View → Ballot → List ℕ → Frame
p2a own view ballot h = message 5 own view ballot (record { 0 = 0 }) 0 h []

-- "On report N-f": "If not empty, the canonical result goes out as P2A. Pending keeps what the result doesn't hold."
abbrev pub proposing : ℕ → State → List ℕ → Reply State
proposing own s h = accept (waiting s (remaining (pending_of s) h)) (sends_if (not (eqb (length h) 0)) (p2a own s.view s.ballot h))

unfoldable pub conclude : Roster → ℕ → State → Reply State
conclude r own s = cond (reaches s.reported (quorum r)) (proposing own s (proposed r s)) (accept s silent)

-- LEADER: "the leader takes that view, nothing else changes"; PROPOSE "appends commands not pending"
abbrev pub accepted : Kind → Roster → ℕ → State → Frame → Reply State
accepted P1B r own s m = conclude r own (reporting s m)
accepted PROPOSE r own s m = accept (waiting s (appended (pending_of s) (first m))) silent
accepted LEADER r own s m = accept (in_view s m.view) silent

-- what a call does; `room` is the length of the lent buffer
unfoldable pub step : Roster → ℕ → ℕ → State → List ℕ → Reply State
step r own room s line = judged (refuse s) (accepted (kind_of (received line).kind) r own s (received line)) (rules r own room s line)

-- ---- opening a ballot

-- STALE: "The host opens a ballot greater than the leader's last, its view mod N being its own number, else STALE"
unfoldable pub may_open : Roster → ℕ → State → Ballot → Bool
may_open r own s ballot = later_ballot ballot s.ballot && eqb (leader_of r s.view) own

abbrev pub opening_rules : Roster → ℕ → ℕ → State → Ballot → List Rule
opening_rules r own room s ballot = config r own room s gives Config ∷ not (may_open r own s ballot) gives Stale ∷ []

-- "FAST or P1A goes out, and reports are forgotten"
abbrev pub in_ballot : State → Ballot → ℕ → State
in_ballot s ballot fast =
    record s { ballot = ballot; classic = cond (is_set fast) 0 1; reported = 0; proven = empty_table; held = empty_table }

abbrev pub invitation : ℕ → View → Ballot → ℕ → Frame
invitation own view ballot fast = message (cond (is_set fast) 2 1) own view ballot (record { 0 = 0 }) 0 [] []

-- what the call does; `fast` is a flag: 0 opens a classic ballot
unfoldable pub opening : Roster → ℕ → ℕ → State → Ballot → ℕ → Reply State
opening r own room s ballot fast =
    judged (refuse s) (accept (in_ballot s ballot fast) (sends (invitation own s.view ballot fast))) (opening_rules r own room s ballot)

-- ---- of a call with this buffer lent to it: what it returns, and the buffer that it leaves

abbrev pub outcome : Reply State → List ℕ → Outcome State
outcome o out = record { answer = o.answer; sent = length_sent o.sending out; state = o.state }

abbrev pub returned : Roster → ℕ → State → List ℕ → List ℕ → Outcome State
returned r own s line out = outcome (step r own (length out) s line) out

abbrev pub output : Roster → ℕ → State → List ℕ → List ℕ → List ℕ
output r own s line out = buffer (step r own (length out) s line).sending out

abbrev pub opening_returned : Roster → ℕ → State → Ballot → ℕ → List ℕ → Outcome State
opening_returned r own s ballot fast out = outcome (opening r own (length out) s ballot fast) out

abbrev pub opening_output : Roster → ℕ → State → Ballot → ℕ → List ℕ → List ℕ
opening_output r own s ballot fast out = buffer (opening r own (length out) s ballot fast).sending out

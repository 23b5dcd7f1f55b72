-- The acceptor, as document 01, "Acceptor", words it: for each kind of frame its refusals in their order and what an accepted frame does; and the step.
use Rattle.std.specs.Prelude.{Bool, true, false, not, cond, ◌&&◌, ◌||◌, List, [], ◌∷◌, ◌++◌, ℕ, leb, eqb, length}
use Rattle.roster.specs.declared.Roster.{Roster}
use Rattle.roster.specs.declared.View.{View}
use Rattle.roster.specs.declared.Ballot.{Ballot}
use Rattle.roster.specs.Roster.{quorum, leader_of}
use Rattle.roster.specs.Counts.{same_view, same_ballot, later_ballot}
use Rattle.roster.specs.Mask.{reaches, beyond}
use Rattle.roster.specs.Sites.{mask_to}
use Rattle.history.specs.History.{canonical, equal, extends}
use Rattle.history.specs.Words.{limit, commands, stored, valid_stored}
use Rattle.merge.specs.Merge.{appended}
use Rattle.table.specs.declared.Table.{Table}
use Rattle.table.specs.Table.{row_of, stored_at, empty_table, valid_table}
use Rattle.refusal.specs.declared.Refusal.TheVariants.{Config, Form, Sender, Stale, Behind, Contradiction}
use Rattle.refusal.specs.Rules.{Rule, ◌gives◌, judged}
use Rattle.content.specs.Content.{history_rules, request_rules, append_rules, contradicts}
use Rattle.frame.specs.declared.Frame.{Frame}
use Rattle.frame.specs.Layout.{first}
use Rattle.frame.specs.Format.{reading_of, malformed}
use Rattle.site.specs.declared.ViewRecord.{ViewRecord}
use Rattle.site.specs.Site.{seated, valid_record, is_set}
use Rattle.site.specs.Message.{message}
use Rattle.site.specs.Reply.{silent, sends, sends_if, Reply, refuse, accept, Outcome, length_sent, buffer}
use Rattle.acceptor.specs.declared.State.{State}

-- ---- the state

-- what is held and what is proven, as lists
abbrev pub held_of : State → List ℕ
held_of s = commands s.held

abbrev pub proven_of : State → List ℕ
proven_of s = commands s.proven

-- "Fresh: all 0 and empty."
abbrev pub fresh : State
fresh =
    record {
      ballot = record { 0 = 0 };
      fast = 0;
      signed = 0;
      held = stored [];
      proven = stored [];
      proven_ballot = record { 0 = 0 };
      certificate = 0;
      verified = empty_table;
    }

-- the last VERIFY of a frame's sender
abbrev pub entry_of : State → Frame → List ℕ
entry_of s m = row_of s.verified m.sender

-- ---- the frames that an acceptor takes

pub data Kind : Type 0 where
  P1A : Kind
  FAST : Kind
  PROPOSE : Kind
  P2A : Kind
  VERIFY : Kind

-- the kind of a number of `taken`
abbrev pub kind_of : ℕ → Kind
kind_of k = cond (eqb k 1) P1A (cond (eqb k 2) FAST (cond (eqb k 4) PROPOSE (cond (eqb k 5) P2A VERIFY)))

-- 1 P1A, 2 FAST, 4 PROPOSE, 5 P2A, 6 VERIFY as a set of kinds: kind k is bit k
abbrev pub taken : ℕ
taken = 118

-- the frame that a line holds, and the history that it carries
abbrev pub received : List ℕ → Frame
received line = (reading_of limit line taken).frame

abbrev pub carried : Frame → List ℕ
carried m = first m

-- SENDER: "P1A, FAST or P2A not from the frame's view mod N"
unfoldable pub not_leader : Roster → ℕ → View → Bool
not_leader r site view = leb r.n site || not (eqb site (leader_of r view))

-- ---- P1A and FAST

-- "view equal, ballot greater than its own, else STALE"
abbrev pub opening_rules : Roster → View → State → Frame → List Rule
opening_rules r view s m =
    not_leader r m.sender m.view gives Sender ∷
    not (same_view m.view view && later_ballot m.ballot s.ballot) gives Stale ∷ []

-- "Takes the ballot, forgets the VERIFY table and that it signed."
abbrev pub in_ballot : State → Ballot → ℕ → State
in_ballot s ballot fast = record s { ballot = ballot; fast = fast; signed = 0; verified = empty_table }

-- P1B, with the proven history, its ballot and mask, and the held one
abbrev pub p1b : ℕ → State → Ballot → Frame
p1b own s ballot = message 3 own (record { 0 = 0 }) ballot s.proven_ballot s.certificate (proven_of s) (held_of s)

-- "P1A answers P1B; FAST answers nothing."
unfoldable pub opening : Bool → ℕ → State → Ballot → Reply State
opening fast own s ballot = accept (in_ballot s ballot (cond fast 1 0)) (sends_if (not fast) (p1b own s ballot))

-- ---- signing a history, which P2A and PROPOSE do

-- VERIFY of h in the present view and ballot
abbrev pub verify : ℕ → ViewRecord → State → List ℕ → Frame
verify own v s h = message 6 own v.view s.ballot (record { 0 = 0 }) 0 h []

abbrev pub signing : ℕ → State → List ℕ → State
signing own s h = record s { signed = 1; held = stored h; verified = stored_at s.verified own h }

-- "It becomes held; answers VERIFY, which replaces its own entry but proves nothing yet."
unfoldable pub sign : ℕ → ViewRecord → State → List ℕ → Reply State
sign own v s h = accept (signing own s h) (sends (verify own v s h))

-- ---- P2A of h

-- "view and ballot equal and classic, else STALE"
abbrev pub order_heading : Roster → View → State → Frame → List Rule
order_heading r view s m =
    not_leader r m.sender m.view gives Sender ∷
    not (same_view m.view view && (same_ballot m.ballot s.ballot && eqb s.fast 0)) gives Stale ∷ []

-- "must extend the proven one and, if it signed in this ballot, the held one"
unfoldable pub lags : State → List ℕ → Bool
lags s h = not (extends h (proven_of s)) || (is_set s.signed && not (extends h (held_of s)))

abbrev pub order_rules : Roster → View → State → Frame → List ℕ → List Rule
order_rules r view s m h = order_heading r view s m ++ (history_rules h ++ (lags s h gives Behind ∷ []))

-- ---- PROPOSE of h

-- "PROPOSE instead: sender 0"; "ballot equal and fast, else STALE"
abbrev pub propose_heading : State → Frame → List Rule
propose_heading s m =
    eqb m.sender 0 gives Sender ∷
    not (same_ballot m.ballot s.ballot && is_set s.fast) gives Stale ∷ []

-- "The held history must extend the proven one (BEHIND)"; REUSED, NOTHING and FULL against what is held
abbrev pub propose_rules : State → Frame → List ℕ → List Rule
propose_rules s m h =
    propose_heading s m
    ++ (request_rules m.sender h
    ++ (not (extends (held_of s) (proven_of s)) gives Behind ∷ append_rules limit (held_of s) h))

-- "Commands not held are appended, result canonical; answers VERIFY as above."
unfoldable pub lengthened : List ℕ → List ℕ → List ℕ
lengthened held h = canonical (appended held h)

-- ---- VERIFY of h

-- "sender ≥ N"; "view and ballot equal"
abbrev pub verify_heading : Roster → View → State → Frame → List Rule
verify_heading r view s m =
    leb r.n m.sender gives Sender ∷
    not (same_view m.view view && same_ballot m.ballot s.ballot) gives Stale ∷ []

abbrev pub verify_rules : Roster → View → State → Frame → List ℕ → List Rule
verify_rules r view s m h = verify_heading r view s m ++ (history_rules h ++ (contradicts (entry_of s m) h gives Contradiction ∷ []))

-- whether an entry equals it, and the mask of those that do
abbrev pub matches : Table → List ℕ → ℕ → Bool
matches t h i = equal (row_of t i) h

unfoldable pub certificate_of : Roster → Table → List ℕ → ℕ
certificate_of r t h = mask_to r.n (matches t h)

-- "If stored and N-f entries equal it, and it extends the proven history, and it isn't already proven in this ballot"
unfoldable pub convinces : Roster → State → ℕ → List ℕ → Bool
convinces r s mask h =
    reaches mask (quorum r) && (extends h (proven_of s) && not (equal (proven_of s) h && same_ballot s.proven_ballot s.ballot))

abbrev pub proves : Roster → State → Table → List ℕ → Bool
proves r s t h = convinces r s (certificate_of r t h) h

-- the state with the table, and that in which h is proven
abbrev pub storing : State → Table → State
storing s t = record s { verified = t }

abbrev pub proving : State → Table → ℕ → List ℕ → State
proving s t mask h = record s { proven = stored h; proven_ballot = s.ballot; certificate = mask; verified = t }

-- P2B of h in the present ballot, with the mask of its certificate
abbrev pub p2b : ℕ → State → ℕ → List ℕ → Frame
p2b own s mask h = message 7 own (record { 0 = 0 }) s.ballot (record { 0 = 0 }) mask h []

-- "it becomes proven and a P2B goes out, its mask those entries. Otherwise no answer."
unfoldable pub store : Roster → ℕ → State → Table → List ℕ → Reply State
store r own s t h =
    cond (proves r s t h)
    (accept (proving s t (certificate_of r t h) h) (sends (p2b own s (certificate_of r t h) h)))
    (accept (storing s t) silent)

-- "Stored if it extends the site's entry; accepted without effect if the entry is longer and extends it."
unfoldable pub verifying : Roster → ℕ → State → ℕ → List ℕ → Reply State
verifying r own s site h = cond (extends h (row_of s.verified site)) (store r own s (stored_at s.verified site h) h) (accept s silent)

-- ---- the step: "Checks run in this order; the first that applies is given."

-- CONFIG: roster, own number and buffer; "lent state with a count over 32, a wrong command, a repeated proposer and serial in one list, a stored
-- history not canonical, or a mask bit or entry at N or above", the record's masks among them
unfoldable pub config : Roster → ℕ → ℕ → ViewRecord → State → Bool
config r own room v s =
    not
    (seated r own room
    && (valid_record r.n v
    && (valid_stored limit s.held && (valid_stored limit s.proven && (not (beyond s.certificate r.n) && valid_table limit r.n s.verified)))))

-- FORM: no line of a kind that an acceptor takes
abbrev pub form : List ℕ → Bool
form line = malformed limit line taken

-- the checks of a frame of a kind
abbrev pub frame_rules : Kind → Roster → View → State → Frame → List Rule
frame_rules P1A r view s m = opening_rules r view s m
frame_rules FAST r view s m = opening_rules r view s m
frame_rules PROPOSE r view s m = propose_rules s m (carried m)
frame_rules P2A r view s m = order_rules r view s m (carried m)
frame_rules VERIFY r view s m = verify_rules r view s m (carried m)

-- the checks of a frame in a state, and all checks of a line
abbrev pub rules_in : Roster → ViewRecord → State → Frame → List Rule
rules_in r v s m = frame_rules (kind_of m.kind) r v.view s m

abbrev pub rules : Roster → ℕ → ℕ → ViewRecord → State → List ℕ → List Rule
rules r own room v s line = config r own room v s gives Config ∷ form line gives Form ∷ rules_in r v s (received line)

-- what an accepted frame of a kind does
abbrev pub accepted : Kind → Roster → ℕ → ViewRecord → State → Frame → Reply State
accepted P1A r own v s m = opening false own s m.ballot
accepted FAST r own v s m = opening true own s m.ballot
accepted PROPOSE r own v s m = sign own v s (lengthened (held_of s) (carried m))
accepted P2A r own v s m = sign own v s (carried m)
accepted VERIFY r own v s m = verifying r own s m.sender (carried m)

-- what a call does; `room` is the length of the lent buffer, and the view is that of the view-change record v
unfoldable pub step : Roster → ℕ → ℕ → ViewRecord → State → List ℕ → Reply State
step r own room v s line =
    judged (refuse s) (accepted (kind_of (received line).kind) r own v s (received line)) (rules r own room v s line)

-- of a call with this buffer lent to it: what it returns, and the buffer that it leaves
abbrev pub outcome : Reply State → List ℕ → Outcome State
outcome o out = record { answer = o.answer; sent = length_sent o.sending out; state = o.state }

abbrev pub returned : Roster → ℕ → ViewRecord → State → List ℕ → List ℕ → Outcome State
returned r own v s line out = outcome (step r own (length out) v s line) out

abbrev pub output : Roster → ℕ → ViewRecord → State → List ℕ → List ℕ → List ℕ
output r own v s line out = buffer (step r own (length out) v s line).sending out

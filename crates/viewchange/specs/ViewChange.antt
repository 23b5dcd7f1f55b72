-- View change, as document 01, "View change", words it: its refusals in their order, and what an accepted frame does.
use Rattle.std.specs.Prelude.{Bool, not, cond, ◌&&◌, ◌||◌, List, [], ◌∷◌, ℕ, ◌+◌, leb, eqb, length}
use Rattle.words.specs.Sizes.{limit}
use Rattle.roster.specs.declared.Roster.{Roster}
use Rattle.roster.specs.declared.View.{View}
use Rattle.roster.specs.Roster.{quorum, weak_certificate}
use Rattle.roster.specs.Counts.{same_view, later_view, zero_view, last_view}
use Rattle.roster.specs.Mask.{reaches, unproven, with_site}
use Rattle.refusal.specs.declared.Refusal.TheVariants.{Config, Form, Sender, Stale, Proof, Full}
use Rattle.refusal.specs.Rules.{Rule, ◌gives◌, judged}
use Rattle.frame.specs.declared.Frame.{Frame}
use Rattle.frame.specs.Format.{line_of, reading_of, malformed}
use Rattle.site.specs.declared.ViewRecord.{ViewRecord}
use Rattle.site.specs.Site.{seated, valid_record}
use Rattle.site.specs.Message.{message}
use Rattle.site.specs.Reply.{silent, sends, Reply, Outcome, refuse, accept, length_sent, buffer}

-- ---- the frames taken and sent

-- their kinds
abbrev pub suspicion_kind : ℕ
suspicion_kind = 8

abbrev pub change_kind : ℕ
change_kind = 9

abbrev pub leader_kind : ℕ
leader_kind = 10

-- SUSPICION and VIEWCHANGE are taken: a set of kinds, bits 8 and 9
abbrev pub taken : ℕ
taken = 768

pub data Kind : Type 0 where
  SUSPICION : Kind
  VIEWCHANGE : Kind

-- the kind of a number of `taken`
abbrev pub kind_of : ℕ → Kind
kind_of k = cond (eqb k suspicion_kind) SUSPICION VIEWCHANGE

-- the frame that a line holds
abbrev pub received : List ℕ → Frame
received line = (reading_of limit line taken).frame

-- a frame of this kind from `own` for a view, with a mask and no commands
abbrev pub notice : ℕ → ℕ → View → ℕ → Frame
notice kind own view mask = message kind own view (record { 0 = 0 }) (record { 0 = 0 }) mask [] []

-- ---- the refusals: "Checks run in this order; the first that applies is given."

-- CONFIG: roster, own number and buffer; "a mask bit at N or above"
unfoldable pub config : Roster → ℕ → ℕ → ViewRecord → Bool
config r own room v = not (seated r own room && valid_record r.n v)

-- FORM: no line of a kind that is taken here
abbrev pub form : List ℕ → Bool
form line = malformed limit line taken

-- SENDER: sender ≥ N
abbrev pub sender : Roster → ℕ → Bool
sender r site = leb r.n site

-- the suspicions with that of a site
unfoldable pub suspected : ViewRecord → ℕ → ℕ
suspected v site = with_site v.suspicions site

-- whether a site's SUSPICION sets a target: "At f+1 ones or more, if no target is set (0)"
unfoldable pub sets : Roster → ViewRecord → ℕ → Bool
sets r v site = reaches (suspected v site) (weak_certificate r) && zero_view v.target

-- FULL: "the view would pass 4,294,967,295"
abbrev pub full : Roster → ViewRecord → ℕ → Bool
full r v site = last_view v.view && sets r v site

-- SUSPICION of a view from a site. STALE: "SUSPICION needs the current view"
abbrev pub suspicion_rules : Roster → ViewRecord → ℕ → View → List Rule
suspicion_rules r v site view =
    sender r site gives Sender ∷
    not (same_view view v.view) gives Stale ∷
    full r v site gives Full ∷ []

-- VIEWCHANGE to a view from a site, with a mask. STALE: "VIEWCHANGE needs a view above its own and not below
-- the target"; PROOF: "and f+1 ones"
abbrev pub change_rules : Roster → ViewRecord → ℕ → View → ℕ → List Rule
change_rules r v site view mask =
    sender r site gives Sender ∷
    (not (later_view view v.view) || later_view v.target view) gives Stale ∷
    unproven mask r.n (weak_certificate r) gives Proof ∷ []

-- the checks of a frame of a kind, and all checks of a line
abbrev pub frame_rules : Kind → Roster → ViewRecord → Frame → List Rule
frame_rules SUSPICION r v m = suspicion_rules r v m.sender m.view
frame_rules VIEWCHANGE r v m = change_rules r v m.sender m.view m.mask

abbrev pub rules : Roster → ℕ → ℕ → ViewRecord → List ℕ → List Rule
rules r own room v line =
    config r own room v gives Config ∷ form line gives Form ∷ frame_rules (kind_of (received line).kind) r v (received line)

-- ---- an accepted frame

-- the record after a site's SUSPICION that sets no target, and after one that does
abbrev pub noted : ViewRecord → ℕ → ViewRecord
noted v site = record { view = v.view; suspicions = suspected v site; target = v.target; changes = v.changes }

abbrev pub next_view : ViewRecord → View
next_view v = record { 0 = v.view.0 + 1 }

abbrev pub targeted : ℕ → ViewRecord → ℕ → ViewRecord
targeted own v site = record { view = v.view; suspicions = suspected v site; target = next_view v; changes = with_site 0 own }

-- a SUSPICION: "At f+1 ones or more, if no target is set (0), target is view+1 with its own bit, and VIEWCHANGE goes out with the suspicion mask."
unfoldable pub suspicion : Roster → ℕ → ViewRecord → ℕ → Reply ViewRecord
suspicion r own v site =
    cond (sets r v site) (accept (targeted own v site) (sends (notice change_kind own (next_view v) (suspected v site))))
    (accept (noted v site) silent)

-- the target mask with a site's bit
unfoldable pub changed : ViewRecord → ℕ → ℕ
changed v site = with_site v.changes site

-- the record after a VIEWCHANGE for a new target, after one for the target that is set, and in the new view
abbrev pub restarted : ℕ → ViewRecord → ℕ → View → ViewRecord
restarted own v site view = record { view = v.view; suspicions = v.suspicions; target = view; changes = with_site (with_site 0 site) own }

abbrev pub joined : ViewRecord → ℕ → ViewRecord
joined v site = record { view = v.view; suspicions = v.suspicions; target = v.target; changes = changed v site }

abbrev pub moved : ViewRecord → ViewRecord
moved v = record { view = v.target; suspicions = 0; target = record { 0 = 0 }; changes = 0 }

-- a VIEWCHANGE for a new target: "A new target restarts the mask with sender and itself and sends its own VIEWCHANGE with the frame's mask"
abbrev pub restart : ℕ → ViewRecord → ℕ → View → ℕ → Reply ViewRecord
restart own v site view mask = accept (restarted own v site view) (sends (notice change_kind own view mask))

-- for the target that is set: "an equal target adds the sender. At N-f ones or more the view becomes the target, suspicions and target clear,
-- and LEADER goes to view mod N, with the target mask."
unfoldable pub join : Roster → ℕ → ViewRecord → ℕ → Reply ViewRecord
join r own v site =
    cond (reaches (changed v site) (quorum r)) (accept (moved v) (sends (notice leader_kind own v.target (changed v site))))
    (accept (joined v site) silent)

-- what a frame of a kind that no check refuses gives
abbrev pub accepted : Kind → Roster → ℕ → ViewRecord → Frame → Reply ViewRecord
accepted SUSPICION r own v m = suspicion r own v m.sender
accepted VIEWCHANGE r own v m = cond (same_view m.view v.target) (join r own v m.sender) (restart own v m.sender m.view m.mask)

-- ---- the step

-- what a call does; `room` is the length of the lent buffer
unfoldable pub step : Roster → ℕ → ℕ → ViewRecord → List ℕ → Reply ViewRecord
step r own room v line =
    judged (refuse v) (accepted (kind_of (received line).kind) r own v (received line)) (rules r own room v line)

-- "The host's own suspicion enters as a SUSPICION from itself": the line of that frame, of a view
abbrev pub own_suspicion : ℕ → View → List ℕ
own_suspicion own view = line_of (notice suspicion_kind own view 0)

-- what it returns: the answer, how many bytes of the buffer are to be sent, and the record
abbrev pub outcome : Reply ViewRecord → List ℕ → Outcome ViewRecord
outcome o out = record { answer = o.answer; sent = length_sent o.sending out; state = o.state }

-- of a call with this buffer lent to it: what it returns, and the buffer that it leaves
abbrev pub returned : Roster → ℕ → ViewRecord → List ℕ → List ℕ → Outcome ViewRecord
returned r own v line out = outcome (step r own (length out) v line) out

abbrev pub output : Roster → ℕ → ViewRecord → List ℕ → List ℕ → List ℕ
output r own v line out = buffer (step r own (length out) v line).sending out

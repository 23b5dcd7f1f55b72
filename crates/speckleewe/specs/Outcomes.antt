-- What a call by a host gives: the roles' outcomes with the number of the answer in its place, and every byte of the buffer. What a lent record holds
-- when the call is over stands in the outcome beside the answer.
use Rattle.std.specs.Prelude.{◌≡◌, List, ℕ, Result, Ok, Err}
use Rattle.roster.specs.declared.Roster.{Roster}
use Rattle.roster.specs.declared.View.{View}
use Rattle.refusal.specs.declared.Refusal.{Refusal}
use Rattle.refusal.specs.Refusal.{number, answer_number}
use Rattle.site.specs.declared.ViewRecord.{ViewRecord}
use Rattle.site.specs.Site as views
use Rattle.site.specs.Reply.{Outcome}
use Rattle.acceptor.specs.declared.State as accepting_state
use Rattle.acceptor.specs.Acceptor as acceptor
use Rattle.leader.specs.declared.State as leading_state
use Rattle.leader.specs.Leader as leader
use Rattle.learner.specs.declared.State.{State}
use Rattle.learner.specs.Learner as learner
use Rattle.viewchange.specs.ViewChange as change
use Rattle.speckleewe.specs.declared.LearnerReply.{LearnerReply}
use Rattle.speckleewe.specs.declared.Opening.{Opening}
use Rattle.speckleewe.specs.declared.Reply.{Reply}
use Rattle.speckleewe.specs.declared.Site.{Site}

-- a result in numbers: "An accepted frame answers 0", a refused one its refusal's number, and nothing is sent or counted
abbrev pub reply : Result ℕ Refusal → Reply
reply (Ok n) = record { answer = 0; sent = n }
reply (Err e) = record { answer = number e; sent = 0 }

abbrev pub learner_reply : Result ℕ Refusal → LearnerReply
learner_reply (Ok k) = record { answer = 0; supporters = k }
learner_reply (Err e) = record { answer = number e; supporters = 0 }

-- what a call leaves: the answer in numbers and the record after it
pub record Left (R : Type 0) : Type 0 where
  pub reply : Reply
  pub after : R

-- ---- the view change

-- a role's outcome with the answer's number; and an answer with the record that its call left
abbrev pub view_change_outcome : Outcome ViewRecord → Left ViewRecord
view_change_outcome o = record { reply = record { answer = answer_number o.answer; sent = o.sent }; after = o.state }

abbrev pub views_left : Reply → ViewRecord → Left ViewRecord
views_left r v = record { reply = r; after = v }

-- the record before, the roster, the own number, the line and the buffer before; the outcome and the buffer after
abbrev pub view_change_call : ViewRecord → Roster → ℕ → List ℕ → List ℕ → Left ViewRecord → List ℕ → Type 0
view_change_call v r own line out o buffer = (o ≡ view_change_outcome (change.returned r own v line out)) × (buffer ≡ change.output r own v line out)

-- "The host's own suspicion enters as a SUSPICION from itself."
abbrev pub suspicion_call : ViewRecord → Roster → ℕ → View → List ℕ → Left ViewRecord → List ℕ → Type 0
suspicion_call v r own view = view_change_call v r own (change.own_suspicion own view)

-- ---- a site's acceptor: the view-change record stays

abbrev pub fresh_site : Site
fresh_site = record { views = views.fresh; acceptor = acceptor.fresh }

-- what the role's outcome leaves
abbrev pub site_given : ViewRecord → Outcome accepting_state.State → Left Site
site_given v o = record { reply = record { answer = answer_number o.answer; sent = o.sent }; after = record { views = v; acceptor = o.state } }

-- the site before, the roster, the own number, the line and the buffer before; the answer in numbers, the site and the buffer after
abbrev pub acceptor_call : Site → Roster → ℕ → List ℕ → List ℕ → Reply → Site → List ℕ → Type 0
acceptor_call s r own line out a t buffer =
    (record { reply = a; after = t } ≡ site_given s.views (acceptor.returned r own s.views s.acceptor line out))
    × (buffer ≡ acceptor.output r own s.views s.acceptor line out)

-- ---- a leader: its step, and the opening of a ballot

abbrev pub leader_given : Outcome leading_state.State → Left leading_state.State
leader_given o = record { reply = record { answer = answer_number o.answer; sent = o.sent }; after = o.state }

abbrev pub leader_call : leading_state.State → Roster → ℕ → List ℕ → List ℕ → Reply → leading_state.State → List ℕ → Type 0
leader_call s r own line out a t buffer = (record { reply = a; after = t } ≡ leader_given (leader.returned r own s line out)) × (buffer ≡ leader.output r own s line out)

abbrev pub opening_call : leading_state.State → Roster → ℕ → Opening → List ℕ → Reply → leading_state.State → List ℕ → Type 0
opening_call s r own p out a t buffer =
    (record { reply = a; after = t } ≡ leader_given (leader.opening_returned r own s p.ballot p.fast out))
    × (buffer ≡ leader.opening_output r own s p.ballot p.fast out)

-- ---- a learner

-- the state before, the roster and the line; the answer in numbers and the state after
abbrev pub learner_call : State → Roster → List ℕ → LearnerReply → State → Type 0
learner_call s r line a t =
    (a ≡ record { answer = answer_number (learner.step r s line).answer; supporters = (learner.step r s line).supporters })
    × (t ≡ (learner.step r s line).state)

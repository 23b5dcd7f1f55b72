-- What the laws of calls by a host speak of (proofs/CallLaws.antt): a host's site as the call lists see it, and what the next call of a list gives.
use Rattle.std.specs.Prelude.{◌≡◌, List, [], ◌∷◌, ◌++◌, ℕ, ◌<◌, take}
use Rattle.roster.specs.declared.Roster.{Roster}
use Rattle.roster.specs.declared.View.{View}
use Rattle.refusal.specs.Refusal.{answer_number}
use Rattle.viewchange.specs.ViewChange.{own_suspicion}
use Rattle.agreement.specs.Calls as calls
use Rattle.agreement.specs.Calls.{Call, to_view_change, start, call, Sent}
use Rattle.replica.specs.Calls.{answer_of, after}
use Rattle.learner.specs.declared.State.{State}
use Rattle.learner.specs.declared.Outcome.{Outcome}
use Rattle.learner.specs.Learner.{fresh}
use Rattle.learner.specs.Run.{run, outcomes}
use Rattle.speckleewe.specs.declared.LearnerReply.{LearnerReply}
use Rattle.speckleewe.specs.declared.Reply.{Reply}
use Rattle.speckleewe.specs.declared.Site.{Site}

-- ---- a site

-- a host's site as the call lists see it, and as the host has it
abbrev pub listed : Site → calls.Site
listed s = record { views = s.views; state = s.acceptor }

abbrev pub hosted : calls.Site → Site
hosted s = record { views = s.views; acceptor = s.state }

-- the host's own suspicion of a view in a call list: "a SUSPICION from itself", handed to the view change
abbrev pub suspicion_listed : ℕ → View → List ℕ → Call
suspicion_listed own view out = to_view_change (own_suspicion own view) out

-- What a host is told and has then is what the next call of a site's list, after the calls before, gives: its answer, the number of bytes that it sends,
-- the site and the buffer that it leaves; and so the line at the front of that buffer is sent.
pub record Next (r : Roster) (own : ℕ) (before : List Call) (c : Call) (a : Reply) (t : Site) (buffer : List ℕ) : Type 0 where
  pub answer : a.answer ≡ answer_number (answer_of r own (after r own start before) c)
  pub kept : listed t ≡ after r own start (before ++ c ∷ [])
  pub length_sent : a.sent ≡ (call r own (after r own start before) c).sent
  pub output : buffer ≡ (call r own (after r own start before) c).output
  pub sent : 0 < a.sent → Sent r own (take a.sent buffer) start (before ++ c ∷ [])

-- ---- a learner

-- the same of a line after the lines before
pub record NextLine (r : Roster) (before : List (List ℕ)) (line : List ℕ) (a : LearnerReply) (t : State) : Type 0 where
  pub outcome : Outcome
  pub last : outcomes r fresh (before ++ line ∷ []) ≡ outcomes r fresh before ++ outcome ∷ []
  pub told : a ≡ record { answer = answer_number outcome.answer; supporters = outcome.supporters }
  pub kept : t ≡ run r fresh (before ++ line ∷ [])

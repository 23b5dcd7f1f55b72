-- Each call by a host of a site's acceptor or view change, its own suspicion too, and of a learner, is the next call of a call list of demand 3: by the
-- contracts of `speckleewe_acceptor`, `speckleewe_view_change`, `speckleewe_suspicion` and `speckleewe_learner`.
use Rattle.std.specs.Prelude.{◌≡◌, refl, List, [], ◌∷◌, ℕ, ◌<◌, take}
use Rattle.std.proofs.Common.{sym, ap, ◌∙◌, subst}
use Rattle.roster.specs.declared.Roster.{Roster}
use Rattle.roster.specs.declared.View.{View}
use Rattle.refusal.specs.Refusal.{answer_number}
use Rattle.site.specs.declared.ViewRecord.{ViewRecord}
use Rattle.viewchange.specs.ViewChange.{own_suspicion}
use Rattle.agreement.specs.Calls as calls
use Rattle.agreement.specs.Calls.{Call, to_acceptor, to_view_change, start, call, Sent, now}
use Rattle.replica.specs.Calls.{answer_of, after}
use Rattle.replica.proofs.CallLaws.{after_next, sent_next}
use Rattle.learner.specs.declared.State.{State}
use Rattle.learner.specs.Learner.{fresh, step}
use Rattle.learner.specs.Run.{run, outcomes}
use Rattle.learner.proofs.RunLaws.{run_append, outcomes_append}
use Rattle.speckleewe.specs.declared.LearnerReply.{LearnerReply}
use Rattle.speckleewe.specs.declared.Reply.{Reply}
use Rattle.speckleewe.specs.declared.Site.{Site}
use Rattle.speckleewe.specs.CallLaws.{listed, hosted, suspicion_listed, Next, NextLine}
use Rattle.speckleewe.specs.Outcomes.{Left, fresh_site, acceptor_call, views_left, view_change_call, suspicion_call, learner_call}

-- ---- a site

-- nothing of a host's site is lost
pub hosted_listed : (s : Site) → hosted (listed s) ≡ s
hosted_listed s = refl

-- `speckleewe_site_fresh`: it is the site that each list starts with
pub fresh_starts : listed fresh_site ≡ start
fresh_starts = refl

module _ (r : Roster) (own : ℕ) (before : List Call) where
  abbrev s : calls.Site
  s = after r own start before

  next : (c : Call) {a : Reply} {t : Site} {buffer : List ℕ} → a.answer ≡ answer_number (answer_of r own s c) → listed t ≡ (call r own s c).kept
      → a.sent ≡ (call r own s c).sent → buffer ≡ (call r own s c).output → Next r own before c a t buffer
  next c {a} {t} {buffer} told left sent lent =
      let front : take (call r own s c).sent (call r own s c).output ≡ take a.sent buffer = rw (sent, lent) in
      record {
        answer = told;
        kept = left ∙ sym (after_next r own start before c);
        length_sent = sent;
        output = lent;
        sent = λ p. sent_next r own start before c (now (subst (λ (n : ℕ). 0 < n) sent p) front);
      }

  -- `speckleewe_acceptor`, on the site
  pub acceptor_next : (line out : List ℕ) {a : Reply} {t : Site} {buffer : List ℕ} → acceptor_call (hosted s) r own line out a t buffer
      → Next r own before (to_acceptor line out) a t buffer
  acceptor_next line out h =
      next (to_acceptor line out) (ap (λ (l : Left Site). l.reply.answer) h.0) (ap (λ (l : Left Site). listed l.after) h.0)
      (ap (λ (l : Left Site). l.reply.sent) h.0) h.1

  -- `speckleewe_view_change`, on the record of the site: the acceptor stays
  pub view_change_next : (line out : List ℕ) {a : Reply} {v : ViewRecord} {buffer : List ℕ} → view_change_call s.views r own line out (views_left a v) buffer
      → Next r own before (to_view_change line out) a (record { views = v; acceptor = s.state }) buffer
  view_change_next line out h =
      next (to_view_change line out) (ap (λ (l : Left ViewRecord). l.reply.answer) h.0)
      (ap (λ (l : Left ViewRecord). listed (record { views = l.after; acceptor = s.state })) h.0) (ap (λ (l : Left ViewRecord). l.reply.sent) h.0) h.1

  -- `speckleewe_suspicion`
  pub suspicion_next : (view : View) (out : List ℕ) {a : Reply} {v : ViewRecord} {buffer : List ℕ} → suspicion_call s.views r own view out (views_left a v) buffer
      → Next r own before (suspicion_listed own view out) a (record { views = v; acceptor = s.state }) buffer
  suspicion_next view out h = view_change_next (own_suspicion own view) out h

-- ---- a learner

-- `speckleewe_learner`
pub learner_next : (r : Roster) (before : List (List ℕ)) (line : List ℕ) {a : LearnerReply} {t : State} → learner_call (run r fresh before) r line a t
    → NextLine r before line a t
unfolding run outcomes
learner_next r before line h = record {
  outcome = step r (run r fresh before) line;
  last = outcomes_append r fresh before (line ∷ []);
  told = h.0;
  kept = h.1 ∙ sym (run_append r fresh before (line ∷ []));
}

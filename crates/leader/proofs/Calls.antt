-- What a call does, in the words of the definitions.
use Rattle.std.specs.Prelude.{◌≡◌, refl, true, false, not, List, [], ◌∷◌, ℕ, length, Some}
use Rattle.std.proofs.Common.{sym, ap, ◌∙◌, subst}
use Rattle.roster.specs.declared.Roster.{Roster}
use Rattle.roster.specs.Roster.{quorum}
use Rattle.roster.specs.Mask.{reaches}
use Rattle.history.specs.declared.History.{History}
use Rattle.history.specs.Words.{limit, commands, stored}
use Rattle.history.specs.WordsLaws.{commands_stored}
use Rattle.proposal.specs.Proposal.{proposal}
use Rattle.proposal.proofs.ProposalLaws.{proposal_short}
use Rattle.refusal.specs.declared.Refusal.{Refusal}
use Rattle.refusal.specs.declared.Refusal.TheVariants.{Form}
use Rattle.refusal.specs.Refusal.{Accepted, Refused}
use Rattle.refusal.specs.Rules.{Rule, ◌gives◌, judged, answer}
use Rattle.refusal.specs.AnswerLaws.{accepted_not_refused, refused_same, judged_accepted}
use Rattle.frame.specs.declared.Frame.{Frame}
use Rattle.frame.specs.declared.Heading.{Heading}
use Rattle.frame.specs.Format.{Reading, reading_of, reading_with, frame_with, malformed}
use Rattle.site.specs.Reply.{refuse}
use Rattle.leader.specs.declared.State.{State}
use Rattle.leader.specs.Leader.{Kind, kind_of, taken, pending_of, config, frame_rules, report_in, proposed, proposing, conclude, accepted, step}
use Rattle.leader.specs.Code.Calls.{taken_as}

-- the answer of the rules is a refusal: so they judge
judged_refusal : {A : Type 0} (refuse : Refusal → A) (accepted : A) (rules : List Rule) (e : Refusal) → Refused e ≡ answer rules
    → judged refuse accepted rules ≡ refuse e
unfolding judged
judged_refusal refuse accepted [] e p = absurd (accepted_not_refused (sym p))
judged_refusal refuse accepted (true gives r ∷ rules) e p = ap refuse (sym (refused_same p))
judged_refusal refuse accepted (false gives r ∷ rules) e p = judged_refusal refuse accepted rules e p

-- a frame of a kind: its checks refuse it, or let it pass
module _ (kind : Kind) (r : Roster) (own : ℕ) (s : State) (m : Frame) where
  pub refused : (e : Refusal) → Refused e ≡ answer (frame_rules kind r own s m) → taken_as kind r own s m ≡ refuse s e
  refused = judged_refusal (refuse s) (accepted kind r own s m) (frame_rules kind r own s m)

  pub passes : Accepted ≡ answer (frame_rules kind r own s m) → taken_as kind r own s m ≡ accepted kind r own s m
  passes p = judged_accepted (refuse s) (accepted kind r own s m) (frame_rules kind r own s m) Accepted p refl

module _ (r : Roster) (own : ℕ) (s : State) where
  -- a line of which a frame of this kind was read
  pub steps : (line out : List ℕ) → config r own (length out) s ≡ false → (head : Heading) (w : List ℕ) → reading_with (Some head) w ≡ reading_of limit line taken
      → (kind : Kind) → kind_of head.kind ≡ kind
      → step r own (length out) s line ≡ taken_as kind r own s (frame_with head w)
  unfolding step malformed judged
  steps line out c head w p kind k =
      rw c
      (subst (λ (d : Reading). judged (refuse s) (accepted (kind_of d.frame.kind) r own s d.frame) (not d.found gives Form ∷ frame_rules (kind_of d.frame.kind) r own s d.frame) ≡ taken_as (kind_of head.kind) r own s (frame_with head w)) p refl)
      ∙ ap (λ (j : Kind). taken_as j r own s (frame_with head w)) k

  -- report N-f: p is what is pending, d the proposal and h its commands
  pub concludes : reaches s.reported (quorum r) ≡ true → (p h : List ℕ) (d : History) → p ≡ pending_of s
      → d ≡ stored (proposal limit r.n (report_in s s.proven) (report_in s s.held) p)
      → h ≡ commands d
      → conclude r own s ≡ proposing own s h
  unfolding conclude proposed
  concludes all p h d ep ed eh =
      let whole : h ≡ proposed r s = rw (eh, ed, ep) (commands_stored _ (proposal_short limit r.n (report_in s s.proven) (report_in s s.held) (pending_of s))) in
      rw (all, whole) refl

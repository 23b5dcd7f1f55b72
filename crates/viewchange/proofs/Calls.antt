-- A call in its parts: what each of its checks and its effect say of the whole step.
use Rattle.std.proofs.Common.{◌<◌, ◌^◌, ◌≡◌, refl, sym, ap, ◌∙◌, subst, Bool, true, false, not, List, ℕ, length, eqb, Option, None, Some}
use borrow.Author.Tests.{eqb-true}
use Rattle.words.specs.Sizes.{limit}
use Rattle.words.specs.Words.{padded}
use Rattle.roster.specs.declared.Roster.{Roster}
use Rattle.roster.specs.declared.View.{View}
use Rattle.refusal.specs.declared.Refusal.{Refusal}
use Rattle.refusal.specs.declared.Refusal.TheVariants.{Config, Form, Full}
use Rattle.refusal.specs.Refusal.{Answer, Accepted, Refused}
use Rattle.refusal.specs.Rules.{answer}
use Rattle.refusal.specs.AnswerLaws.{at_once, later, judged_by_refused, judged_by_accepted, answer_none}
use Rattle.refusal.specs.JudgedLaws.{test_of, no_test}
use Rattle.frame.specs.declared.Heading.{Heading}
use Rattle.frame.specs.Format.{Reading, reading_of, malformed, head_of}
use Rattle.site.specs.declared.ViewRecord.{ViewRecord}
use Rattle.site.specs.Reply.{Reply, Outcome, refuse, buffer, outcome}
use Rattle.viewchange.specs.ViewChange.{suspicion_kind, notice, own_suspicion, taken, kind_of, received, config, full, frame_rules, rules, accepted, step, returned, output}
use Rattle.viewchange.specs.ViewChangeLaws.{own_read}
use Rattle.viewchange.specs.Code.Parts.{read, bare, Done}

-- what the effect of a SUSPICION needs, of a frame that no check refuses
pub not_full : (r : Roster) (v : ViewRecord) (head : Heading) → Accepted ≡ answer (frame_rules (kind_of head.kind) r v (bare head)) → eqb head.kind suspicion_kind ≡ true
    → full r v head.sender ≡ false
unfolding test_of
not_full r v head e k = no_test (rw (eqb-true head.kind suspicion_kind k) at (answer_none (frame_rules (kind_of head.kind) r v (bare head)) Accepted e refl)) Full

-- the heading of a SUSPICION of a view
abbrev pub own_heading : ℕ → View → Heading
own_heading own view = head_of (notice suspicion_kind own view 0)

-- and what is read of its line
pub own_heading_read : (own : ℕ) (view : View) → own < 256 → view.0 < 2 ^ 32 → read (Some (own_heading own view)) ≡ reading_of limit (own_suspicion own view) taken
unfolding padded
own_heading_read own view p q = sym (own_read own view p q)

module _ (r : Roster) (own : ℕ) (v : ViewRecord) (line out : List ℕ) where
  -- a call that ends so, with this result and this record, leaving this buffer
  abbrev pub Ends : Outcome ViewRecord → List ℕ → Type 0
  Ends o left = (o ≡ returned r own v line out) × (left ≡ output r own v line out)

  -- it is refused: record and buffer stay
  pub refused : {e : Refusal} → Refused e ≡ answer (rules r own (length out) v line) → Ends (record { answer = Refused e; sent = 0; state = v }) out
  unfolding step
  refused {e} f =
      let g = judged_by_refused (refuse v) (accepted (kind_of (received line).kind) r own v (received line)) (rules r own (length out) v line) f in
      (rw g, rw g)

  pub unfit : config r own (length out) v ≡ true → Refused Config ≡ answer (rules r own (length out) v line)
  unfit e = at_once Config _ e

  module _ (fit : config r own (length out) v ≡ false) where
    pub no_line : read None ≡ reading_of limit line taken → Refused Form ≡ answer (rules r own (length out) v line)
    unfolding malformed
    no_line f = later Config _ fit (at_once Form _ (sym (ap (λ (d : Reading). not d.found) f)))

    module _ {head : Heading} (f : read (Some head) ≡ reading_of limit line taken) where
      -- the frame's checks answer
      pub checked : {x : Answer} → x ≡ answer (frame_rules (kind_of head.kind) r v (bare head)) → x ≡ answer (rules r own (length out) v line)
      unfolding malformed
      checked {x} e =
          later Config _ fit
          (later Form _ (sym (ap (λ (d : Reading). not d.found) f)) (subst (λ (d : Reading). x ≡ answer (frame_rules (kind_of d.frame.kind) r v d.frame)) f e))

      -- and where they refuse nothing, the effect is the call's
      pub done : Accepted ≡ answer (frame_rules (kind_of head.kind) r v (bare head)) → {sent : ℕ} {w : ViewRecord} {left : List ℕ}
          → Done (accepted (kind_of head.kind) r own v (bare head)) out sent w left → Ends (record { answer = Accepted; sent = sent; state = w }) left
      unfolding step
      done e {sent} {w} {left} d =
          rw (judged_by_accepted (refuse v) (accepted (kind_of (received line).kind) r own v (received line)) (rules r own (length out) v line) (checked e))
          (subst (λ (d : Reading). Done (accepted (kind_of d.frame.kind) r own v d.frame) out sent w left) f d)

-- What the code's tests say in the words of the definitions.
use mathlib.Core.Path.{◌≡◌, refl, sym, ap, subst, ◌∙◌}
use mathlib.Core.Bool.{Bool, true, false, not, cond, ◌&&◌}
use mir.Val.{bool_byte}
use mathlib.Core.List.{List, ◌∷◌, ◌++◌}
use Prim.Native.Nat.{ℕ, ◌≤◌}
use native.Mathlib.Omega.{arith}
use borrow.Author.Tests.{not-false, ltb-false}
use lib.ListN.{length, take, drop}
use lib.Seq.{length-take-le, take-append_seam, take_all}
use Rattle.std.specs.Prelude.{Some}
use Rattle.basics.specs.Bools.{and_left, and_right}
use Rattle.roster.specs.declared.Roster.{Roster}
use Rattle.roster.specs.RosterLaws.{valid_figures}
use Rattle.history.specs.History.{extends, canonical}
use Rattle.history.specs.CanonicalLaws.{canonical_length}
use Rattle.history.specs.Words.{limit, padded, valid_stored, extends_within}
use Rattle.history.specs.WordsLaws.{extends_within_lem, valid_stored_length}
use Rattle.merge.specs.Merge.{appended, appended_in}
use Rattle.merge.specs.AppendingLaws.{appended_in_row, take_appended, append_bound}
use Rattle.merge.specs.Appending.{overflows}
use Rattle.table.specs.declared.Table.{Table}
use Rattle.refusal.specs.declared.Refusal.{Refusal}
use Rattle.refusal.specs.declared.Refusal.TheVariants.{Config, Form, Contradiction, Full}
use Rattle.refusal.specs.Refusal.{Answer, Accepted, Refused}
use Rattle.refusal.specs.Rules.{Rule, ◌gives◌, answer}
use Rattle.refusal.specs.AnswerLaws.{judged_refused, judged_accepted, answer_none}
use Rattle.refusal.specs.JudgedLaws.{NoneHolds, test_of, no_test}
use Rattle.frame.specs.declared.Heading.{Heading}
use Rattle.frame.specs.Format.{Reading, reading_of, reading_with, frame_with, malformed}
use Rattle.frame.specs.FormatLaws.{read_n}
use Rattle.site.specs.declared.ViewRecord.{ViewRecord}
use Rattle.site.specs.Site.{seated, valid_record}
use Rattle.site.specs.SiteLaws.{seated_is}
use Rattle.site.specs.Reply.{Reply, Outcome, Handed, refuse, sends}
use Rattle.acceptor.specs.declared.State.{State}
use Rattle.acceptor.specs.Acceptor.{kind_of, taken, received, held_of, proven_of, lengthened, config, rules_in, rules, p2b, certificate_of, convinces, proves, storing, proving, store, accepted, step}
use Rattle.acceptor.specs.Code.Effects.{Performable, Done}

-- the heading of which each field is 0
abbrev pub blank : Heading
blank = record { kind = 0; sender = 0; view = record { 0 = 0 }; ballot = record { 0 = 0 }; proven_ballot = record { 0 = 0 }; mask = 0; n = 0; m = 0 }

-- a flag as a number
pub flag_is : (b : Bool) → bool_byte b ≡ cond b 1 0
flag_is true = refl
flag_is false = refl

-- the code's test of extension, of a list of at most 32 commands
pub extends_is : (h g : List ℕ) (b : Bool) → length h ≤ 32 → b ≡ extends_within 64 h g → extends h g ≡ b
extends_is h g b p e = sym (extends_within_lem 64 h g (omega arith)) ∙ sym e

-- ---- a union in place: what is held, and h appended to it, within 32 commands; k words of w

module _ (held h : List ℕ) (p : length held ≤ 32) (q : length (appended held h) ≤ 32) where
  pub united : (k : ℕ) (w : List ℕ) → (k ≡ length (appended_in (padded 32 held) (length held) h)) × (w ≡ appended_in (padded 32 held) (length held) h ++ drop k (padded 32 held))
      → (k ≤ length w) × (take k w ≡ appended held h)
  united k w a =
      let whole = appended_in_row 32 held h p ∙ take_all 32 (appended held h) q in
      (append_bound (padded 32 held) (length held) h k w a.0 a.1, take_appended (padded 32 held) (length held) h k w a.0 a.1 ∙ whole)

-- the union a, which is the first k words of w, in canonical order in their place
pub arranged : (w l a : List ℕ) (k : ℕ) (more : List ℕ) → k ≤ length w → take k w ≡ a → l ≡ canonical (take k w) → take k (l ++ more) ≡ canonical a
arranged w l a k more p e f =
    let size : length l ≡ k = ap length f ∙ canonical_length (take k w) ∙ length-take-le k w p in
    ap (λ (i : ℕ). take i (l ++ more)) (sym size) ∙ take-append_seam l more ∙ f ∙ ap canonical e

-- what a PROPOSE leaves is as long as the union
pub lengthened_short : (held h : List ℕ) → length (appended held h) ≤ 32 → length (lengthened held h) ≤ 32
unfolding lengthened
lengthened_short held h p = rw canonical_length p

-- ---- a VERIFY that is stored: t is the table with it, the mask that of the entries that equal it, and b tells whether it becomes proven

module _ (r : Roster) (own : ℕ) (s : State) (t : Table) (h out : List ℕ) (mask : ℕ) (b : Bool) (e : mask ≡ certificate_of r t h)
    (f : b ≡ convinces r s mask h) where
  tested : proves r s t h ≡ b
  tested = rw (← e) (sym f)

  pub stores_only : b ≡ false → Done (store r own s t h) out (record { answer = Accepted; sent = 0; state = storing s t }) out
  unfolding store
  stores_only g = let no = tested ∙ g in (rw no, rw no)

  pub stores_and_proves : b ≡ true → (n : ℕ) (l : List ℕ) → Handed (sends (p2b own s mask h)) n out l
      → Done (store r own s t h) out (record { answer = Accepted; sent = n; state = proving s t mask h }) l
  unfolding store
  stores_and_proves g n l d = let yes = tested ∙ g in (rw (yes, ← e, d.0), rw (yes, ← e) d.1)

-- ---- a line

-- all checks of a line of which this was read
abbrev pub rules_on : Roster → ℕ → ℕ → ViewRecord → State → Reading → List Rule
rules_on r own room v s d = config r own room v s gives Config ∷ not d.found gives Form ∷ rules_in r v s d.frame

-- what CONFIG lets pass
pub record Fit (r : Roster) (s : State) : Type 0 where
  pub few_sites : r.n ≤ 16
  pub held_short : length (held_of s) ≤ 32
  pub proven_short : length (proven_of s) ≤ 32

pub fit : (r : Roster) (own room : ℕ) (v : ViewRecord) (s : State) → config r own room v s ≡ false → Fit r s
unfolding config
fit r own room v s e =
    let a = not-false (seated r own room && _) e in
    let b = and_right (valid_record r.n v) _ (and_right (seated r own room) _ a) in
    record {
      few_sites = (valid_figures r (seated_is r own room (and_left (seated r own room) _ a)).roster).max_sites;
      held_short = valid_stored_length limit s.held (and_left (valid_stored limit s.held) _ b);
      proven_short = valid_stored_length limit s.proven (and_left (valid_stored limit s.proven) _ (and_right (valid_stored limit s.held) _ b));
    }

module _ (r : Roster) (own : ℕ) (v : ViewRecord) (s : State) (line out : List ℕ) where
  -- what the rules of what was read of it answer, its own do
  answer_is : (d : Reading) (x : Answer) → d ≡ reading_of limit line taken → x ≡ answer (rules_on r own (length out) v s d)
      → x ≡ answer (rules r own (length out) v s line)
  unfolding malformed
  answer_is d x f e = subst (λ (d : Reading). x ≡ answer (rules_on r own (length out) v s d)) f e

  pub steps_refused : {d : Reading} {q : Refusal} → d ≡ reading_of limit line taken → Refused q ≡ answer (rules_on r own (length out) v s d)
      → Done (step r own (length out) v s line) out (record { answer = Refused q; sent = 0; state = s }) out
  unfolding step
  steps_refused {d} {q} f e =
      judged_refused (refuse s) (accepted (kind_of (received line).kind) r own v s (received line)) (rules r own (length out) v s line) (Refused q)
      (answer_is d (Refused q) f e) refl (λ (a : Answer) (o : Reply State). Done o out (record { answer = a; sent = 0; state = s }) out) (λ (e : Refusal). (refl, refl))

  module _ (head : Heading) (w : List ℕ) (f : reading_with (Some head) w ≡ reading_of limit line taken)
      (e : Accepted ≡ answer (rules_on r own (length out) v s (reading_with (Some head) w))) where
    pub steps_accepted : {o : Outcome State} {l : List ℕ} → Done (accepted (kind_of head.kind) r own v s (frame_with head w)) out o l
        → Done (step r own (length out) v s line) out o l
    unfolding step
    steps_accepted {o} {l} d =
        rw (judged_accepted (refuse s) (accepted (kind_of (received line).kind) r own v s (received line)) (rules r own (length out) v s line) Accepted
        (answer_is _ Accepted f e) refl)
        (subst (λ (a : Reading). Done (accepted (kind_of a.frame.kind) r own v s a.frame) out o l) f d)

    -- what the effect needs: no rule holds
    pub performable : Performable r s (frame_with head w)
    unfolding test_of overflows
    performable =
        let none : NoneHolds (rules_on r own (length out) v s (reading_with (Some head) w)) = answer_none (rules_on r own (length out) v s (reading_with (Some head) w)) Accepted e refl in
        let c = fit r own (length out) v s (no_test none Config) in
        record {
          few_sites = c.few_sites;
          held_short = c.held_short;
          proven_short = c.proven_short;
          short = rw (ap (λ (o : Reading). o.frame.n) f) (read_n limit line taken);
          fits = λ k. ltb-false 32 _ (no_test (rw k at none) Full);
          agrees = λ k. no_test (rw k at none) Contradiction;
        }

-- One step of view change: its outcome, the frames that it sends, and what the record keeps.
use Rattle.std.specs.Prelude.{◌≡◌, refl, ◌⊎◌, Bool, true, false, not, ◌&&◌, ◌||◌, List, [], ◌∷◌, ℕ, ◌^◌, ◌≤◌, ◌<◌, ◌+◌, eqb, length}
use Rattle.std.proofs.Common.{sym, ap, ◌∙◌, subst, inl, inr, ⊎_elim, le_refl, le_of_lt, arith, lit<}
use Rattle.std.specs.Bool.{beq}
use Rattle.std.proofs.Math.Bool.{and-true}
use borrow.Author.Tests.{leb-false, ltb-true, lt-leb, lt-ltb, eqb-true, ne_eqb, not-false}
use Rattle.std.specs.Int.Count.{ones, ones_in}
use Rattle.words.specs.Sizes.{limit}
use Rattle.basics.specs.Bools.{lt_or_le, true_or_false, and_left, and_right, or_left, beq_true, every_below}
use Rattle.words.specs.Words.{padded}
use Rattle.roster.specs.declared.Roster.{Roster}
use Rattle.roster.specs.declared.View.{View}
use Rattle.roster.specs.Roster.{valid_roster, quorum}
use Rattle.roster.specs.RosterLaws.{valid_figures}
use Rattle.roster.specs.Counts.{same_view, later_view, last_view}
use Rattle.roster.specs.Sites.{all_to}
use Rattle.roster.specs.Mask.{bit, reaches, with_site}
use Rattle.roster.specs.MaskLaws.{bit_out, with_past, with_old, with_ones, with_fits, with_inside}
use Rattle.roster.specs.SitesLaws.{all_each}
use Rattle.refusal.specs.declared.Refusal.{Refusal}
use Rattle.refusal.specs.declared.Refusal.TheVariants.{Config, Form, Sender, Stale, Full}
use Rattle.refusal.specs.Rules.{◌gives◌}
use Rattle.refusal.specs.Order.{in_order, follows}
use Rattle.refusal.specs.JudgedLaws.{GivenFirst, NoneHolds, pass, Judgement, refused, accepts, judgement, test_of, no_test}
use Rattle.frame.specs.declared.Frame.{Frame}
use Rattle.frame.specs.Hex.{all_fit}
use Rattle.frame.specs.Kinds as kinds
use Rattle.frame.specs.Kinds.{uses, is_kind, unused_zero, zero_unless}
use Rattle.frame.specs.BareLaws.{bare_kind, bare_kinds}
use Rattle.frame.specs.Format.{frame_of, reading_of, malformed, proper, all_zero, fits, writable}
use Rattle.frame.specs.FormatLaws.{frame_of_line, line_is_line, reading_line, found_taken, found_frame}
use Rattle.site.specs.declared.ViewRecord.{ViewRecord}
use Rattle.site.specs.Site.{seated, valid_record, fresh}
use Rattle.site.specs.SiteLaws.{Seated, seated_is, Inside, valid_inside, inside_valid, fresh_inside}
use Rattle.site.specs.MessageLaws.{read_view_fits, read_mask_fits}
use Rattle.site.specs.Reply.{silent, sends, Reply, refuse, accept}
use Rattle.site.specs.ReplyLaws.{silent_sends, sends_same, Sent, sent_line}
use Rattle.viewchange.specs.ViewChange.{
  suspicion_kind,
  change_kind,
  leader_kind,
  taken,
  Kind,
  SUSPICION,
  VIEWCHANGE,
  kind_of,
  received,
  notice,
  config,
  form,
  suspected,
  sets,
  full,
  frame_rules,
  rules,
  noted,
  next_view,
  targeted,
  suspicion,
  changed,
  restarted,
  joined,
  moved,
  restart,
  join,
  accepted,
  step,
  own_suspicion,
}

-- ---- the outcome of a step

-- the kind of the frame that a line holds
abbrev kind_in : List ℕ → Kind
kind_in line = kind_of (received line).kind

-- an accepted frame: no check applies
pub record Accepts (r : Roster) (own room : ℕ) (v : ViewRecord) (line : List ℕ) : Type 0 where
  pub configured : config r own room v ≡ false
  pub framed : form line ≡ false
  pub passes : NoneHolds (frame_rules (kind_in line) r v (received line))
  pub outcome : step r own room v line ≡ accepted (kind_in line) r own v (received line)

pub data Stepped (r : Roster) (own room : ℕ) (v : ViewRecord) (line : List ℕ) : Type 0 where
  refuses : (e : Refusal) → GivenFirst e (rules r own room v line) → step r own room v line ≡ refuse v e → Stepped r own room v line
  accepting : Accepts r own room v line → Stepped r own room v line

pub stepped : (r : Roster) (own room : ℕ) (v : ViewRecord) (line : List ℕ) → Stepped r own room v line
unfolding step
stepped r own room v line = go (judgement (refuse v) (accepted (kind_in line) r own v (received line)) (rules r own room v line))
  where
    go : Judgement (refuse v) (accepted (kind_in line) r own v (received line)) (rules r own room v line) → Stepped r own room v line
    go (refused e g o) = refuses e g o
    go (accepts (pass a (pass b n)) o) = accepting (record { configured = a; framed = b; passes = n; outcome = o })

-- "Checks run in this order": the rules follow the order of the table of refusals
pub rules_follow : (r : Roster) (own room : ℕ) (v : ViewRecord) (line : List ℕ) → follows in_order (rules r own room v line) ≡ true
unfolding follows
rules_follow r own room v line = go (kind_in line)
  where
    go : (k : Kind) → follows in_order (config r own room v gives Config ∷ form line gives Form ∷ frame_rules k r v (received line)) ≡ true
    go SUSPICION = refl
    go VIEWCHANGE = refl

-- what CONFIG lets pass
pub record Configured (r : Roster) (own room : ℕ) (v : ViewRecord) : Type 0 where
  pub seat : Seated r own room
  pub valid : Inside r.n v

pub configured_is : (r : Roster) (own room : ℕ) (v : ViewRecord) → config r own room v ≡ false → Configured r own room v
unfolding config
configured_is r own room v e =
    let whole = not-false (seated r own room && valid_record r.n v) e in
    record {
      seat = seated_is r own room (and_left (seated r own room) _ whole);
      valid = valid_inside r.n v (and_right (seated r own room) _ whole);
    }

-- SUSPICION and VIEWCHANGE are taken, and no other kind
only_two : all_to 10 (λ k. beq (bit taken k) (eqb k suspicion_kind || eqb k change_kind)) ≡ true
unfolding all_to bit
only_two = refl

pub taken_is : (k : ℕ) → bit taken k ≡ (eqb k suspicion_kind || eqb k change_kind)
taken_is k =
    ⊎_elim
    (λ p.
    beq_true (bit taken k) (eqb k suspicion_kind || eqb k change_kind)
    (all_each 10 (λ i. beq (bit taken i) (eqb i suspicion_kind || eqb i change_kind)) only_two k p))
    (λ (p : 10 ≤ k).
    bit_out taken 10 k (lit< tt) p ∙ sym (rw (ne_eqb k suspicion_kind (λ e. omega arith), ne_eqb k change_kind (λ e. omega arith))))
    (lt_or_le k 10)

-- they and the kinds that are sent are those of the table of kinds
pub kinds_named : (taken ≡ kinds.set_of (kinds.SUSPICION ∷ kinds.VIEWCHANGE ∷ []))
    × (suspicion_kind ≡ kinds.SUSPICION)
    × (change_kind ≡ kinds.VIEWCHANGE)
    × (leader_kind ≡ kinds.LEADER)
kinds_named = (refl, refl, refl, refl)

-- neither uses n or m
pub bare_taken : bare_kinds taken ≡ true
unfolding bare_kinds bare_kind every_below bit uses
bare_taken = refl

-- so a frame that FORM lets pass is a VIEWCHANGE if it is no SUSPICION
pub received_change : (line : List ℕ) → form line ≡ false → eqb (received line).kind suspicion_kind ≡ false → (received line).kind ≡ change_kind
unfolding malformed
received_change line e p =
    let found = not-false (reading_of limit line taken).found e in
    let either = sym (taken_is (frame_of line).kind) ∙ found_taken limit line taken found in
    eqb-true (received line).kind change_kind
    (rw p at (subst (λ (m : Frame). (eqb m.kind suspicion_kind || eqb m.kind change_kind) ≡ true) (sym (found_frame limit line taken found)) either))

-- what an accepted frame does: a SUSPICION is noted, or sets the target; a VIEWCHANGE restarts the target, joins it, or moves to it
pub data Effect (r : Roster) (own : ℕ) (v : ViewRecord) (m : Frame) : Kind → Reply ViewRecord → Type 0 where
  notes : Effect r own v m SUSPICION (accept (noted v m.sender) silent)
  targets : sets r v m.sender ≡ true
      → Effect r own v m SUSPICION
      (accept (targeted own v m.sender) (sends (notice change_kind own (next_view v) (suspected v m.sender))))
  restarts : Effect r own v m VIEWCHANGE (restart own v m.sender m.view m.mask)
  joins : same_view m.view v.target ≡ true → reaches (changed v m.sender) (quorum r) ≡ false
      → Effect r own v m VIEWCHANGE (accept (joined v m.sender) silent)
  moves : same_view m.view v.target ≡ true → reaches (changed v m.sender) (quorum r) ≡ true
      → Effect r own v m VIEWCHANGE (accept (moved v) (sends (notice leader_kind own v.target (changed v m.sender))))

pub effect : (k : Kind) (r : Roster) (own : ℕ) (v : ViewRecord) (m : Frame) → Effect r own v m k (accepted k r own v m)
unfolding suspicion join
effect SUSPICION r own v m = go (sets r v m.sender) refl
  where
    go : (b : Bool) → sets r v m.sender ≡ b → Effect r own v m SUSPICION (accepted SUSPICION r own v m)
    go true e = rw e (targets e)
    go false e = rw e notes
effect VIEWCHANGE r own v m = go (same_view m.view v.target) (reaches (changed v m.sender) (quorum r)) refl refl
  where
    go : (a b : Bool) → same_view m.view v.target ≡ a → reaches (changed v m.sender) (quorum r) ≡ b
        → Effect r own v m VIEWCHANGE (accepted VIEWCHANGE r own v m)
    go false b p q = rw p restarts
    go true true p q = rw (p, q) (moves p q)
    go true false p q = rw (p, q) (joins p q)

-- ---- the frames that are sent

-- what holds of the three frames that an accepted frame may send holds of each frame that a step sends
module _ {r : Roster} {own room : ℕ} {v : ViewRecord} {line : List ℕ} (P : Frame → Type 0)
    (on-target : Accepts r own room v line → NoneHolds (frame_rules SUSPICION r v (received line)) → sets r v (received line).sender ≡ true
    → P (notice change_kind own (next_view v) (suspected v (received line).sender)))
    (on_restart : Accepts r own room v line → P (notice change_kind own (received line).view (received line).mask))
    (on-move : Accepts r own room v line → P (notice leader_kind own v.target (changed v (received line).sender))) where
  effect_sends : Accepts r own room v line → {k : Kind} → NoneHolds (frame_rules k r v (received line)) → {o : Reply ViewRecord}
      → Effect r own v (received line) k o → {m : Frame} → o.sending ≡ sends m → P m
  effect_sends a n notes h = absurd (silent_sends h)
  effect_sends a n (targets p) h = subst P (sends_same h) (on-target a n p)
  effect_sends a n restarts h = subst P (sends_same h) (on_restart a)
  effect_sends a n (joins p q) h = absurd (silent_sends h)
  effect_sends a n (moves p q) h = subst P (sends_same h) (on-move a)

  sends_each : Stepped r own room v line → {m : Frame} → (step r own room v line).sending ≡ sends m → P m
  sends_each (refuses e g o) h = absurd (silent_sends (rw o at h))
  sends_each (accepting a) h = effect_sends a a.passes (effect (kind_in line) r own v (received line)) (rw a.outcome at h)

-- a VIEWCHANGE or LEADER from `own`
pub record Notice (own : ℕ) (m : Frame) : Type 0 where
  pub kind : (m.kind ≡ change_kind) ⊎ (m.kind ≡ leader_kind)
  pub sender : m.sender ≡ own

-- each frame sent is one, and so of no kind that an acceptor sends
pub sends_kind : (r : Roster) (own room : ℕ) (v : ViewRecord) (line : List ℕ) {m : Frame} → (step r own room v line).sending ≡ sends m → Notice own m
sends_kind r own room v line h =
    sends_each (Notice own) (λ a n p. record { kind = inl refl; sender = refl }) (λ a. record { kind = inl refl; sender = refl })
    (λ a. record { kind = inr refl; sender = refl }) (stepped r own room v line) h

-- numbers that fit their types, as those of each record and each own number do
pub record Fits (own : ℕ) (v : ViewRecord) : Type 0 where
  pub own_fits : own < 256
  pub view_fits : v.view.0 < 2 ^ 32
  pub target_fits : v.target.0 < 2 ^ 32
  pub suspicions_fit : v.suspicions < 2 ^ 16
  pub changes_fit : v.changes < 2 ^ 16

-- a notice of such numbers has a line
module _ (own : ℕ) (view : View) (mask : ℕ) (a : own < 256) (b : view.0 < 2 ^ 32) (c : mask < 2 ^ 16) where
  change_writable : writable (notice change_kind own view mask) ≡ true
  unfolding padded writable proper is_kind uses unused_zero zero_unless all_zero fits all_fit
  change_writable = rw (lt-ltb own 256 a, lt-ltb view.0 (2 ^ 32) b, lt-ltb mask (2 ^ 16) c)

  leader_writable : writable (notice leader_kind own view mask) ≡ true
  unfolding padded writable proper is_kind uses unused_zero zero_unless all_zero fits all_fit
  leader_writable = rw (lt-ltb own 256 a, lt-ltb view.0 (2 ^ 32) b, lt-ltb mask (2 ^ 16) c)

-- so has the host's own suspicion, and its line is read as that SUSPICION
module _ (own : ℕ) (view : View) (a : own < 256) (b : view.0 < 2 ^ 32) where
  abbrev own_frame : Frame
  own_frame = notice suspicion_kind own view 0

  own_writable : writable own_frame ≡ true
  unfolding padded writable proper is_kind uses unused_zero zero_unless all_zero fits all_fit
  own_writable = rw (lt-ltb own 256 a, lt-ltb view.0 (2 ^ 32) b)

  own_taken : bit taken own_frame.kind ≡ true
  own_taken = taken_is suspicion_kind

  pub own_read : reading_of limit (own_suspicion own view) taken ≡ record { found = true; frame = own_frame }
  own_read =
      reading_line limit (own_suspicion own view) taken (line_is_line limit own_frame own_writable (omega arith) (omega arith)) (rw (frame_of_line own_frame own_writable) own_taken)
      ∙ ap (λ (m : Frame). record { found = true; frame = m }) (frame_of_line own_frame own_writable)

-- there is a next view where a view is not the last
pub below_last : (v : ViewRecord) → last_view v.view ≡ false → (next_view v).0 < 2 ^ 32
below_last v e = omega (arith, leb-false 4294967295 v.view.0 e)

-- so it fits where FULL lets pass
pub not_last : (r : Roster) (v : ViewRecord) (site : ℕ) → full r v site ≡ false → sets r v site ≡ true → (next_view v).0 < 2 ^ 32
not_last r v site e f = below_last v (sym (and-true (last_view v.view)) ∙ (rw f at e))

next_fits : (r : Roster) (v : ViewRecord) (m : Frame) → NoneHolds (frame_rules SUSPICION r v m) → sets r v m.sender ≡ true → (next_view v).0 < 2 ^ 32
unfolding test_of
next_fits r v m n e = not_last r v m.sender (no_test n Full) e

module _ {own : ℕ} {v : ViewRecord} (f : Fits own v) where
  suspected_fits : (site : ℕ) → suspected v site < 2 ^ 16
  unfolding suspected
  suspected_fits site = with_fits v.suspicions site f.suspicions_fit

  changed_fits : (site : ℕ) → changed v site < 2 ^ 16
  unfolding changed
  changed_fits site = with_fits v.changes site f.changes_fit

  -- each frame that is sent has a line
  pub sends_writable : (r : Roster) (room : ℕ) (line : List ℕ) {m : Frame} → (step r own room v line).sending ≡ sends m → writable m ≡ true
  sends_writable r room line h =
      let x = received line in
      sends_each (λ m. writable m ≡ true)
      (λ a n p. change_writable own _ _ f.own_fits (next_fits r v x n p) (suspected_fits x.sender))
      (λ a. change_writable own _ _ f.own_fits (read_view_fits limit line taken a.framed) (read_mask_fits limit line taken a.framed))
      (λ a. leader_writable own _ _ f.own_fits f.target_fits (changed_fits x.sender)) (stepped r own room v line) h

-- a step that sends has passed CONFIG, so there is room, and what is sent is the frame's line
config_passed : (r : Roster) (own room : ℕ) (v : ViewRecord) (line : List ℕ) {m : Frame} → (step r own room v line).sending ≡ sends m → config r own room v ≡ false
config_passed r own room v line h =
    sends_each (λ m. config r own room v ≡ false) (λ a n p. a.configured) (λ a. a.configured) (λ a. a.configured) (stepped r own room v line) h

pub sends_line : (r : Roster) (own : ℕ) (v : ViewRecord) (line out : List ℕ) → Fits own v → {m : Frame} → (step r own (length out) v line).sending ≡ sends m → Sent m out
sends_line r own v line out f h =
    sent_line _ out (sends_writable f r (length out) line h) (configured_is r own (length out) v (config_passed r own (length out) v line h)).seat.roomy

-- ---- the record

-- what holds of the record, and of each record that an accepted frame may leave, holds of the record that a step leaves
module _ {r : Roster} {own room : ℕ} {v : ViewRecord} {line : List ℕ} (P : ViewRecord → Type 0) (still : P v)
    (on-note : Accepts r own room v line → P (noted v (received line).sender))
    (on-target : Accepts r own room v line → NoneHolds (frame_rules SUSPICION r v (received line)) → sets r v (received line).sender ≡ true
    → P (targeted own v (received line).sender))
    (on_restart : Accepts r own room v line → P (restarted own v (received line).sender (received line).view))
    (on-join : Accepts r own room v line → P (joined v (received line).sender))
    (on-move : Accepts r own room v line → NoneHolds (frame_rules VIEWCHANGE r v (received line)) → same_view (received line).view v.target ≡ true
    → P (moved v)) where
  effect_leaves : Accepts r own room v line → {k : Kind} → NoneHolds (frame_rules k r v (received line)) → {o : Reply ViewRecord}
      → Effect r own v (received line) k o → P o.state
  effect_leaves a n notes = on-note a
  effect_leaves a n (targets p) = on-target a n p
  effect_leaves a n restarts = on_restart a
  effect_leaves a n (joins p q) = on-join a
  effect_leaves a n (moves p q) = on-move a n p

  leaves : Stepped r own room v line → P (step r own room v line).state
  leaves (refuses e g o) = rw o still
  leaves (accepting a) = rw a.outcome (effect_leaves a a.passes (effect (kind_in line) r own v (received line)))

-- its numbers stay within their types, from a fresh one on
pub fresh_fits : (own : ℕ) → own < 256 → Fits own fresh
fresh_fits own h = record { own_fits = h; view_fits = lit< tt; target_fits = lit< tt; suspicions_fit = lit< tt; changes_fit = lit< tt }

pub keeps_fits : (r : Roster) (own room : ℕ) (v : ViewRecord) (line : List ℕ) → Fits own v → Fits own (step r own room v line).state
keeps_fits r own room v line f =
    let m = received line in
    let site = m.sender in
    leaves (Fits own) f
    (λ a. record { own_fits = f.own_fits; view_fits = f.view_fits; target_fits = f.target_fits; suspicions_fit = suspected_fits f site; changes_fit = f.changes_fit })
    (λ a n p.
    record {
      own_fits = f.own_fits;
      view_fits = f.view_fits;
      target_fits = next_fits r v m n p;
      suspicions_fit = suspected_fits f site;
      changes_fit = with_fits 0 own (lit< tt);
    })
    (λ a.
    record {
      own_fits = f.own_fits;
      view_fits = f.view_fits;
      target_fits = read_view_fits limit line taken a.framed;
      suspicions_fit = f.suspicions_fit;
      changes_fit = with_fits (with_site 0 site) own (with_fits 0 site (lit< tt));
    })
    (λ a. record { own_fits = f.own_fits; view_fits = f.view_fits; target_fits = f.target_fits; suspicions_fit = f.suspicions_fit; changes_fit = changed_fits f site })
    (λ a n p. record { own_fits = f.own_fits; view_fits = f.target_fits; target_fits = lit< tt; suspicions_fit = lit< tt; changes_fit = lit< tt })
    (stepped r own room v line)

-- its masks stay within the sites, so a step never leaves a record that CONFIG refuses
sender_below : (k : Kind) (r : Roster) (v : ViewRecord) (m : Frame) → NoneHolds (frame_rules k r v m) → m.sender < r.n
unfolding test_of
sender_below SUSPICION r v m n = leb-false r.n m.sender (no_test n Sender)
sender_below VIEWCHANGE r v m n = leb-false r.n m.sender (no_test n Sender)

module _ {r : Roster} {own room : ℕ} {v : ViewRecord} {line : List ℕ} (a : Accepts r own room v line) where
  site_below : (received line).sender < r.n
  site_below = sender_below (kind_in line) r v (received line) a.passes

  own_below : own < r.n
  own_below = (configured_is r own room v a.configured).seat.member

keeps_inside : (r : Roster) (own room : ℕ) (v : ViewRecord) (line : List ℕ) → Inside r.n v → Inside r.n (step r own room v line).state
unfolding suspected changed
keeps_inside r own room v line i =
    let n = r.n in
    let site = (received line).sender in
    let none = (fresh_inside n).changes in
    leaves (Inside n) i
    (λ a. record { suspicions = with_inside n v.suspicions site (site_below a) i.suspicions; changes = i.changes })
    (λ a q p.
    record {
      suspicions = with_inside n v.suspicions site (site_below a) i.suspicions;
      changes = with_inside n 0 own (own_below a) none;
    })
    (λ a.
    record {
      suspicions = i.suspicions;
      changes = with_inside n (with_site 0 site) own (own_below a) (with_inside n 0 site (site_below a) none);
    })
    (λ a. record { suspicions = i.suspicions; changes = with_inside n v.changes site (site_below a) i.changes })
    (λ a q p. record { suspicions = none; changes = none })
    (stepped r own room v line)

pub keeps_valid : (r : Roster) (own room : ℕ) (v : ViewRecord) (line : List ℕ) → valid_record r.n v ≡ true → valid_record r.n (step r own room v line).state ≡ true
keeps_valid r own room v line e =
    inside_valid r.n (step r own room v line).state (keeps_inside r own room v line (valid_inside r.n v e))

pub keeps_config : (r : Roster) (own room : ℕ) (v : ViewRecord) (line : List ℕ) → config r own room v ≡ false → config r own room (step r own room v line).state ≡ false
unfolding config
keeps_config r own room v line e =
    let whole = not-false (seated r own room && valid_record r.n v) e in
    rw (and_left (seated r own room) _ whole, keeps_valid r own room v line (and_right (seated r own room) _ whole))

-- the view never falls
target_above : (r : Roster) (v : ViewRecord) (m : Frame) → NoneHolds (frame_rules VIEWCHANGE r v m) → same_view m.view v.target ≡ true → v.view.0 < v.target.0
unfolding test_of
target_above r v m n q =
    omega (
      arith,
      eqb-true m.view.0 v.target.0 q,
      ltb-true v.view.0 m.view.0 (not-false (later_view m.view v.view) (or_left (not (later_view m.view v.view)) _ (no_test n Stale))),
    )

pub view_rises : (r : Roster) (own room : ℕ) (v : ViewRecord) (line : List ℕ) → v.view.0 ≤ (step r own room v line).state.view.0
view_rises r own room v line =
    let same = le_refl v.view.0 in
    leaves (λ w. v.view.0 ≤ w.view.0) same (λ a. same) (λ a n p. same) (λ a. same) (λ a. same)
    (λ a n p. le_of_lt (target_above r v (received line) n p))
    (stepped r own room v line)

-- ---- a target that is new has at most two sites, fewer than N-f: so "At N-f ones or more" is asked only where a site joins

with_one_more : (mask i : ℕ) → ones (with_site mask i) ≤ ones mask + 1
with_one_more mask i =
    ⊎_elim
    (λ l.
    ⊎_elim (λ e. omega (arith, ap ones (with_old mask i e))) (λ e. omega (arith, with_ones mask i l e)) (true_or_false (bit mask i)))
    (λ l. omega (arith, ap ones (with_past mask i l)))
    (lt_or_le i 16)

none_ones : ones 0 ≡ 0
unfolding ones ones_in
none_ones = refl

module _ (r : Roster) (ok : valid_roster r ≡ true) (own : ℕ) (v : ViewRecord) (site : ℕ) where
  pub targeted_waits : reaches (targeted own v site).changes (quorum r) ≡ false
  unfolding reaches
  targeted_waits =
      lt-leb (quorum r) (ones (with_site 0 own)) (omega (arith, (valid_figures r ok).quorum_min, with_one_more 0 own, none_ones))

  pub restarted_waits : (view : View) → reaches (restarted own v site view).changes (quorum r) ≡ false
  unfolding reaches
  restarted_waits view =
      lt-leb (quorum r) (ones (with_site (with_site 0 site) own))
      (omega (arith, (valid_figures r ok).quorum_min, with_one_more (with_site 0 site) own, with_one_more 0 site, none_ones))

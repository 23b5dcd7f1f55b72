-- Which kinds an acceptor takes; each frame that it sends has a line, which is what it leaves in the buffer; and no step leaves a state that CONFIG
-- refuses.
use Rattle.std.specs.Prelude.{◌≡◌, Bool, not, ◌&&◌, ◌||◌, List, [], ℕ, ◌^◌, ◌≤◌, ◌<◌, eqb, length}
use Rattle.std.proofs.Math.Path.{refl}
use Rattle.std.proofs.Common.{sym, ◌∙◌, subst, ⊎_elim, lt_of_lt_of_le, arith, le-leb, leb-false, ltb-false, ne_eqb, lit<, pow_mono, pow_pos}
use Rattle.std.proofs.Math.Bool.{true, false}
use Rattle.std.specs.Bool.{beq}
use Rattle.std.proofs.lemmas.Bool.{not-true, not-false}
use Rattle.roster.specs.declared.Roster.{Roster}
use Rattle.roster.specs.declared.View.{View}
use Rattle.roster.specs.declared.Ballot.{Ballot}
use Rattle.roster.specs.RosterLaws.{valid_figures}
use Rattle.roster.specs.Mask.{bit, beyond}
use Rattle.roster.specs.MaskLaws.{bit_out, mask_lt, mask_inside, beyond_false}
use Rattle.roster.specs.Sites.{all_to}
use Rattle.roster.specs.SitesLaws.{all_each}
use Rattle.basics.specs.Bools.{lt_or_le, and_left, and_right, or_left, beq_true}
use Rattle.command.specs.Command.{wrong}
use Rattle.command.specs.CommandLaws.{right_commands}
use Rattle.history.specs.History.{canonical, extends, valid_history, improper}
use Rattle.history.specs.TakesLaws.{equivalent_sym}
use Rattle.history.specs.CanonicalLaws.{canonical_equivalent, canonical_length, canonical_is_canonical}
use Rattle.history.specs.OrderLaws.{repeated_along, all_valid_along}
use Rattle.history.specs.ValidLaws.{valid_parts, parts_valid, not_improper, valid_nil}
use Rattle.history.specs.Words.{limit, capacity, valid_stored}
use Rattle.history.specs.FitLaws.{EachFits, none, each_take, each_padded, each_along}
use Rattle.history.specs.WordsLaws.{stored_valid, valid_stored_history, valid_stored_length}
use Rattle.merge.specs.Merge.{appended}
use Rattle.merge.specs.Appending.{overflows}
use Rattle.merge.specs.MergeLaws.{appended_all_valid, appended_distinct}
use Rattle.merge.specs.AppendingLaws.{each_appended}
use Rattle.table.specs.declared.Table.{Table}
use Rattle.table.specs.Table.{valid_table}
use Rattle.table.specs.ValidLaws.{valid_stored_lem, valid_empty}
use Rattle.refusal.specs.declared.Refusal.{Refusal}
use Rattle.refusal.specs.declared.Refusal.TheVariants.{Sender, Command, History, Full}
use Rattle.refusal.specs.JudgedLaws.{NoneHolds, test_of, no_test}
use Rattle.frame.specs.declared.Frame.{Frame}
use Rattle.frame.specs.Kinds.{uses, is_kind, unused_zero, zero_unless}
use Rattle.frame.specs.Format.{proper, writable}
use Rattle.site.specs.declared.ViewRecord.{ViewRecord}
use Rattle.site.specs.Site.{seated, valid_record}
use Rattle.site.specs.SiteLaws.{seated_is}
use Rattle.site.specs.Message.{message}
use Rattle.site.specs.MessageLaws.{read_first_fits, read_ballot_fits, message_writable}
use Rattle.site.specs.Reply.{silent, sends, Reply, refuse, accept}
use Rattle.site.specs.ReplyLaws.{silent_sends, sends_same, Sent, sent_line}
use Rattle.acceptor.specs.declared.State.{State}
use Rattle.acceptor.specs.Acceptor.{
  opening,
  lengthened,
  verifying,
  fresh,
  Kind,
  P1A,
  FAST,
  PROPOSE,
  P2A,
  VERIFY,
  kind_of,
  taken,
  received,
  carried,
  held_of,
  proven_of,
  entry_of,
  config,
  form,
  frame_rules,
  p1b,
  verify,
  p2b,
  in_ballot,
  signing,
  sign,
  matches,
  certificate_of,
  proves,
  storing,
  proving,
  store,
  accepted,
  step,
}
use Rattle.acceptor.specs.AcceptorLaws.{verified_by, Accepts, Stepped, refuses, accepting, stepped, carried_short}

-- ---- the kinds that are taken: 1 P1A, 2 FAST, 4 PROPOSE, 5 P2A, 6 VERIFY

abbrev is_taken : ℕ → Bool
is_taken k = eqb k 1 || (eqb k 2 || (eqb k 4 || (eqb k 5 || eqb k 6)))

only_five : all_to 7 (λ k. beq (bit taken k) (is_taken k)) ≡ true
unfolding all_to bit
only_five = refl

-- they, and no other kind
pub taken_is : (k : ℕ) → bit taken k ≡ (eqb k 1 || (eqb k 2 || (eqb k 4 || (eqb k 5 || eqb k 6))))
taken_is k =
    ⊎_elim (λ p. beq_true (bit taken k) (is_taken k) (all_each 7 (λ i. beq (bit taken i) (is_taken i)) only_five k p))
    (λ (p : 7 ≤ k).
    bit_out taken 7 k (lit< tt) p
    ∙ sym
    (rw (
      ne_eqb k 1 (λ e. omega arith),
      ne_eqb k 2 (λ e. omega arith),
      ne_eqb k 4 (λ e. omega arith),
      ne_eqb k 5 (λ e. omega arith),
      ne_eqb k 6 (λ e. omega arith),
    )))
    (lt_or_le k 7)

-- each goes by its name
pub kind_of_lem : (kind_of 1 ≡ P1A) × (kind_of 2 ≡ FAST) × (kind_of 4 ≡ PROPOSE) × (kind_of 5 ≡ P2A) × (kind_of 6 ≡ VERIFY)
kind_of_lem = (refl, refl, refl, refl, refl)

-- ---- which frames FORM allows

-- P1B, VERIFY and P2B leave 0 what their kind doesn't use
p1b_proper : (own : ℕ) (ballot provenBallot : Ballot) (mask : ℕ) (h k : List ℕ) → length h ≤ capacity → length k ≤ capacity
    → proper capacity (message 3 own (record { 0 = 0 }) ballot provenBallot mask h k) ≡ true
unfolding proper is_kind uses unused_zero zero_unless
p1b_proper own ballot provenBallot mask h k p q = rw (le-leb (length h) capacity p, le-leb (length k) capacity q)

verify_proper : (own : ℕ) (view : View) (ballot : Ballot) (h : List ℕ) → length h ≤ capacity
    → proper capacity (message 6 own view ballot (record { 0 = 0 }) 0 h []) ≡ true
unfolding proper is_kind uses unused_zero zero_unless
verify_proper own view ballot h p = rw (le-leb (length h) capacity p)

p2b_proper : (own : ℕ) (ballot : Ballot) (mask : ℕ) (h : List ℕ) → length h ≤ capacity
    → proper capacity (message 7 own (record { 0 = 0 }) ballot (record { 0 = 0 }) mask h []) ≡ true
unfolding proper is_kind uses unused_zero zero_unless
p2b_proper own ballot mask h p = rw (le-leb (length h) capacity p)

-- ---- what CONFIG lets pass

-- a state that may be lent, for n sites
pub record Lendable (n : ℕ) (s : State) : Type 0 where
  pub held_valid : valid_stored limit s.held ≡ true
  pub proven_valid : valid_stored limit s.proven ≡ true
  pub inside : beyond s.certificate n ≡ false
  pub table_valid : valid_table limit n s.verified ≡ true

pub record Configured (r : Roster) (own room : ℕ) (v : ViewRecord) (s : State) : Type 0 where
  pub seat : seated r own room ≡ true
  pub views : valid_record r.n v ≡ true
  pub lent : Lendable r.n s

pub configured_is : (r : Roster) (own room : ℕ) (v : ViewRecord) (s : State) → config r own room v s ≡ false → Configured r own room v s
unfolding config
configured_is r own room v s e =
    let outside = not (beyond s.certificate r.n) in
    let a = not-false (seated r own room && _) e in
    let b = and_right (seated r own room) _ a in
    let c = and_right (valid_record r.n v) _ b in
    let d = and_right (valid_stored limit s.held) _ c in
    let f = and_right (valid_stored limit s.proven) _ d in
    record {
      seat = and_left (seated r own room) _ a;
      views = and_left (valid_record r.n v) _ b;
      lent = record {
        held_valid = and_left (valid_stored limit s.held) _ c;
        proven_valid = and_left (valid_stored limit s.proven) _ d;
        inside = not-true (beyond s.certificate r.n) (and_left outside _ f);
        table_valid = and_right outside _ f;
      };
    }

pub is_configured : (r : Roster) (own room : ℕ) (v : ViewRecord) (s : State) → Configured r own room v s → config r own room v s ≡ false
unfolding config
is_configured r own room v s c =
    rw (c.seat, c.views, c.lent.held_valid, c.lent.proven_valid, c.lent.inside, c.lent.table_valid)

-- ---- the history that is signed or stored

-- a valid one of at most 32 commands, whose words fit where those that are held do
record Checked (s : State) (h : List ℕ) : Type 0 where
  short : length h ≤ limit
  valid : valid_history h ≡ true
  words : EachFits (held_of s) → EachFits h

-- that of a P2A or a VERIFY
carried_checked : (s : State) (line : List ℕ) → form line ≡ false → wrong (carried (received line)) ≡ false → improper (carried (received line)) ≡ false
    → Checked s (carried (received line))
carried_checked s line e p q =
    let h = carried (received line) in
    record { short = carried_short line; valid = parts_valid (not_improper h (right_commands h p) q); words = λ w. read_first_fits limit line taken e }

-- the held history with the commands of a PROPOSE
appended_checked : (s : State) (line : List ℕ) → form line ≡ false → valid_stored limit s.held ≡ true → wrong (carried (received line)) ≡ false
    → length (appended (held_of s) (carried (received line))) ≤ limit → Checked s (canonical (appended (held_of s) (carried (received line))))
appended_checked s line e v p l =
    let h = carried (received line) in
    let all = appended (held_of s) h in
    let was = valid_parts (held_of s) (valid_stored_history limit s.held v) in
    let order = canonical_equivalent all in
    record {
      short = omega (arith, canonical_length all);
      valid = parts_valid
          (record {
            commands = all_valid_along order ∙ appended_all_valid (held_of s) h was.commands (right_commands h p);
            distinct = repeated_along order ∙ appended_distinct (held_of s) h was.distinct;
            in_order = canonical_is_canonical all;
          });
      words = λ w. each_along (equivalent_sym order) (each_appended w (read_first_fits limit line taken e));
    }

-- ---- what a step replies

-- what holds of a refusal, and of each reply to an accepted frame, holds of what a step replies
module _ {r : Roster} {own room : ℕ} {v : ViewRecord} {s : State} {line : List ℕ} (P : Reply State → Type 0)
    (on-refusal : (e : Refusal) → P (refuse s e))
    (on-classic : Accepts r own room v s line → P (accept (in_ballot s (received line).ballot 0) (sends (p1b own s (received line).ballot))))
    (on-fast : Accepts r own room v s line → P (accept (in_ballot s (received line).ballot 1) silent))
    (on-sign : Accepts r own room v s line → (h : List ℕ) → Checked s h → P (accept (signing own s h) (sends (verify own v s h))))
    (on-prove : Accepts r own room v s line → (received line).sender < r.n → Checked s (carried (received line))
    → P
    (accept
    (proving s (verified_by s (received line)) (certificate_of r (verified_by s (received line)) (carried (received line))) (carried (received line)))
    (sends (p2b own s (certificate_of r (verified_by s (received line)) (carried (received line))) (carried (received line))))))
    (on_store : Accepts r own room v s line → (received line).sender < r.n → Checked s (carried (received line))
    → P (accept (storing s (verified_by s (received line))) silent))
    (on_none : P (accept s silent)) where
  -- a VERIFY
  on_verify : Accepts r own room v s line → (received line).sender < r.n → Checked s (carried (received line))
      → P (accepted VERIFY r own v s (received line))
  unfolding store verifying
  on_verify a p c =
      go (extends (carried (received line)) (entry_of s (received line))) (proves r s (verified_by s (received line)) (carried (received line))) refl refl
    where
      go : (x y : Bool) → extends (carried (received line)) (entry_of s (received line)) ≡ x
          → proves r s (verified_by s (received line)) (carried (received line)) ≡ y → P (accepted VERIFY r own v s (received line))
      go true true e f = rw (e, f) (on-prove a p c)
      go true false e f = rw (e, f) (on_store a p c)
      go false y e f = rw e on_none

  -- a frame of each kind, with what its checks say
  on_kind : Accepts r own room v s line → (k : Kind)
      → NoneHolds (frame_rules k r v.view s (received line))
      → P (accepted k r own v s (received line))
  unfolding opening sign lengthened overflows test_of
  on_kind a P1A n = on-classic a
  on_kind a FAST n = on-fast a
  on_kind a PROPOSE n =
      let lent = (configured_is r own room v s a.configured).lent in
      on-sign a (canonical (appended (held_of s) (carried (received line))))
      (appended_checked s line a.framed lent.held_valid (or_left (wrong (carried (received line))) _ (no_test n Command))
      (ltb-false limit _ (no_test n Full)))
  on_kind a P2A n = on-sign a (carried (received line)) (carried_checked s line a.framed (no_test n Command) (no_test n History))
  on_kind a VERIFY n =
      on_verify a (leb-false r.n (received line).sender (no_test n Sender))
      (carried_checked s line a.framed (no_test n Command) (no_test n History))

  replies : Stepped r own room v s line → P (step r own room v s line)
  replies (refuses e g o) = rw o (on-refusal e)
  replies (accepting a) = subst P (sym a.outcome) (on_kind a (kind_of (received line).kind) a.passes)

-- a step that sends has passed CONFIG
config_passed : (r : Roster) (own room : ℕ) (v : ViewRecord) (s : State) (line : List ℕ) {m : Frame} → (step r own room v s line).sending ≡ sends m
    → config r own room v s ≡ false
config_passed r own room v s line h = go (stepped r own room v s line)
  where
    go : Stepped r own room v s line → config r own room v s ≡ false
    go (refuses e g o) = absurd (silent_sends (rw o at h))
    go (accepting a) = a.configured

-- ---- the frames that are sent

-- numbers that fit their types, as those of each record, each state and each own number do
pub record Fits (own : ℕ) (v : ViewRecord) (s : State) : Type 0 where
  pub own_fits : own < 256
  pub view_fits : v.view.0 < 2 ^ 32
  pub ballot_fits : s.ballot.0 < 2 ^ 32
  pub held_fits : EachFits s.held.words
  pub proven_fits : EachFits s.proven.words
  pub proven_ballot_fits : s.proven_ballot.0 < 2 ^ 32
  pub certificate_fits : s.certificate < 2 ^ 16

-- a certificate is of at most 16 sites
certificate_lt : (r : Roster) (own room : ℕ) (v : ViewRecord) (s : State) (t : Table) (h : List ℕ) → config r own room v s ≡ false
    → certificate_of r t h < 2 ^ 16
unfolding certificate_of
certificate_lt r own room v s t h e =
    let seat = seated_is r own room (configured_is r own room v s e).seat in
    lt_of_lt_of_le (mask_lt r.n (matches t h)) (pow_mono (valid_figures r seat.roster).max_sites)

module _ {own : ℕ} {v : ViewRecord} {s : State} (f : Fits own v s) where
  held_each : EachFits (held_of s)
  held_each = each_take s.held.count f.held_fits

  proven_each : EachFits (proven_of s)
  proven_each = each_take s.proven.count f.proven_fits

  -- P1B, VERIFY and P2B of such a state
  p1b_writable : (n : ℕ) (ballot : Ballot) → Lendable n s → ballot.0 < 2 ^ 32 → writable (p1b own s ballot) ≡ true
  p1b_writable n ballot c l =
      let p = valid_stored_length limit s.proven c.proven_valid in
      let q = valid_stored_length limit s.held c.held_valid in
      message_writable 3 own (record { 0 = 0 }) ballot s.proven_ballot s.certificate p q proven_each held_each (lit< tt) f.own_fits (lit< tt) l
      f.proven_ballot_fits f.certificate_fits (p1b_proper own ballot s.proven_ballot s.certificate (proven_of s) (held_of s) p q)

  verify_writable : (h : List ℕ) → Checked s h → writable (verify own v s h) ≡ true
  verify_writable h c =
      message_writable 6 own v.view s.ballot (record { 0 = 0 }) 0 c.short (omega arith) (c.words held_each) none (lit< tt) f.own_fits
      f.view_fits f.ballot_fits (lit< tt) (lit< tt) (verify_proper own v.view s.ballot h c.short)

  p2b_writable : (h : List ℕ) (mask : ℕ) → Checked s h → mask < 2 ^ 16 → writable (p2b own s mask h) ≡ true
  p2b_writable h mask c l =
      message_writable 7 own (record { 0 = 0 }) s.ballot (record { 0 = 0 }) mask c.short (omega arith) (c.words held_each) none (lit< tt) f.own_fits (lit< tt)
      f.ballot_fits (lit< tt) l (p2b_proper own s.ballot mask h c.short)

  -- each frame that is sent has a line
  pub sends_writable : (r : Roster) (room : ℕ) (line : List ℕ) {m : Frame} → (step r own room v s line).sending ≡ sends m → writable m ≡ true
  sends_writable r room line {m} e =
      let x = received line in
      let found : (y : Frame) → sends y ≡ sends m → writable y ≡ true → writable m ≡ true = λ y g w. subst (λ z. writable z ≡ true) (sends_same g) w in
      replies (λ o. o.sending ≡ sends m → writable m ≡ true) (λ _ g. absurd (silent_sends g))
      (λ a g. found _ g (p1b_writable r.n x.ballot (configured_is r own room v s a.configured).lent (read_ballot_fits limit line taken a.framed)))
      (λ a g. absurd (silent_sends g)) (λ a h c g. found _ g (verify_writable h c))
      (λ a p c g. found _ g (p2b_writable (carried x) _ c (certificate_lt r own room v s (verified_by s x) (carried x) a.configured)))
      (λ a p c g. absurd (silent_sends g)) (λ g. absurd (silent_sends g)) (stepped r own room v s line) e

-- and what is sent is its line, since CONFIG asks for room
pub sends_line : (r : Roster) (own : ℕ) (v : ViewRecord) (s : State) (line out : List ℕ) → Fits own v s → {m : Frame}
    → (step r own (length out) v s line).sending ≡ sends m → Sent m out
sends_line r own v s line out f h =
    let seat = (configured_is r own (length out) v s (config_passed r own (length out) v s line h)).seat in
    sent_line _ out (sends_writable f r (length out) line h) (seated_is r own (length out) seat).roomy

-- ---- the state

-- the mask of a certificate stays within the sites
certificate_inside : (r : Roster) (t : Table) (h : List ℕ) → beyond (certificate_of r t h) r.n ≡ false
unfolding certificate_of
certificate_inside r t h = mask_inside r.n (matches t h)

-- so a step never leaves a state that CONFIG refuses
keeps_lendable : (r : Roster) (own room : ℕ) (v : ViewRecord) (s : State) (line : List ℕ) → Lendable r.n s
    → Lendable r.n (step r own room v s line).state
keeps_lendable r own room v s line c =
    let x = received line in
    let n = r.n in
    let member : Accepts r own room v s line → own < n = λ a. (seated_is r own room (configured_is r own room v s a.configured).seat).member in
    let opened : (fast : ℕ) → Lendable n (in_ballot s x.ballot fast) = λ fast.
    record { held_valid = c.held_valid; proven_valid = c.proven_valid; inside = c.inside; table_valid = valid_empty limit n } in
    replies (λ o. Lendable n o.state) (λ _. c) (λ a. opened 0) (λ a. opened 1)
    (λ a h k.
    record {
      held_valid = stored_valid limit h k.short k.short k.valid;
      proven_valid = c.proven_valid;
      inside = c.inside;
      table_valid = valid_stored_lem limit n s.verified own h k.short c.table_valid (member a) k.valid;
    })
    (λ a p k.
    record {
      held_valid = c.held_valid;
      proven_valid = stored_valid limit (carried x) k.short k.short k.valid;
      inside = certificate_inside r (verified_by s x) (carried x);
      table_valid = valid_stored_lem limit n s.verified x.sender (carried x) k.short c.table_valid p k.valid;
    })
    (λ a p k.
    record {
      held_valid = c.held_valid;
      proven_valid = c.proven_valid;
      inside = c.inside;
      table_valid = valid_stored_lem limit n s.verified x.sender (carried x) k.short c.table_valid p k.valid;
    })
    c (stepped r own room v s line)

pub keeps_config : (r : Roster) (own room : ℕ) (v : ViewRecord) (s : State) (line : List ℕ) → config r own room v s ≡ false
    → config r own room v (step r own room v s line).state ≡ false
keeps_config r own room v s line e =
    let c = configured_is r own room v s e in
    is_configured r own room v (step r own room v s line).state
    (record { seat = c.seat; views = c.views; lent = keeps_lendable r own room v s line c.lent })

-- and a fresh one passes CONFIG
fresh_lendable : (n : ℕ) → Lendable n fresh
fresh_lendable n =
    let empty = stored_valid limit [] (omega arith) (omega arith) valid_nil in
    record { held_valid = empty; proven_valid = empty; inside = (beyond_false 0 n).1 (pow_pos n); table_valid = valid_empty limit n }

pub fresh_config : (r : Roster) (own room : ℕ) (v : ViewRecord) → seated r own room ≡ true → valid_record r.n v ≡ true
    → config r own room v fresh ≡ false
fresh_config r own room v p q = is_configured r own room v fresh (record { seat = p; views = q; lent = fresh_lendable r.n })

-- the numbers of a state stay within their types, from a fresh one on
pub fresh_fits : (own : ℕ) (v : ViewRecord) → own < 256 → v.view.0 < 2 ^ 32 → Fits own v fresh
fresh_fits own v p q =
    record {
      own_fits = p;
      view_fits = q;
      ballot_fits = lit< tt;
      held_fits = each_padded limit none;
      proven_fits = each_padded limit none;
      proven_ballot_fits = lit< tt;
      certificate_fits = lit< tt;
    }

pub keeps_fits : (r : Roster) (own room : ℕ) (v : ViewRecord) (s : State) (line : List ℕ) → Fits own v s
    → Fits own v (step r own room v s line).state
keeps_fits r own room v s line f =
    let x = received line in
    let opened : (fast : ℕ) → Accepts r own room v s line → Fits own v (in_ballot s x.ballot fast) = λ fast a.
    record {
      own_fits = f.own_fits;
      view_fits = f.view_fits;
      ballot_fits = read_ballot_fits limit line taken a.framed;
      held_fits = f.held_fits;
      proven_fits = f.proven_fits;
      proven_ballot_fits = f.proven_ballot_fits;
      certificate_fits = f.certificate_fits;
    } in
    replies (λ o. Fits own v o.state) (λ _. f) (opened 0) (opened 1)
    (λ a h k.
    record {
      own_fits = f.own_fits;
      view_fits = f.view_fits;
      ballot_fits = f.ballot_fits;
      held_fits = each_padded limit (k.words (held_each f));
      proven_fits = f.proven_fits;
      proven_ballot_fits = f.proven_ballot_fits;
      certificate_fits = f.certificate_fits;
    })
    (λ a p k.
    record {
      own_fits = f.own_fits;
      view_fits = f.view_fits;
      ballot_fits = f.ballot_fits;
      held_fits = f.held_fits;
      proven_fits = each_padded limit (k.words (held_each f));
      proven_ballot_fits = f.ballot_fits;
      certificate_fits = certificate_lt r own room v s (verified_by s x) (carried x) a.configured;
    })
    (λ a p k.
    record {
      own_fits = f.own_fits;
      view_fits = f.view_fits;
      ballot_fits = f.ballot_fits;
      held_fits = f.held_fits;
      proven_fits = f.proven_fits;
      proven_ballot_fits = f.proven_ballot_fits;
      certificate_fits = f.certificate_fits;
    })
    f (stepped r own room v s line)

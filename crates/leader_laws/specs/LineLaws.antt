-- Which kinds a leader takes; each frame that it sends has a line, which is what it leaves in the buffer; and no call leaves a state that CONFIG
-- refuses.
use Rattle.std.specs.Prelude.{◌≡◌, refl, Bool, true, false, cond, ◌||◌, List, [], ℕ, ◌^◌, ◌≤◌, ◌<◌, eqb, length}
use Rattle.std.proofs.Common.{sym, ◌∙◌, subst, ⊎_elim, arith, le-leb, ne_eqb, lit<, pow_pos}
use Rattle.std.specs.Bool.{beq}
use Rattle.roster.specs.declared.Roster.{Roster}
use Rattle.roster.specs.declared.View.{View}
use Rattle.roster.specs.declared.Ballot.{Ballot}
use Rattle.roster.specs.Mask.{bit}
use Rattle.roster.specs.MaskLaws.{bit_out, beyond_false}
use Rattle.roster.specs.Sites.{all_to}
use Rattle.roster.specs.SitesLaws.{all_each}
use Rattle.command.specs.Command.{wrong}
use Rattle.command.specs.CommandLaws.{right_commands}
use Rattle.basics.specs.Bools.{lt_or_le, or_left, beq_true}
use Rattle.history.specs.ValidLaws.{valid_nil, valid_parts}
use Rattle.words.specs.Sizes.{limit, capacity}
use Rattle.history.specs.Words.{stored}
use Rattle.history.specs.FitLaws.{EachFits, none, each_take, each_padded}
use Rattle.merge.specs.Merge.{appended}
use Rattle.merge.specs.MergeLaws.{appended_all_valid, appended_distinct}
use Rattle.merge.specs.AppendingLaws.{each_appended}
use Rattle.table.specs.declared.Table.{Table}
use Rattle.table.specs.FitLaws.{each_row, each_stored, each_empty}
use Rattle.table.specs.ValidLaws.{valid_empty}
use Rattle.proposal.specs.Proposal.{remaining}
use Rattle.proposal.proofs.ProposalLaws.{report_keeps, proposal_fits, remaining_all_valid, remaining_distinct, remaining_short, remaining_fits}
use Rattle.frame.specs.declared.Frame.{Frame}
use Rattle.frame.specs.Layout.{first}
use Rattle.frame.specs.Kinds.{uses, is_kind, unused_zero, zero_unless}
use Rattle.frame.specs.Format.{proper, writable}
use Rattle.site.specs.Site.{seated, is_set}
use Rattle.site.specs.SiteLaws.{seated_is}
use Rattle.site.specs.Message.{message}
use Rattle.site.specs.MessageLaws.{read_first_fits, read_second_fits, read_view_fits, message_writable, bare_writable}
use Rattle.site.specs.Reply.{sends}
use Rattle.site.specs.ReplyLaws.{silent_sends, sends_same, Sent, sent_line}
use Rattle.leader.specs.declared.State.{State}
use Rattle.leader.specs.Leader.{
  fresh,
  P1B,
  PROPOSE,
  LEADER,
  kind_of,
  taken,
  received,
  pending_of,
  valid_pending,
  config,
  form,
  waiting,
  reporting,
  report_in,
  proposed,
  p2a,
  step,
  invitation,
  opening,
}
use Rattle.leader_laws.specs.LeaderLaws.{
  Reports,
  Requests,
  stepped,
  opened,
  concluded,
  replies,
  opening_replies,
  pending_is,
  pending_length,
  request_fits,
  pending_stored,
  Lendable,
  configured_is,
  is_configured,
  report_lendable,
  proposed_short,
}

-- ---- the kinds that are taken: 3 P1B, 4 PROPOSE, 10 LEADER

abbrev is_taken : ℕ → Bool
is_taken k = eqb k 3 || (eqb k 4 || eqb k 10)

only_three : all_to 11 (λ k. beq (bit taken k) (is_taken k)) ≡ true
unfolding all_to bit
only_three = refl

-- they, and no other kind
pub taken_is : (k : ℕ) → bit taken k ≡ (eqb k 3 || (eqb k 4 || eqb k 10))
taken_is k =
    ⊎_elim (λ p. beq_true (bit taken k) (is_taken k) (all_each 11 (λ i. beq (bit taken i) (is_taken i)) only_three k p))
    (λ (p : 11 ≤ k).
    bit_out taken 11 k (lit< tt) p
    ∙ sym (rw (ne_eqb k 3 (λ e. omega arith), ne_eqb k 4 (λ e. omega arith), ne_eqb k 10 (λ e. omega arith))))
    (lt_or_le k 11)

-- each goes by its name
pub kind_of_lem : (kind_of 3 ≡ P1B) × (kind_of 4 ≡ PROPOSE) × (kind_of 10 ≡ LEADER)
kind_of_lem = (refl, refl, refl)

-- ---- which frames FORM allows

-- P2A, P1A and FAST leave 0 what their kind doesn't use
p2a_proper : (own : ℕ) (view : View) (ballot : Ballot) (h : List ℕ) → length h ≤ capacity
    → proper capacity (message 5 own view ballot (record { 0 = 0 }) 0 h []) ≡ true
unfolding proper is_kind uses unused_zero zero_unless
p2a_proper own view ballot h p = rw (le-leb (length h) capacity p)

p1a_proper : (own : ℕ) (view : View) (ballot : Ballot) → proper capacity (message 1 own view ballot (record { 0 = 0 }) 0 [] []) ≡ true
unfolding proper is_kind uses unused_zero zero_unless
p1a_proper own view ballot = refl

fast_proper : (own : ℕ) (view : View) (ballot : Ballot) → proper capacity (message 2 own view ballot (record { 0 = 0 }) 0 [] []) ≡ true
unfolding proper is_kind uses unused_zero zero_unless
fast_proper own view ballot = refl

-- ---- the words of the proposal

-- numbers that fit their types, as those of each state and each own number do
pub record Fits (own : ℕ) (s : State) : Type 0 where
  pub own_fits : own < 256
  pub view_fits : s.view.0 < 2 ^ 32
  pub ballot_fits : s.ballot.0 < 2 ^ 32
  pub pending_fits : EachFits s.pending.words
  pub proven_fits : EachFits s.proven.words
  pub held_fits : EachFits s.held.words

-- those of a report
each_report : (s : State) (t : Table) → EachFits t.words → (i : ℕ) → EachFits (report_in s t i)
each_report s t w i = report_keeps t.words t.counts s.reported i EachFits none (each_row t.words t.counts i w)

-- the state with the report of a frame that was read
report_fits : {own : ℕ} {s : State} (line : List ℕ) → form line ≡ false → Fits own s → Fits own (reporting s (received line))
report_fits {s = s} line e f =
    let m = received line in
    record {
      own_fits = f.own_fits;
      view_fits = f.view_fits;
      ballot_fits = f.ballot_fits;
      pending_fits = f.pending_fits;
      proven_fits = each_stored s.proven m.sender f.proven_fits (read_first_fits limit line taken e);
      held_fits = each_stored s.held m.sender f.held_fits (read_second_fits limit line taken e);
    }

module _ {own : ℕ} {s : State} (f : Fits own s) where
  pending_each : EachFits (pending_of s)
  pending_each = each_take s.pending.count f.pending_fits

  -- the proposal of such a state
  proposed_each : (r : Roster) → EachFits (proposed r s)
  unfolding proposed
  proposed_each r =
      proposal_fits limit r.n (report_in s s.proven) (report_in s s.held) (pending_of s) (λ i p. each_report s s.proven f.proven_fits i)
      (λ i p. each_report s s.held f.held_fits i) pending_each

  -- P2A, P1A and FAST of it
  p2a_writable : (r : Roster) → writable (p2a own s.view s.ballot (proposed r s)) ≡ true
  p2a_writable r =
      message_writable 5 own s.view s.ballot (record { 0 = 0 }) 0 (proposed_short r s) (omega arith) (proposed_each r) none (lit< tt)
      f.own_fits f.view_fits f.ballot_fits (lit< tt) (lit< tt) (p2a_proper own s.view s.ballot (proposed r s) (proposed_short r s))

  invitation_writable : (ballot : Ballot) (fast : ℕ) → ballot.0 < 2 ^ 32 → writable (invitation own s.view ballot fast) ≡ true
  invitation_writable ballot fast l = go (is_set fast)
    where
      go : (b : Bool) → writable (message (cond b 2 1) own s.view ballot (record { 0 = 0 }) 0 [] []) ≡ true
      go true = bare_writable 2 own s.view ballot (record { 0 = 0 }) 0 (lit< tt) f.own_fits f.view_fits l (lit< tt) (lit< tt) (fast_proper own s.view ballot)
      go false = bare_writable 1 own s.view ballot (record { 0 = 0 }) 0 (lit< tt) f.own_fits f.view_fits l (lit< tt) (lit< tt) (p1a_proper own s.view ballot)

module _ {own : ℕ} {s : State} (f : Fits own s) where
  -- each frame that a step sends has a line
  pub sends_writable : (r : Roster) (room : ℕ) (line : List ℕ) {m : Frame} → (step r own room s line).sending ≡ sends m → writable m ≡ true
  sends_writable r room line {m} e =
      replies (λ o. o.sending ≡ sends m → writable m ≡ true) (λ _ g. absurd (silent_sends g)) (λ a g. absurd (silent_sends g))
      (λ a p q g. subst (λ z. writable z ≡ true) (sends_same g) (p2a_writable (report_fits line a.framed f) r))
      (λ a p g. absurd (silent_sends g)) (λ a g. absurd (silent_sends g)) (λ a g. absurd (silent_sends g)) (stepped r own room s line) e

  -- and each that an opening sends
  pub opening_writable : (r : Roster) (room : ℕ) (ballot : Ballot) (fast : ℕ) → ballot.0 < 2 ^ 32 → {m : Frame}
      → (opening r own room s ballot fast).sending ≡ sends m → writable m ≡ true
  opening_writable r room ballot fast l {m} e =
      opening_replies (λ o. o.sending ≡ sends m → writable m ≡ true) (λ _ g. absurd (silent_sends g))
      (λ a g. subst (λ z. writable z ≡ true) (sends_same g) (invitation_writable f ballot fast l)) (opened r own room s ballot fast) e

-- ---- the frames that are sent

-- a step that sends has passed CONFIG
config_passed : (r : Roster) (own room : ℕ) (s : State) (line : List ℕ) {m : Frame} → (step r own room s line).sending ≡ sends m
    → config r own room s ≡ false
config_passed r own room s line {m} h =
    replies (λ o. o.sending ≡ sends m → config r own room s ≡ false) (λ _ g. absurd (silent_sends g)) (λ a g. a.configured)
    (λ a p q g. a.configured) (λ a p g. a.configured) (λ a g. a.configured) (λ a g. a.configured) (stepped r own room s line) h

-- and what is sent is its line, since CONFIG asks for room
pub sends_line : (r : Roster) (own : ℕ) (s : State) (line out : List ℕ) → Fits own s → {m : Frame}
    → (step r own (length out) s line).sending ≡ sends m → Sent m out
sends_line r own s line out f h =
    let seat = (configured_is r own (length out) s (config_passed r own (length out) s line h)).seat in
    sent_line _ out (sends_writable f r (length out) line h) (seated_is r own (length out) seat).roomy

-- so with an opening
opening_passed : (r : Roster) (own room : ℕ) (s : State) (ballot : Ballot) (fast : ℕ) {m : Frame}
    → (opening r own room s ballot fast).sending ≡ sends m → config r own room s ≡ false
opening_passed r own room s ballot fast {m} h =
    opening_replies (λ o. o.sending ≡ sends m → config r own room s ≡ false) (λ _ g. absurd (silent_sends g)) (λ a g. a.configured)
    (opened r own room s ballot fast) h

pub opening_line : (r : Roster) (own : ℕ) (s : State) (ballot : Ballot) (fast : ℕ) (out : List ℕ) → Fits own s → ballot.0 < 2 ^ 32 → {m : Frame}
    → (opening r own (length out) s ballot fast).sending ≡ sends m → Sent m out
opening_line r own s ballot fast out f l h =
    let seat = (configured_is r own (length out) s (opening_passed r own (length out) s ballot fast h)).seat in
    sent_line _ out (opening_writable f r (length out) ballot fast l h) (seated_is r own (length out) seat).roomy

-- ---- the state

-- what stays pending after a proposal may be lent
remaining_pending : (s : State) (h : List ℕ) → valid_pending limit s.pending ≡ true → valid_pending limit (stored (remaining (pending_of s) h)) ≡ true
remaining_pending s h e =
    let p = pending_is limit s.pending e in
    pending_stored limit (remaining (pending_of s) h) (omega arith) (omega (arith, remaining_short (pending_of s) h, pending_length limit s.pending e))
    (remaining_all_valid (pending_of s) h p.right) (remaining_distinct (pending_of s) h p.distinct)

-- so may what is pending with the commands of a PROPOSE
appended_pending : {r : Roster} {own room : ℕ} {s : State} {line : List ℕ} → Requests r own room s line
    → valid_pending limit (stored (appended (pending_of s) (first (received line)))) ≡ true
appended_pending {r} {own} {room} {s} {line} a =
    let h = first (received line) in
    let p = pending_is limit s.pending (configured_is r own room s a.configured).lent.pending_valid_lem in
    pending_stored limit (appended (pending_of s) h) (omega arith) (request_fits a)
    (appended_all_valid (pending_of s) h p.right (right_commands h (or_left (wrong h) _ a.right)))
    (appended_distinct (pending_of s) h p.distinct)

-- a step never leaves a state that CONFIG refuses
keeps_lendable : (r : Roster) (own room : ℕ) (s : State) (line : List ℕ) → Lendable r.n s → Lendable r.n (step r own room s line).state
keeps_lendable r own room s line c =
    let t = reporting s (received line) in
    let after : Reports r own room s line → Lendable r.n (concluded r t) = λ a.
    let d = report_lendable a in
    record {
      pending_valid_lem = remaining_pending s (proposed r t) c.pending_valid_lem;
      inside = d.inside;
      proven_valid = d.proven_valid;
      held_valid = d.held_valid;
    } in
    replies (λ o. Lendable r.n o.state) (λ _. c) (λ a. report_lendable a) (λ a p q. after a) (λ a p. after a)
    (λ a. record { pending_valid_lem = appended_pending a; inside = c.inside; proven_valid = c.proven_valid; held_valid = c.held_valid })
    (λ a. record { pending_valid_lem = c.pending_valid_lem; inside = c.inside; proven_valid = c.proven_valid; held_valid = c.held_valid })
    (stepped r own room s line)

pub keeps_config : (r : Roster) (own room : ℕ) (s : State) (line : List ℕ) → config r own room s ≡ false
    → config r own room (step r own room s line).state ≡ false
keeps_config r own room s line e =
    let c = configured_is r own room s e in
    is_configured r own room (step r own room s line).state (record { seat = c.seat; lent = keeps_lendable r own room s line c.lent })

-- nor does an opening
opening_lendable : (r : Roster) (own room : ℕ) (s : State) (ballot : Ballot) (fast : ℕ) → Lendable r.n s
    → Lendable r.n (opening r own room s ballot fast).state
opening_lendable r own room s ballot fast c =
    let n = r.n in
    opening_replies (λ o. Lendable n o.state) (λ _. c)
    (λ a.
    record {
      pending_valid_lem = c.pending_valid_lem;
      inside = (beyond_false 0 n).1 (pow_pos n);
      proven_valid = valid_empty limit n;
      held_valid = valid_empty limit n;
    })
    (opened r own room s ballot fast)

pub opening_keeps_config : (r : Roster) (own room : ℕ) (s : State) (ballot : Ballot) (fast : ℕ) → config r own room s ≡ false
    → config r own room (opening r own room s ballot fast).state ≡ false
opening_keeps_config r own room s ballot fast e =
    let c = configured_is r own room s e in
    is_configured r own room (opening r own room s ballot fast).state
    (record { seat = c.seat; lent = opening_lendable r own room s ballot fast c.lent })

-- and a fresh one passes CONFIG
pub fresh_lendable : (n : ℕ) → Lendable n fresh
fresh_lendable n =
    let empty = valid_parts [] valid_nil in
    record {
      pending_valid_lem = pending_stored limit [] (omega arith) (omega arith) empty.commands empty.distinct;
      inside = (beyond_false 0 n).1 (pow_pos n);
      proven_valid = valid_empty limit n;
      held_valid = valid_empty limit n;
    }

pub fresh_config : (r : Roster) (own room : ℕ) → seated r own room ≡ true → config r own room fresh ≡ false
fresh_config r own room p = is_configured r own room fresh (record { seat = p; lent = fresh_lendable r.n })

-- the numbers of a state stay within their types, from a fresh one on
pub fresh_fits : (own : ℕ) → own < 256 → Fits own fresh
fresh_fits own p =
    record {
      own_fits = p;
      view_fits = lit< tt;
      ballot_fits = lit< tt;
      pending_fits = each_padded capacity none;
      proven_fits = each_empty;
      held_fits = each_empty;
    }

-- with other pending commands
waiting_fits : {own : ℕ} {s : State} {h : List ℕ} → Fits own s → EachFits h → Fits own (waiting s h)
waiting_fits f w =
    record {
      own_fits = f.own_fits;
      view_fits = f.view_fits;
      ballot_fits = f.ballot_fits;
      pending_fits = each_padded capacity w;
      proven_fits = f.proven_fits;
      held_fits = f.held_fits;
    }

pub keeps_fits : (r : Roster) (own room : ℕ) (s : State) (line : List ℕ) → Fits own s → Fits own (step r own room s line).state
keeps_fits r own room s line f =
    let t = reporting s (received line) in
    let after : Reports r own room s line → Fits own (concluded r t) = λ a.
    waiting_fits (report_fits line a.framed f) (remaining_fits (proposed r t) (pending_each f)) in
    replies (λ o. Fits own o.state) (λ _. f) (λ a. report_fits line a.framed f) (λ a p q. after a) (λ a p. after a)
    (λ a. waiting_fits f (each_appended (pending_each f) (read_first_fits limit line taken a.framed)))
    (λ a.
    record {
      own_fits = f.own_fits;
      view_fits = read_view_fits limit line taken a.framed;
      ballot_fits = f.ballot_fits;
      pending_fits = f.pending_fits;
      proven_fits = f.proven_fits;
      held_fits = f.held_fits;
    })
    (stepped r own room s line)

pub opening_keeps_fits : (r : Roster) (own room : ℕ) (s : State) (ballot : Ballot) (fast : ℕ) → Fits own s → ballot.0 < 2 ^ 32
    → Fits own (opening r own room s ballot fast).state
opening_keeps_fits r own room s ballot fast f l =
    opening_replies (λ o. Fits own o.state) (λ _. f)
    (λ a.
    record {
      own_fits = f.own_fits;
      view_fits = f.view_fits;
      ballot_fits = l;
      pending_fits = f.pending_fits;
      proven_fits = each_empty;
      held_fits = each_empty;
    })
    (opened r own room s ballot fast)

-- One step of the leader, and the opening of a ballot: their outcomes, the proposal, what stays pending, and that views and ballots rise.
use Rattle.std.specs.Prelude.{◌≡◌, refl, ◌⊎◌, ◌≢◌, Bool, true, false, not, cond, ◌&&◌, ◌||◌, ℕ, ◌≤◌, ◌<◌, leb, eqb, length}
use Rattle.std.proofs.Common.{sym, ◌∙◌, subst, inl, inr, ⊎_elim, true≢false, le_refl, le_of_lt, arith, length-take}
use mathlib.Core.List.{List, [], ◌∷◌}
use borrow.Author.Tests.{leb-true, leb-false, le-leb, ltb-true, ltb-false, eqb-true, eqb-false, not-true, not-false}
use Rattle.roster.specs.declared.Roster.{Roster}
use Rattle.roster.specs.declared.Ballot.{Ballot}
use Rattle.roster.specs.Roster.{quorum, leader_of}
use Rattle.roster.specs.Counts.{later_ballot, same_ballot}
use Rattle.roster.specs.RosterLaws.{valid_figures}
use Rattle.roster.specs.Mask.{unproven, bit, reaches, beyond}
use Rattle.roster.specs.MaskLaws.{with_bit_same, with_bit_other, with_keeps, with_inside}
use Rattle.basics.specs.Bools.{and_left, and_right, or_left, or_right, or_either}
use Rattle.command.specs.Command.{all_valid, wrong, all_by}
use Rattle.command.specs.CommandLaws.{right_commands}
use Rattle.history.specs.declared.History.{History}
use Rattle.history.specs.History.{Extends, repeated, valid_history}
use Rattle.history.specs.ValidLaws.{valid_nil, valid_parts, parts_valid}
use Rattle.words.specs.Sizes.{limit, capacity}
use Rattle.history.specs.Words.{commands, stored}
use Rattle.history.specs.WordsLaws.{commands_stored}
use Rattle.merge.specs.Merge.{appended}
use Rattle.merge.specs.Appending.{holds, reuses, nothing_new, overflows}
use Rattle.merge.specs.AppendingLaws.{appended_holds}
use Rattle.table.specs.declared.Table.{Table}
use Rattle.table.specs.Table.{sites, stored_at, valid_table}
use Rattle.table.specs.TableLaws.{Sized, row_stored, row_stored_other}
use Rattle.table.specs.ValidLaws.{valid_history_lem, valid_stored_lem}
use Rattle.proposal.specs.Proposal.{report, longest_to, remaining}
use Rattle.proposal.specs.ProposalLaws.{Longest}
use Rattle.proposal.proofs.ProposalLaws.{report_marked, report_keeps, longest_is, longest_short, proposal_extends, proposal_valid, remaining_holds, remaining_short, kept_or_proposed}
use Rattle.proposal.proofs.ProposalLaws as proposals
use Rattle.refusal.specs.declared.Refusal.{Refusal}
use Rattle.refusal.specs.Refusal.{Accepted}
use Rattle.refusal.specs.declared.Refusal.TheVariants.{Config, Form, Sender, Stale, Proof, Command, History as Improper, Reused, Nothing, Full}
use Rattle.refusal.specs.AnswerLaws.{accepted_not_refused}
use Rattle.refusal.specs.Rules.{Rule, ◌gives◌, judged}
use Rattle.refusal.specs.Order.{in_order, follows}
use Rattle.refusal.specs.JudgedLaws.{GivenFirst, Judgement, refused, accepts, judgement, test_of, no_test}
use Rattle.content.specs.Content.{disordered}
use Rattle.content.specs.ContentLaws.{not_disordered}
use Rattle.frame.specs.declared.Frame.{Frame}
use Rattle.frame.specs.Layout.{first, second}
use Rattle.frame.specs.FormatLaws.{read_n, read_m}
use Rattle.site.specs.Site.{seated, is_set}
use Rattle.site.specs.SiteLaws.{seated_is}
use Rattle.site.specs.Reply.{silent, sends, Reply, refuse, accept}
use Rattle.site.specs.ReplyLaws.{silent_sends, sends_same}
use Rattle.site.specs.MessageLaws.{first_is}
use Rattle.leader.specs.declared.State.{State}
use Rattle.leader.specs.Leader.{
  Kind,
  P1B,
  PROPOSE,
  LEADER,
  kind_of,
  taken,
  received,
  pending_of,
  valid_pending,
  config,
  form,
  leads,
  awaited,
  unfounded,
  frame_rules,
  rules,
  in_view,
  waiting,
  reporting,
  report_in,
  proposed,
  p2a,
  conclude,
  accepted,
  step,
  may_open,
  opening_rules,
  in_ballot,
  invitation,
  opening,
}

-- ---- the outcome of a step

-- an accepted P1B: no check applies
pub record Reports (r : Roster) (own room : ℕ) (s : State) (line : List ℕ) : Type 0 where
  pub configured : config r own room s ≡ false
  pub framed : form line ≡ false
  pub kind : kind_of (received line).kind ≡ P1B
  pub from_site : leb r.n (received line).sender ≡ false
  pub timely : not (awaited r s (received line).ballot (received line).sender) ≡ false
  pub founded : unfounded r (received line).n (received line).proven_ballot (received line).mask ≡ false
  pub right : (wrong (first (received line)) || wrong (second (received line))) ≡ false
  pub proper : (disordered (first (received line)) || disordered (second (received line))) ≡ false
  pub outcome : step r own room s line ≡ conclude r own (reporting s (received line))

-- an accepted PROPOSE
pub record Requests (r : Roster) (own room : ℕ) (s : State) (line : List ℕ) : Type 0 where
  pub configured : config r own room s ≡ false
  pub framed : form line ≡ false
  pub kind : kind_of (received line).kind ≡ PROPOSE
  pub from_proposer : eqb (received line).sender 0 ≡ false
  pub right : (wrong (first (received line)) || not (all_by (received line).sender (first (received line)))) ≡ false
  pub proper : (repeated (first (received line)) || eqb (length (first (received line))) 0) ≡ false
  pub unused : reuses (pending_of s) (first (received line)) ≡ false
  pub something : nothing_new (pending_of s) (first (received line)) ≡ false
  pub fits : overflows limit (pending_of s) (first (received line)) ≡ false
  pub outcome : step r own room s line ≡ accept (waiting s (appended (pending_of s) (first (received line)))) silent

-- an accepted LEADER
pub record Elects (r : Roster) (own room : ℕ) (s : State) (line : List ℕ) : Type 0 where
  pub configured : config r own room s ≡ false
  pub framed : form line ≡ false
  pub kind : kind_of (received line).kind ≡ LEADER
  pub from_site : leb r.n (received line).sender ≡ false
  pub timely : not (leads r own s (received line).view) ≡ false
  pub proven : unproven (received line).mask r.n (quorum r) ≡ false
  pub outcome : step r own room s line ≡ accept (in_view s (received line).view) silent

pub data Stepped (r : Roster) (own room : ℕ) (s : State) (line : List ℕ) : Type 0 where
  refuses : (e : Refusal) → GivenFirst e (rules r own room s line) → step r own room s line ≡ refuse s e → Stepped r own room s line
  reports : Reports r own room s line → Stepped r own room s line
  requests : Requests r own room s line → Stepped r own room s line
  elects : Elects r own room s line → Stepped r own room s line

-- the checks of a line that holds a frame of kind k
abbrev rules_for : Kind → Roster → ℕ → ℕ → State → List ℕ → List Rule
rules_for k r own room s line =
    config r own room s gives Config ∷ form line gives Form ∷ frame_rules k r own s (received line)

pub stepped : (r : Roster) (own room : ℕ) (s : State) (line : List ℕ) → Stepped r own room s line
unfolding step test_of
stepped r own room s line = go (kind_of (received line).kind) refl refl
  where
    Given : Kind → Type 0
    Given k = step r own room s line ≡ judged (refuse s) (accepted k r own s (received line)) (rules_for k r own room s line)

    Judged : Kind → Type 0
    Judged k = Judgement (refuse s) (accepted k r own s (received line)) (rules_for k r own room s line)

    judge : (k : Kind) → Judged k
    judge k = judgement (refuse s) (accepted k r own s (received line)) (rules_for k r own room s line)

    refusing : (k : Kind) → kind_of (received line).kind ≡ k → (e : Refusal) → GivenFirst e (rules_for k r own room s line)
        → step r own room s line ≡ refuse s e → Stepped r own room s line
    refusing k p e g o = refuses e (subst (λ (x : Kind). GivenFirst e (rules_for x r own room s line)) (sym p) g) o

    report : kind_of (received line).kind ≡ P1B → Given P1B → Judged P1B → Stepped r own room s line
    report p q (refused e g o) = refusing P1B p e g (q ∙ o)
    report p q (accepts n o) =
        reports
        (record {
          configured = no_test n Config;
          framed = no_test n Form;
          kind = p;
          from_site = no_test n Sender;
          timely = no_test n Stale;
          founded = no_test n Proof;
          right = no_test n Command;
          proper = no_test n Improper;
          outcome = q ∙ o;
        })

    request : kind_of (received line).kind ≡ PROPOSE → Given PROPOSE → Judged PROPOSE → Stepped r own room s line
    request p q (refused e g o) = refusing PROPOSE p e g (q ∙ o)
    request p q (accepts n o) =
        requests
        (record {
          configured = no_test n Config;
          framed = no_test n Form;
          kind = p;
          from_proposer = no_test n Sender;
          right = no_test n Command;
          proper = no_test n Improper;
          unused = no_test n Reused;
          something = no_test n Nothing;
          fits = no_test n Full;
          outcome = q ∙ o;
        })

    elect : kind_of (received line).kind ≡ LEADER → Given LEADER → Judged LEADER → Stepped r own room s line
    elect p q (refused e g o) = refusing LEADER p e g (q ∙ o)
    elect p q (accepts n o) =
        elects
        (record {
          configured = no_test n Config;
          framed = no_test n Form;
          kind = p;
          from_site = no_test n Sender;
          timely = no_test n Stale;
          proven = no_test n Proof;
          outcome = q ∙ o;
        })

    go : (k : Kind) → kind_of (received line).kind ≡ k → Given (kind_of (received line).kind) → Stepped r own room s line
    go P1B p q = report p (subst Given p q) (judge P1B)
    go PROPOSE p q = request p (subst Given p q) (judge PROPOSE)
    go LEADER p q = elect p (subst Given p q) (judge LEADER)

-- "Checks run in this order": the rules follow the table of refusals
pub rules_follow : (r : Roster) (own room : ℕ) (s : State) (line : List ℕ) → follows in_order (rules r own room s line) ≡ true
unfolding follows
rules_follow r own room s line = go (kind_of (received line).kind)
  where
    go : (k : Kind) → follows in_order (rules_for k r own room s line) ≡ true
    go P1B = refl
    go PROPOSE = refl
    go LEADER = refl

-- ---- the outcome of an opening

-- an accepted opening: no check applies
pub record Opens (r : Roster) (own room : ℕ) (s : State) (ballot : Ballot) (fast : ℕ) : Type 0 where
  pub configured : config r own room s ≡ false
  pub timely : not (may_open r own s ballot) ≡ false
  pub outcome : opening r own room s ballot fast ≡ accept (in_ballot s ballot fast) (sends (invitation own s.view ballot fast))

pub data Opened (r : Roster) (own room : ℕ) (s : State) (ballot : Ballot) (fast : ℕ) : Type 0 where
  stays : (e : Refusal) → GivenFirst e (opening_rules r own room s ballot) → opening r own room s ballot fast ≡ refuse s e
      → Opened r own room s ballot fast
  opens : Opens r own room s ballot fast → Opened r own room s ballot fast

pub opened : (r : Roster) (own room : ℕ) (s : State) (ballot : Ballot) (fast : ℕ) → Opened r own room s ballot fast
unfolding opening test_of
opened r own room s ballot fast =
    go (judgement (refuse s) (accept (in_ballot s ballot fast) (sends (invitation own s.view ballot fast))) (opening_rules r own room s ballot))
  where
    go : Judgement (refuse s) (accept (in_ballot s ballot fast) (sends (invitation own s.view ballot fast))) (opening_rules r own room s ballot)
        → Opened r own room s ballot fast
    go (refused e g o) = stays e g o
    go (accepts n o) = opens (record { configured = no_test n Config; timely = no_test n Stale; outcome = o })

-- its rules follow the table too
pub opening_rules_follow : (r : Roster) (own room : ℕ) (s : State) (ballot : Ballot) → follows in_order (opening_rules r own room s ballot) ≡ true
unfolding follows
opening_rules_follow r own room s ballot = refl

-- ---- what an accepted P1B does

-- the state after the proposal: "Pending keeps what the result doesn't hold."
abbrev pub concluded : Roster → State → State
concluded r s = waiting s (remaining (pending_of s) (proposed r s))

-- to a state with its report: it is stored only; or, with a quorum, the proposal goes out, unless there is nothing to propose
pub data Effect (r : Roster) (own : ℕ) (s : State) : Reply State → Type 0 where
  stores : reaches s.reported (quorum r) ≡ false → Effect r own s (accept s silent)
  proposes : reaches s.reported (quorum r) ≡ true → 0 < length (proposed r s)
      → Effect r own s (accept (concluded r s) (sends (p2a own s.view s.ballot (proposed r s))))
  ends : reaches s.reported (quorum r) ≡ true → proposed r s ≡ [] → Effect r own s (accept (concluded r s) silent)

no_commands : (h : List ℕ) → eqb (length h) 0 ≡ true → h ≡ []
no_commands [] e = refl
no_commands (c ∷ h) e = absurd (omega (arith, eqb-true (length (c ∷ h)) 0 e))

pub effect : (r : Roster) (own : ℕ) (s : State) → Effect r own s (conclude r own s)
unfolding conclude
effect r own s = go (reaches s.reported (quorum r)) (eqb (length (proposed r s)) 0) refl refl
  where
    go : (a b : Bool) → reaches s.reported (quorum r) ≡ a → eqb (length (proposed r s)) 0 ≡ b → Effect r own s (conclude r own s)
    go false b p q = rw p (stores p)
    go true true p q = rw (p, q) (ends p (no_commands (proposed r s) q))
    go true false p q =
        let some = eqb-false (length (proposed r s)) 0 q in
        rw (p, q) (proposes p (omega (arith, some)))

-- what holds of a refusal, and of each reply to an accepted frame, holds of what a step replies
module _ {r : Roster} {own room : ℕ} {s : State} {line : List ℕ} (P : Reply State → Type 0)
    (on-refusal : (e : Refusal) → P (refuse s e))
    (on_store : Reports r own room s line → P (accept (reporting s (received line)) silent))
    (on-p2a : Reports r own room s line → reaches (reporting s (received line)).reported (quorum r) ≡ true
    → 0 < length (proposed r (reporting s (received line)))
    → P
    (accept (concluded r (reporting s (received line)))
    (sends (p2a own s.view s.ballot (proposed r (reporting s (received line)))))))
    (on-end : Reports r own room s line → proposed r (reporting s (received line)) ≡ []
    → P (accept (concluded r (reporting s (received line))) silent))
    (on-append : Requests r own room s line → P (accept (waiting s (appended (pending_of s) (first (received line)))) silent))
    (on-elect : Elects r own room s line → P (accept (in_view s (received line).view) silent)) where
  on_report : Reports r own room s line → {o : Reply State} → Effect r own (reporting s (received line)) o → P o
  on_report a (stores p) = on_store a
  on_report a (proposes p q) = on-p2a a p q
  on_report a (ends p q) = on-end a q

  pub replies : Stepped r own room s line → P (step r own room s line)
  replies (refuses e g o) = rw o (on-refusal e)
  replies (reports a) = subst P (sym a.outcome) (on_report a (effect r own (reporting s (received line))))
  replies (requests a) = subst P (sym a.outcome) (on-append a)
  replies (elects a) = subst P (sym a.outcome) (on-elect a)

-- what holds of a refusal and of the reply to an accepted opening holds of what an opening replies
module _ {r : Roster} {own room : ℕ} {s : State} {ballot : Ballot} {fast : ℕ} (P : Reply State → Type 0)
    (on-refusal : (e : Refusal) → P (refuse s e))
    (on-opening : Opens r own room s ballot fast → P (accept (in_ballot s ballot fast) (sends (invitation own s.view ballot fast)))) where
  pub opening_replies : Opened r own room s ballot fast → P (opening r own room s ballot fast)
  opening_replies (stays e g o) = rw o (on-refusal e)
  opening_replies (opens a) = subst P (sym a.outcome) (on-opening a)

-- ---- what CONFIG lets pass

-- pending commands that may be lent
pub record Pending (limit : ℕ) (p : History) : Type 0 where
  pub count_le : p.count ≤ limit
  pub right : all_valid (commands p) ≡ true
  pub distinct : repeated (commands p) ≡ false

pub pending_is : (limit : ℕ) (p : History) → valid_pending limit p ≡ true → Pending limit p
unfolding valid_pending
pending_is limit p e =
    let rest = and_right (leb p.count limit) _ e in
    record {
      count_le = leb-true p.count limit (and_left (leb p.count limit) _ e);
      right = and_left (all_valid (commands p)) _ rest;
      distinct = not-true (repeated (commands p)) (and_right (all_valid (commands p)) _ rest);
    }

pub is_pending : (limit : ℕ) (p : History) → Pending limit p → valid_pending limit p ≡ true
unfolding valid_pending
is_pending limit p c = rw (le-leb p.count limit c.count_le, c.right, c.distinct)

-- there are no more of them than the limit
pub pending_length : (limit : ℕ) (p : History) → valid_pending limit p ≡ true → length (commands p) ≤ limit
pending_length limit p e = rw length-take (omega (arith, (pending_is limit p e).count_le))

-- valid commands within a limit that the words hold, no proposer and serial twice, may be lent
pub pending_stored : (limit : ℕ) (h : List ℕ) → limit ≤ capacity → length h ≤ limit → all_valid h ≡ true → repeated h ≡ false
    → valid_pending limit (stored h) ≡ true
pending_stored limit h c l a u =
    let whole = commands_stored h (omega arith) in
    is_pending limit (stored h) (record { count_le = omega arith; right = rw whole a; distinct = rw whole u })

-- a state that may be lent, for n sites
pub record Lendable (n : ℕ) (s : State) : Type 0 where
  pub pending_valid_lem : valid_pending limit s.pending ≡ true
  pub inside : beyond s.reported n ≡ false
  pub proven_valid : valid_table limit n s.proven ≡ true
  pub held_valid : valid_table limit n s.held ≡ true

pub record Configured (r : Roster) (own room : ℕ) (s : State) : Type 0 where
  pub seat : seated r own room ≡ true
  pub lent : Lendable r.n s

pub configured_is : (r : Roster) (own room : ℕ) (s : State) → config r own room s ≡ false → Configured r own room s
unfolding config
configured_is r own room s e =
    let outside = not (beyond s.reported r.n) in
    let a = not-false (seated r own room && _) e in
    let b = and_right (seated r own room) _ a in
    let c = and_right (valid_pending limit s.pending) _ b in
    let d = and_right outside _ c in
    record {
      seat = and_left (seated r own room) _ a;
      lent = record {
        pending_valid_lem = and_left (valid_pending limit s.pending) _ b;
        inside = not-true (beyond s.reported r.n) (and_left outside _ c);
        proven_valid = and_left (valid_table limit r.n s.proven) _ d;
        held_valid = and_right (valid_table limit r.n s.proven) _ d;
      };
    }

pub is_configured : (r : Roster) (own room : ℕ) (s : State) → Configured r own room s → config r own room s ≡ false
unfolding config
is_configured r own room s c =
    rw (c.seat, c.lent.pending_valid_lem, c.lent.inside, c.lent.proven_valid, c.lent.held_valid)

-- ---- the frame that was read

-- a line carries at most 32 commands in each list
pub first_short : (line : List ℕ) → length (first (received line)) ≤ limit
first_short line = rw length-take (omega (arith, read_n limit line taken))

pub second_short : (line : List ℕ) → length (second (received line)) ≤ limit
second_short line = rw length-take (omega (arith, read_m limit line taken))

-- right commands in order are a valid history
in_order_lem : (h : List ℕ) → wrong h ≡ false → disordered h ≡ false → valid_history h ≡ true
in_order_lem h p q = parts_valid (not_disordered h (right_commands h p) q)

module _ {r : Roster} {own room : ℕ} {s : State} {line : List ℕ} (a : Reports r own room s line) where
  -- the histories of an accepted P1B are valid
  pub first_valid : valid_history (first (received line)) ≡ true
  first_valid =
      let h = first (received line) in
      in_order_lem h (or_left (wrong h) _ a.right) (or_left (disordered h) _ a.proper)

  pub second_valid : valid_history (second (received line)) ≡ true
  second_valid =
      let h = first (received line) in
      in_order_lem (second (received line)) (or_right (wrong h) _ a.right) (or_right (disordered h) _ a.proper)

  -- so its report leaves a state that may be lent
  pub report_lendable : Lendable r.n (reporting s (received line))
  report_lendable =
      let m = received line in
      let site = leb-false r.n m.sender a.from_site in
      let c = (configured_is r own room s a.configured).lent in
      record {
        pending_valid_lem = c.pending_valid_lem;
        inside = with_inside r.n s.reported m.sender site c.inside;
        proven_valid = valid_stored_lem limit r.n s.proven m.sender (first m) (first_short line) c.proven_valid site first_valid;
        held_valid = valid_stored_lem limit r.n s.held m.sender (second m) (second_short line) c.held_valid site second_valid;
      }

-- the commands of an accepted PROPOSE leave no more pending than the limit
pub request_fits : {r : Roster} {own room : ℕ} {s : State} {line : List ℕ} → Requests r own room s line
    → length (appended (pending_of s) (first (received line))) ≤ limit
unfolding overflows
request_fits a = ltb-false limit _ a.fits

-- ---- the reports

module _ (s : State) (m : Frame) where
  -- once a P1B is stored, its site's report in a table is the history that was stored there
  pub report_new : (t : Table) (h : List ℕ) → Sized t → m.sender < sites → length h ≤ limit
      → report_in (reporting s m) (stored_at t m.sender h) m.sender ≡ h
  report_new t h z p l =
      let u = stored_at t m.sender h in
      report_marked u.words u.counts (reporting s m).reported m.sender (with_bit_same s.reported m.sender p)
      ∙ row_stored z m.sender h p l

  -- and each other site's is as before
  pub report_other : (t : Table) (h : List ℕ) (i : ℕ) → i ≢ m.sender → report_in (reporting s m) (stored_at t m.sender h) i ≡ report_in s t i
  unfolding report
  report_other t h i n =
      rw (with_bit_other s.reported m.sender i (λ e. n (sym e)), row_stored_other t m.sender h i n)

-- so the two histories of an accepted P1B are its site's report
module _ {r : Roster} {own room : ℕ} {s : State} {line : List ℕ} (a : Reports r own room s line) where
  sender_below : (received line).sender < sites
  sender_below =
      let seat = seated_is r own room (configured_is r own room s a.configured).seat in
      omega (arith, leb-false r.n (received line).sender a.from_site, (valid_figures r seat.roster).max_sites)

  pub report_proven : Sized s.proven
      → report_in (reporting s (received line)) (reporting s (received line)).proven (received line).sender ≡ first (received line)
  report_proven z = report_new s (received line) s.proven (first (received line)) z sender_below (first_short line)

  pub report_held : Sized s.held
      → report_in (reporting s (received line)) (reporting s (received line)).held (received line).sender ≡ second (received line)
  report_held z = report_new s (received line) s.held (second (received line)) z sender_below (second_short line)

-- ---- the proposal

-- "the longest proven history (of equals, the lowest site's)" of the reports
abbrev pub chosen : Roster → State → List ℕ
chosen r s = longest_to r.n (report_in s s.proven)

pub chosen_is : (r : Roster) (s : State) → Longest r.n (report_in s s.proven) (chosen r s)
chosen_is r s = longest_is r.n (report_in s s.proven)

-- whatever the state: the proposal extends that history
pub proposal_extends_chosen : (r : Roster) (s : State) → Extends (proposed r s) (chosen r s)
unfolding proposed
proposal_extends_chosen r s =
    proposal_extends limit r.n (report_in s s.proven) (report_in s s.held) (pending_of s)
    (longest_short r.n s.proven.words s.proven.counts s.reported)

-- and has at most 32 commands
pub proposed_short : (r : Roster) (s : State) → length (proposed r s) ≤ limit
unfolding proposed
proposed_short r s = proposals.proposal_short limit r.n (report_in s s.proven) (report_in s s.held) (pending_of s)

-- every report in a valid table is a valid history
reports_valid : (n : ℕ) (s : State) (t : Table) → n ≤ sites → valid_table limit n t ≡ true → (i : ℕ) → i < n → valid_history (report_in s t i) ≡ true
reports_valid n s t l e i p =
    report_keeps t.words t.counts s.reported i (λ h. valid_history h ≡ true) valid_nil (valid_history_lem limit n t e i (omega arith))

-- of a state that may be lent, it is a valid history
pub proposal_valid_of : (r : Roster) (s : State) → r.n ≤ sites → Lendable r.n s → valid_history (proposed r s) ≡ true
unfolding proposed
proposal_valid_of r s l c =
    proposal_valid limit r.n (report_in s s.proven) (report_in s s.held) (pending_of s) (reports_valid r.n s s.proven l c.proven_valid)
    (λ i p. (valid_parts _ (reports_valid r.n s s.held l c.held_valid i p)).commands) (pending_is limit s.pending c.pending_valid_lem).right

-- so after an accepted P1B
pub proposal_history : {r : Roster} {own room : ℕ} {s : State} {line : List ℕ} → Reports r own room s line
    → valid_history (proposed r (reporting s (received line))) ≡ true
proposal_history {r} {own} {room} {s} {line} a =
    let seat = seated_is r own room (configured_is r own room s a.configured).seat in
    proposal_valid_of r (reporting s (received line)) (valid_figures r seat.roster).max_sites (report_lendable a)

-- ---- what stays pending

-- a command after a call: it is pending, or the history of the frame that is sent holds it
pub data NotLost (c : ℕ) (o : Reply State) : Type 0 where
  waits : holds (pending_of o.state) c ≡ true → NotLost c o
  goes : {m : Frame} → o.sending ≡ sends m → holds (first m) c ≡ true → NotLost c o

-- the history of a P2A is the proposal
pub p2a_carries : (r : Roster) (own : ℕ) (s : State) → first (p2a own s.view s.ballot (proposed r s)) ≡ proposed r s
p2a_carries r own s = first_is (proposed r s) (omega (arith, proposed_short r s))

-- what stays pending after a proposal is stored whole
remaining_stored : (r : Roster) (own room : ℕ) (s : State) (h : List ℕ) → config r own room s ≡ false
    → commands (stored (remaining (pending_of s) h)) ≡ remaining (pending_of s) h
remaining_stored r own room s h p =
    let short = pending_length limit s.pending (configured_is r own room s p).lent.pending_valid_lem in
    commands_stored (remaining (pending_of s) h) (omega (arith, remaining_short (pending_of s) h))

module _ {r : Roster} {own room : ℕ} {s : State} {line : List ℕ} (c : ℕ) (e : holds (pending_of s) c ≡ true) (a : Reports r own room s line) where
  -- a proposal takes it along or leaves it
  on_proposal : NotLost c
      (accept (concluded r (reporting s (received line))) (sends (p2a own s.view s.ballot (proposed r (reporting s (received line))))))
  on_proposal =
      let t = reporting s (received line) in
      ⊎_elim (λ p. goes refl (rw (p2a_carries r own t) p)) (λ p. waits (rw (remaining_stored r own room s (proposed r t) a.configured) p))
      (or_either (holds (proposed r t) c) _ (kept_or_proposed (pending_of s) (proposed r t) c e))

  -- an empty one leaves it
  on_nothing : proposed r (reporting s (received line)) ≡ [] → NotLost c (accept (concluded r (reporting s (received line))) silent)
  unfolding holds
  on_nothing p = waits (rw (p, remaining_stored r own room s [] a.configured, remaining_holds (pending_of s) [] c, e))

-- nothing that is pending is lost, whatever the state and the line
pub nothing_lost : (r : Roster) (own room : ℕ) (s : State) (line : List ℕ) (c : ℕ) → holds (pending_of s) c ≡ true → NotLost c (step r own room s line)
nothing_lost r own room s line c e =
    let h = first (received line) in
    replies (NotLost c) (λ _. waits e) (λ a. waits e) (λ a p q. on_proposal c e a) (λ a p. on_nothing c e a p)
    (λ a. waits (rw (commands_stored (appended (pending_of s) h) (request_fits a)) (appended_holds (pending_of s) h c e))) (λ a. waits e)
    (stepped r own room s line)

-- an opening keeps what is pending
pub opening_pending : (r : Roster) (own room : ℕ) (s : State) (ballot : Ballot) (fast : ℕ)
    → (opening r own room s ballot fast).state.pending ≡ s.pending
opening_pending r own room s ballot fast =
    opening_replies (λ o. o.state.pending ≡ s.pending) (λ _. refl) (λ a. refl) (opened r own room s ballot fast)

-- ---- views, ballots and reports

-- the view never falls
pub view_rises : (r : Roster) (own room : ℕ) (s : State) (line : List ℕ) → s.view.0 ≤ (step r own room s line).state.view.0
unfolding leads
view_rises r own room s line =
    let m = received line in
    let same = le_refl s.view.0 in
    replies (λ o. s.view.0 ≤ o.state.view.0) (λ _. same) (λ a. same) (λ a p q. same) (λ a p. same) (λ a. same)
    (λ a.
    le_of_lt
    (ltb-true s.view.0 m.view.0
    (and_right (eqb (leader_of r m.view) own) _ (not-false (leads r own s m.view) a.timely))))
    (stepped r own room s line)

-- a step keeps the ballot
pub ballot_stays : (r : Roster) (own room : ℕ) (s : State) (line : List ℕ) → (step r own room s line).state.ballot ≡ s.ballot
ballot_stays r own room s line =
    replies (λ o. o.state.ballot ≡ s.ballot) (λ _. refl) (λ a. refl) (λ a p q. refl) (λ a p. refl) (λ a. refl) (λ a. refl)
    (stepped r own room s line)

-- within a ballot, a site that reported stays one
pub reported_grows : (r : Roster) (own room : ℕ) (s : State) (line : List ℕ) (i : ℕ) → bit s.reported i ≡ true
    → bit (step r own room s line).state.reported i ≡ true
reported_grows r own room s line i e =
    let more = with_keeps s.reported (received line).sender i e in
    replies (λ o. bit o.state.reported i ≡ true) (λ _. e) (λ a. more) (λ a p q. more) (λ a p. more) (λ a. e) (λ a. e) (stepped r own room s line)

module _ (r : Roster) (own room : ℕ) (s : State) (ballot : Ballot) (fast : ℕ) where
  -- an opening keeps the view
  pub view_stays : (opening r own room s ballot fast).state.view ≡ s.view
  view_stays = opening_replies (λ o. o.state.view ≡ s.view) (λ _. refl) (λ a. refl) (opened r own room s ballot fast)

  above : Opens r own room s ballot fast → s.ballot.0 < ballot.0
  unfolding may_open
  above a =
      ltb-true s.ballot.0 ballot.0 (and_left (later_ballot ballot s.ballot) _ (not-false (may_open r own s ballot) a.timely))

  -- the ballot never falls
  pub ballot_rises : s.ballot.0 ≤ (opening r own room s ballot fast).state.ballot.0
  ballot_rises =
      opening_replies (λ o. s.ballot.0 ≤ o.state.ballot.0) (λ _. le_refl s.ballot.0) (λ a. le_of_lt (above a))
      (opened r own room s ballot fast)

  -- and an accepted opening raises it
  pub opening_raises : (opening r own room s ballot fast).answer ≡ Accepted → s.ballot.0 < (opening r own room s ballot fast).state.ballot.0
  opening_raises =
      opening_replies (λ o. o.answer ≡ Accepted → s.ballot.0 < o.state.ballot.0) (λ e h. absurd (accepted_not_refused (sym h))) (λ a h. above a)
      (opened r own room s ballot fast)

-- ---- the frames that are sent

-- a P2A from `own` with the proposal of state s, which has reports of a quorum and something to propose
pub record IsP2A (r : Roster) (own : ℕ) (s : State) (m : Frame) : Type 0 where
  pub kind : m.kind ≡ 5
  pub sender : m.sender ≡ own
  pub view : m.view ≡ s.view
  pub ballot : m.ballot ≡ s.ballot
  pub history : first m ≡ proposed r s
  pub complete : reaches s.reported (quorum r) ≡ true
  pub some : 0 < length (proposed r s)

-- each frame that a step sends is one, of the state with the report that came
pub sends_message : (r : Roster) (own room : ℕ) (s : State) (line : List ℕ) {m : Frame} → (step r own room s line).sending ≡ sends m
    → IsP2A r own (reporting s (received line)) m
sends_message r own room s line {m} h =
    let t = reporting s (received line) in
    replies (λ o. o.sending ≡ sends m → IsP2A r own t m) (λ _ g. absurd (silent_sends g)) (λ a g. absurd (silent_sends g))
    (λ a p q g.
    subst (IsP2A r own t) (sends_same g)
    (record { kind = refl; sender = refl; view = refl; ballot = refl; history = p2a_carries r own t; complete = p; some = q }))
    (λ a p g. absurd (silent_sends g)) (λ a g. absurd (silent_sends g)) (λ a g. absurd (silent_sends g)) (stepped r own room s line) h

-- so its history extends the longest that is proven in the reports
pub sends_extends : (r : Roster) (own room : ℕ) (s : State) (line : List ℕ) {m : Frame} → (step r own room s line).sending ≡ sends m
    → Extends (first m) (chosen r (reporting s (received line)))
sends_extends r own room s line h =
    let t = reporting s (received line) in
    subst (λ g. Extends g (chosen r t)) (sym (sends_message r own room s line h).history) (proposal_extends_chosen r t)

-- and is a valid one
pub sends_history : (r : Roster) (own room : ℕ) (s : State) (line : List ℕ) {m : Frame} → (step r own room s line).sending ≡ sends m
    → valid_history (first m) ≡ true
sends_history r own room s line {m} h =
    replies (λ o. o.sending ≡ sends m → valid_history (first m) ≡ true) (λ _ g. absurd (silent_sends g)) (λ a g. absurd (silent_sends g))
    (λ a p q g. rw (sends_message r own room s line h).history (proposal_history a)) (λ a p g. absurd (silent_sends g))
    (λ a g. absurd (silent_sends g)) (λ a g. absurd (silent_sends g)) (stepped r own room s line) h

-- a P1A or FAST from `own` of this ballot
pub record Invitation (own : ℕ) (s : State) (ballot : Ballot) (m : Frame) : Type 0 where
  pub kind : (m.kind ≡ 1) ⊎ (m.kind ≡ 2)
  pub sender : m.sender ≡ own
  pub view : m.view ≡ s.view
  pub ballot_is : m.ballot ≡ ballot

-- each frame that an opening sends is one
pub opening_sends : (r : Roster) (own room : ℕ) (s : State) (ballot : Ballot) (fast : ℕ) {m : Frame}
    → (opening r own room s ballot fast).sending ≡ sends m → Invitation own s ballot m
opening_sends r own room s ballot fast {m} h =
    opening_replies (λ o. o.sending ≡ sends m → Invitation own s ballot m) (λ _ g. absurd (silent_sends g))
    (λ a g. subst (Invitation own s ballot) (sends_same g) (record { kind = kinds (is_set fast); sender = refl; view = refl; ballot_is = refl }))
    (opened r own room s ballot fast) h
  where
    kinds : (b : Bool) → (◌≡◌ {A = ℕ} (cond b 2 1) 1) ⊎ (◌≡◌ {A = ℕ} (cond b 2 1) 2)
    kinds true = inr refl
    kinds false = inl refl

-- ---- one proposal a ballot

-- a P1B is accepted before N-f came only
report_awaited : {r : Roster} {own room : ℕ} {s : State} {line : List ℕ} → Reports r own room s line → reaches s.reported (quorum r) ≡ false
unfolding awaited
report_awaited {r} {s = s} {line} a =
    let m = received line in
    let open-now = not-false (awaited r s m.ballot m.sender) a.timely in
    let of-ballot = and_right (is_set s.classic) _ open-now in
    let first-time = and_right (same_ballot m.ballot s.ballot) _ of-ballot in
    not-true (reaches s.reported (quorum r)) (and_right (not (bit s.reported m.sender)) _ first-time)

-- a step that sends leaves the reports of a quorum
pub sends_completes : (r : Roster) (own room : ℕ) (s : State) (line : List ℕ) {m : Frame} → (step r own room s line).sending ≡ sends m
    → reaches (step r own room s line).state.reported (quorum r) ≡ true
sends_completes r own room s line {m} h =
    replies (λ o. o.sending ≡ sends m → reaches o.state.reported (quorum r) ≡ true) (λ _ g. absurd (silent_sends g))
    (λ a g. absurd (silent_sends g)) (λ a p q g. p) (λ a p g. absurd (silent_sends g)) (λ a g. absurd (silent_sends g)) (λ a g. absurd (silent_sends g)) (stepped r own room s line) h

module _ (r : Roster) (own room : ℕ) (s : State) (line : List ℕ) (e : reaches s.reported (quorum r) ≡ true) where
  -- with them, no step sends
  pub quorum_silent : (step r own room s line).sending ≡ silent
  quorum_silent =
      replies (λ o. o.sending ≡ silent) (λ _. refl) (λ a. refl) (λ a p q. absurd (true≢false (sym e ∙ report_awaited a))) (λ a p. refl) (λ a. refl)
      (λ a. refl) (stepped r own room s line)

  -- and they stay as they are until a ballot is opened
  pub quorum_stays : (step r own room s line).state.reported ≡ s.reported
  quorum_stays =
      let late : Reports r own room s line → (reporting s (received line)).reported ≡ s.reported = λ a.
      absurd (true≢false (sym e ∙ report_awaited a)) in
      replies (λ o. o.state.reported ≡ s.reported) (λ _. refl) (λ a. late a) (λ a p q. late a) (λ a p. late a) (λ a. refl) (λ a. refl)
      (stepped r own room s line)

-- One step of the learner: what holds of an accepted vote, and what the state keeps.
use Rattle.std.specs.Prelude.{◌≡◌, refl, true, false, ◌&&◌, List, ℕ, ◌≤◌, ◌<◌, eqb, length}
use Rattle.std.proofs.Common.{sym, ap, ◌∙◌, subst, true≢false, arith, le-leb, leb-false, ne_eqb, lit<, length-take}
use Rattle.std.proofs.Math.Logic.{⊎_elim}
use Rattle.std.specs.Bool.{beq}
use Rattle.std.proofs.Math.Decide.{ℕ_discrete}
use Rattle.std.proofs.lemmas.Bool.{not-false}
use Rattle.basics.specs.Bools.{lt_or_le, true_or_false, and_left, and_right, beq_true}
use Rattle.roster.specs.declared.Roster.{Roster}
use Rattle.roster.specs.Roster.{valid_roster, quorum}
use Rattle.roster.specs.RosterLaws.{valid_figures}
use Rattle.roster.specs.Mask.{bit}
use Rattle.roster.specs.MaskLaws.{bit_out}
use Rattle.roster.specs.Sites.{count_to, all_to}
use Rattle.roster.specs.SitesLaws.{all_each}
use Rattle.command.specs.Command.{all_valid, wrong}
use Rattle.history.specs.declared.History.{History as Stored}
use Rattle.history.specs.History.{Extends, extends, valid_history}
use Rattle.history.specs.ExtensionLaws.{extends_refl, extends_sound}
use Rattle.history.specs.ValidLaws.{ValidHistory, valid_parts, parts_valid, not_improper, proper_some}
use Rattle.history.specs.Words.{limit, commands, valid_stored}
use Rattle.history.specs.WordsLaws.{commands_stored, stored_valid, valid_stored_history, valid_stored_length}
use Rattle.merge.specs.Merged.{Merged}
use Rattle.merge.specs.Merged.{merged}
use Rattle.merge.specs.MergeLaws.{is_merge_valid}
use Rattle.merge.specs.MergedLaws.{Answers, is_split, is_full, is_found, merged_answers}
use Rattle.table.specs.declared.Table.{Table}
use Rattle.table.specs.Table.{sites, row_of, stored_at, valid_table}
use Rattle.table.specs.TableLaws.{Sized, stored_sized, row_stored, row_stored_other}
use Rattle.table.specs.ValidLaws.{valid_stored_lem}
use Rattle.content.specs.Content.{contradicts}
use Rattle.refusal.specs.declared.Refusal.TheVariants.{Config, Form, Sender, Stale, Proof, Command, History as Improper, Contradiction, Split, Full}
use Rattle.refusal.specs.Rules.{judged}
use Rattle.refusal.specs.Order.{in_order, follows}
use Rattle.refusal.specs.JudgedLaws.{NoneHolds, Judgement, refused, accepts, judgement, test_of, no_test}
use Rattle.frame.specs.Format.{reading_of, malformed}
use Rattle.frame.specs.FormatLaws.{found_n}
use Rattle.learner.specs.declared.State.{State}
use Rattle.learner.specs.Learner.{
  config,
  taken,
  form,
  vote,
  arrived,
  with_vote,
  supporters,
  claimed,
  claims,
  further,
  merging,
  merge_of,
  after,
  accepted,
  refuse,
  rules,
  step,
}
use Rattle.learner.specs.StepLaws.{Accepts, Stepped, refuses, accepting, Sound, Arrived, Learned, Advance}

-- ---- the outcome of a step

pub stepped : (r : Roster) (s : State) (line : List ℕ) → Stepped r s line
unfolding step test_of
stepped r s line = go (judgement (refuse s) (accepted r s (vote line).sender (arrived (vote line))) (rules r s line))
  where
    none : NoneHolds (rules r s line) → step r s line ≡ accepted r s (vote line).sender (arrived (vote line)) → Accepts r s line
    none n o =
        record {
          configured = no_test n Config;
          framed = no_test n Form;
          from_site = no_test n Sender;
          balloted = no_test n Stale;
          proven = no_test n Proof;
          right = no_test n Command;
          proper = no_test n Improper;
          agrees = no_test n Contradiction;
          joins = no_test n Split;
          fits = no_test n Full;
          outcome = o;
        }

    go : Judgement (refuse s) (accepted r s (vote line).sender (arrived (vote line))) (rules r s line) → Stepped r s line
    go (refused e g o) = refuses e g o
    go (accepts n o) = accepting (none n o)

-- "Checks run in this order": the rules follow the order of the table of refusals
pub rules_follow : (r : Roster) (s : State) (line : List ℕ) → follows in_order (rules r s line) ≡ true
unfolding follows
rules_follow r s line = refl

-- ---- what the learner keeps

pub config_sound : {r : Roster} {s : State} → Sized s.entries → config r s ≡ false → Sound r s
unfolding config
config_sound {r} {s} z e =
    let whole = not-false (valid_roster r && (valid_table limit r.n s.entries && valid_stored limit s.learned)) e in
    let rest = and_right (valid_roster r) _ whole in
    record {
      sized = z;
      roster = and_left (valid_roster r) _ whole;
      entries = and_left (valid_table limit r.n s.entries) _ rest;
      learned = and_right (valid_table limit r.n s.entries) _ rest;
    }

-- a roster outside the figures is CONFIG in any state, and CONFIG comes before all else
pub roster_config : (r : Roster) (s : State) → valid_roster r ≡ false → config r s ≡ true
unfolding config
roster_config r s e = rw e

pub step_config : (r : Roster) (s : State) (line : List ℕ) → config r s ≡ true → step r s line ≡ refuse s Config
unfolding step judged
step_config r s line e = rw e

-- the learner takes P2B, kind 7, and no other
only_p2b : all_to 8 (λ k. beq (bit taken k) (eqb k 7)) ≡ true
unfolding all_to bit
only_p2b = refl

pub taken_is : (k : ℕ) → bit taken k ≡ eqb k 7
taken_is k =
    ⊎_elim (λ p. beq_true (bit taken k) (eqb k 7) (all_each 8 (λ i. beq (bit taken i) (eqb i 7)) only_p2b k p))
    (λ (p : 8 ≤ k). bit_out taken 8 k (lit< tt) p ∙ sym (ne_eqb k 7 (λ e. omega arith)))
    (lt_or_le k 8)

-- what the checks say of the arrived history

-- a line that FORM lets pass is a frame's, so its n is at most 32
pub vote_count : (line : List ℕ) → form line ≡ false → (vote line).n ≤ limit
unfolding malformed
vote_count line e = found_n limit line taken (not-false (reading_of limit line taken).found e)

pub arrived_is : {r : Roster} {s : State} {line : List ℕ} → Accepts r s line → Arrived (arrived (vote line))
unfolding wrong
arrived_is {line = line} a =
    let h = arrived (vote line) in
    record {
      valid = not_improper h (not-false (all_valid h) a.right) a.proper;
      some_command = proper_some h a.proper;
      short = rw length-take (omega (arith, vote_count line a.framed));
    }

pub sender_below : {r : Roster} {s : State} {line : List ℕ} → Accepts r s line → (vote line).sender < r.n
sender_below {r} {line = line} a = leb-false r.n (vote line).sender a.from_site

-- ---- the entries

-- where a history is stored, and where the entry stays
pub vote_stored : (t : Table) (site : ℕ) (h : List ℕ) → extends h (row_of t site) ≡ true → with_vote t site h ≡ stored_at t site h
unfolding with_vote
vote_stored t site h e = rw e

pub vote_stays : (t : Table) (site : ℕ) (h : List ℕ) → extends h (row_of t site) ≡ false → with_vote t site h ≡ t
unfolding with_vote
vote_stays t site h e = rw e

module _ {t : Table} (z : Sized t) (site : ℕ) (h : List ℕ) (inside : site < sites) (short : length h ≤ limit) where
  -- the sender's entry then extends the arrived history
  pub vote_enters : contradicts (row_of t site) h ≡ false → Extends (row_of (with_vote t site h) site) h
  unfolding contradicts
  vote_enters e =
      ⊎_elim (λ p. rw (vote_stored t site h p, row_stored z site h inside short) (extends_refl h))
      (λ p. rw (vote_stays t site h p) (extends_sound (row_of t site) h (not-false (extends (row_of t site) h) (rw p at e))))
      (true_or_false (extends h (row_of t site)))

  -- each entry then extends what it was
  pub vote_grows : (i : ℕ) → Extends (row_of (with_vote t site h) i) (row_of t i)
  vote_grows i =
      ⊎_elim (λ p. rw (vote_stored t site h p) (stored_grows p (ℕ_discrete i site)))
      (λ p. rw (vote_stays t site h p) (extends_refl (row_of t i)))
      (true_or_false (extends h (row_of t site)))
    where
      stored_grows : extends h (row_of t site) ≡ true → Dec (i ≡ site) → Extends (row_of (stored_at t site h) i) (row_of t i)
      stored_grows p (yes e) = rw (e, row_stored z site h inside short) (extends_sound h (row_of t site) p)
      stored_grows p (no n) = rw (row_stored_other t site h i n) (extends_refl (row_of t i))

  pub vote_sized : Sized (with_vote t site h)
  vote_sized =
      ⊎_elim (λ p. rw (vote_stored t site h p) (stored_sized z site h)) (λ p. rw (vote_stays t site h p) z) (true_or_false (extends h (row_of t site)))

  pub vote_valid : (n : ℕ) → valid_table limit n t ≡ true → site < n → valid_history h ≡ true → valid_table limit n (with_vote t site h) ≡ true
  vote_valid n v q w =
      ⊎_elim (λ p. rw (vote_stored t site h p) (valid_stored_lem limit n t site h short v q w)) (λ p. rw (vote_stays t site h p) v)
      (true_or_false (extends h (row_of t site)))

-- ---- what is learned

learned_merge : (g h : List ℕ) → ValidHistory g → length g ≤ limit → Arrived h → (merged limit g h).split ≡ false → (merged limit g h).full ≡ false
    → Learned g h (merged limit g h)
learned_merge g h p q a x y = go (merged_answers limit g h q a.short a.valid.distinct)
  where
    go : Answers limit g h → Learned g h (merged limit g h)
    go (is_split e n) = absurd (true≢false (sym (ap (λ (m : Merged). m.split) e) ∙ x))
    go (is_full e m n) = absurd (true≢false (sym (ap (λ (m : Merged). m.full) e) ∙ y))
    go (is_found {m = m} e k n) =
        rw e
        (record {
          grown = rw (commands_stored m n) k.common.left;
          holds = rw (commands_stored m n) k.common.right;
          valid = stored_valid limit m n n (parts_valid (is_merge_valid p a.valid k));
        })

-- the merge of what is learned and the claims: that with the arrived history where it is claimed, else what is learned
module _ (r : Roster) (t : Table) (s : State) (h : List ℕ) where
  pub merge_claimed : claimed r t h ≡ true → merge_of r t s h ≡ merged limit (commands s.learned) h
  unfolding claims merging further
  merge_claimed e = rw e

  pub merge_unclaimed : claimed r t h ≡ false → merge_of r t s h ≡ record { split = false; full = false; history = s.learned }
  unfolding claims merging further
  merge_unclaimed e = rw e

-- the state after an accepted vote, of which t are the entries
module _ (r : Roster) (t : Table) (s : State) (h : List ℕ) (p : valid_stored limit s.learned ≡ true) (a : Arrived h)
    (x : (merge_of r t s h).split ≡ false) (y : (merge_of r t s h).full ≡ false) where
  claim_merged : claimed r t h ≡ true → Learned (commands s.learned) h (merge_of r t s h)
  claim_merged e =
      let l = commands s.learned in
      let m = merge_claimed r t s h e in
      subst (λ (k : Merged). Learned l h k) (sym m)
      (learned_merge l h (valid_parts l (valid_stored_history limit s.learned p)) (valid_stored_length limit s.learned p) a
      (sym (ap (λ (k : Merged). k.split) m) ∙ x) (sym (ap (λ (k : Merged). k.full) m) ∙ y))

  same_learned : claimed r t h ≡ false → (after r t s h).learned ≡ s.learned
  same_learned e = ap (λ (k : Merged). k.history) (merge_unclaimed r t s h e)

  pub after_grows : Extends (commands (after r t s h).learned) (commands s.learned)
  after_grows =
      ⊎_elim (λ e. (claim_merged e).grown)
      (λ e. subst (λ (l : Stored). Extends (commands l) (commands s.learned)) (sym (same_learned e)) (extends_refl (commands s.learned)))
      (true_or_false (claimed r t h))

  pub after_holds : claimed r t h ≡ true → Extends (commands (after r t s h).learned) h
  after_holds e = (claim_merged e).holds

  pub after_valid : valid_stored limit (after r t s h).learned ≡ true
  after_valid = ⊎_elim (λ e. (claim_merged e).valid) (λ e. ap (valid_stored limit) (same_learned e) ∙ p) (true_or_false (claimed r t h))

-- ---- one step

module _ {r : Roster} {s : State} (p : Sound r s) {line : List ℕ} (a : Accepts r s line) where
  in_table : (vote line).sender < sites
  in_table = omega (arith, sender_below a, (valid_figures r p.roster).max_sites)

  accepted_advance : Advance r s (after r (with_vote s.entries (vote line).sender (arrived (vote line))) s (arrived (vote line)))
  accepted_advance =
      let h = arrived (vote line) in
      let site = (vote line).sender in
      let t = with_vote s.entries site h in
      let v = arrived_is a in
      record {
        sound = record {
          sized = vote_sized p.sized site h in_table v.short;
          roster = p.roster;
          entries = vote_valid p.sized site h in_table v.short r.n p.entries (sender_below a) (parts_valid v.valid);
          learned = after_valid r t s h p.learned v a.joins a.fits;
        };
        entries_grow = λ i. vote_grows p.sized site h in_table v.short i;
        learned_grows = after_grows r t s h p.learned v a.joins a.fits;
      }

  -- an accepted vote leaves its site's entry extending it
  pub vote_entered : Extends (row_of (step r s line).state.entries (vote line).sender) (arrived (vote line))
  vote_entered =
      rw a.outcome
      (vote_enters p.sized (vote line).sender (arrived (vote line)) in_table (arrived_is a).short a.agrees)

  -- where the entries of N-f sites then extend it, what is learned does
  pub vote_learned : quorum r ≤ count_to r.n (λ i. extends (row_of (step r s line).state.entries i) (arrived (vote line)))
      → Extends (commands (step r s line).state.learned) (arrived (vote line))
  unfolding claimed supporters
  vote_learned q =
      let h = arrived (vote line) in
      let t = with_vote s.entries (vote line).sender h in
      rw a.outcome
      (after_holds r t s h p.learned (arrived_is a) a.joins a.fits (le-leb (quorum r) _ (rw a.outcome at q)))

pub step_advance : {r : Roster} {s : State} → Sound r s → (line : List ℕ) → Advance r s (step r s line).state
step_advance {r} {s} p line = go (stepped r s line)
  where
    still : Advance r s s
    still = record { sound = p; entries_grow = λ i. extends_refl (row_of s.entries i); learned_grows = extends_refl (commands s.learned) }

    go : Stepped r s line → Advance r s (step r s line).state
    go (refuses e g o) = rw o still
    go (accepting a) = rw a.outcome (accepted_advance p a)

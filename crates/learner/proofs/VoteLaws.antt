-- What a vote does to the entries and to what is learned, and what SPLIT means: the facts that agreement rests on.
use Rattle.std.specs.Prelude.{◌≡◌, refl, Bool, true, false, not, ◌&&◌, List, [], ◌∷◌, ◌++◌, ℕ, ◌≤◌, ◌<◌, eqb, length}
use Rattle.std.proofs.Common.{sym, ap, ◌∙◌, subst, true≢false, arith}
use Rattle.std.proofs.Math.Decide.{ℕ_discrete}
use borrow.Author.Tests.{leb-false, leb-true, eqb-true, eq-eqb, not-false}
use Rattle.std.proofs.Math.ListN.{length-take}
use Rattle.basics.specs.Bools.{and_left, and_right}
use Rattle.roster.specs.declared.Roster.{Roster}
use Rattle.roster.specs.Roster.{quorum}
use Rattle.command.specs.Command.{all_valid, wrong}
use Rattle.history.specs.History.{Least, extends}
use Rattle.history.specs.ValidLaws.{not_improper, proper_some}
use Rattle.history.specs.Words.{limit, commands}
use Rattle.history.specs.WordsLaws.{commands_stored, valid_stored_length}
use Rattle.merge.specs.Merged.{Merged}
use Rattle.merge.specs.MergedLaws.{Answers, is_split, is_full, is_found, merged_answers}
use Rattle.table.specs.declared.Table.{Table}
use Rattle.table.specs.Table.{sites, row_of}
use Rattle.table.specs.TableLaws.{Sized, row_stored, row_stored_other}
use Rattle.refusal.specs.declared.Refusal.{Refusal}
use Rattle.refusal.specs.declared.Refusal.TheVariants.{Form, Sender, Command, History as Improper, Split, Full}
use Rattle.refusal.specs.Refusal.{Refused}
use Rattle.refusal.specs.AnswerLaws.{accepted_not_refused, refused_same}
use Rattle.refusal.specs.Refusal.{number}
use Rattle.refusal.specs.Rules.{Rule, ◌gives◌}
use Rattle.refusal.specs.JudgedLaws.{NoneHolds, passed, pass, GivenFirst, at_once, behind, test_of, no_test}
use Rattle.frame.specs.declared.Frame.{Frame}
use Rattle.frame.specs.Format.{reading_of, is_line, frame_of, malformed}
use Rattle.frame.specs.FormatLaws.{found_line, found_taken, found_frame}
use Rattle.learner.specs.declared.State.{State}
use Rattle.learner.specs.declared.Outcome.{Outcome}
use Rattle.learner.specs.Learner.{taken, vote, arrived, with_vote, supporters, claimed, merge_of, merge_rules, early_rules, rules, step}
use Rattle.learner.specs.StepLaws.{Accepts, Stepped, refuses, accepting, Sound, Arrived}
use Rattle.learner.proofs.StepLaws.{stepped, taken_is, vote_count, vote_stored, vote_stays, merge_claimed, merge_unclaimed}
use Rattle.learner.specs.VoteLaws.{Heard, Entry, kept, entered, with_line, Backing, Learns, as_before, merges, Splits}

-- ---- a vote that is heard

pub accepted_heard : {r : Roster} {s : State} {line : List ℕ} → Accepts r s line → Heard r line
accepted_heard a = record { framed = a.framed; from_site = a.from_site; right = a.right; proper = a.proper }

module _ {r : Roster} {line : List ℕ} (a : Heard r line) where
  found : (reading_of limit line taken).found ≡ true
  unfolding malformed
  found = not-false (reading_of limit line taken).found a.framed

  -- it is a line, and the vote is its frame
  pub heard_line : is_line limit line ≡ true
  heard_line = found_line limit line taken found

  pub heard_frame : vote line ≡ frame_of line
  heard_frame = found_frame limit line taken found

  -- a P2B, from one of the sites
  pub heard_kind : (vote line).kind ≡ 7
  heard_kind = ap (λ (m : Frame). m.kind) heard_frame ∙ eqb-true (frame_of line).kind 7 (sym (taken_is (frame_of line).kind) ∙ found_taken limit line taken found)

  pub heard_sender : (vote line).sender < r.n
  heard_sender = leb-false r.n (vote line).sender a.from_site

  pub heard_arrived : Arrived (arrived (vote line))
  unfolding wrong
  heard_arrived =
      let h = arrived (vote line) in
      record {
        valid = not_improper h (not-false (all_valid h) a.right) a.proper;
        some_command = proper_some h a.proper;
        short = rw length-take (omega (arith, vote_count line a.framed));
      }

-- ---- the entries with a vote

pub entry_is : {t : Table} → Sized t → (site : ℕ) (h : List ℕ) → site < sites → length h ≤ limit → (i : ℕ) → Entry t site h i
entry_is {t} z site h p q i = go (extends h (row_of t site)) refl (ℕ_discrete site i)
  where
    go : (b : Bool) → extends h (row_of t site) ≡ b → Dec (site ≡ i) → Entry t site h i
    go false e d = kept (rw (vote_stays t site h e))
    go true e (yes d) = entered d (subst (λ (k : ℕ). row_of (with_vote t site h) k ≡ h) d (rw (vote_stored t site h e, row_stored z site h p q)))
    go true e (no n) = kept (rw (vote_stored t site h e, row_stored_other t site h i (λ d. n (sym d))))

claimed_backing : (r : Roster) (t : Table) (h : List ℕ) → claimed r t h ≡ true → Backing r t h
unfolding claimed supporters
claimed_backing r t h e = leb-true (quorum r) (supporters r t h) e

-- an accepted vote leaves these entries
pub accepted_entries : {r : Roster} {s : State} {line : List ℕ} → Accepts r s line → (step r s line).state.entries ≡ with_line s line
accepted_entries a = ap (λ (o : Outcome). o.state.entries) a.outcome

-- ---- what is learned

module _ {r : Roster} {s : State} (p : Sound r s) {line : List ℕ} (a : Heard r line) where
  -- the answer of the merge, and what it means
  merge_is : Answers limit (commands s.learned) (arrived (vote line))
  merge_is =
      let v = heard_arrived a in
      merged_answers limit (commands s.learned) (arrived (vote line)) (valid_stored_length limit s.learned p.learned) v.short v.valid.distinct

pub accepted_learns : {r : Roster} {s : State} {line : List ℕ} → Sound r s → Accepts r s line → Learns r s line
accepted_learns {r} {s} {line} p a = go (claimed r t h) refl (merge_is p (accepted_heard a))
  where
    t : Table
    t = with_line s line

    h : List ℕ
    h = arrived (vote line)

    learned_is : (step r s line).state.learned ≡ (merge_of r t s h).history
    learned_is = ap (λ (o : Outcome). o.state.learned) a.outcome

    go : (b : Bool) → claimed r t h ≡ b → Answers limit (commands s.learned) h → Learns r s line
    go false e m = as_before (learned_is ∙ ap (λ (m : Merged). m.history) (merge_unclaimed r t s h e))
    go true e (is_split x n) = absurd (true≢false (sym (ap (λ (m : Merged). m.split) (merge_claimed r t s h e ∙ x)) ∙ a.joins))
    go true e (is_full x m n) = absurd (true≢false (sym (ap (λ (m : Merged). m.full) (merge_claimed r t s h e ∙ x)) ∙ a.fits))
    go true e (is_found {m = m} x k n) = merges (claimed_backing r t h e) (subst (Least (commands s.learned) h) (sym whole) k.common)
      where
        whole : commands (step r s line).state.learned ≡ m
        whole = ap commands (learned_is ∙ ap (λ (m : Merged). m.history) (merge_claimed r t s h e ∙ x)) ∙ commands_stored m n

-- ---- SPLIT

full_only : {test : Bool} → GivenFirst Split (test gives Full ∷ []) → ⊥
full_only (behind e g) = given_none g
  where
    given_none : GivenFirst Split [] → ⊥
    given_none g = elim g [ ]

-- where rules give e and none of the first ones does, none of these holds, and those after them give it
gives_none : Refusal → List Rule → Bool
gives_none e [] = true
gives_none e (test gives r ∷ rules) = not (eqb (number e) (number r)) && gives_none e rules

later : (e : Refusal) (a b : List Rule) → gives_none e a ≡ true → GivenFirst e (a ++ b) → NoneHolds a × GivenFirst e b
unfolding gives_none
later e [] b n g = (passed, g)
later e (test gives r ∷ a) b n (at_once f) = absurd (true≢false (sym (and_left (not (eqb (number e) (number e))) _ n) ∙ ap not (eq-eqb (number e) (number e) refl)))
later e (test gives r ∷ a) b n (behind f g) =
    let x = later e a b (and_right (not (eqb (number e) (number r))) _ n) g in
    (pass f x.0, x.1)

-- SPLIT is given only there
pub split_is : {r : Roster} {s : State} (line : List ℕ) → Sound r s → (step r s line).answer ≡ Refused Split → Splits r s line
unfolding test_of gives_none
split_is {r} {s} line p e = go (stepped r s line)
  where
    h : List ℕ
    h = arrived (vote line)

    t : Table
    t = with_line s line

    splitting : Heard r line → (b : Bool) → claimed r t h ≡ b → (merge_of r t s h).split ≡ true → Answers limit (commands s.learned) h → Splits r s line
    splitting a false c x m = absurd (true≢false (sym x ∙ ap (λ (m : Merged). m.split) (merge_unclaimed r t s h c)))
    splitting a true c x (is_split y n) = record { heard = a; backing = claimed_backing r t h c; apart = n }
    splitting a true c x (is_full y k n) = absurd (true≢false (sym x ∙ ap (λ (m : Merged). m.split) (merge_claimed r t s h c ∙ y)))
    splitting a true c x (is_found y k n) = absurd (true≢false (sym x ∙ ap (λ (m : Merged). m.split) (merge_claimed r t s h c ∙ y)))

    first : {one other : Bool} → GivenFirst Split (one gives Split ∷ other gives Full ∷ []) → one ≡ true
    first (at_once f) = f
    first (behind f g) = absurd (full_only g)

    heard_by : NoneHolds (early_rules r s line) → Heard r line
    heard_by n = record { framed = no_test n Form; from_site = no_test n Sender; right = no_test n Command; proper = no_test n Improper }

    given : GivenFirst Split (rules r s line) → Splits r s line
    given g =
        let x = later Split (early_rules r s line) (merge_rules (merge_of r t s h)) refl g in
        let a = heard_by x.0 in
        splitting a (claimed r t h) refl (first x.1) (merge_is p a)

    go : Stepped r s line → Splits r s line
    go (refuses q g o) = given (subst (λ (x : Refusal). GivenFirst x (rules r s line)) (refused_same (sym (ap (λ (x : Outcome). x.answer) o) ∙ e)) g)
    go (accepting a) = absurd (accepted_not_refused (sym (ap (λ (x : Outcome). x.answer) a.outcome) ∙ e))

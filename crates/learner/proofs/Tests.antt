-- What the code's tests say in the words of the definitions.
use mathlib.Core.Path.{◌≡◌, refl, sym, ap, ◌∙◌, subst}
use mathlib.Core.Logic.{⊎_elim, ◌≢◌}
use mathlib.Core.Bool.{Bool, true, false, cond}
use mathlib.Core.List.{List, [], ◌∷◌, ◌++◌}
use Prim.Native.Nat.{ℕ, ◌≤◌}
use native.Mathlib.Omega.{arith}
use native.Mathlib.Decide.{ℕ_discrete}
use borrow.Author.Tests.{leb-false, eq-eqb, ne_eqb}
use lib.Dec.{leb}
use lib.ListN.{length, length-take}
use Rattle.std.specs.Prelude.{Option, Some}
use Rattle.basics.specs.Bools.{true_or_false}
use Rattle.roster.specs.declared.Roster.{Roster}
use Rattle.roster.specs.Roster.{quorum}
use Rattle.roster.specs.RosterLaws.{valid_figures}
use Rattle.roster.specs.Sites.{count_to}
use Rattle.roster.specs.SitesLaws.{count_cong}
use Rattle.history.specs.History.{extends}
use Rattle.history.specs.ExtensionLaws.{extends_complete}
use Rattle.history.specs.Words.{limit, extends_within}
use Rattle.history.specs.WordsLaws.{extends_within_lem}
use Rattle.history.specs.declared.History.{History}
use Rattle.merge.specs.declared.Unmerged.{Unmerged}
use Rattle.merge.specs.declared.Unmerged.TheVariants as Unmerged
use Rattle.merge.specs.Merged.{Merged, given}
use Rattle.std.specs.Prelude.{Ok, Err}
use Rattle.table.specs.declared.Table.{Table}
use Rattle.table.specs.Table.{row_of}
use Rattle.table.specs.TableLaws.{Sized, row_stored_other}
use Rattle.content.specs.ContentLaws as content
use Rattle.refusal.specs.declared.Refusal.{Refusal}
use Rattle.refusal.specs.declared.Refusal.TheVariants.{Config, Sender, Contradiction}
use Rattle.refusal.specs.Refusal.{Answer}
use Rattle.refusal.specs.Refusal.{Accepted, Refused}
use Rattle.refusal.specs.Refusal.{is_refused}
use Rattle.refusal.specs.Rules.{Rule, ◌gives◌, judged, answer}
use Rattle.refusal.specs.AnswerLaws.{stops, judged_refused, judged_accepted, answer_none}
use Rattle.refusal.specs.JudgedLaws.{NoneHolds, passed, pass, test_of, no_test}
use Rattle.frame.specs.declared.Heading.{Heading}
use Rattle.frame.specs.Format.{Reading}
use Rattle.frame.specs.Format.{reading_of, reading_with, frame_with, malformed}
use Rattle.frame.specs.FormatLaws.{read_n}
use Rattle.learner.specs.declared.State.{State}
use Rattle.learner.specs.declared.Outcome.{Outcome}
use Rattle.learner.specs.Learner.{
  taken,
  vote,
  arrived,
  with_vote,
  supporters,
  claimed,
  claims,
  merging,
  merge_of,
  accepted,
  refuse,
  merge_rules,
  rules,
  step,
}
use Rattle.learner.proofs.StepLaws.{config_sound, vote_enters, vote_stored, vote_stays}
use Rattle.learner.specs.Code.Vote.{checks, Passed, concluded, stands, refusal_of}

-- the code's test of extension, of a list of at most 64 commands
pub extends_is : (h g : List ℕ) (b : Bool) → length h ≤ 64 → b ≡ extends_within 64 h g → extends h g ≡ b
extends_is h g b p e = sym (extends_within_lem 64 h g p) ∙ sym e

-- ---- a vote for h that passed the checks up to its merge

-- it extends the sender's entry exactly if it is not shorter
pub newer_is : {t : Table} (site : ℕ) (h : List ℕ) → Passed t.words t.counts site h → (b : Bool) → leb (length (row_of t site)) (length h) ≡ b
    → extends h (row_of t site) ≡ b
newer_is {t} site h p = content.newer_is (row_of t site) h p.agrees

module _ {t : Table} (z : Sized t) (site : ℕ) (h : List ℕ) (p : Passed t.words t.counts site h) where
  -- once the vote is in, the sender's entry extends it
  sender_stands : extends (row_of (with_vote t site h) site) h ≡ true
  sender_stands = extends_complete (vote_enters z site h p.inside p.short p.agrees)

  -- the other entries stay
  other_row : (i : ℕ) → i ≢ site → row_of (with_vote t site h) i ≡ row_of t i
  other_row i n =
      ⊎_elim (λ e. rw (vote_stored t site h e) (row_stored_other t site h i n)) (λ e. rw (vote_stays t site h e)) (true_or_false (extends h (row_of t site)))

  stands_is : (i : ℕ) → stands t.words t.counts site h i ≡ extends (row_of (with_vote t site h) i) h
  stands_is i =
      elim (ℕ_discrete i site) [
        | yes e ↦ rw e (rw (eq-eqb site site refl, sender_stands))
        | no n ↦ rw (ne_eqb i site n, other_row i n)
      ]

  -- the code's count is that of the supporters
  pub standing_is : (r : Roster) → count_to r.n (stands t.words t.counts site h) ≡ supporters r (with_vote t site h) h
  unfolding supporters
  standing_is r = count_cong r.n _ _ (λ i l. stands_is i)

-- where the claim has no merge, its rules answer the refusal for that
pub unmerged_answer : (u : Unmerged) → Refused (refusal_of u) ≡ answer (merge_rules (given (Err u)))
unfolding judged
unmerged_answer Unmerged.Split = refl
unmerged_answer Unmerged.Full = refl

-- and where it has one, they refuse nothing
pub merged_answer : (l : History) → Accepted ≡ answer (merge_rules (given (Ok l)))
unfolding judged
merged_answer l = refl

-- its outcome: m is the merge, x what its checks answer, and b tells whether that refuses
module _ (r : Roster) (s : State) (z : Sized s.entries) (site : ℕ) (h : List ℕ) (p : Passed s.entries.words s.entries.counts site h) (k : ℕ)
    (e : k ≡ count_to r.n (stands s.entries.words s.entries.counts site h)) (m : Merged)
    (f : m ≡ merging s.learned (cond (leb (quorum r) k) (h ∷ []) [])) (x : Answer) (a : x ≡ answer (merge_rules m)) (b : Bool) (g : b ≡ is_refused x) where
  supported : k ≡ supporters r (with_vote s.entries site h) h
  supported = e ∙ standing_is z site h p r

  merge_is : m ≡ merge_of r (with_vote s.entries site h) s h
  unfolding claims claimed
  merge_is = f ∙ ap (λ (i : ℕ). merging s.learned (cond (leb (quorum r) i) (h ∷ []) [])) supported

  answer_is : x ≡ answer (merge_rules (merge_of r (with_vote s.entries site h) s h))
  answer_is = subst (λ (m : Merged). x ≡ answer (merge_rules m)) merge_is a

  pub concludes_refused : b ≡ true → record { answer = x; supporters = 0; state = s } ≡ concluded r s site h
  concludes_refused c =
      judged_refused (refuse s) (accepted r s site h) (merge_rules (merge_of r (with_vote s.entries site h) s h)) x answer_is (sym g ∙ c)
      (λ (y : Answer) (o : Outcome). record { answer = y; supporters = 0; state = s } ≡ o) (λ (q : Refusal). refl)

  pub concludes_accepted : b ≡ false → (t : Table) → t ≡ with_vote s.entries site h
      → record { answer = Accepted; supporters = k; state = record { entries = t; learned = m.history } } ≡ concluded r s site h
  concludes_accepted c t d =
      rw (d, merge_is, supported)
      (sym (judged_accepted (refuse s) (accepted r s site h) (merge_rules (merge_of r (with_vote s.entries site h) s h)) x answer_is (sym g ∙ c)))

-- ---- a line: head and w are what was read of it, x is the answer up to the merge, and b tells whether that refuses

-- where the first rules refuse nothing, those after them judge
judged_on : {A : Type 0} (refuse : Refusal → A) (accepted : A) (a b : List Rule) → NoneHolds a → judged refuse accepted (a ++ b) ≡ judged refuse accepted b
unfolding judged
judged_on refuse accepted [] b passed = refl
judged_on refuse accepted (test gives r ∷ a) b (pass f n) = rw f (judged_on refuse accepted a b n)

module _ (r : Roster) (s : State) (z : Sized s.entries) (line : List ℕ) (read : Option Heading) (w : List ℕ) (x : Answer) (b : Bool)
    (f : reading_with read w ≡ reading_of limit line taken) (a : x ≡ answer (checks r s (reading_with read w))) (g : b ≡ is_refused x) where
  merge_checks : List Rule
  merge_checks = merge_rules (merge_of r (with_vote s.entries (vote line).sender (arrived (vote line))) s (arrived (vote line)))

  pub steps_refused : b ≡ true → record { answer = x; supporters = 0; state = s } ≡ step r s line
  unfolding step malformed merge_checks
  steps_refused c =
      judged_refused (refuse s) (accepted r s (vote line).sender (arrived (vote line))) (rules r s line) x
      (stops (checks r s (reading_of limit line taken)) merge_checks (subst (λ (d : Reading). x ≡ answer (checks r s d)) f a) g c) (sym g ∙ c)
      (λ (y : Answer) (o : Outcome). record { answer = y; supporters = 0; state = s } ≡ o) (λ (q : Refusal). refl)

  none : b ≡ false → NoneHolds (checks r s (reading_with read w))
  none c = answer_none (checks r s (reading_with read w)) x a (sym g ∙ c)

  module _ {head : Heading} (h : read ≡ Some head) (c : b ≡ false) where
    read_is : reading_with (Some head) w ≡ reading_of limit line taken
    read_is = ap (λ (o : Option Heading). reading_with o w) (sym h) ∙ f

    some_none : NoneHolds (checks r s (reading_with (Some head) w))
    some_none = subst (λ (o : Option Heading). NoneHolds (checks r s (reading_with o w))) h (none c)

    pub passes : Passed s.entries.words s.entries.counts head.sender (arrived (frame_with head w))
    unfolding test_of
    passes =
        let few = (valid_figures r (config_sound z (no_test some_none Config)).roster).max_sites in
        record {
          inside = omega (arith, leb-false r.n head.sender (no_test some_none Sender), few);
          short = rw length-take (omega (arith, ap (λ (o : Reading). o.frame.n) read_is, read_n limit line taken));
          agrees = no_test some_none Contradiction;
        }

    pub steps_concluded : concluded r s head.sender (arrived (frame_with head w)) ≡ step r s line
    unfolding step malformed merge_checks
    steps_concluded =
        subst (λ (d : Reading). concluded r s d.frame.sender (arrived d.frame) ≡ step r s line) (sym read_is)
        (sym (judged_on (refuse s) (accepted r s (vote line).sender (arrived (vote line))) (checks r s (reading_of limit line taken)) merge_checks
        (subst (λ (d : Reading). NoneHolds (checks r s d)) read_is some_none)))

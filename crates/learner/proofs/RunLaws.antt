-- Laws of a learner alone, over any list of lines.
use Rattle.std.specs.Prelude.{◌≡◌, refl, ◌⊎◌, Bool, true, false, List, [], ◌∷◌, ◌++◌, ℕ, zero, suc, ◌≤◌, ◌<◌}
use Rattle.std.proofs.Common.{sym, ap, ◌∙◌, subst, inl, inr, ⊎_elim, true≢false, arith, le_trans}
use Rattle.basics.specs.Bools.{true_or_false}
use Rattle.roster.specs.declared.Roster.{Roster}
use Rattle.roster.specs.Roster.{valid_roster, quorum}
use Rattle.roster.specs.RosterLaws.{valid_figures}
use Rattle.roster.specs.Sites.{count_to}
use Rattle.roster.specs.SitesLaws.{count_mono, count_some, last_or_below}
use Rattle.history.specs.History.{Extends, extends}
use Rattle.history.specs.ExtensionLaws.{extends_refl, extends_trans, extends_complete}
use Rattle.history.specs.ValidLaws.{valid_nil, valid_parts}
use Rattle.history.specs.Words.{limit, commands, valid_stored}
use Rattle.history.specs.WordsLaws.{stored_valid, valid_stored_history, valid_stored_length}
use Rattle.table.specs.Table.{row_of}
use Rattle.table.specs.TableLaws.{empty_sized}
use Rattle.table.specs.ValidLaws.{valid_empty}
use Rattle.refusal.specs.declared.Refusal.{Refusal}
use Rattle.learner.specs.declared.State.{State}
use Rattle.refusal.specs.Refusal.{Accepted, Refused}
use Rattle.refusal.specs.AnswerLaws.{accepted_not_refused, refused_same}
use Rattle.learner.specs.declared.Outcome.{Outcome}
use Rattle.learner.specs.Learner.{fresh, config, step, vote, arrived, refuse}
use Rattle.learner.specs.StepLaws.{Accepts, Stepped, refuses, accepting, Sound, Advance}
use Rattle.learner.proofs.StepLaws.{stepped, step_advance, step_config, roster_config, vote_entered, vote_learned}
use Rattle.learner.specs.Run.{run, outcomes, Voted, now, later}
use Rattle.learner.specs.RunLaws.{Kept, Entered}

-- a fresh learner of a valid roster is sound
pub fresh_sound : (r : Roster) → valid_roster r ≡ true → Sound r fresh
fresh_sound r e = record { sized = empty_sized; roster = e; entries = valid_empty limit r.n; learned = stored_valid limit [] (omega arith) (omega arith) valid_nil }

-- from a sound state, what is learned and each entry only grow by extension, and the state stays sound
pub run_advance : {r : Roster} {s : State} → Sound r s → (lines : List (List ℕ)) → Advance r s (run r s lines)
unfolding run
run_advance {r} {s} p [] =
    record { sound = p; entries_grow = λ i. extends_refl (row_of s.entries i); learned_grows = extends_refl (commands s.learned) }
run_advance {r = r} {s = s} p (line ∷ lines) =
    let a = step_advance p line in
    let b = run_advance {s = (step r s line).state} a.sound lines in
    record {
      sound = b.sound;
      entries_grow = λ i. extends_trans (b.entries_grow i) (a.entries_grow i);
      learned_grows = extends_trans b.learned_grows a.learned_grows;
    }

-- a run over lines and more lines goes on from where the first lines led
pub run_append : (r : Roster) (s : State) (lines more : List (List ℕ)) → run r s (lines ++ more) ≡ run r (run r s lines) more
unfolding run
run_append r s [] more = refl
run_append r s (line ∷ lines) more = run_append r (step r s line).state lines more

-- ---- refused and accepted lines

-- a line that is answered with a refusal is refused whole: no supporters, and the same state
pub refused_is : (r : Roster) (s : State) (line : List ℕ) (e : Refusal) → (step r s line).answer ≡ Refused e → step r s line ≡ refuse s e
refused_is r s line e p = go (stepped r s line)
  where
    go : Stepped r s line → step r s line ≡ refuse s e
    go (refuses q g o) = o ∙ ap (refuse s) (refused_same (sym (ap (λ (x : Outcome). x.answer) o) ∙ p))
    go (accepting a) = absurd (accepted_not_refused (sym (ap (λ (x : Outcome). x.answer) a.outcome) ∙ p))

-- a line that is answered 0 is an accepted vote
pub accepts_is : (r : Roster) (s : State) (line : List ℕ) → (step r s line).answer ≡ Accepted → Accepts r s line
accepts_is r s line e = go (stepped r s line)
  where
    go : Stepped r s line → Accepts r s line
    go (refuses q g o) = absurd (accepted_not_refused (sym e ∙ ap (λ (x : Outcome). x.answer) o))
    go (accepting a) = a

-- A refused line leaves the run as if it had not come: the state after it, and every later outcome.
pub run_refused : (r : Roster) (s : State) (before : List (List ℕ)) (line : List ℕ) (more : List (List ℕ)) (e : Refusal)
    → (step r (run r s before) line).answer ≡ Refused e → run r s (before ++ line ∷ more) ≡ run r s (before ++ more)
unfolding run
run_refused r s before line more e p =
    run_append r s before (line ∷ more)
    ∙ ap (λ (o : Outcome). run r o.state more) (refused_is r (run r s before) line e p)
    ∙ sym (run_append r s before more)

pub outcomes_append : (r : Roster) (s : State) (lines more : List (List ℕ)) → outcomes r s (lines ++ more) ≡ outcomes r s lines ++ outcomes r (run r s lines) more
unfolding outcomes run
outcomes_append r s [] more = refl
outcomes_append r s (line ∷ lines) more = ap (λ (os : List Outcome). step r s line ∷ os) (outcomes_append r (step r s line).state lines more)

pub outcomes_refused : (r : Roster) (s : State) (before : List (List ℕ)) (line : List ℕ) (more : List (List ℕ)) (e : Refusal)
    → (step r (run r s before) line).answer ≡ Refused e
    → outcomes r s (before ++ line ∷ more) ≡ outcomes r s before ++ refuse (run r s before) e ∷ outcomes r (run r s before) more
unfolding outcomes
outcomes_refused r s before line more e p =
    outcomes_append r s before (line ∷ more)
    ∙ ap (λ (o : Outcome). outcomes r s before ++ o ∷ outcomes r o.state more) (refused_is r (run r s before) line e p)

-- ---- from a fresh start, whatever the roster

-- with a state or a roster that no step takes, nothing ever changes
run_unfit : (r : Roster) (s : State) → config r s ≡ true → (lines : List (List ℕ)) → run r s lines ≡ s
unfolding run
run_unfit r s e [] = refl
run_unfit r s e (line ∷ lines) = ap (λ (o : Outcome). run r o.state lines) (step_config r s line e) ∙ run_unfit r s e lines

kept_fit : {r : Roster} {s : State} → Sound r s → (more : List (List ℕ)) → Kept s (run r s more)
kept_fit {r} {s} p more =
    let a = run_advance p more in
    let v = a.sound.learned in
    record {
      learned_grows = a.learned_grows;
      entries_grow = a.entries_grow;
      canonical = (valid_parts (commands (run r s more).learned) (valid_stored_history limit (run r s more).learned v)).in_order;
      short = valid_stored_length limit (run r s more).learned v;
    }

kept_still : Kept fresh fresh
kept_still =
    record {
      learned_grows = extends_refl (commands fresh.learned);
      entries_grow = λ i. extends_refl (row_of fresh.entries i);
      canonical = (valid_parts (commands fresh.learned) (valid_stored_history limit fresh.learned fresh_learned)).in_order;
      short = valid_stored_length limit fresh.learned fresh_learned;
    }
  where
    fresh_learned : valid_stored limit fresh.learned ≡ true
    fresh_learned = stored_valid limit [] (omega arith) (omega arith) valid_nil

pub run_keeps : (r : Roster) (lines more : List (List ℕ)) → Kept (run r fresh lines) (run r fresh (lines ++ more))
run_keeps r lines more = ⊎_elim fit unfit (true_or_false (valid_roster r))
  where
    fit : valid_roster r ≡ true → Kept (run r fresh lines) (run r fresh (lines ++ more))
    fit e = rw (run_append r fresh lines more) (kept_fit (run_advance (fresh_sound r e) lines).sound more)

    unfit : valid_roster r ≡ false → Kept (run r fresh lines) (run r fresh (lines ++ more))
    unfit e =
        let c = roster_config r fresh e in
        rw (run_unfit r fresh c lines, run_unfit r fresh c (lines ++ more)) kept_still

-- ---- containment

-- each of the sites of p below n has one thing, or some site has the other
all_or_some : (n : ℕ) (p : ℕ → Bool) (A B : ℕ → Type 0) → ((i : ℕ) → i < n → p i ≡ true → A i ⊎ B i)
    → ((i : ℕ) → i < n → p i ≡ true → A i) ⊎ ((i : ℕ) × B i)
all_or_some zero p A B f = inl (λ i q. absurd (omega arith))
all_or_some (suc n) p A B f = go (all_or_some n p A B (λ i q. f i (omega arith))) (true_or_false (p n))
  where
    Below : Type 0
    Below = (i : ℕ) → i < n → p i ≡ true → A i

    with_last : Below → (p n ≡ true → A n) → (i : ℕ) → i < suc n → p i ≡ true → A i
    with_last g a i q e = ⊎_elim (λ k. subst A (sym k) (a (sym (ap p k) ∙ e))) (λ k. g i k e) (last_or_below q)

    at_last : Below → A n ⊎ B n → ((i : ℕ) → i < suc n → p i ≡ true → A i) ⊎ ((i : ℕ) × B i)
    at_last g (inl a) = inl (with_last g (λ e. a))
    at_last g (inr b) = inr (n, b)

    go : Below ⊎ ((i : ℕ) × B i) → (p n ≡ true) ⊎ (p n ≡ false) → ((i : ℕ) → i < suc n → p i ≡ true → A i) ⊎ ((i : ℕ) × B i)
    go (inr b) c = inr b
    go (inl g) (inl e) = at_last g (f n (omega arith) e)
    go (inl g) (inr e) = inl (with_last g (λ k. absurd (true≢false (sym k ∙ e))))

-- the entry of a site that has just voted for h extends it
vote_row : {r : Roster} {s : State} (line h : List ℕ) (i : ℕ) → Sound r s → (step r s line).answer ≡ Accepted → (vote line).sender ≡ i → arrived (vote line) ≡ h
    → Entered (step r s line).state h i
vote_row {r} {s} line h i p a e f =
    subst (λ (x : ℕ). Extends (row_of (step r s line).state.entries x) h) e
    (subst (λ (x : List ℕ). Extends (row_of (step r s line).state.entries (vote line).sender) x) f (vote_entered p (accepts_is r s line a)))

-- after any line, a site that had entered h, or votes for it, has entered h or votes for it later
entered_or_later : {r : Roster} {s : State} {line : List ℕ} {lines : List (List ℕ)} (h : List ℕ) (i : ℕ) → Sound r s
    → Entered s h i ⊎ Voted r i h s (line ∷ lines) → Entered (step r s line).state h i ⊎ Voted r i h (step r s line).state lines
entered_or_later {line = line} h i p (inl e) = inl (extends_trans ((step_advance p line).entries_grow i) e)
entered_or_later h i p (inr (later v)) = inr v
entered_or_later {line = line} h i p (inr (now a e f)) = inl (vote_row line h i p a e f)

-- the vote at which each site of p has entered h makes h learned
learned_now : {r : Roster} {s : State} (line : List ℕ) (p : ℕ → Bool) (h : List ℕ) → Sound r s → quorum r ≤ count_to r.n p
    → ((i : ℕ) → i < r.n → p i ≡ true → Entered (step r s line).state h i) → (step r s line).answer ≡ Accepted → arrived (vote line) ≡ h
    → Extends (commands (step r s line).state.learned) h
learned_now {r} {s} line p h k q f a e =
    let next = (step r s line).state in
    subst (λ (x : List ℕ). Extends (commands next.learned) x) e
    (vote_learned k (accepts_is r s line a)
    (le_trans q
    (count_mono r.n p (λ i. extends (row_of next.entries i) (arrived (vote line)))
    (λ i l m. extends_complete (subst (λ (x : List ℕ). Extends (row_of next.entries i) x) (sym e) (f i l m))))))

contained' : {r : Roster} {s : State} (p : ℕ → Bool) (h : List ℕ) → Sound r s → quorum r ≤ count_to r.n p → (lines : List (List ℕ))
    → ((i : ℕ) → i < r.n → p i ≡ true → Entered s h i ⊎ Voted r i h s lines) → (j : ℕ) → Voted r j h s lines
    → Extends (commands (run r s lines).learned) h
unfolding run
contained' {r = r} {s = s} p h k q [] f j v = elim v [ ]
contained' {r = r} {s = s} p h k q (line ∷ lines) f j v =
    go (all_or_some r.n p (Entered next h) (λ i. Voted r i h next lines) (λ i l m. entered_or_later h i k (f i l m))) v
    (λ g i w. contained' {s = next} p h (step_advance k line).sound q lines g i w)
  where
    next : State
    next = (step r s line).state

    Rest : Type 0
    Rest = ((i : ℕ) → i < r.n → p i ≡ true → Entered next h i ⊎ Voted r i h next lines) → (i : ℕ) → Voted r i h next lines → Extends (commands (run r next lines).learned) h

    go : ((i : ℕ) → i < r.n → p i ≡ true → Entered next h i) ⊎ ((i : ℕ) × Voted r i h next lines) → Voted r j h s (line ∷ lines) → Rest
        → Extends (commands (run r next lines).learned) h
    go (inr w) v rest = rest (λ i l m. entered_or_later h i k (f i l m)) w.0 w.1
    go (inl g) (later w) rest = rest (λ i l m. inl (g i l m)) j w
    go (inl g) (now a e b) rest =
        extends_trans (run_advance (step_advance k line).sound lines).learned_grows (learned_now line p h k q g a b)

-- When N-f different sites' accepted votes carry the same history, what is learned contains it.
pub contained : (r : Roster) → valid_roster r ≡ true → (p : ℕ → Bool) (h : List ℕ) → quorum r ≤ count_to r.n p → (lines : List (List ℕ))
    → ((i : ℕ) → i < r.n → p i ≡ true → Voted r i h fresh lines) → Extends (commands (run r fresh lines).learned) h
contained r e p h q lines f =
    let k = count_some r.n p (omega (arith, (valid_figures r e).quorum_min)) in
    contained' p h (fresh_sound r e) q lines (λ i l m. inr (f i l m)) k.0 (f k.0 k.1 k.2)

-- Laws of the proposal, over the limit: which history is the longest, that the proposal is a valid history that extends it, and what stays pending.
use Rattle.std.specs.Prelude.{◌≡◌, Bool, true, false, not, cond, ◌&&◌, ◌||◌, eqb}
use Rattle.std.proofs.Math.Path.{refl, sym, ap}
use Rattle.std.proofs.Common.{◌∙◌, subst, arith, lt-ltb, le-ltb, eqb-true, take_all, length-take-le}
use Rattle.std.proofs.Math.Logic.{⊎_elim}
use mathlib.Core.List.{List, [], ◌∷◌, ◌++◌}
use Prim.Native.Nat.{ℕ, zero, suc, ◌≤◌, ◌<◌}
use Rattle.std.proofs.Math.ListN.{length, take, drop, length-take, take-append-drop}
use Rattle.std.proofs.Math.Seq.{take-take}
use Rattle.basics.specs.Bools.{lt_or_le, and_left, and_right, or_left, or_right}
use Rattle.roster.specs.Mask.{bit}
use Rattle.roster.specs.SitesLaws.{last_or_below}
use Rattle.command.specs.Command.{same_request, valid_command, all_valid}
use Rattle.history.specs.History.{Extends, present, repeated, is_canonical, valid_history}
use Rattle.history.specs.TakesLaws.{equivalent_sym, equivalent_refl}
use Rattle.history.specs.ExtensionLaws.{extends_refl, extends_trans, extends_along}
use Rattle.history.specs.CanonicalLaws.{canonical_equivalent, canonical_length, canonical_is_canonical}
use Rattle.history.specs.OrderLaws.{repeated_along, all_valid_along}
use Rattle.history.specs.ValidLaws.{valid_nil, valid_parts, parts_valid}
use Rattle.history.specs.Words.{capacity}
use Rattle.history.specs.FitLaws.{EachFits, none as no_word, more as one_more, each_take, each_along}
use Rattle.merge.specs.Merge.{appended}
use Rattle.merge.specs.MergeLaws.{appended_all_valid, appended_distinct}
use Rattle.merge.specs.Appending.{holds}
use Rattle.merge.specs.AppendingLaws.{appended_front, each_appended}
use Rattle.table.specs.Table.{row}
use Rattle.table.specs.TableLaws.{length_row}
use Rattle.proposal.specs.Proposal.{report, longer, longest_to, filled, filled_to, assembled, proposal, remaining}
use Rattle.proposal.specs.ProposalLaws.{From, nowhere, site, Longest, Closed}

-- ---- a report

module _ (words counts : List ℕ) (reported i : ℕ) where
  -- the report of a marked site is its row
  pub report_marked : bit reported i ≡ true → report words counts reported i ≡ row words counts i
  unfolding report
  report_marked e = rw e

  -- that of another is empty
  pub report_unmarked : bit reported i ≡ false → report words counts reported i ≡ []
  unfolding report
  report_unmarked e = rw e

  -- what the empty history and the site's row have, the report has
  pub report_keeps : (P : List ℕ → Type 0) → P [] → P (row words counts i) → P (report words counts reported i)
  report_keeps P none one = go (bit reported i) refl
    where
      go : (b : Bool) → bit reported i ≡ b → P (report words counts reported i)
      go true e = subst P (sym (report_marked e)) one
      go false e = subst P (sym (report_unmarked e)) none

  -- a report has at most as many commands as a row has room for
  pub report_short : length (report words counts reported i) ≤ capacity
  report_short = report_keeps (λ h. length h ≤ capacity) (omega arith) (length_row words counts i)

-- ---- the longest

-- the second of two where it is longer
pub longer_second : (g h : List ℕ) → length g < length h → longer g h ≡ h
unfolding longer
longer_second g h p = rw (lt-ltb (length g) (length h) p)

-- else the first
pub longer_first : (g h : List ℕ) → length h ≤ length g → longer g h ≡ g
unfolding longer
longer_first g h p = rw (le-ltb (length g) (length h) p)

-- of no sites it is empty
pub longest_zero : (f : ℕ → List ℕ) → longest_to 0 f ≡ []
unfolding longest_to
longest_zero f = refl

-- with one site more it is the longer of it and that site's
pub longest_suc : (n : ℕ) (f : ℕ → List ℕ) → longest_to (suc n) f ≡ longer (longest_to n f) (f n)
unfolding longest_to
longest_suc n f = refl

-- the chosen history is the longest, of equals the lowest site's
pub longest_is : (n : ℕ) (f : ℕ → List ℕ) → Longest n f (longest_to n f)
longest_is zero f = record { from = nowhere (longest_zero f); most = λ j p. absurd (omega arith) }
longest_is (suc n) f = rw (longest_suc n f) (step (longest_is n f))
  where
    later : {g : List ℕ} → From n f g → From (suc n) f g
    later (nowhere e) = nowhere e
    later (site i p e q) = site i (omega arith) e q

    step : {g : List ℕ} → Longest n f g → Longest (suc n) f (longer g (f n))
    step {g} l =
        ⊎_elim
        (λ p.
        rw (longer_second g (f n) p)
        (record {
          from = site n (omega arith) refl (λ j q. omega (arith, l.most j q));
          most = λ j q. ⊎_elim (λ e. rw e (omega arith)) (λ r. omega (arith, l.most j r)) (last_or_below q);
        }))
        (λ p.
        rw (longer_first g (f n) p)
        (record {
          from = later l.from;
          most = λ j q. ⊎_elim (λ e. rw e p) (λ r. l.most j r) (last_or_below q);
        }))
        (lt_or_le (length g) (length (f n)))

-- what the empty history and all of them have, the longest has
pub longest_keeps : (P : List ℕ → Type 0) → P [] → (n : ℕ) (f : ℕ → List ℕ) → ((i : ℕ) → i < n → P (f i)) → P (longest_to n f)
longest_keeps P none n f each = go (longest_is n f).from
  where
    go : From n f (longest_to n f) → P (longest_to n f)
    go (nowhere e) = subst P (sym e) none
    go (site i p e q) = subst P (sym e) (each i p)

-- the longest of reports has at most as many commands as a row has room for
pub longest_short : (n : ℕ) (words counts : List ℕ) (reported : ℕ) → length (longest_to n (report words counts reported)) ≤ capacity
longest_short n words counts reported =
    longest_keeps (λ h. length h ≤ capacity) (omega arith) n (report words counts reported) (λ i p. report_short words counts reported i)

-- ---- appending up to the limit

module _ (limit : ℕ) where
  -- it has at most so many commands then
  pub filled_short : (g h : List ℕ) → length (filled limit g h) ≤ limit
  unfolding filled
  filled_short g h = rw length-take (omega arith)

  -- appending to at most so many commands only appends
  pub filled_extends : (g h : List ℕ) → length g ≤ limit → Extends (filled limit g h) g
  unfolding filled
  filled_extends g h p =
      let front : take (length g) (filled limit g h) ≡ g = take-take (length g) limit (appended g h) p ∙ appended_front g h in
      record {
        x = drop (length g) (filled limit g h);
        equivalent = equivalent_refl (ap (λ (l : List ℕ). l ++ drop (length g) (filled limit g h)) (sym front) ∙ take-append-drop (length g) (filled limit g h));
      }

  -- what g has past the limit doesn't count
  pub filled_cut : (g h : List ℕ) → filled limit (take limit g) h ≡ filled limit g h
  unfolding filled
  filled_cut g h = ⊎_elim over within (lt_or_le limit (length g))
    where
      within : length g ≤ limit → take limit (appended (take limit g) h) ≡ take limit (appended g h)
      within p = rw (take_all limit g p)

      over : limit < length g → take limit (appended (take limit g) h) ≡ take limit (appended g h)
      over p =
          let size : length (take limit g) ≡ limit = length-take-le limit g (omega arith) in
          ap (λ (n : ℕ). take n (appended (take limit g) h)) (sym size) ∙ appended_front (take limit g) h
          ∙ ap (take limit) (sym (appended_front g h))
          ∙ take-take limit (length g) (appended g h) (omega arith)

  -- no site's appended
  pub filled_to_zero : (f : ℕ → List ℕ) (g : List ℕ) → filled_to limit 0 f g ≡ g
  unfolding filled_to
  filled_to_zero f g = refl

  -- one site's more
  pub filled_to_suc : (n : ℕ) (f : ℕ → List ℕ) (g : List ℕ) → filled_to limit (suc n) f g ≡ filled limit (filled_to limit n f g) (f n)
  unfolding filled_to
  filled_to_suc n f g = refl

  -- with all of them appended it has at most so many commands if it had
  pub filled_to_short : (n : ℕ) (f : ℕ → List ℕ) (g : List ℕ) → length g ≤ limit → length (filled_to limit n f g) ≤ limit
  unfolding filled_to
  filled_to_short zero f g p = p
  filled_to_short (suc n) f g p = filled_short (filled_to limit n f g) (f n)

  -- and extends what it was
  filled_to_extends : (n : ℕ) (f : ℕ → List ℕ) (g : List ℕ) → length g ≤ limit → Extends (filled_to limit n f g) g
  unfolding filled_to
  filled_to_extends zero f g p = extends_refl g
  filled_to_extends (suc n) f g p =
      extends_trans (filled_extends (filled_to limit n f g) (f n) (filled_to_short n f g p)) (filled_to_extends n f g p)

  -- what g has past the limit stands past the limit then, or not at all
  pub filled_to_cut : (n : ℕ) (f : ℕ → List ℕ) (g : List ℕ) → filled_to limit n f (take limit g) ≡ take limit (filled_to limit n f g)
  unfolding filled_to
  filled_to_cut zero f g = refl
  filled_to_cut (suc n) f g =
      ap (λ (l : List ℕ). filled limit l (f n)) (filled_to_cut n f g) ∙ filled_cut (filled_to limit n f g) (f n)
      ∙ sym (take_all limit (filled limit (filled_to limit n f g) (f n)) (filled_short (filled_to limit n f g) (f n)))

-- ---- the proposal

module _ {P Q : List ℕ → Type 0} (k : Closed P Q) (limit : ℕ) where
  filled_keeps : {g h : List ℕ} → P g → Q h → P (filled limit g h)
  unfolding filled
  filled_keeps p q = k.cut limit (k.appending p q)

  filled_to_keeps : (n : ℕ) (f : ℕ → List ℕ) (g : List ℕ) → P g → ((i : ℕ) → i < n → Q (f i)) → P (filled_to limit n f g)
  unfolding filled_to
  filled_to_keeps zero f g p each = p
  filled_to_keeps (suc n) f g p each =
      filled_keeps (filled_to_keeps n f g p (λ i q. each i (omega arith))) (each n (omega arith))

  -- such a P of the longest proven history is one of the proposal, if the held histories and what is pending have Q
  pub proposal_keeps : (n : ℕ) (proven held : ℕ → List ℕ) (pending : List ℕ) → P (longest_to n proven) → ((i : ℕ) → i < n → Q (held i)) → Q pending
      → P (proposal limit n proven held pending)
  unfolding proposal assembled
  proposal_keeps n proven held pending p each q =
      k.reordering (equivalent_sym (canonical_equivalent (assembled limit n proven held pending)))
      (filled_keeps (filled_to_keeps n held (longest_to n proven) p each) q)

module _ (limit n : ℕ) (proven held : ℕ → List ℕ) (pending : List ℕ) where
  -- the proposal extends the longest proven history, if that is within the limit
  pub proposal_extends : length (longest_to n proven) ≤ limit → Extends (proposal limit n proven held pending) (longest_to n proven)
  unfolding proposal assembled
  proposal_extends p =
      extends_along (equivalent_sym (canonical_equivalent (assembled limit n proven held pending)))
      (extends_trans
      (filled_extends limit (filled_to limit n held (longest_to n proven)) pending (filled_to_short limit n held (longest_to n proven) p))
      (filled_to_extends limit n held (longest_to n proven) p))

  -- it is canonical
  pub proposal_canonical : is_canonical (proposal limit n proven held pending) ≡ true
  unfolding proposal
  proposal_canonical = canonical_is_canonical (assembled limit n proven held pending)

  -- it is within the limit
  pub proposal_short : length (proposal limit n proven held pending) ≤ limit
  unfolding proposal assembled
  proposal_short =
      rw (canonical_length (assembled limit n proven held pending)) (filled_short limit (filled_to limit n held (longest_to n proven)) pending)

-- ---- cutting off brings in nothing

present_cut : (c n : ℕ) (h : List ℕ) → present c h ≡ false → present c (take n h) ≡ false
unfolding present
present_cut c zero h e = refl
present_cut c (suc n) [] e = refl
present_cut c (suc n) (d ∷ h) e = rw (or_left (same_request c d) _ e) (present_cut c n h (or_right (same_request c d) _ e))

repeated_cut : (n : ℕ) (h : List ℕ) → repeated h ≡ false → repeated (take n h) ≡ false
unfolding repeated
repeated_cut zero h e = refl
repeated_cut (suc n) [] e = refl
repeated_cut (suc n) (c ∷ h) e = rw (present_cut c n h (or_left (present c h) _ e)) (repeated_cut n h (or_right (present c h) _ e))

all_valid_cut : (n : ℕ) (h : List ℕ) → all_valid h ≡ true → all_valid (take n h) ≡ true
unfolding all_valid
all_valid_cut zero h e = refl
all_valid_cut (suc n) [] e = refl
all_valid_cut (suc n) (c ∷ h) e = rw (and_left (valid_command c) _ e) (all_valid_cut n h (and_right (valid_command c) _ e))

-- ---- the proposal is a valid history

-- no proposer and serial twice: this stays whatever is appended
distinct_kept : Closed (λ h. repeated h ≡ false) (λ h. Unit {0})
distinct_kept =
    record {
      cut = λ n {h} u. repeated_cut n h u;
      appending = λ {g} {h} u q. appended_distinct g h u;
      reordering = λ e u. sym (repeated_along e) ∙ u;
    }

-- valid commands: they stay if those that are appended are valid
all_valid_kept : Closed (λ h. all_valid h ≡ true) (λ h. all_valid h ≡ true)
all_valid_kept =
    record {
      cut = λ n {h} a. all_valid_cut n h a;
      appending = λ {g} {h} a b. appended_all_valid g h a b;
      reordering = λ e a. sym (all_valid_along e) ∙ a;
    }

module _ (limit n : ℕ) (proven held : ℕ → List ℕ) (pending : List ℕ) where
  -- no proposer and serial stands in it twice if none does in the longest proven history
  pub proposal_distinct : repeated (longest_to n proven) ≡ false → repeated (proposal limit n proven held pending) ≡ false
  proposal_distinct u = proposal_keeps distinct_kept limit n proven held pending u (λ i p. tt) tt

  -- its commands are valid if all those are of which it is made
  pub proposal_all_valid : ((i : ℕ) → i < n → all_valid (proven i) ≡ true) → ((i : ℕ) → i < n → all_valid (held i) ≡ true) → all_valid pending ≡ true
      → all_valid (proposal limit n proven held pending) ≡ true
  proposal_all_valid gs hs w =
      let none : all_valid [] ≡ true = (valid_parts [] valid_nil).commands in
      proposal_keeps all_valid_kept limit n proven held pending (longest_keeps (λ h. all_valid h ≡ true) none n proven gs) hs w

  -- it is a valid history if the proven ones are and the other commands are valid
  pub proposal_valid : ((i : ℕ) → i < n → valid_history (proven i) ≡ true) → ((i : ℕ) → i < n → all_valid (held i) ≡ true) → all_valid pending ≡ true
      → valid_history (proposal limit n proven held pending) ≡ true
  proposal_valid gs hs w =
      let none : repeated [] ≡ false = (valid_parts [] valid_nil).distinct in
      parts_valid
      (record {
        commands = proposal_all_valid (λ i p. (valid_parts (proven i) (gs i p)).commands) hs w;
        distinct = proposal_distinct (longest_keeps (λ h. repeated h ≡ false) none n proven (λ i p. (valid_parts (proven i) (gs i p)).distinct));
        in_order = proposal_canonical limit n proven held pending;
      })

-- ---- the words of the proposal

-- words that fit eight bytes do so in any part, with such words appended, and in any order
each_kept : Closed EachFits EachFits
each_kept = record { cut = λ n w. each_take n w; appending = λ v w. each_appended v w; reordering = λ e w. each_along e w }

-- the words of the proposal fit if all those do of which it is made
pub proposal_fits : (limit n : ℕ) (proven held : ℕ → List ℕ) (pending : List ℕ) → ((i : ℕ) → i < n → EachFits (proven i))
    → ((i : ℕ) → i < n → EachFits (held i)) → EachFits pending → EachFits (proposal limit n proven held pending)
proposal_fits limit n proven held pending gs hs w = proposal_keeps each_kept limit n proven held pending (longest_keeps EachFits no_word n proven gs) hs w

-- ---- what stays pending

-- of the pending commands, just those stay that h does not hold
pub remaining_holds : (pending h : List ℕ) (c : ℕ) → holds (remaining pending h) c ≡ (holds pending c && not (holds h c))
unfolding remaining holds
remaining_holds [] h c = refl
remaining_holds (d ∷ pending) h c = go (holds h d) refl (eqb c d) refl (remaining_holds pending h c)
  where
    nothing : (b : Bool) → (b && false) ≡ false
    nothing true = refl
    nothing false = refl

    go : (a : Bool) → holds h d ≡ a → (b : Bool) → eqb c d ≡ b → holds (remaining pending h) c ≡ (holds pending c && not (holds h c))
        → holds (remaining (d ∷ pending) h) c ≡ (holds (d ∷ pending) c && not (holds h c))
    go true p true q ih = rw (p, q, ih, ap (holds h) (eqb-true c d q) ∙ p) (nothing (holds pending c))
    go true p false q ih = rw (p, q) ih
    go false p true q ih = rw (p, q, ap (holds h) (eqb-true c d q) ∙ p)
    go false p false q ih = rw (p, q) ih

module _ (pending h : List ℕ) (c : ℕ) where
  -- nothing that was pending is lost: h holds it, or it stays pending
  pub kept_or_proposed : holds pending c ≡ true → (holds h c || holds (remaining pending h) c) ≡ true
  kept_or_proposed e = rw (remaining_holds pending h c, e) (either (holds h c))
    where
      either : (b : Bool) → (b || not b) ≡ true
      either true = refl
      either false = refl

-- a proposer and serial that was not pending is not there
remaining_absent : (pending h : List ℕ) (c : ℕ) → present c pending ≡ false → present c (remaining pending h) ≡ false
unfolding remaining present
remaining_absent [] h c e = refl
remaining_absent (d ∷ pending) h c e = go (holds h d) (remaining_absent pending h c (or_right (same_request c d) _ e))
  where
    go : (b : Bool) → present c (remaining pending h) ≡ false → present c (cond b (remaining pending h) (d ∷ remaining pending h)) ≡ false
    go true ih = ih
    go false ih = rw (or_left (same_request c d) _ e) ih

-- it has no proposer and serial twice if none was pending twice
pub remaining_distinct : (pending h : List ℕ) → repeated pending ≡ false → repeated (remaining pending h) ≡ false
unfolding remaining repeated
remaining_distinct [] h u = refl
remaining_distinct (c ∷ pending) h u = go (holds h c) (remaining_distinct pending h (or_right (present c pending) _ u))
  where
    go : (b : Bool) → repeated (remaining pending h) ≡ false → repeated (cond b (remaining pending h) (c ∷ remaining pending h)) ≡ false
    go true ih = ih
    go false ih = rw (remaining_absent pending h c (or_left (present c pending) _ u)) ih

-- its commands are valid if those pending were
pub remaining_all_valid : (pending h : List ℕ) → all_valid pending ≡ true → all_valid (remaining pending h) ≡ true
unfolding remaining all_valid
remaining_all_valid [] h a = refl
remaining_all_valid (c ∷ pending) h a = go (holds h c) (remaining_all_valid pending h (and_right (valid_command c) _ a))
  where
    go : (b : Bool) → all_valid (remaining pending h) ≡ true → all_valid (cond b (remaining pending h) (c ∷ remaining pending h)) ≡ true
    go true ih = ih
    go false ih = rw (and_left (valid_command c) _ a) ih

-- it has no more commands than were pending
pub remaining_short : (pending h : List ℕ) → length (remaining pending h) ≤ length pending
unfolding remaining
remaining_short [] h = omega arith
remaining_short (c ∷ pending) h = go (holds h c) (remaining_short pending h)
  where
    go : (b : Bool) → length (remaining pending h) ≤ length pending → length (cond b (remaining pending h) (c ∷ remaining pending h)) ≤ suc (length pending)
    go true ih = omega arith
    go false ih = omega arith

-- its words fit eight bytes if those pending do
pub remaining_fits : {pending : List ℕ} (h : List ℕ) → EachFits pending → EachFits (remaining pending h)
unfolding remaining
remaining_fits h no_word = no_word
remaining_fits h (one_more {c = c} p w) = go (holds h c) (remaining_fits h w)
  where
    go : {l : List ℕ} (b : Bool) → EachFits l → EachFits (cond b l (c ∷ l))
    go true ih = ih
    go false ih = one_more p ih

-- One turn of each loop of this crate, and what it leaves at its end.
use mathlib.Core.Path.{◌≡◌, refl, sym, ap, ◌∙◌, subst}
use mathlib.Core.Bool.{true, false}
use mathlib.Core.List.{List, [], ◌∷◌, ◌++◌, append-nil}
use Prim.Native.Nat.{ℕ, ◌+◌, ◌≤◌, ◌<◌}
use native.Mathlib.Omega.{arith}
use native.Mathlib.Numerals.{add-one}
use lib.ListN.{length, take, drop, get_or, set, drop_of_length-le, length-take, length-append, length-set}
use lib.Seq.{take_at, take_all, take-append-le, drop-cons, length-take-le, length_front, take-suc-set, append_snoc}
use Rattle.history.specs.History.{canonical}
use Rattle.history.specs.CanonicalLaws.{canonical_length}
use Rattle.history.specs.Words.{padded}
use Rattle.history.specs.WordsLaws.{length_padded, take_padded}
use Rattle.merge.specs.Merge.{appended_in}
use Rattle.merge.specs.Appending.{holds}
use Rattle.merge.specs.AppendingLaws.{take_appended}
use Rattle.proposal.specs.Proposal.{longest_to, filled, filled_to, assembled, proposal, remaining}
use Rattle.proposal.specs.Code.Work.{Begins}
use Rattle.proposal.proofs.ProposalLaws.{filled_short, filled_cut, filled_to_cut}

-- ---- gathering

pub gather_start : (words : List ℕ) (n : ℕ) → n ≤ length words → Begins (length words) words n (take n words)
gather_start words n p = record { length_is = refl; count = sym (length-take-le n words p); words_are = refl; short = p }

-- one list more is appended
pub gather_more : {room : ℕ} {b g : List ℕ} {k : ℕ} → Begins room b k g → (h : List ℕ) (n : ℕ) (w : List ℕ) → n ≡ length (appended_in b k h)
    → w ≡ appended_in b k h ++ drop n b → length w ≡ length b → Begins room w n (filled room g h)
unfolding filled
gather_more {room} {b} {g} {k} s h n w p q r =
    record {
      length_is = r ∙ s.length_is;
      count = p ∙ ap length whole;
      words_are = take_appended b k h n w p q ∙ whole;
      short = rw (p ∙ ap length whole) (filled_short room g h);
    }
  where
    whole : appended_in b k h ≡ filled room g h
    whole = rw (s.length_is, s.words_are)

-- ---- putting together

-- the words a hold what there is room for of g, then the held histories too, then what is pending
pub assembled_all : (room n : ℕ) (held : ℕ → List ℕ) (pending g front : List ℕ) → front ≡ take room g → (a : List ℕ) → a ≡ padded room front
    → {b : List ℕ} {k : ℕ} → Begins (length a) b k (filled_to (length a) n held (take (length front) a))
    → (m : ℕ) (w : List ℕ) → m ≡ length (appended_in b k pending) → w ≡ appended_in b k pending ++ drop m b → length w ≡ length b
    → Begins room w m (filled room (filled_to room n held g) pending)
assembled_all room n held pending g front e a f {b} {k} s m w p q r =
    subst (Begins room w m) (ap (λ (l : List ℕ). filled room l pending) (filled_to_cut room n held g) ∙ filled_cut room (filled_to room n held g) pending)
    (gather_more {room = room} start pending m w p q r)
  where
    size : length a ≡ room
    size = rw f (length_padded room front)

    base : take (length front) a ≡ take room g
    base = rw f (take_padded room front (rw (e, length-take) (omega arith))) ∙ e

    start : Begins room b k (filled_to room n held (take room g))
    start = subst (λ (l : List ℕ). Begins room b k (filled_to room n held l)) base
        (subst (λ (x : ℕ). Begins x b k (filled_to x n held (take (length front) a))) size s)

-- ---- putting in order

-- the first k of w are there after they were replaced by as many
pub part_bound : (w o : List ℕ) (k : ℕ) → k ≤ length w → length o ≡ length (take k w) → k ≤ length (o ++ drop k w)
part_bound w o k p e = rw (length_front w o k e) p

-- what the first words are, they are with more behind them
pub begins_more : {room : ℕ} {w h : List ℕ} {k : ℕ} → Begins room w k h → (x : List ℕ) → Begins (length (w ++ x)) (w ++ x) k h
begins_more {room} {w} {h} {k} s x =
    record {
      length_is = refl;
      count = s.count;
      words_are = take-append-le k w x (rw s.length_is s.short) ∙ s.words_are;
      short = rw length-append (omega (arith, s.length_is, s.short));
    }

module _ (limit n : ℕ) (proven held : ℕ → List ℕ) (pending : List ℕ) where
  -- what was put together after the longest proven history, in a part of as many words as the limit says
  pub assembled_of : (g : List ℕ) → g ≡ longest_to n proven → {room : ℕ} {w : List ℕ} {k : ℕ}
      → Begins room w k (filled room (filled_to room n held g) pending) → room ≡ limit → Begins limit w k (assembled limit n proven held pending)
  unfolding assembled
  assembled_of g e {room} {w} {k} s f =
      subst (λ (l : List ℕ). Begins limit w k (filled limit (filled_to limit n held l) pending)) e
      (subst (λ (x : ℕ). Begins x w k (filled x (filled_to x n held g) pending)) f s)

  -- the part of the words that was put in order is the proposal
  pub order_gathered : {room : ℕ} {w : List ℕ} {k : ℕ} → Begins room w k (assembled limit n proven held pending)
      → (o : List ℕ) → o ≡ canonical (take k w) → take k (o ++ drop k w) ≡ proposal limit n proven held pending
  unfolding proposal
  order_gathered {room} {w} {k} s o e =
      let ordered : o ≡ canonical (assembled limit n proven held pending) = e ∙ ap canonical s.words_are in
      take_at o (drop k w) k (ap length ordered ∙ canonical_length (assembled limit n proven held pending) ∙ sym s.count) ∙ ordered

-- ---- keeping

-- what the loop keeps: the first n words with what remains of the commands from i on are the answer, as many as there is room for
pub record Keeping (dst pending h : List ℕ) (n i : ℕ) (dst₀ answer : List ℕ) : Type 0 where
  pub room : n ≤ length dst
  pub size : length dst ≡ length dst₀
  pub rest : take (length dst₀) (take n dst ++ remaining (drop i pending) h) ≡ answer

pub keep_start : (dst pending h : List ℕ) → Keeping dst pending h 0 0 dst (take (length dst) (remaining pending h))
keep_start dst pending h = record { room = omega arith; size = refl; rest = refl }

remaining_next : (c : ℕ) (pending h : List ℕ) → holds h c ≡ false → remaining (c ∷ pending) h ≡ c ∷ remaining pending h
unfolding remaining
remaining_next c pending h e = rw e

remaining_skip : (c : ℕ) (pending h : List ℕ) → holds h c ≡ true → remaining (c ∷ pending) h ≡ remaining pending h
unfolding remaining
remaining_skip c pending h e = rw e

module _ (dst pending h : List ℕ) (n i : ℕ) (dst₀ answer : List ℕ) (inv : Keeping dst pending h n i dst₀ answer) where
  -- the loop ends where the commands or the room do
  pub keep_end : length pending ≤ i → (n ≤ length dst) × (take n dst ≡ answer)
  unfolding remaining
  keep_end p =
      let fits : length (take n dst) ≤ length dst₀ = rw length-take (omega (arith, inv.size)) in
      (inv.room, sym (take_all (length dst₀) (take n dst) fits) ∙ (rw (drop_of_length-le pending p, append-nil) at inv.rest))

  pub keep_full : length dst ≤ n → (n ≤ length dst) × (take n dst ≡ answer)
  keep_full p =
      let all : length (take n dst) ≡ length dst₀ = rw length-take (omega (arith, inv.size, inv.room)) in
      (inv.room, sym (take_at (take n dst) (remaining (drop i pending) h) (length dst₀) all) ∙ inv.rest)

  module _ (p : i < length pending) where
    next : drop i pending ≡ get_or pending i 0 ∷ drop (i + 1) pending
    next = rw add-one (drop-cons pending i 0 p)

    -- a command that h holds
    pub keep_done : holds h (get_or pending i 0) ≡ true → Keeping dst pending h n (i + 1) dst₀ answer
    keep_done e =
        record {
          room = inv.room;
          size = inv.size;
          rest = rw (next, remaining_skip (get_or pending i 0) (drop (i + 1) pending) h e) at inv.rest;
        }

    -- one that it does not
    pub keep_more : n < length dst → holds h (get_or pending i 0) ≡ false → Keeping (set dst n (get_or pending i 0)) pending h (n + 1) (i + 1) dst₀ answer
    keep_more q e =
        let c = get_or pending i 0 in
        let front : take (n + 1) (set dst n c) ≡ take n dst ++ c ∷ [] = rw add-one (take-suc-set dst n c q) in
        record {
          room = rw length-set (omega arith);
          size = length-set dst n c ∙ inv.size;
          rest = rw (front, append_snoc (take n dst) c (remaining (drop (i + 1) pending) h))
              (rw (next, remaining_next c (drop (i + 1) pending) h e) at inv.rest);
        }

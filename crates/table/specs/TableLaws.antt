-- Laws of tables: how long rows are, and which rows a table has after a store.
use Rattle.std.specs.Prelude.{◌≡◌, refl, ◌⊎◌, ◌≢◌, Bool, true, false, cond, List, [], ◌∷◌, ◌++◌, ℕ, zero, suc, ◌+◌, ◌-◌, ◌*◌, ◌≤◌, ◌<◌, length, take, drop, set, replicate}
use Rattle.std.proofs.Math.Path.{sym}
use Rattle.std.proofs.Common.{ap, ◌∙◌, inl, inr, append_assoc, arith, lt-ltb, le-ltb, le-leb, length-drop, length-take-le, drop-set-lt, drop_at, get_or-set_same}
use Rattle.std.proofs.Math.Logic.{⊎_elim}
use Rattle.std.proofs.Math.Bool.{and-false}
use Rattle.std.proofs.lemmas.Bool.{lt-leb}
use Rattle.std.proofs.Math.ListN.{get_or, length-set, get_or-eq_default}
use Rattle.std.proofs.lemmas.List.{length-replicate, take-append-le, take-set-le, drop-set-add}
use Rattle.std.proofs.lemmas.List.Edits.{sets, sets-eq}
use Rattle.std.proofs.Math.Seq.{length-sets, get_or-set_other}
use Rattle.basics.specs.Bools.{lt_or_le}
use Rattle.history.specs.Words.{capacity, padded}
use Rattle.history.specs.WordsLaws.{length_padded, take_padded}
use Rattle.table.specs.declared.Table.{Table}
use Rattle.table.specs.Table.{sites, in_range, row, row_of, with_row, stored_at, table_of, stored_in, empty_table}

-- ---- sizes

-- the lengths of a table's arrays: those that every table in code has
pub record Sized (t : Table) : Type 0 where
  pub counts_length : length t.counts ≡ sites
  pub words_length : length t.words ≡ capacity * sites

-- ---- a row

-- there is none without a count, without its 32 words, with a count over 32; else it is as many of its words as the count says
pub row_past : (words counts : List ℕ) (i : ℕ) → length counts ≤ i → row words counts i ≡ []
unfolding row in_range
row_past words counts i p = rw (le-ltb i (length counts) p)

pub row_short : (words counts : List ℕ) (i : ℕ) → length words < capacity * i + capacity → row words counts i ≡ []
unfolding row in_range
row_short words counts i p = rw (lt-leb (capacity * i + capacity) (length words) p, and-false)

pub row_over : (words counts : List ℕ) (i : ℕ) → capacity < get_or counts i 0 → row words counts i ≡ []
unfolding row in_range
row_over words counts i p = rw (lt-leb (get_or counts i 0) capacity p, and-false, and-false)

pub row_is : (words counts : List ℕ) (i : ℕ) → i < length counts → capacity * i + capacity ≤ length words → get_or counts i 0 ≤ capacity
    → row words counts i ≡ take (get_or counts i 0) (drop (capacity * i) words)
unfolding row in_range
row_is words counts i p q r = rw (lt-ltb i (length counts) p, le-leb (capacity * i + capacity) (length words) q, le-leb (get_or counts i 0) capacity r)

-- a row with count 0 is empty
pub row_none : (words counts : List ℕ) (i : ℕ) → get_or counts i 0 ≡ 0 → row words counts i ≡ []
unfolding row
row_none words counts i e = rw e (go (in_range words counts i))
  where
    go : (b : Bool) → ◌≡◌ {A = List ℕ} (cond b [] []) []
    go true = refl
    go false = refl

-- each row is one of the two: empty, or as many of its words as its count says, which is at most 32
pub record Within (words counts : List ℕ) (i : ℕ) : Type 0 where
  pub counted : i < length counts
  pub worded : capacity * i + capacity ≤ length words
  pub count_le : get_or counts i 0 ≤ capacity

pub row_cases : (words counts : List ℕ) (i : ℕ) → (row words counts i ≡ []) ⊎ Within words counts i
row_cases words counts i =
    ⊎_elim
    (λ p.
    ⊎_elim
    (λ q. inl (row_short words counts i q))
    (λ q. ⊎_elim (λ r. inl (row_over words counts i r)) (λ r. inr (record { counted = p; worded = q; count_le = r })) (lt_or_le capacity (get_or counts i 0)))
    (lt_or_le (length words) (capacity * i + capacity)))
    (λ p. inl (row_past words counts i p))
    (lt_or_le i (length counts))

-- a part of a list that is within it
pub part_length : (l : List ℕ) (at n : ℕ) → at + n ≤ length l → length (take n (drop at l)) ≡ n
part_length l at n p = length-take-le n (drop at l) (simp length-drop (omega arith))

-- a row's length is its count, and at most 32 in any case
within_length : (words counts : List ℕ) (i : ℕ) → Within words counts i → length (row words counts i) ≡ get_or counts i 0
within_length words counts i w =
    ap length (row_is words counts i w.counted w.worded w.count_le)
    ∙ part_length words (capacity * i) (get_or counts i 0) (omega arith)

pub length_row : (words counts : List ℕ) (i : ℕ) → length (row words counts i) ≤ capacity
length_row words counts i =
    ⊎_elim (λ e. rw e (omega arith)) (λ w. omega (arith, within_length words counts i w)) (row_cases words counts i)

-- ---- a part of a list after stores

-- stores before it or after it leave it
part_set : (n at : ℕ) (l : List ℕ) (k a : ℕ) → (k < at) ⊎ (at + n ≤ k) → take n (drop at (set l k a)) ≡ take n (drop at l)
part_set n at l k a (inl p) = rw (drop-set-lt at l k a p)
part_set n at l k a (inr p) =
    let e : k ≡ at + (k - at) = omega arith in
    ap (λ (x : ℕ). take n (drop at (set l x a))) e ∙ ap (take n) (drop-set-add at l (k - at) a)
    ∙ take-set-le n (drop at l) (k - at) a (omega arith)

part_sets : (vs : List ℕ) (n at : ℕ) (l : List ℕ) (k : ℕ) → (k + length vs ≤ at) ⊎ (at + n ≤ k)
    → take n (drop at (sets l k vs)) ≡ take n (drop at l)
part_sets [] n at l k p = refl
part_sets (a ∷ vs) n at l k (inl p) = part_sets vs n at (set l k a) (suc k) (inl (omega arith)) ∙ part_set n at l k a (inl (omega arith))
part_sets (a ∷ vs) n at l k (inr p) = part_sets vs n at (set l k a) (suc k) (inr (omega arith)) ∙ part_set n at l k a (inr p)

-- what was stored is there
part_same : (vs : List ℕ) (n at : ℕ) (l : List ℕ) → at + length vs ≤ length l → n ≤ length vs
    → take n (drop at (sets l at vs)) ≡ take n vs
part_same vs n at l p q =
    let rest = drop (at + length vs) l in
    rw (sets-eq vs l at p, append_assoc (take at l) vs rest, drop_at (take at l) (vs ++ rest) at (length-take-le at l (omega arith)))
    (take-append-le n vs rest q)

-- ---- a row written, in a table of any sizes

module _ (t : Table) (i : ℕ) (l : List ℕ) where
  -- the row is the list, if there is room for it
  pub row_same : i < length t.counts → capacity * i + capacity ≤ length t.words → length l ≤ capacity → row_of (with_row t i l) i ≡ l
  row_same p q r =
      let s = with_row t i l in
      let c : get_or s.counts i 0 ≡ length l = get_or-set_same t.counts i (length l) 0 p in
      row_is s.words s.counts i (rw (length-set t.counts i (length l)) p)
      (rw (length-sets t.words (capacity * i) (padded capacity l)) q) (rw c r)
      ∙ rw
      (c, part_same (padded capacity l) (length l) (capacity * i) t.words (rw (length_padded capacity l) q) (rw (length_padded capacity l) r))
      (take_padded capacity l r)

  -- another row stays: its words stand before those that are written, or after them
  separate : (j : ℕ) → j ≢ i → get_or t.counts j 0 ≤ capacity
      → (capacity * i + capacity ≤ capacity * j) ⊎ (capacity * j + get_or t.counts j 0 ≤ capacity * i)
  separate j n p = ⊎_elim (λ q. inl (omega arith)) (λ q. inr (omega (arith, n))) (lt_or_le i j)

  pub row_other : (j : ℕ) → j ≢ i → row_of (with_row t i l) j ≡ row_of t j
  unfolding row in_range
  row_other j n =
      let s = with_row t i l in
      let c : get_or s.counts j 0 ≡ get_or t.counts j 0 = get_or-set_other t.counts i j (length l) 0 n in
      ⊎_elim
      (λ p. row_over s.words s.counts j (rw c p) ∙ sym (row_over t.words t.counts j p))
      (λ p.
      rw (
        length-set t.counts i (length l),
        length-sets t.words (capacity * i) (padded capacity l),
        c,
        part_sets (padded capacity l) (get_or t.counts j 0) (capacity * j) t.words (capacity * i) (rw (length_padded capacity l) (separate j n p)),
      ))
      (lt_or_le capacity (get_or t.counts j 0))

-- ---- a store

-- what it is, where there is such a row and the list fits; elsewhere the table stays
pub stored_is : (t : Table) (i : ℕ) (l : List ℕ) → i < sites → length l ≤ capacity
    → stored_at t i l ≡ with_row t i l
unfolding stored_at
stored_is t i l p q = rw (lt-ltb i sites p, le-leb (length l) capacity q)

pub stored_past : (t : Table) (i : ℕ) (l : List ℕ) → sites ≤ i → stored_at t i l ≡ t
unfolding stored_at
stored_past t i l p = rw (le-ltb i sites p)

pub stored_long : (t : Table) (i : ℕ) (l : List ℕ) → capacity < length l → stored_at t i l ≡ t
unfolding stored_at
stored_long t i l p = rw (lt-leb (length l) capacity p, and-false)

-- stored in lists, which have room for a table or not
pub stored_in_lem : (words counts : List ℕ) (i : ℕ) (l : List ℕ) → sites ≤ length counts → capacity * sites ≤ length words
    → stored_in words counts i l ≡ stored_at (table_of words counts) i l
unfolding stored_in
stored_in_lem words counts i l p q = rw (le-leb sites (length counts) p, le-leb (capacity * sites) (length words) q)

pub stored_few : (words counts : List ℕ) (i : ℕ) (l : List ℕ) → length counts < sites → stored_in words counts i l ≡ table_of words counts
unfolding stored_in
stored_few words counts i l p = rw (lt-leb sites (length counts) p)

pub stored_short : (words counts : List ℕ) (i : ℕ) (l : List ℕ) → length words < capacity * sites → stored_in words counts i l ≡ table_of words counts
unfolding stored_in
stored_short words counts i l p = rw (lt-leb (capacity * sites) (length words) p, and-false)

-- a property that the store has where it is done, and that the table has, is one of what is stored in any case
module _ (P : Table → Type 0) (t : Table) (i : ℕ) (l : List ℕ) (same : P t) where
  pub stored_keeps : (i < sites → length l ≤ capacity → P (with_row t i l))
      → P (stored_at t i l)
  stored_keeps done =
      ⊎_elim
      (λ p.
      ⊎_elim (λ q. rw (stored_long t i l q) same) (λ q. rw (stored_is t i l p q) (done p q)) (lt_or_le capacity (length l)))
      (λ p. rw (stored_past t i l p) same)
      (lt_or_le i sites)

-- it keeps the sizes
pub stored_sized : {t : Table} → Sized t → (i : ℕ) (l : List ℕ) → Sized (stored_at t i l)
stored_sized {t} s i l =
    stored_keeps Sized t i l s
    (λ p q.
    record {
      counts_length = length-set t.counts i (length l) ∙ s.counts_length;
      words_length = length-sets t.words (capacity * i) (padded capacity l) ∙ s.words_length;
    })

-- the count at the place of a store is the new one, or there is none
pub count_same : (counts : List ℕ) (i n : ℕ) → (get_or (set counts i n) i 0 ≡ n) ⊎ (get_or (set counts i n) i 0 ≡ 0)
count_same counts i n =
    ⊎_elim (λ p. inl (get_or-set_same counts i n 0 p)) (λ p. inr (get_or-eq_default (set counts i n) 0 (rw (length-set counts i n) p)))
    (lt_or_le i (length counts))

-- the rows after it: the stored list, and each other row as it was
pub row_stored : {t : Table} → Sized t → (i : ℕ) (l : List ℕ) → i < sites → length l ≤ capacity → row_of (stored_at t i l) i ≡ l
row_stored {t} s i l p q = rw (stored_is t i l p q) (row_same t i l (omega arith) (omega arith) q)

pub row_stored_other : (t : Table) (i : ℕ) (l : List ℕ) (j : ℕ) → j ≢ i → row_of (stored_at t i l) j ≡ row_of t j
row_stored_other t i l j n =
    stored_keeps (λ s. row_of s j ≡ row_of t j) t i l refl (λ p q. row_other t i l j n)

-- ---- the empty table

-- a list of zeros has zero everywhere
get_or_zeros : (n i : ℕ) → ◌≡◌ {A = ℕ} (get_or (replicate n 0) i 0) 0
get_or_zeros zero i = refl
get_or_zeros (suc n) zero = refl
get_or_zeros (suc n) (suc i) = get_or_zeros n i

pub count_empty : (i : ℕ) → get_or empty_table.counts i 0 ≡ 0
unfolding empty_table
count_empty i = get_or_zeros sites i

pub empty_sized : Sized empty_table
unfolding empty_table
empty_sized = record { counts_length = length-replicate {A = ℕ} sites 0; words_length = length-replicate {A = ℕ} (capacity * sites) 0 }

pub row_empty : (i : ℕ) → row_of empty_table i ≡ []
row_empty i = row_none empty_table.words empty_table.counts i (count_empty i)

-- Laws of valid tables: what validity says of each row, and that stores of valid histories keep it.
use Rattle.std.specs.Prelude.{◌≡◌, refl, ◌⊎◌, Bool, true, false, cond, List, [], ℕ, ◌≤◌, ◌<◌, leb, ltb, eqb, length, get_or}
use Rattle.std.proofs.Common.{sym, ap, ◌∙◌, subst, ⊎_elim, arith, leb-true, lt-ltb, le-ltb, le-leb, eqb-true, eq-eqb, length-set, get_or-set_other}
use Rattle.std.proofs.Math.Decide.{ℕ_discrete}
use Rattle.std.proofs.Math.Seq.{length-sets}
use Rattle.basics.specs.Bools.{lt_or_le, and_left, and_right}
use Rattle.roster.specs.SitesLaws.{all_each, each_all}
use Rattle.history.specs.History.{valid_history}
use Rattle.history.specs.ValidLaws.{valid_nil}
use Rattle.history.specs.Words.{capacity}
use Rattle.table.specs.declared.Table.{Table}
use Rattle.table.specs.Table.{sites, row_of, with_row, stored_at, empty_table, valid_row, valid_table}
use Rattle.table.specs.TableLaws.{row_none, row_cases, row_same, row_other, stored_keeps, count_same, count_empty, row_empty}

-- ---- a row

-- what is right with row i of a valid table, for n sites
pub record ValidRow (limit n : ℕ) (t : Table) (i : ℕ) : Type 0 where
  pub count_le : get_or t.counts i 0 ≤ limit
  pub history : i < n → valid_history (row_of t i) ≡ true
  pub count_zero : n ≤ i → get_or t.counts i 0 ≡ 0
  pub empty : n ≤ i → row_of t i ≡ []

valid_row_lem : (limit n : ℕ) (t : Table) (i : ℕ) → valid_row limit n t.words t.counts i ≡ true → ValidRow limit n t i
unfolding valid_row
valid_row_lem limit n t i e =
    let count = get_or t.counts i 0 in
    let rest : cond (ltb i n) (valid_history (row_of t i)) (eqb count 0) ≡ true = and_right (leb count limit) _ e in
    let none : n ≤ i → count ≡ 0 = λ p. eqb-true count 0 (rw (le-ltb i n p) at rest) in
    record {
      count_le = leb-true count limit (and_left (leb count limit) _ e);
      history = λ p. rw (lt-ltb i n p) at rest;
      count_zero = none;
      empty = λ p. row_none t.words t.counts i (none p);
    }

row_valid_lem : (limit n : ℕ) (t : Table) (i : ℕ) → ValidRow limit n t i → valid_row limit n t.words t.counts i ≡ true
unfolding valid_row
row_valid_lem limit n t i v =
    let fits = le-leb (get_or t.counts i 0) limit v.count_le in
    ⊎_elim (λ p. rw (fits, lt-ltb i n p) (v.history p))
    (λ p. rw (fits, le-ltb i n p) (eq-eqb (get_or t.counts i 0) 0 (v.count_zero p)))
    (lt_or_le i n)

-- ---- the table

-- it is valid exactly where each row is
-- a row without a count is empty, and may be lent
pub valid_row_none : (limit n : ℕ) (words counts : List ℕ) (i : ℕ) → get_or counts i 0 ≡ 0 → valid_row limit n words counts i ≡ true
unfolding valid_row
valid_row_none limit n words counts i e = rw (row_none words counts i e, e, le-leb 0 limit (omega arith), valid_nil) (go (ltb i n))
  where
    go : (b : Bool) → cond b true true ≡ true
    go true = refl
    go false = refl

pub valid_each : (limit n : ℕ) (t : Table) → valid_table limit n t ≡ true → (i : ℕ) → i < sites → ValidRow limit n t i
unfolding valid_table
valid_each limit n t e i p = valid_row_lem limit n t i (all_each sites (valid_row limit n t.words t.counts) e i p)

pub each_valid : (limit n : ℕ) (t : Table) → ((i : ℕ) → i < sites → ValidRow limit n t i) → valid_table limit n t ≡ true
unfolding valid_table
each_valid limit n t h = each_all sites (valid_row limit n t.words t.counts) (λ i p. row_valid_lem limit n t i (h i p))

-- every row is a valid history, the empty ones too
pub valid_history_lem : (limit n : ℕ) (t : Table) → valid_table limit n t ≡ true → (i : ℕ) → i < sites → valid_history (row_of t i) ≡ true
valid_history_lem limit n t e i p =
    let v = valid_each limit n t e i p in
    ⊎_elim v.history (λ q. rw (v.empty q) valid_nil) (lt_or_le i n)

-- ---- stores

-- a row that stays is as valid as it was
valid_same : (limit n : ℕ) (s t : Table) (i : ℕ) → get_or s.counts i 0 ≡ get_or t.counts i 0 → row_of s i ≡ row_of t i → ValidRow limit n t i → ValidRow limit n s i
valid_same limit n s t i c r v =
    record {
      count_le = rw c v.count_le;
      history = λ p. rw r (v.history p);
      count_zero = λ p. c ∙ v.count_zero p;
      empty = λ p. r ∙ v.empty p;
    }

-- a row that is written is valid if the list is, and empty at n or above
valid_new : (limit n : ℕ) (t : Table) (i : ℕ) (l : List ℕ) → length l ≤ limit → length l ≤ capacity → valid_history l ≡ true → (n ≤ i → l ≡ [])
    → ValidRow limit n (with_row t i l) i
valid_new limit n t i l p k v z =
    let s = with_row t i l in
    let c : (get_or s.counts i 0 ≡ length l) ⊎ (get_or s.counts i 0 ≡ 0) = count_same t.counts i (length l) in
    let none : n ≤ i → get_or s.counts i 0 ≡ 0 = λ q. ⊎_elim (λ e. e ∙ ap length (z q)) (λ e. e) c in
    record {
      count_le = ⊎_elim (λ e. omega arith) (λ e. omega arith) c;
      history = λ q.
          ⊎_elim (λ e. rw e valid_nil)
          (λ w. rw (row_same t i l (rw length-set at w.counted) (rw length-sets at w.worded) k) v)
          (row_cases s.words s.counts i);
      count_zero = none;
      empty = λ q. row_none s.words s.counts i (none q);
    }

valid_with : (limit n : ℕ) (t : Table) (i : ℕ) (l : List ℕ) → length l ≤ limit → valid_history l ≡ true → (n ≤ i → l ≡ []) → valid_table limit n t ≡ true
    → valid_table limit n (stored_at t i l) ≡ true
valid_with limit n t i l k v z e =
    stored_keeps (λ s. valid_table limit n s ≡ true) t i l e
    (λ p q.
    each_valid limit n (with_row t i l)
    (λ j r.
    elim (ℕ_discrete j i) [
      | yes f ↦ subst (λ (k : ℕ). ValidRow limit n (with_row t i l) k) (sym f) (valid_new limit n t i l k q v z)
      | no f ↦ valid_same limit n (with_row t i l) t j (get_or-set_other t.counts i j (length l) 0 f) (row_other t i l j f) (valid_each limit n t e j r)
    ]))

-- a valid history stored at a site keeps the table valid, and the empty table is valid
pub valid_stored_lem : (limit n : ℕ) (t : Table) (i : ℕ) (l : List ℕ) → length l ≤ limit → valid_table limit n t ≡ true → i < n → valid_history l ≡ true
    → valid_table limit n (stored_at t i l) ≡ true
valid_stored_lem limit n t i l k e p v = valid_with limit n t i l k v (λ q. absurd (omega arith)) e

pub valid_empty : (limit n : ℕ) → valid_table limit n empty_table ≡ true
valid_empty limit n =
    each_valid limit n empty_table
    (λ i p.
    record {
      count_le = omega (arith, count_empty i);
      history = λ q. rw (row_empty i) valid_nil;
      count_zero = λ q. count_empty i;
      empty = λ q. row_empty i;
    })

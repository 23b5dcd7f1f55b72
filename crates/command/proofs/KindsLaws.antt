-- The rule of the table of kinds, and that conflict is symmetric.
use Rattle.std.specs.Prelude.{ℕ, ◌≤◌, ◌<◌, Bool, true, false, not, ◌&&◌, ◌≡◌, refl, List, [], eqb, leb, length, get_or}
use Rattle.std.proofs.Common.{arith, sym, ap, ◌∙◌, leb-true}
use Rattle.std.proofs.Math.Decide.{dec_lt}
use Rattle.std.specs.Bool.{beq}
use Rattle.std.proofs.Math.Bool.{and_comm, and-false}
use Rattle.std.proofs.Math.ListN.{get_or-eq_default}
use Rattle.std.proofs.lemmas.Bool.{lt-leb}
use Rattle.basics.specs.Bools.{and_left, and_right, every_below, every_at, beq_true}
use Rattle.command.specs.Command.{slot, kind, raise, is_kind, kinds_table, kinds_conflict, conflict}
use Rattle.command.specs.CommandLaws.{eqb_sym, same_sym}

-- The rule of the table of kinds.

-- two kinds conflict unless both are RAISE; a number that is no kind conflicts with none
unfoldable kinds_rule : ℕ → ℕ → Bool
kinds_rule k l = (is_kind k && is_kind l) && not (eqb k raise && eqb l raise)

-- the rule at one place of the table, and at a row, which is no longer than there are kinds
at_place : ℕ → ℕ → Bool
at_place k l = beq (kinds_conflict k l) (kinds_rule k l)

at_row : ℕ → Bool
at_row k = leb (length (get_or kinds_table k [])) 4 && every_below 4 (at_place k)

-- the one test, over the whole table
whole_table : every_below 4 at_row ≡ true
unfolding every_below at_row at_place kinds_conflict kinds_table kinds_rule is_kind
whole_table = refl

-- past the kinds the rule says no, and so does the table: there is no such row, and no row is that long
rule_past : (k l : ℕ) → 4 ≤ k → (kinds_rule k l ≡ false) × (kinds_rule l k ≡ false)
unfolding kinds_rule is_kind
rule_past k l h =
    let past : leb k 3 ≡ false = lt-leb k 3 (omega arith) in
    (rw (past, and-false (leb 1 k)), rw (past, and-false (leb 1 k), and-false (leb 1 l && leb l 3)))

pub kinds_past : (k l : ℕ) → 4 ≤ k → kinds_conflict k l ≡ false
unfolding kinds_conflict kinds_table
kinds_past k l h = ap (λ (row : List Bool). get_or row l false) (get_or-eq_default kinds_table [] {n = k} h)

column_past : (k l : ℕ) → at_row k ≡ true → 4 ≤ l → kinds_conflict k l ≡ false
unfolding kinds_conflict at_row
column_past k l t h =
    let short : length (get_or kinds_table k []) ≤ 4 = leb-true _ _ (and_left _ (every_below 4 (at_place k)) t) in
    get_or-eq_default (get_or kinds_table k []) false {n = l} (omega arith)

inside : (k l : ℕ) → at_row k ≡ true → l < 4 → kinds_conflict k l ≡ kinds_rule k l
unfolding at_row at_place
inside k l t h =
    beq_true (kinds_conflict k l) (kinds_rule k l)
    (every_at 4 (at_place k) (and_right (leb (length (get_or kinds_table k [])) 4) (every_below 4 (at_place k)) t) l h)

table_by_rule : (k l : ℕ) → kinds_conflict k l ≡ kinds_rule k l
table_by_rule k l = go (dec_lt k 4) (dec_lt l 4)
  where
    go : Dec (k < 4) → Dec (l < 4) → kinds_conflict k l ≡ kinds_rule k l
    go (yes h) (yes i) = inside k l (every_at 4 at_row whole_table k h) i
    go (yes h) (no i) =
        let past : 4 ≤ l = omega arith in
        column_past k l (every_at 4 at_row whole_table k h) past ∙ sym (rule_past l k past).1
    go (no h) j =
        let past : 4 ≤ k = omega arith in
        kinds_past k l past ∙ sym (rule_past k l past).0

-- Of any two numbers the table says yes exactly if both are kinds and not both are RAISE.
pub table_rule : (k l : ℕ) → kinds_conflict k l ≡ ((is_kind k && is_kind l) && not (eqb k raise && eqb l raise))
unfolding kinds_rule
table_rule k l = table_by_rule k l

rule_sym : (k l : ℕ) → kinds_rule k l ≡ kinds_rule l k
unfolding kinds_rule
rule_sym k l = rw (and_comm (is_kind k) (is_kind l), and_comm (eqb k raise) (eqb l raise))

pub kinds_sym : (k l : ℕ) → kinds_conflict k l ≡ kinds_conflict l k
kinds_sym k l = table_by_rule k l ∙ rule_sym k l ∙ sym (table_by_rule l k)

pub conflict_sym : (c d : ℕ) → conflict c d ≡ conflict d c
unfolding conflict
conflict_sym c d = rw (same_sym c d, eqb_sym (slot c) (slot d), kinds_sym (kind c) (kind d))

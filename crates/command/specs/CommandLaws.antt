-- Laws of commands: the identity of a request, conflict, and a list of commands. The rule of the table of kinds stands in proofs/KindsLaws.antt.
use Rattle.std.specs.Prelude.{ℕ, zero, suc, ◌+◌, ◌≤◌, ◌<◌, true, false, ◌≡◌, refl, List, eqb, leb, length, get_or, drop}
use Rattle.std.proofs.Common.{arith, add-one, not-suc-le-zero, sym, ◌∙◌, drop_of_length-le, eqb-true, eq-eqb, ne_eqb}
use Rattle.std.proofs.Math.Bool.{or-false}
use Rattle.std.proofs.Math.Dec.{eqb-zero-suc, eqb-suc-zero, eqb-suc-suc}
use Rattle.std.proofs.Math.Seq.{drop-cons}
use Rattle.std.proofs.lemmas.Bool.{not-false}
use Rattle.basics.specs.Bools.{and_left, and_right}
use Rattle.command.specs.Command.{proposer, serial, same_request, enrol, revoke, raise, conflict, valid_argument, valid_command, all_valid, wrong, all_by}

-- Equality of numbers is symmetric.

pub eqb_sym : (a b : ℕ) → eqb a b ≡ eqb b a
eqb_sym zero zero = refl
eqb_sym zero (suc b) = eqb-zero-suc b ∙ sym (eqb-suc-zero b)
eqb_sym (suc a) zero = eqb-suc-zero a ∙ sym (eqb-zero-suc a)
eqb_sym (suc a) (suc b) = eqb-suc-suc a b ∙ eqb_sym a b ∙ sym (eqb-suc-suc b a)

-- The identity of a request: two commands share it when proposer and serial are equal.

pub same_fields : (c d : ℕ) → same_request c d ≡ true → (proposer c ≡ proposer d) × (serial c ≡ serial d)
unfolding same_request
same_fields c d e = (
  eqb-true (proposer c) (proposer d) (and_left (eqb (proposer c) (proposer d)) (eqb (serial c) (serial d)) e),
  eqb-true (serial c) (serial d) (and_right (eqb (proposer c) (proposer d)) (eqb (serial c) (serial d)) e),
)

pub fields_same : (c d : ℕ) → proposer c ≡ proposer d → serial c ≡ serial d → same_request c d ≡ true
unfolding same_request
fields_same c d p q = rw (eq-eqb (proposer c) (proposer d) p, eq-eqb (serial c) (serial d) q)

pub same_refl : (c : ℕ) → same_request c c ≡ true
same_refl c = fields_same c c refl refl

pub same_sym : (c d : ℕ) → same_request c d ≡ same_request d c
unfolding same_request
same_sym c d = rw (eqb_sym (proposer c) (proposer d), eqb_sym (serial c) (serial d))

-- Conflict: commands of one request conflict, so conflict is reflexive.

pub same_conflict : (c d : ℕ) → same_request c d ≡ true → conflict c d ≡ true
unfolding conflict
same_conflict c d e = rw e

pub conflict_refl : (c : ℕ) → conflict c c ≡ true
conflict_refl c = same_conflict c c (same_refl c)

-- An argument is judged by its kind: RAISE's, then that of the two others, then that of a number that is no kind.

pub valid_raise : (k a : ℕ) → k ≡ raise → valid_argument k a ≡ leb 1 a
unfolding valid_argument
valid_raise k a e = rw e

pub valid_other : (k a : ℕ) → enrol ≤ k → k < raise → valid_argument k a ≡ eqb a 0
unfolding valid_argument
valid_other zero a l u = absurd (not-suc-le-zero l)
valid_other (suc zero) a l u = or-false (eqb a 0)
valid_other (suc (suc zero)) a l u = or-false (eqb a 0)
valid_other (suc (suc (suc k))) a l u = absurd (omega arith)

pub valid_no_kind : (k a : ℕ) → (k ≡ enrol → ⊥) → (k ≡ revoke → ⊥) → (k ≡ raise → ⊥) → valid_argument k a ≡ false
unfolding valid_argument
valid_no_kind k a p q r = rw (ne_eqb k enrol p, ne_eqb k revoke q, ne_eqb k raise r)

-- where COMMAND passes, each command is valid
pub right_commands : (h : List ℕ) → wrong h ≡ false → all_valid h ≡ true
unfolding wrong
right_commands h e = not-false (all_valid h) e

-- A walk over a list: a wrong command gives no, a valid one leaves the answer to what comes after, and past the end the answer is yes.

pub all_valid_stop : (h : List ℕ) (i : ℕ) → i < length h → valid_command (get_or h i 0) ≡ false → all_valid (drop i h) ≡ false
unfolding all_valid
all_valid_stop h i l e = rw (drop-cons h i 0, e)

pub all_valid_more : (h : List ℕ) (i : ℕ) → i < length h → valid_command (get_or h i 0) ≡ true → all_valid (drop i h) ≡ all_valid (drop (i + 1) h)
unfolding all_valid
all_valid_more h i l e = rw (add-one, drop-cons h i 0, e)

pub all_valid_end : (h : List ℕ) (i : ℕ) → length h ≤ i → all_valid (drop i h) ≡ true
unfolding all_valid
all_valid_end h i l = rw (drop_of_length-le h {i = i} l)

-- So it is with the commands by one proposer.

module _ (by : ℕ) (h : List ℕ) (i : ℕ) where
  pub all_by_stop : i < length h → eqb (proposer (get_or h i 0)) by ≡ false → all_by by (drop i h) ≡ false
  unfolding all_by
  all_by_stop l e = rw (drop-cons h i 0, e)

  pub all_by_more : i < length h → eqb (proposer (get_or h i 0)) by ≡ true → all_by by (drop i h) ≡ all_by by (drop (i + 1) h)
  unfolding all_by
  all_by_more l e = rw (add-one, drop-cons h i 0, e)

  pub all_by_end : length h ≤ i → all_by by (drop i h) ≡ true
  unfolding all_by
  all_by_end l = rw (drop_of_length-le h {i = i} l)

-- The sample table holds: one test that is computed over all of it, and for each kind of line a law that the test is enough.
use Rattle.std.specs.Prelude.{◌≡◌, refl, Bool, true, false, not, ◌&&◌, List, [], ◌∷◌, ℕ}
use Rattle.std.proofs.Common.{sym, ap, ap₂, true≢false}
use Rattle.std.proofs.Math.Option.{Option, none, some}
use Rattle.std.proofs.lemmas.Bool.{not-true}
use Rattle.std.specs.Int.Count.{ones, ones_in}
use Rattle.basics.specs.Bools.{and_left, and_right}
use Rattle.roster.specs.Sites.{count_to, all_to}
use Rattle.roster.specs.Mask.{unproven, bit, reaches, beyond}
use Rattle.roster.specs.Roster.{valid_roster, quorum}
use Rattle.command.specs.Command.{valid_argument, valid_command, all_valid, wrong, field, proposer, kind, serial, slot, argument, same_request, kinds_table, kinds_conflict, conflict}
use Rattle.history.specs.History.{present, repeated, apart, free, least, without, ordered, canonical, equal, is_canonical, valid_history, improper, comes_off, extends}
use Rattle.history.specs.Words.{commands, padded, valid_stored}
use Rattle.history.specs.ExtensionLaws.{extends_sound, extends_refuted}
use Rattle.history.specs.CanonicalLaws.{equal_true}
use Rattle.merge.specs.Merge.{appended, merge}
use Rattle.merge.specs.Merged.{answered}
use Rattle.merge.specs.Merged as answer
use Rattle.merge.specs.MergeLaws.{merge_found, merge_none}
use Rattle.table.specs.Table.{in_range, row, stored_at, empty_table, valid_row, valid_table}
use Rattle.refusal.specs.Rules.{judged}
use Rattle.frame.specs.Hex.{digit, is_digit, value_of, all_digits, byte_of, number_from, digits_of, spell, numbers, all_fit, total}
use Rattle.frame.specs.Kinds.{uses, is_kind, zero_unless, unused_zero}
use Rattle.frame.specs.Format.{line_of, proper, all_zero, fits, writable, framed, frame_of, is_line, reading_of, malformed}
use Rattle.content.specs.Content.{contradicts}
use Rattle.learner.specs.Learner.{fresh, config, with_vote, supporters, claimed, claims, further, merging, step}
use Rattle.learner.specs.Run.{run, outcomes}
use Rattle.samples.specs.Samples.{Sample, order, extension, no_extension, merged, split, votes, four, answers, Holds, samples, AllHold, end, line}

-- whether a merge is m, and whether there is none
is_found : Option (List ℕ) → List ℕ → Bool
is_found none m = false
is_found (some n) m = equal n m

is_none : Option (List ℕ) → Bool
is_none none = true
is_none (some n) = false

-- whether two lists of lists are equal
equal_all : List (List ℕ) → List (List ℕ) → Bool
equal_all [] [] = true
equal_all [] (h ∷ hs) = false
equal_all (g ∷ gs) [] = false
equal_all (g ∷ gs) (h ∷ hs) = equal g h && equal_all gs hs

equal_all_true : (gs hs : List (List ℕ)) → equal_all gs hs ≡ true → gs ≡ hs
unfolding equal_all
equal_all_true [] [] e = refl
equal_all_true [] (h ∷ hs) e = absurd (true≢false (sym e))
equal_all_true (g ∷ gs) [] e = absurd (true≢false (sym e))
equal_all_true (g ∷ gs) (h ∷ hs) e =
    ap₂ (λ (x : List ℕ) (l : List (List ℕ)). x ∷ l) (equal_true g h (and_left (equal g h) _ e)) (equal_all_true gs hs (and_right (equal g h) _ e))

-- the test of a line
test : Sample → Bool
test (order g m) = equal (canonical g) m
test (extension h g) = extends h g
test (no_extension h g) = not (extends h g)
test (merged g h m) = not (repeated h) && is_found (merge g h) m
test (split g h) = not (repeated h) && is_none (merge g h)
test (votes ls ws m) = equal_all (answers (outcomes four fresh ls)) ws && equal (commands (run four fresh ls).learned) m

found_some : (o : Option (List ℕ)) (m : List ℕ) → is_found o m ≡ true → o ≡ some m
unfolding is_found
found_some none m e = absurd (true≢false (sym e))
found_some (some n) m e = ap some (equal_true n m e)

none_none : (o : Option (List ℕ)) → is_none o ≡ true → o ≡ none
unfolding is_none
none_none none e = refl
none_none (some n) e = absurd (true≢false (sym e))

-- the test of a line is enough
tested : (s : Sample) → test s ≡ true → Holds s
unfolding test
tested (order g m) e = equal_true (canonical g) m e
tested (extension h g) e = extends_sound h g e
tested (no_extension h g) e = extends_refuted h g (not-true _ e)
tested (merged g h m) e = merge_found g h (not-true _ (and_left (not (repeated h)) _ e)) (found_some (merge g h) m (and_right (not (repeated h)) _ e))
tested (split g h) e = merge_none g h (not-true _ (and_left (not (repeated h)) _ e)) (none_none (merge g h) (and_right (not (repeated h)) _ e))
tested (votes ls ws m) e =
    (equal_all_true (answers (outcomes four fresh ls)) ws (and_left (equal_all (answers (outcomes four fresh ls)) ws) _ e), equal_true (commands (run four fresh ls).learned) m (and_right (equal_all (answers (outcomes four fresh ls)) ws) _ e))

all_tested : List Sample → Bool
all_tested [] = true
all_tested (s ∷ l) = test s && all_tested l

each : (l : List Sample) → all_tested l ≡ true → AllHold l
unfolding all_tested
each [] e = end
each (s ∷ l) e = line (tested s (and_left (test s) _ e)) (each l (and_right (test s) _ e))

-- Document 01's sample histories and votes are as it says.
pub samples_hold : AllHold samples
unfolding
    all_tested test is_found is_none equal_all
    field proposer kind serial slot argument valid_argument valid_command all_valid same_request kinds_table kinds_conflict conflict
    present repeated apart free least without ordered canonical equal is_canonical valid_history comes_off extends padded valid_stored
    appended merge answered answer.merged
    valid_roster quorum bit reaches beyond unproven ones ones_in count_to all_to
    in_range row stored_at empty_table valid_row valid_table
    judged
    digit is_digit value_of all_digits byte_of number_from digits_of spell numbers all_fit total
    uses is_kind zero_unless unused_zero line_of proper all_zero fits writable framed frame_of is_line reading_of malformed
    config wrong improper contradicts with_vote supporters claimed claims further merging step run outcomes
samples_hold = each samples refl

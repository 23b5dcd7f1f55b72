-- Which messages have a line, and what their first list is; and that the numbers and words of a frame that was read fit their widths.
use Rattle.std.specs.Prelude.{◌≡◌, true, false, List, [], ◌∷◌, ◌++◌, ℕ, zero, suc, ◌^◌, ◌≤◌, ◌<◌, ltb, length, get_or, take, drop}
use Rattle.std.proofs.Math.Path.{refl}
use Rattle.std.proofs.Common.{subst, append-nil, arith, lit<, length-append}
use Rattle.std.proofs.lemmas.Bool.{false≢true}
use borrow.Author.Tests.{ltb-true, lt-ltb, eq-eqb, not-false}
use Rattle.basics.specs.Bools.{and_left, and_right}
use Rattle.roster.specs.declared.View.{View}
use Rattle.roster.specs.declared.Ballot.{Ballot}
use Rattle.words.specs.Sizes.{capacity}
use Rattle.words.specs.Words.{padded}
use Rattle.words.specs.WordsLaws.{length_padded, take_padded}
use Rattle.history.specs.FitLaws.{EachFits, none, more, each_take, each_drop, each_append, each_padded}
use Rattle.frame.specs.Hex.{all_fit}
use Rattle.frame.specs.HexLaws.{fit_at}
use Rattle.frame.specs.Layout.{frame_capacity, widths, values, first, second}
use Rattle.frame.specs.Format.{reading_of, malformed, proper, all_zero, writable, written_length, written, head_of, listed, length_from, written_from}
use Rattle.frame.specs.Format as format
use Rattle.frame.specs.FormatLaws.{is_writable, found_header_fits, found_words_fit, padded_clear}
use Rattle.frame.specs.FromLaws.{from_listed}
use Rattle.site.specs.Message.{message}

-- ---- words of eight bytes

-- lists of them, as the format has it
pub each_fit : (n : ℕ) {l : List ℕ} → EachFits l → length l ≡ n → all_fit (format.commands n) l ≡ true
unfolding all_fit
each_fit zero none e = refl
each_fit zero (more p w) e = absurd (omega (arith, e))
each_fit (suc n) none e = absurd (omega (arith, e))
each_fit (suc n) (more {c = c} p w) e = rw (lt-ltb c (2 ^ 64) p) (each_fit n w (omega (arith, e)))

pub fit_each : (n : ℕ) (l : List ℕ) → all_fit (format.commands n) l ≡ true → EachFits l
unfolding all_fit
fit_each zero [] e = none
fit_each zero (c ∷ l) e = absurd (false≢true e)
fit_each (suc n) [] e = absurd (false≢true e)
fit_each (suc n) (c ∷ l) e = more (ltb-true c (2 ^ 64) (and_left (ltb c (2 ^ 64)) _ e)) (fit_each n l (and_right (ltb c (2 ^ 64)) _ e))

-- the words and numbers of a frame that FORM lets pass fit their widths
module _ (limit : ℕ) (line : List ℕ) (kinds : ℕ) (e : malformed limit line kinds ≡ false) where
  found : (reading_of limit line kinds).found ≡ true
  unfolding malformed
  found = not-false (reading_of limit line kinds).found e

  pub read_words_fit : EachFits (reading_of limit line kinds).frame.words
  read_words_fit = fit_each frame_capacity (reading_of limit line kinds).frame.words (found_words_fit limit line kinds found)

  pub read_first_fits : EachFits (first (reading_of limit line kinds).frame)
  read_first_fits = each_take (reading_of limit line kinds).frame.n read_words_fit

  pub read_second_fits : EachFits (second (reading_of limit line kinds).frame)
  read_second_fits = each_take (reading_of limit line kinds).frame.m (each_drop (reading_of limit line kinds).frame.n read_words_fit)

  -- field k of the header
  field_fits : (k : ℕ) → k < 8 → get_or (values (reading_of limit line kinds).frame) k 0 < 256 ^ get_or widths k 0
  field_fits k h = fit_at widths (values (reading_of limit line kinds).frame) (found_header_fits limit line kinds found) k h

  pub read_view_fits : (reading_of limit line kinds).frame.view.0 < 2 ^ 32
  read_view_fits = field_fits 2 (lit< tt)

  pub read_ballot_fits : (reading_of limit line kinds).frame.ballot.0 < 2 ^ 32
  read_ballot_fits = field_fits 3 (lit< tt)

  pub read_mask_fits : (reading_of limit line kinds).frame.mask < 2 ^ 16
  read_mask_fits = field_fits 5 (lit< tt)

-- ---- which messages have a line

-- a header of numbers that fit
header_fits : (kind own view ballot provenBallot mask n m : ℕ) → kind < 256 → own < 256 → view < 2 ^ 32 → ballot < 2 ^ 32 → provenBallot < 2 ^ 32 → mask < 2 ^ 16
    → n < 256 → m < 256 → all_fit widths (kind ∷ own ∷ view ∷ ballot ∷ provenBallot ∷ mask ∷ n ∷ m ∷ []) ≡ true
unfolding all_fit
header_fits kind own view ballot provenBallot mask n m a b c d e f g h =
    rw (
      lt-ltb kind 256 a,
      lt-ltb own 256 b,
      lt-ltb view (2 ^ 32) c,
      lt-ltb ballot (2 ^ 32) d,
      lt-ltb provenBallot (2 ^ 32) e,
      lt-ltb mask (2 ^ 16) f,
      lt-ltb n 256 g,
      lt-ltb m 256 h,
    )

-- a proper message of such numbers, with two lists that there is room for
module _ (kind own : ℕ) (view : View) (ballot provenBallot : Ballot) (mask : ℕ) {h k : List ℕ} (p : length h ≤ capacity) (q : length k ≤ capacity)
    (v : EachFits h) (w : EachFits k) where
  pub message_writable : kind < 256 → own < 256 → view.0 < 2 ^ 32 → ballot.0 < 2 ^ 32 → provenBallot.0 < 2 ^ 32 → mask < 2 ^ 16
      → proper capacity (message kind own view ballot provenBallot mask h k) ≡ true → writable (message kind own view ballot provenBallot mask h k) ≡ true
  message_writable a b c d e f good =
      is_writable (message kind own view ballot provenBallot mask h k)
      (record {
        values_proper = good;
        clear = subst (λ (n : ℕ). all_zero (drop n (message kind own view ballot provenBallot mask h k).words) ≡ true) (length-append h k) (padded_clear frame_capacity (h ++ k));
        header_fits = header_fits kind own view.0 ballot.0 provenBallot.0 mask (length h) (length k) a b c d e f (omega arith) (omega arith);
        words_fit = each_fit frame_capacity (each_padded frame_capacity (each_append v w)) (length_padded frame_capacity (h ++ k));
      })

-- and one without commands
pub bare_writable : (kind own : ℕ) (view : View) (ballot provenBallot : Ballot) (mask : ℕ)
    → kind < 256 → own < 256 → view.0 < 2 ^ 32 → ballot.0 < 2 ^ 32 → provenBallot.0 < 2 ^ 32 → mask < 2 ^ 16
    → proper capacity (message kind own view ballot provenBallot mask [] []) ≡ true → writable (message kind own view ballot provenBallot mask [] []) ≡ true
bare_writable kind own view ballot provenBallot mask =
    message_writable kind own view ballot provenBallot mask (omega arith) (omega arith) none none

-- ---- the frame of a heading and two lists

-- what is written of a message's heading and its two lists is what is written of the message
module _ (kind own : ℕ) (view : View) (ballot provenBallot : Ballot) (mask : ℕ) (h k out : List ℕ) where
  are_listed : listed (head_of (message kind own view ballot provenBallot mask h k)) h k ≡ true
  unfolding listed
  are_listed = rw (eq-eqb (length h) (length h) refl, eq-eqb (length k) (length k) refl)

  pub message_length : length_from (head_of (message kind own view ballot provenBallot mask h k)) h k out
      ≡ written_length (message kind own view ballot provenBallot mask h k) out
  message_length = (from_listed (head_of (message kind own view ballot provenBallot mask h k)) h k out are_listed).0

  pub message_written : written_from (head_of (message kind own view ballot provenBallot mask h k)) h k out
      ≡ written (message kind own view ballot provenBallot mask h k) out
  message_written = (from_listed (head_of (message kind own view ballot provenBallot mask h k)) h k out are_listed).1

-- ---- the lists of a message

-- the first list of a frame with one list
pub first_is : (h : List ℕ) → length h ≤ frame_capacity → take (length h) (padded frame_capacity (h ++ [])) ≡ h
first_is h l = rw (append-nil h) (take_padded frame_capacity h l)

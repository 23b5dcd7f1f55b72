-- Frames whose heading and two lists of commands are apart: which have a line, what it is, and that every frame with a line is such a one.
use Rattle.std.specs.Prelude.{ℕ, ◌+◌, ◌-◌, ◌^◌, ◌≤◌, ◌<◌, ◌≡◌, true, eqb, drop, replicate}
use Rattle.std.proofs.Common.{zero-add, suc-add, arith, sym, ◌∙◌, length-append, take-add, length-take-le}
use Rattle.std.proofs.Math.Path.{ap, ap₂}
use mathlib.Core.List.{List, [], ◌∷◌, ◌++◌, append_assoc}
use Rattle.std.proofs.Math.ListN.{length, length-drop}
use borrow.Author.Tests.{eqb-true, eq-eqb, lt-ltb}
use Rattle.basics.specs.Bools.{and_both, and_left, and_right}
use Rattle.words.specs.Sizes.{capacity}
use Rattle.words.specs.Words.{padded}
use Rattle.words.specs.WordsLaws.{padded_zeros}
use Rattle.frame.specs.declared.Frame.{Frame}
use Rattle.frame.specs.declared.Heading.{Heading}
use Rattle.frame.specs.Hex.{digits_of, spell, all_fit}
use Rattle.frame.specs.Layout.{command_width, frame_capacity, widths, values, count, first, second}
use Rattle.frame.specs.Format.{commands, line_feed, line_of, proper, all_zero, writable, written_length, written, head_of, frame_with, frame_from, listed, length_from, written_from}
use Rattle.frame.specs.FormatLaws.{proper_n, proper_m, proper_count, is_writable, fit_append, fit_padded, padded_clear, padded_words, spell_more}

-- two lists of commands spell one after the other
spell_append : (xs ys : List ℕ) → spell (commands (length xs + length ys)) (xs ++ ys) ≡ spell (commands (length xs)) xs ++ spell (commands (length ys)) ys
unfolding spell
spell_append [] ys = ap (λ (n : ℕ). spell (commands n) ys) (zero-add (length ys))
spell_append (x ∷ xs) ys =
    ap (λ (n : ℕ). spell (commands n) (x ∷ xs ++ ys)) (suc-add (length xs) (length ys))
    ∙ ap (λ (s : List ℕ). digits_of command_width x ++ s) (spell_append xs ys)
    ∙ sym (append_assoc (digits_of command_width x) (spell (commands (length xs)) xs) (spell (commands (length ys)) ys))

-- numbers that fit their widths, as those of each value of the type do
pub record Sized (h : Heading) : Type 0 where
  pub kind : h.kind < 256
  pub sender : h.sender < 256
  pub view : h.view.0 < 2 ^ 32
  pub ballot : h.ballot.0 < 2 ^ 32
  pub proven_ballot : h.proven_ballot.0 < 2 ^ 32
  pub mask : h.mask < 2 ^ 16

header_fits : (h : Heading) (ws : List ℕ) → Sized h → h.n < 256 → h.m < 256 → all_fit widths (values (frame_with h ws)) ≡ true
unfolding all_fit
header_fits h ws s n m =
    rw (
      lt-ltb h.kind 256 s.kind,
      lt-ltb h.sender 256 s.sender,
      lt-ltb h.view.0 (2 ^ 32) s.view,
      lt-ltb h.ballot.0 (2 ^ 32) s.ballot,
      lt-ltb h.proven_ballot.0 (2 ^ 32) s.proven_ballot,
      lt-ltb h.mask (2 ^ 16) s.mask,
      lt-ltb h.n 256 n,
      lt-ltb h.m 256 m,
    )

module _ (h : Heading) (g k : List ℕ) (e : listed h g k ≡ true) where
  pub listed_first : length g ≡ h.n
  unfolding listed
  listed_first = eqb-true (length g) h.n (and_left (eqb (length g) h.n) (eqb (length k) h.m) e)

  pub listed_second : length k ≡ h.m
  unfolding listed
  listed_second = eqb-true (length k) h.m (and_right (eqb (length g) h.n) (eqb (length k) h.m) e)

  pub listed_count : h.n + h.m ≡ length g + length k
  listed_count = omega (arith, listed_first, listed_second)

  both_length : length (g ++ k) ≡ length g + length k
  both_length = length-append g k

  -- the words of a proper one are the lists, and zeros
  both_few : proper capacity (frame_from h g k) ≡ true → length (g ++ k) ≤ frame_capacity
  both_few p = omega (arith, proper_count capacity (frame_from h g k) p, listed_count, both_length)

  both_padded : proper capacity (frame_from h g k) ≡ true → padded frame_capacity (g ++ k) ≡ (g ++ k) ++ replicate (frame_capacity - length (g ++ k)) 0
  both_padded p = sym (padded_zeros frame_capacity (g ++ k) (both_few p))

  -- a proper one of numbers that fit has a line
  pub from_writable : proper capacity (frame_from h g k) ≡ true → all_fit widths (values (frame_from h g k)) ≡ true
      → all_fit (commands (length g)) g ≡ true → all_fit (commands (length k)) k ≡ true → writable (frame_from h g k) ≡ true
  from_writable p f a b =
      is_writable (frame_from h g k)
      (record {
        values_proper = p;
        clear = ap (λ (n : ℕ). all_zero (drop n (padded frame_capacity (g ++ k)))) (listed_count ∙ sym both_length) ∙ padded_clear frame_capacity (g ++ k);
        header_fits = f;
        words_fit = fit_padded frame_capacity (length g + length k) (g ++ k) (fit_append (length g) (length k) g k a b);
      })

  pub sized_writable : proper capacity (frame_from h g k) ≡ true → Sized h
      → all_fit (commands (length g)) g ≡ true → all_fit (commands (length k)) k ≡ true → writable (frame_from h g k) ≡ true
  sized_writable p s a b =
      let n = proper_n capacity (frame_from h g k) p in
      let m = proper_m capacity (frame_from h g k) p in
      from_writable p (header_fits h (padded frame_capacity (g ++ k)) s (omega (arith, n)) (omega (arith, m))) a b

  -- which is the header, the first list, the second, and the line feed
  pub from_line : proper capacity (frame_from h g k) ≡ true → line_of (frame_from h g k)
      ≡ spell widths (values (frame_from h g k)) ++ ((spell (commands (length g)) g ++ spell (commands (length k)) k) ++ line_feed ∷ [])
  unfolding line_of
  from_line p =
      let words : spell (commands (h.n + h.m)) (padded frame_capacity (g ++ k)) ≡ spell (commands (length g)) g ++ spell (commands (length k)) k =
      ap₂ (λ (n : ℕ) (ws : List ℕ). spell (commands n) ws) listed_count (both_padded p)
      ∙ spell_more (length g + length k) (g ++ k) (replicate (frame_capacity - length (g ++ k)) 0) both_length
      ∙ spell_append g k in
      ap (λ (s : List ℕ). spell widths (values (frame_from h g k)) ++ (s ++ line_feed ∷ [])) words

-- what is written where the lists are n and m long
pub from_listed : (h : Heading) (g k out : List ℕ) → listed h g k ≡ true
    → (length_from h g k out ≡ written_length (frame_from h g k) out) × (written_from h g k out ≡ written (frame_from h g k) out)
unfolding length_from written_from
from_listed h g k out e = (rw e, rw e)

-- a frame with 0 after its commands is that of its heading and its two lists
module _ (f : Frame) (size : length f.words ≡ frame_capacity) (few : count f ≤ frame_capacity) where
  pub lists_are : listed (head_of f) (first f) (second f) ≡ true
  unfolding listed
  lists_are =
      and_both (eqb (length (first f)) f.n) (eqb (length (second f)) f.m)
      (eq-eqb (length (first f)) f.n (length-take-le f.n f.words (omega arith)))
      (eq-eqb (length (second f)) f.m (length-take-le f.m (drop f.n f.words) (omega (arith, length-drop f.n f.words))))

  pub from_parts : all_zero (drop (count f) f.words) ≡ true → frame_from (head_of f) (first f) (second f) ≡ f
  from_parts z =
      ap (λ (ws : List ℕ). frame_with (head_of f) (padded frame_capacity ws)) (sym (take-add f.n f.m f.words))
      ∙ ap (frame_with (head_of f)) (padded_words (count f) frame_capacity f.words size few z)

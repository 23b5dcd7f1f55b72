-- Laws of the format: reading what was written gives the frame, writing what was read gives the line, and what is known of both.
use Prim.Native.Nat.{ℕ, zero, suc, ◌+◌, ◌-◌, ◌*◌, ◌^◌, ◌≤◌, ◌<◌, zero-le}
use Rattle.std.proofs.Common.{zero-add, suc-add, le_refl, arith, subst, ◌∙◌, true≢false, take-append-drop, drop_of_length-le}
use Rattle.std.specs.Prelude.{◌≡◌, Bool, cond, ◌&&◌, ltb, eqb, drop, replicate}
use Rattle.std.proofs.Math.Path.{refl, sym, ap, ap₂}
use Rattle.std.proofs.Math.Bool.{true, false}
use mathlib.Core.List.{List, [], ◌∷◌, ◌++◌, append_assoc}
use Rattle.std.proofs.Math.Dec.{leb}
use Rattle.std.proofs.Math.ListN.{length, get_or, take, length-append, length-replicate, length-drop}
use Rattle.std.proofs.Math.Seq.{take_at, drop_at, get_or_at, take-add, split_at, length-take-le}
use borrow.Author.Tests.{eqb-true, eq-eqb, leb-true, le-leb}
use Rattle.basics.specs.Bools.{and_both, and_left, and_right}
use Rattle.words.specs.Sizes.{capacity}
use Rattle.words.specs.Words.{padded}
use Rattle.words.specs.WordsLaws.{padded_zeros}
use Rattle.frame.specs.declared.Frame.{Frame}
use Rattle.frame.specs.Format.{Reading}
use Rattle.roster.specs.Mask.{bit}
use Rattle.frame.specs.Hex.{all_digits, digits_of, spell, numbers, all_fit, total}
use Rattle.frame.specs.HexLaws.{all_append, length_spell, all_spell, numbers_spell, numbers_fit, spell_numbers, length_numbers, numbers_take}
use Rattle.frame.specs.Layout.{command_width, frame_capacity, widths, values, with_values, count, line_length, longest}
use Rattle.frame.specs.Kinds.{is_kind, unused_zero}
use Rattle.frame.specs.Format.{commands, line_feed, line_of, proper, all_zero, fits, writable, framed, frame_of, is_line, blank, nothing, reading_of}

-- ---- the layout

-- the header has 18 bytes, and the longest line 1,061 characters
pub header_bytes : total widths ≡ 18
unfolding total
header_bytes = refl

pub longest_is : longest ≡ 1061
unfolding total
longest_is = refl

pub total_commands : (k : ℕ) → total (commands k) ≡ command_width * k
unfolding total
total_commands zero = refl
total_commands (suc k) = omega (arith, total_commands k)

-- ---- what is known of a proper and of a writable frame

module _ (limit : ℕ) (f : Frame) (p : proper limit f ≡ true) where
  pub proper_kind : is_kind f.kind ≡ true
  unfolding proper
  proper_kind = and_left (is_kind f.kind) ((leb f.n limit && leb f.m limit) && unused_zero f) p

  counts : (leb f.n limit && leb f.m limit) ≡ true
  unfolding proper
  counts =
      and_left (leb f.n limit && leb f.m limit) (unused_zero f)
      (and_right (is_kind f.kind) ((leb f.n limit && leb f.m limit) && unused_zero f) p)

  pub proper_unused : unused_zero f ≡ true
  unfolding proper
  proper_unused =
      and_right (leb f.n limit && leb f.m limit) (unused_zero f)
      (and_right (is_kind f.kind) ((leb f.n limit && leb f.m limit) && unused_zero f) p)

  pub proper_n : f.n ≤ limit
  proper_n = leb-true f.n limit (and_left (leb f.n limit) (leb f.m limit) counts)

  pub proper_m : f.m ≤ limit
  proper_m = leb-true f.m limit (and_right (leb f.n limit) (leb f.m limit) counts)

  pub proper_count : count f ≤ limit + limit
  proper_count = omega (arith, proper_n, proper_m)

  -- under another limit it is proper as long as n and m are within that, and so under each that is no less
  pub proper_within : (other : ℕ) → f.n ≤ other → f.m ≤ other → proper other f ≡ true
  unfolding proper
  proper_within other n m = simp (proper_kind, le-leb f.n other n, le-leb f.m other m, proper_unused)

  pub proper_more : (other : ℕ) → limit ≤ other → proper other f ≡ true
  proper_more other h = proper_within other (omega (arith, proper_n)) (omega (arith, proper_m))

pub record Written (f : Frame) : Type 0 where
  pub values_proper : proper capacity f ≡ true
  pub clear : all_zero (drop (count f) f.words) ≡ true
  pub header_fits : all_fit widths (values f) ≡ true
  pub words_fit : all_fit (commands frame_capacity) f.words ≡ true

pub writable_is : (f : Frame) → writable f ≡ true → Written f
unfolding writable fits
writable_is f e =
    let z = all_zero (drop (count f) f.words) in
    let a = all_fit widths (values f) in
    let b = all_fit (commands frame_capacity) f.words in
    let r = and_right (proper capacity f) (z && (a && b)) e in
    let s = and_right z (a && b) r in
    record {
      values_proper = and_left (proper capacity f) (z && (a && b)) e;
      clear = and_left z (a && b) r;
      header_fits = and_left a b s;
      words_fit = and_right a b s;
    }

pub is_writable : (f : Frame) → Written f → writable f ≡ true
unfolding writable fits
is_writable f w = simp (w.values_proper, w.clear, w.header_fits, w.words_fit)

-- what makes a line
pub record Parts (limit : ℕ) (l : List ℕ) : Type 0 where
  pub digits : all_digits (take (length l - 1) l) ≡ true
  pub feed : get_or l (length l - 1) 0 ≡ line_feed
  pub size : length l ≡ line_length (count (frame_of l))
  pub values_proper : proper limit (frame_of l) ≡ true

pub line_is : (limit : ℕ) (l : List ℕ) → is_line limit l ≡ true → Parts limit l
unfolding is_line
line_is limit l e =
    let d = all_digits (take (length l - 1) l) in
    let c = eqb (get_or l (length l - 1) 0) line_feed in
    let s = eqb (length l) (line_length (count (frame_of l))) in
    let v = proper limit (frame_of l) in
    let left = and_left (d && c) (s && v) e in
    let right = and_right (d && c) (s && v) e in
    record {
      digits = and_left d c left;
      feed = eqb-true (get_or l (length l - 1) 0) line_feed (and_right d c left);
      size = eqb-true (length l) (line_length (count (frame_of l))) (and_left s v right);
      values_proper = and_right s v right;
    }

pub is_line_lem : (limit : ℕ) (l : List ℕ) → Parts limit l → is_line limit l ≡ true
unfolding is_line
is_line_lem limit l p =
    let feed = eq-eqb (get_or l (length l - 1) 0) line_feed p.feed in
    let size = eq-eqb (length l) (line_length (count (frame_of l))) p.size in
    simp (p.digits, feed, size, p.values_proper)

-- ---- words, and the commands among them

-- numbers that fit are as many as their widths
pub fit_length : (ws xs : List ℕ) → all_fit ws xs ≡ true → length xs ≡ length ws
unfolding all_fit
fit_length [] [] e = refl
fit_length [] (x ∷ xs) e = absurd (true≢false (sym e))
fit_length (w ∷ ws) [] e = absurd (true≢false (sym e))
fit_length (w ∷ ws) (x ∷ xs) e = ap suc (fit_length ws xs (and_right (ltb x (256 ^ w)) (all_fit ws xs) e))

-- the first k of j words fit, and spell as all of them do in k places
fit_front : (k j : ℕ) (xs : List ℕ) → k ≤ j → all_fit (commands j) xs ≡ true → all_fit (commands k) (take k xs) ≡ true
unfolding all_fit
fit_front zero j xs h e = refl
fit_front (suc k) zero xs h e = absurd (omega arith)
fit_front (suc k) (suc j) [] h e = absurd (true≢false (sym e))
fit_front (suc k) (suc j) (x ∷ xs) h e =
    let t = ltb x (256 ^ command_width) in
    and_both t (all_fit (commands k) (take k xs)) (and_left t (all_fit (commands j) xs) e)
    (fit_front k j xs (omega arith) (and_right t (all_fit (commands j) xs) e))

pub spell_front : (k : ℕ) (xs : List ℕ) → spell (commands k) (take k xs) ≡ spell (commands k) xs
unfolding spell
spell_front zero xs = refl
spell_front (suc k) [] = refl
spell_front (suc k) (x ∷ xs) = ap (λ (s : List ℕ). digits_of command_width x ++ s) (spell_front k xs)

zeros_are : (xs : List ℕ) → all_zero xs ≡ true → xs ≡ replicate (length xs) 0
unfolding all_zero
zeros_are [] e = refl
zeros_are (x ∷ xs) e =
    ap₂ (λ (n : ℕ) (s : List ℕ). n ∷ s) (eqb-true x 0 (and_left (eqb x 0) (all_zero xs) e)) (zeros_are xs (and_right (eqb x 0) (all_zero xs) e))

-- words whose rest is 0 are their first ones padded
pub padded_words : (k n : ℕ) (xs : List ℕ) → length xs ≡ n → k ≤ n → all_zero (drop k xs) ≡ true → padded n (take k xs) ≡ xs
padded_words k n xs e h z =
    let size : length (take k xs) ≡ k = length-take-le k xs (omega arith) in
    let rest : n - length (take k xs) ≡ length (drop k xs) = omega (arith, length-drop k xs, size) in
    sym (padded_zeros n (take k xs) (omega arith))
    ∙ ap (λ (n : ℕ). take k xs ++ replicate n 0) rest
    ∙ ap (λ (s : List ℕ). take k xs ++ s) (sym (zeros_are (drop k xs) z))
    ∙ take-append-drop k xs

-- after a list that is padded stand zeros
pub padded_clear : (n : ℕ) (l : List ℕ) → all_zero (drop (length l) (padded n l)) ≡ true
unfolding padded all_zero
padded_clear zero [] = refl
padded_clear zero (c ∷ l) = refl
padded_clear (suc n) [] = padded_clear n []
padded_clear (suc n) (c ∷ l) = padded_clear n l

-- numbers that fit do so together, and padded, and spell the same with others after them
pub fit_padded : (n k : ℕ) (xs : List ℕ) → all_fit (commands k) xs ≡ true → all_fit (commands n) (padded n xs) ≡ true
unfolding all_fit padded
fit_padded zero k xs e = refl
fit_padded (suc n) k [] e = fit_padded n 0 [] refl
fit_padded (suc n) zero (x ∷ xs) e = absurd (true≢false (sym e))
fit_padded (suc n) (suc k) (x ∷ xs) e =
    let t = ltb x (256 ^ command_width) in
    and_both t (all_fit (commands n) (padded n xs)) (and_left t (all_fit (commands k) xs) e)
    (fit_padded n k xs (and_right t (all_fit (commands k) xs) e))

pub fit_append : (k j : ℕ) (xs ys : List ℕ) → all_fit (commands k) xs ≡ true → all_fit (commands j) ys ≡ true → all_fit (commands (k + j)) (xs ++ ys) ≡ true
unfolding all_fit
fit_append zero j [] ys e f = subst (λ (n : ℕ). all_fit (commands n) ys ≡ true) (sym (zero-add j)) f
fit_append zero j (x ∷ xs) ys e f = absurd (true≢false (sym e))
fit_append (suc k) j [] ys e f = absurd (true≢false (sym e))
fit_append (suc k) j (x ∷ xs) ys e f =
    let t = ltb x (256 ^ command_width) in
    subst (λ (n : ℕ). all_fit (commands n) (x ∷ xs ++ ys) ≡ true) (sym (suc-add k j))
    (and_both t (all_fit (commands (k + j)) (xs ++ ys)) (and_left t (all_fit (commands k) xs) e)
    (fit_append k j xs ys (and_right t (all_fit (commands k) xs) e) f))

pub spell_more : (k : ℕ) (xs r : List ℕ) → length xs ≡ k → spell (commands k) (xs ++ r) ≡ spell (commands k) xs
spell_more k xs r e =
    sym (spell_front k (xs ++ r)) ∙ ap (spell (commands k)) (take_at xs r k e)

-- ---- the line of a frame

module _ (f : Frame) (w : Written f) where
  few : count f ≤ frame_capacity
  few = proper_count capacity f w.values_proper

  front_fits : all_fit (commands (count f)) (take (count f) f.words) ≡ true
  front_fits = fit_front (count f) frame_capacity f.words few w.words_fit

  header_size_lem : length (spell widths (values f)) ≡ 2 * total widths
  header_size_lem = length_spell widths (values f) w.header_fits

  commands_size : length (spell (commands (count f)) f.words) ≡ 2 * (command_width * count f)
  commands_size =
      ap length (sym (spell_front (count f) f.words)) ∙ length_spell (commands (count f)) (take (count f) f.words) front_fits
      ∙ ap (λ (n : ℕ). 2 * n) (total_commands (count f))

  digits_are : List ℕ
  digits_are = spell widths (values f) ++ spell (commands (count f)) f.words

  digits_size : length digits_are ≡ 2 * (total widths + command_width * count f)
  unfolding digits_are
  digits_size = omega (arith, length-append (spell widths (values f)) (spell (commands (count f)) f.words), header_size_lem, commands_size)

  line_split : line_of f ≡ digits_are ++ line_feed ∷ []
  unfolding line_of digits_are
  line_split = sym (append_assoc (spell widths (values f)) (spell (commands (count f)) f.words) (line_feed ∷ []))

  -- its length
  pub line_length_lem : length (line_of f) ≡ line_length (count f)
  line_length_lem = ap length line_split ∙ omega (arith, length-append digits_are (line_feed ∷ []), digits_size)

  pub line_longest : length (line_of f) ≤ longest
  line_longest = omega (arith, line_length_lem, few)

  line_values : numbers widths (line_of f) ≡ values f
  unfolding line_of
  line_values = numbers_spell widths (values f) (spell (commands (count f)) f.words ++ line_feed ∷ []) w.header_fits

  line_rest : drop (2 * total widths) (line_of f) ≡ spell (commands (count f)) (take (count f) f.words) ++ line_feed ∷ []
  unfolding line_of
  line_rest =
      drop_at (spell widths (values f)) (spell (commands (count f)) f.words ++ line_feed ∷ []) (2 * total widths) header_size_lem
      ∙ ap (λ (s : List ℕ). s ++ line_feed ∷ []) (sym (spell_front (count f) f.words))

  -- reading what was written gives the frame
  pub read_written : frame_of (line_of f) ≡ f
  unfolding frame_of framed
  read_written =
      ap₂ framed line_values line_rest
      ∙ ap (λ (ws : List ℕ). with_values (values f) (padded frame_capacity ws))
      (numbers_spell (commands (count f)) (take (count f) f.words) (line_feed ∷ []) front_fits)
      ∙ ap (with_values (values f))
      (padded_words (count f) frame_capacity f.words
      (fit_length (commands frame_capacity) f.words w.words_fit ∙ length-replicate frame_capacity command_width) few w.clear)

  -- and the line is one, under each limit that n and m are within
  line_parts : (limit : ℕ) → f.n ≤ limit → f.m ≤ limit → Parts limit (line_of f)
  unfolding digits_are
  line_parts limit n m =
      let size : length (line_of f) - 1 ≡ length digits_are = omega (arith, line_length_lem, digits_size) in
      record {
        size = line_length_lem ∙ ap (λ (g : Frame). line_length (count g)) (sym read_written);
        digits =
            ap all_digits (ap₂ take size line_split ∙ take_at digits_are (line_feed ∷ []) (length digits_are) refl)
            ∙ all_append (spell widths (values f)) (spell (commands (count f)) f.words)
            ∙ and_both (all_digits (spell widths (values f))) (all_digits (spell (commands (count f)) f.words))
            (all_spell widths (values f)) (all_spell (commands (count f)) f.words);
        feed = ap₂ (λ (n : ℕ) (l : List ℕ). get_or l n 0) size line_split ∙ get_or_at digits_are line_feed [] 0 (length digits_are) refl;
        values_proper = ap (proper limit) read_written ∙ proper_within capacity f w.values_proper limit n m;
      }

-- ---- the frame of a line

module _ (limit : ℕ) (l : List ℕ) (p : Parts limit l) where
  held : ℕ
  held = count (frame_of l)

  body : List ℕ
  body = take (length l - 1) l

  -- the digits and the line feed
  body_feed : l ≡ body ++ line_feed ∷ []
  unfolding body
  body_feed =
      let n = length l - 1 in
      let inside : n < length l = omega (arith, p.size) in
      split_at l n 0 inside
      ∙ ap (λ (r : List ℕ). take n l ++ get_or l n 0 ∷ r) (drop_of_length-le l {i = suc n} (omega arith))
      ∙ ap (λ (c : ℕ). take n l ++ c ∷ []) p.feed

  -- those of the header, and those of the commands
  head_digits : List ℕ
  head_digits = take (2 * total widths) l

  command_digits : List ℕ
  command_digits = take (2 * total (commands held)) (drop (2 * total widths) l)

  body_split : body ≡ head_digits ++ command_digits
  unfolding body head_digits command_digits held
  body_split =
      let e : length l - 1 ≡ 2 * total widths + 2 * total (commands (count (frame_of l))) = omega (arith, p.size, total_commands (count (frame_of l))) in
      ap (λ (n : ℕ). take n l) e
      ∙ take-add (2 * total widths) (2 * total (commands (count (frame_of l)))) l

  head_size : length head_digits ≡ 2 * total widths
  unfolding head_digits
  head_size = length-take-le (2 * total widths) l (omega (arith, p.size))

  command_size : length command_digits ≡ 2 * total (commands held)
  unfolding command_digits held
  command_size =
      length-take-le (2 * total (commands (count (frame_of l)))) (drop (2 * total widths) l)
      (omega (arith, p.size, total_commands (count (frame_of l)), length-drop (2 * total widths) l))

  both_spelled : (all_digits head_digits && all_digits command_digits) ≡ true
  unfolding body
  both_spelled = sym (all_append head_digits command_digits) ∙ ap all_digits (sym body_split) ∙ p.digits

  head_spelled : all_digits head_digits ≡ true
  head_spelled = and_left (all_digits head_digits) (all_digits command_digits) both_spelled

  command_spelled : all_digits command_digits ≡ true
  command_spelled = and_right (all_digits head_digits) (all_digits command_digits) both_spelled

  -- the frame's values and words
  frame_values : values (frame_of l) ≡ numbers widths head_digits
  unfolding frame_of framed numbers head_digits
  frame_values = sym (numbers_take widths l (2 * total widths) (le_refl (2 * total widths)))

  words_are : List ℕ
  words_are = numbers (commands held) command_digits

  words_size : length words_are ≡ held
  unfolding words_are
  words_size = length_numbers (commands held) command_digits ∙ length-replicate held command_width

  frame_words : (frame_of l).words ≡ padded frame_capacity words_are
  unfolding frame_of framed words_are held command_digits
  frame_words =
      ap (padded frame_capacity)
      (sym (numbers_take (commands (count (frame_of l))) (drop (2 * total widths) l) (2 * total (commands (count (frame_of l)))) (le_refl (2 * total (commands (count (frame_of l)))))))

  -- they fit
  frame_header_fits : all_fit widths (values (frame_of l)) ≡ true
  frame_header_fits = ap (all_fit widths) frame_values ∙ numbers_fit widths head_digits head_size head_spelled

  frame_words_fit : all_fit (commands frame_capacity) (frame_of l).words ≡ true
  unfolding words_are
  frame_words_fit =
      ap (all_fit (commands frame_capacity)) frame_words
      ∙ fit_padded frame_capacity held words_are (numbers_fit (commands held) command_digits command_size command_spelled)

  -- under a limit that there is room for
  module _ (small : limit ≤ capacity) where
    most : held ≤ frame_capacity
    unfolding held
    most = omega (arith, proper_count limit (frame_of l) p.values_proper)

    words_then : (frame_of l).words ≡ words_are ++ replicate (frame_capacity - length words_are) 0
    words_then = frame_words ∙ sym (padded_zeros frame_capacity words_are (omega (arith, words_size, most)))

    -- writing what was read gives the line
    written_read : line_of (frame_of l) ≡ l
    unfolding line_of held words_are
    written_read =
        ap₂ (λ (s t : List ℕ). s ++ (t ++ line_feed ∷ []))
        (ap (spell widths) frame_values ∙ spell_numbers widths head_digits head_size head_spelled)
        (ap (spell (commands held)) words_then
        ∙ spell_more held words_are (replicate (frame_capacity - length words_are) 0) words_size
        ∙ spell_numbers (commands held) command_digits command_size command_spelled)
        ∙ sym (append_assoc head_digits command_digits (line_feed ∷ []))
        ∙ ap (λ (s : List ℕ). s ++ line_feed ∷ []) (sym body_split)
        ∙ sym body_feed

    -- what was read can be written
    frame_written : Written (frame_of l)
    unfolding held
    frame_written =
        record {
          values_proper = proper_more limit (frame_of l) p.values_proper capacity small;
          clear =
              ap₂ (λ (n : ℕ) (ws : List ℕ). all_zero (drop n ws)) (sym words_size) frame_words
              ∙ padded_clear frame_capacity words_are;
          header_fits = frame_header_fits;
          words_fit = frame_words_fit;
        }

-- ---- both ways, for every kind

-- reading what was written gives the frame, under each limit that its counts are within
pub frame_of_line : (f : Frame) → writable f ≡ true → frame_of (line_of f) ≡ f
frame_of_line f e = read_written f (writable_is f e)

pub line_is_line : (limit : ℕ) (f : Frame) → writable f ≡ true → f.n ≤ limit → f.m ≤ limit → is_line limit (line_of f) ≡ true
line_is_line limit f e n m = is_line_lem limit (line_of f) (line_parts f (writable_is f e) limit n m)

-- writing what was read gives the line, byte for byte, and what was read can be written, under each limit that there is room for
pub line_of_frame : (limit : ℕ) (l : List ℕ) → limit ≤ capacity → is_line limit l ≡ true → line_of (frame_of l) ≡ l
line_of_frame limit l small e = written_read limit l (line_is limit l e) small

pub frame_is_writable : (limit : ℕ) (l : List ℕ) → limit ≤ capacity → is_line limit l ≡ true → writable (frame_of l) ≡ true
frame_is_writable limit l small e = is_writable (frame_of l) (frame_written limit l (line_is limit l e) small)

-- so a frame has one line, and a line at most one frame
pub one_frame : (f g : Frame) → writable f ≡ true → writable g ≡ true → line_of f ≡ line_of g → f ≡ g
one_frame f g p q e = sym (frame_of_line f p) ∙ ap frame_of e ∙ frame_of_line g q

pub one_line : (limit : ℕ) (l r : List ℕ) → limit ≤ capacity → is_line limit l ≡ true → is_line limit r ≡ true → frame_of l ≡ frame_of r → l ≡ r
one_line limit l r small p q e = sym (line_of_frame limit l small p) ∙ ap line_of e ∙ line_of_frame limit r small q

-- ---- lengths and counts

-- a line is no longer than the longest, and the room that a line needs is its length
pub length_of_line : (f : Frame) → writable f ≡ true → length (line_of f) ≡ line_length (count f)
length_of_line f e = line_length_lem f (writable_is f e)

pub line_at_most : (f : Frame) → writable f ≡ true → length (line_of f) ≤ longest
line_at_most f e = line_longest f (writable_is f e)

-- what is known of a frame that can be written
pub writable_n : (f : Frame) → writable f ≡ true → f.n ≤ capacity
writable_n f e = proper_n capacity f (writable_is f e).values_proper

pub writable_m : (f : Frame) → writable f ≡ true → f.m ≤ capacity
writable_m f e = proper_m capacity f (writable_is f e).values_proper

-- ---- what is read

module _ (limit : ℕ) (l : List ℕ) (kinds : ℕ) where
  -- found exactly if the line is one and its kind is taken, and then it is the line's frame
  pub found_is : (reading_of limit l kinds).found ≡ (is_line limit l && bit kinds (frame_of l).kind)
  unfolding reading_of
  found_is = go (is_line limit l && bit kinds (frame_of l).kind)
    where
      go : (b : Bool) → (cond b (record { found = true; frame = frame_of l }) nothing).found ≡ b
      go true = refl
      go false = refl

  pub reading_line : is_line limit l ≡ true → bit kinds (frame_of l).kind ≡ true → reading_of limit l kinds ≡ record { found = true; frame = frame_of l }
  unfolding reading_of
  reading_line p q = rw (p, q)

  module _ (e : (reading_of limit l kinds).found ≡ true) where
    pub found_line : is_line limit l ≡ true
    found_line = and_left (is_line limit l) (bit kinds (frame_of l).kind) (sym found_is ∙ e)

    pub found_taken : bit kinds (frame_of l).kind ≡ true
    found_taken = and_right (is_line limit l) (bit kinds (frame_of l).kind) (sym found_is ∙ e)

    pub found_frame : (reading_of limit l kinds).frame ≡ frame_of l
    found_frame = ap (λ (r : Reading). r.frame) (reading_line found_line found_taken)

    -- its values are proper and fit their widths, and its words fit
    pub found_proper : proper limit (reading_of limit l kinds).frame ≡ true
    found_proper = ap (proper limit) found_frame ∙ (line_is limit l found_line).values_proper

    pub found_header_fits : all_fit widths (values (reading_of limit l kinds).frame) ≡ true
    found_header_fits = ap (λ (f : Frame). all_fit widths (values f)) found_frame ∙ frame_header_fits limit l (line_is limit l found_line)

    pub found_words_fit : all_fit (commands frame_capacity) (reading_of limit l kinds).frame.words ≡ true
    found_words_fit = ap (λ (f : Frame). all_fit (commands frame_capacity) f.words) found_frame ∙ frame_words_fit limit l (line_is limit l found_line)

    pub found_n : (reading_of limit l kinds).frame.n ≤ limit
    found_n = proper_n limit (reading_of limit l kinds).frame found_proper

  -- what holds of each proper frame and of the blank one holds of what is read, found or not
  read_frame : (P : Frame → Type 0) → ((f : Frame) → proper limit f ≡ true → P f) → P blank → P (reading_of limit l kinds).frame
  unfolding reading_of
  read_frame P some none = go (is_line limit l) refl (bit kinds (frame_of l).kind)
    where
      go : (b : Bool) → is_line limit l ≡ b → (d : Bool) → P (cond (b && d) (record { found = true; frame = frame_of l }) nothing).frame
      go true e true = some (frame_of l) (line_is limit l e).values_proper
      go true e false = none
      go false e d = none

  -- so each of its lists has at most as many commands as the limit says
  pub read_n : (reading_of limit l kinds).frame.n ≤ limit
  read_n = read_frame (λ f. f.n ≤ limit) (proper_n limit) zero-le

  pub read_m : (reading_of limit l kinds).frame.m ≤ limit
  read_m = read_frame (λ f. f.m ≤ limit) (proper_m limit) zero-le

-- How a line is judged, test by test, as `read_into` and `read_bare` go.
use Prim.Native.Nat.{ℕ, ◌+◌, ◌-◌, ◌*◌, ◌^◌, ◌≤◌, ◌<◌}
use native.Mathlib.Nat.{le_refl}
use native.Mathlib.Omega.{arith}
use mathlib.Core.Path.{◌≡◌, refl, sym, ap, ap₂, subst, ◌∙◌}
use mathlib.Core.Bool.{Bool, true, false, cond, ◌&&◌, and-false, true≢false}
use mathlib.Core.List.{List, [], ◌++◌}
use lib.Dec.{leb, eqb, lit<}
use lib.ListN.{length, get_or, take, drop, replicate, length-replicate}
use lib.Seq.{take-add, length-take-le}
use borrow.Author.Tests.{leb-true, eq-eqb, ne_eqb}
use Rattle.basics.specs.Bools.{and_left, and_right}
use Rattle.basics.specs.Lists.{drop_zeros}
use Rattle.roster.specs.Mask.{bit}
use Rattle.words.specs.WordsLaws.{padded_zeros}
use Rattle.std.specs.Prelude.{Some}
use Rattle.frame.specs.declared.Frame.{Frame}
use Rattle.frame.specs.declared.Heading.{Heading}
use Rattle.frame.specs.Hex.{all_digits, numbers, all_fit, total}
use Rattle.frame.specs.HexLaws.{fit_at, all_append, numbers_fit, numbers_take, length_numbers}
use Rattle.frame.specs.Layout.{command_width, frame_capacity, widths, count, line_length}
use Rattle.frame.specs.Kinds.{uses, is_kind, zero_unless, unused_zero}
use Rattle.frame.specs.Format.{Reading, commands, line_feed, proper, framed, frame_of, is_line, nothing, reading_of, reading_with}
use Rattle.frame.specs.FormatLaws.{total_commands}
use Rattle.frame.specs.Code.Leaves.{NumbersIn, proper_header, Fitting, Headed, Counted, Found, heading_of, body_good, body_reading, BodyIn}

abbrev zeros : ℕ → List ℕ
zeros n = replicate n 0

-- the tests after the header, in the code's order
turned : (d c s : Bool) → (((d && c) && (s && true)) && true) ≡ (s && (c && d))
turned true true true = refl
turned true true false = refl
turned true false true = refl
turned true false false = refl
turned false true true = refl
turned false true false = refl
turned false false true = refl
turned false false false = refl

-- ---- the header

-- a header's values are proper exactly as the frame is
pub proper_header_lem : (limit : ℕ) (l : List ℕ) → proper limit (frame_of l) ≡ proper_header limit (numbers widths l)
unfolding proper proper_header frame_of framed numbers unused_zero
proper_header_lem limit l = refl

-- the values that the header's digits spell fit their widths
pub header_fits : (l : List ℕ) → line_length 0 ≤ length l → all_digits (take 36 l) ≡ true → (k : ℕ) → k < 8 → get_or (numbers widths l) k 0 < 256 ^ get_or widths k 0
unfolding total
header_fits l long d k h =
    fit_at widths (numbers widths l)
    (ap (all_fit widths) (sym (numbers_take widths l 36 (le_refl 36))) ∙ numbers_fit widths (take 36 l) (length-take-le 36 l (omega arith)) d) k h

-- the counts, as the code has them, are within the limit
module _ (limit : ℕ) (l : List ℕ) (inv : Headed limit l) (n m : ℕ) (are : Counted l n m) where
  few : (leb n limit && leb m limit) ≡ true
  unfolding proper_header
  few =
      let h = numbers widths l in
      let c = leb (get_or h 6 0) limit && leb (get_or h 7 0) limit in
      let z = zero_unless (get_or uses (get_or h 0 0) []) h in
      ap₂ (λ (x y : ℕ). leb x limit && leb y limit) are.first are.second ∙ and_left c z (and_right (is_kind (get_or h 0 0)) (c && z) inv.proper)

  pub head_few : n + m ≤ limit + limit
  head_few = omega (arith, leb-true n limit (and_left (leb n limit) (leb m limit) few), leb-true m limit (and_right (leb n limit) (leb m limit) few))

-- so that there are words enough
module _ (n m : ℕ) (few : n + m ≤ frame_capacity) {ws : List ℕ} (e : ws ≡ replicate frame_capacity 0) where
  words_enough : n + m ≤ length ws
  words_enough = omega (arith, ap length e)

  pub words_room : length (take (n + m) ws) ≡ n + m
  words_room = length-take-le (n + m) ws words_enough

module _ (l : List ℕ) (n m : ℕ) (are : Counted l n m) where
  pub counted : count (frame_of l) ≡ n + m
  unfolding frame_of framed
  counted = sym (ap₂ ◌+◌ are.first are.second)

  size_is : line_length (count (frame_of l)) ≡ 36 + 16 * (n + m) + 1
  unfolding total
  size_is = omega (arith, counted)

  -- ---- after the header: the length, the line feed, and the digits of the commands

  last : ℕ
  last = 36 + 16 * (n + m)

  pub wrong_length : (length l ≡ 36 + 16 * (n + m) + 1 → ⊥) → false ≡ body_good l
  unfolding body_good
  wrong_length e = rw (ne_eqb (length l) (line_length (count (frame_of l))) (λ p. e (p ∙ size_is)))

  module _ (size : length l ≡ 36 + 16 * (n + m) + 1) where
    right_length : eqb (length l) (line_length (count (frame_of l))) ≡ true
    right_length = eq-eqb (length l) (line_length (count (frame_of l))) (size ∙ sym size_is)

    at_last : length l - 1 ≡ last
    unfolding last
    at_last = omega arith

    command_part : take (length l - 1 - 2 * total widths) (drop (2 * total widths) l) ≡ take (last - 36) (drop 36 l)
    unfolding total
    command_part = ap (λ (k : ℕ). take (k - 36) (drop 36 l)) at_last

    pub no_feed : (get_or l (36 + 16 * (n + m)) 0 ≡ 10 → ⊥) → false ≡ body_good l
    unfolding body_good last
    no_feed e =
        sym
        (ap₂ (λ (a b : Bool). a && (b && all_digits (take (length l - 1 - 2 * total widths) (drop (2 * total widths) l))))
        right_length
        (ne_eqb (get_or l (length l - 1) 0) line_feed (λ p. e (ap (λ (k : ℕ). get_or l k 0) (sym at_last) ∙ p))))

    module _ (feed : get_or l (36 + 16 * (n + m)) 0 ≡ 10) where
      right_feed : eqb (get_or l (length l - 1) 0) line_feed ≡ true
      unfolding last
      right_feed = eq-eqb (get_or l (length l - 1) 0) line_feed (ap (λ (k : ℕ). get_or l k 0) at_last ∙ feed)

      pub good_is : body_good l ≡ all_digits (take (36 + 16 * (n + m) - 36) (drop 36 l))
      unfolding body_good last
      good_is =
          ap₂ (λ (a b : Bool). a && (b && all_digits (take (length l - 1 - 2 * total widths) (drop (2 * total widths) l)))) right_length right_feed
          ∙ ap all_digits command_part

      -- the commands as they are read, into k of the words
      module _ (few : n + m ≤ frame_capacity) (k : ℕ) (e : k ≡ n + m) (good : Bool) (ys : List ℕ) (r : NumbersIn (commands k) (take (36 + 16 * (n + m) - 36) (drop 36 l)) good ys) where
        words_are : good ≡ true → ys ++ drop (n + m) (zeros frame_capacity) ≡ (frame_of l).words
        unfolding frame_of framed total
        words_are g =
            let same : k ≡ count (frame_of l) = e ∙ sym counted in
            let read : ys ≡ numbers (commands (count (frame_of l))) (drop 36 l) =
            r.are g ∙ numbers_take (commands k) (drop 36 l) (36 + 16 * (n + m) - 36) (omega (arith, total_commands k))
            ∙ ap (λ (j : ℕ). numbers (commands j) (drop 36 l)) same in
            let size : length (numbers (commands (count (frame_of l))) (drop 36 l)) ≡ n + m =
            length_numbers (commands (count (frame_of l))) (drop 36 l) ∙ length-replicate (count (frame_of l)) command_width ∙ counted in
            ap₂ (λ (s t : List ℕ). s ++ t) read (drop_zeros (n + m) frame_capacity ∙ ap (λ (j : ℕ). zeros (frame_capacity - j)) (sym size))
            ∙ padded_zeros frame_capacity (numbers (commands (count (frame_of l))) (drop 36 l)) (omega (arith, size))

        pub body_in : {ws : List ℕ} → ws ≡ replicate frame_capacity 0 → BodyIn l good (ys ++ drop (n + m) ws)
        body_in z = record { is = r.all ∙ sym good_is; words = λ g. ap (λ (t : List ℕ). ys ++ drop (n + m) t) z ∙ words_are g }

-- where a test fails, it is not good
pub no_body : {l ws : List ℕ} → false ≡ body_good l → BodyIn l false ws
no_body e = record { is = e; words = λ p. absurd (true≢false (sym p)) }

-- ---- the line as a whole

module _ (limit : ℕ) (l : List ℕ) (kinds : ℕ) where
  no_line : is_line limit l ≡ false → nothing ≡ reading_of limit l kinds
  unfolding reading_of
  no_line e = rw e

  pub too_short : length l < 37 → nothing ≡ reading_of limit l kinds
  unfolding is_line total
  too_short h =
      no_line
      (rw (ne_eqb (length l) (line_length (count (frame_of l))) (λ e. omega arith))
      (and-false (all_digits (take (length l - 1) l) && eqb (get_or l (length l - 1) 0) line_feed)))

  pub not_proper : proper_header limit (numbers widths l) ≡ false → nothing ≡ reading_of limit l kinds
  unfolding is_line
  not_proper e =
      no_line
      (ap (λ (b : Bool). spelled && (size && b)) (proper_header_lem limit l ∙ e) ∙ ap (λ (b : Bool). spelled && b) (and-false size) ∙ and-false spelled)
    where
      spelled : Bool
      spelled = all_digits (take (length l - 1) l) && eqb (get_or l (length l - 1) 0) line_feed

      size : Bool
      size = eqb (length l) (line_length (count (frame_of l)))

  module _ (long : 37 ≤ length l) where
    digits_are : all_digits (take (length l - 1) l) ≡ (all_digits (take 36 l) && all_digits (take (length l - 1 - 36) (drop 36 l)))
    digits_are =
        let n : length l - 1 ≡ 36 + (length l - 1 - 36) = omega arith in
        ap (λ (k : ℕ). all_digits (take k l)) n ∙ ap all_digits (take-add 36 (length l - 1 - 36) l)
        ∙ all_append (take 36 l) (take (length l - 1 - 36) (drop 36 l))

    pub not_spelled : all_digits (take 36 l) ≡ false → nothing ≡ reading_of limit l kinds
    unfolding is_line
    not_spelled e = no_line (rw (digits_are, e))

  pub not_taken : bit kinds (get_or (numbers widths l) 0 0) ≡ false → nothing ≡ reading_of limit l kinds
  unfolding reading_of frame_of framed
  not_taken e =
      sym
      (ap (λ (b : Bool). cond (is_line limit l && b) (record { found = true; frame = frame_of l }) nothing) e
      ∙ ap (λ (b : Bool). cond b (record { found = true; frame = frame_of l }) nothing) (and-false (is_line limit l)))

  pub whole_line : Headed limit l → bit kinds (get_or (numbers widths l) 0 0) ≡ true → body_reading l ≡ reading_of limit l kinds
  unfolding reading_of body_reading body_good is_line total frame_of framed
  whole_line inv b =
      let d = all_digits (take (length l - 1 - 36) (drop 36 l)) in
      let c = eqb (get_or l (length l - 1) 0) line_feed in
      let s = eqb (length l) (line_length (count (frame_of l))) in
      let digits : all_digits (take (length l - 1) l) ≡ d =
      digits_are inv.long ∙ ap (λ (a : Bool). a && d) inv.spelled in
      let fine : proper limit (frame_of l) ≡ true = proper_header_lem limit l ∙ inv.proper in
      let same : (is_line limit l && bit kinds (frame_of l).kind) ≡ body_good l =
      ap₂ ◌&&◌ (ap₂ (λ (x y : Bool). (x && c) && (s && y)) digits fine) b ∙ turned d c s in
      sym (ap (λ (t : Bool). cond t (record { found = true; frame = frame_of l }) nothing) same)

-- ---- the line after its header was read

module _ (limit : ℕ) (l h : List ℕ) (kinds : ℕ) (long : 37 ≤ length l) (good : Bool) (r : NumbersIn widths (take 36 l) good h) where
  pub head_not_spelled : good ≡ false → nothing ≡ reading_of limit l kinds
  head_not_spelled g = not_spelled limit l kinds long (sym r.all ∙ g)

  module _ (g : good ≡ true) where
    values_are : h ≡ numbers widths l
    unfolding total
    values_are = r.are g ∙ numbers_take widths l 36 (le_refl 36)

    pub kind_fits : get_or h 0 0 < 256
    unfolding total
    kind_fits = subst (λ (xs : List ℕ). get_or xs 0 0 < 256) (sym values_are) (header_fits l long (sym r.all ∙ g) 0 (lit< tt))

    pub head_not_proper : proper_header limit h ≡ false → nothing ≡ reading_of limit l kinds
    head_not_proper e = not_proper limit l kinds (ap (proper_header limit) (sym values_are) ∙ e)

    pub head_not_taken : bit kinds (get_or h 0 0) ≡ false → nothing ≡ reading_of limit l kinds
    head_not_taken e = not_taken limit l kinds (ap (λ (xs : List ℕ). bit kinds (get_or xs 0 0)) (sym values_are) ∙ e)

    pub head_found : proper_header limit h ≡ true → bit kinds (get_or h 0 0) ≡ true → {hd : Heading} → hd ≡ heading_of h → Found limit l kinds hd
    unfolding total
    head_found e b f =
        record {
          headed = record { long = long; spelled = sym r.all ∙ g; proper = ap (proper_header limit) (sym values_are) ∙ e };
          heading = f ∙ ap heading_of values_are;
          taken = ap (λ (xs : List ℕ). bit kinds (get_or xs 0 0)) (sym values_are) ∙ b;
        }

    pub head_fitting : Fitting h
    unfolding total
    head_fitting = subst Fitting (sym values_are) (header_fits l long (sym r.all ∙ g))

-- ---- the line after its header was found

pub found_counted : {limit : ℕ} {l : List ℕ} {kinds : ℕ} {hd : Heading} → Found limit l kinds hd → Counted l hd.n hd.m
found_counted f = record { first = ap (λ (x : Heading). x.n) f.heading; second = ap (λ (x : Heading). x.m) f.heading }

module _ (limit : ℕ) (l : List ℕ) (kinds : ℕ) (hd : Heading) (f : Found limit l kinds hd) where
  judged : (good : Bool) → good ≡ body_good l → cond good (record { found = true; frame = frame_of l }) nothing ≡ reading_of limit l kinds
  unfolding body_reading
  judged good e = ap (λ (b : Bool). cond b (record { found = true; frame = frame_of l }) nothing) e ∙ whole_line limit l kinds f.headed f.taken

  pub rest_bad : false ≡ body_good l → nothing ≡ reading_of limit l kinds
  rest_bad e = judged false e

  pub rest_good : {ws : List ℕ} → true ≡ body_good l → ws ≡ (frame_of l).words → reading_with (Some hd) ws ≡ reading_of limit l kinds
  unfolding frame_of framed
  rest_good e w = ap₂ (λ (x : Heading) (ws : List ℕ). reading_with (Some x) ws) f.heading w ∙ judged true e

-- the limit as the code has it
pub same_limit : {a b : ℕ} (l : List ℕ) (kinds : ℕ) → a ≡ b → reading_of a l kinds ≡ reading_of b l kinds
same_limit l kinds e = ap (λ (n : ℕ). reading_of n l kinds) e

-- what is not found is nothing, whatever words are left beside it
pub nothing_read : (limit : ℕ) (l : List ℕ) (kinds : ℕ) (f : Frame) → record { found = false; frame = f } ≡ reading_of limit l kinds → nothing ≡ reading_of limit l kinds
unfolding reading_of
nothing_read limit l kinds f = go (is_line limit l && bit kinds (frame_of l).kind)
  where
    go : (b : Bool) → record { found = false; frame = f } ≡ cond b (record { found = true; frame = frame_of l }) nothing → nothing ≡ cond b (record { found = true; frame = frame_of l }) nothing
    go true e = absurd (true≢false (sym (ap (λ (r : Reading). r.found) e)))
    go false e = refl

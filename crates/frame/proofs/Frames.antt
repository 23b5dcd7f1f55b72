-- How a frame is judged and written, step by step, as `write_from` and `write` go.
use Prim.Native.Nat.{ℕ, zero, suc, ◌+◌, ◌-◌, ◌*◌, ◌^◌, ◌≤◌, ◌<◌}
use native.Mathlib.Omega.{arith}
use mathlib.Core.Path.{◌≡◌, refl, sym, ap, ap₂, ◌∙◌}
use mathlib.Core.Bool.{Bool, true, false, cond, ◌&&◌, and-false}
use mathlib.Core.List.{List, [], ◌∷◌, ◌++◌, append_assoc}
use borrow.Rule.Slice.PartMut.{put_mid}
use lib.Dec.{leb, ltb}
use lib.ListN.{length, get_or, take, drop, set, length-append, length-drop}
use lib.Seq.{take_at, drop_at, drop-drop, set_at, take_all, length-take-le}
use borrow.Author.Tests.{lt-ltb, lt-leb, le-leb}
use Rattle.basics.specs.Bools.{and_both}
use Rattle.basics.specs.Lists.{drop_next}
use Rattle.words.specs.Sizes.{capacity}
use Rattle.frame.specs.declared.Frame.{Frame}
use Rattle.frame.specs.declared.Heading.{Heading}
use Rattle.frame.specs.Hex.{digits_of, spell, all_fit, total}
use Rattle.frame.specs.HexLaws.{length_digits}
use Rattle.frame.specs.Layout.{command_width, frame_capacity, widths, values, count, first, second, line_length}
use Rattle.frame.specs.Kinds.{unused_zero}
use Rattle.frame.specs.Format.{commands, line_of, proper, all_zero, fits, writable, has_room, written_length, written, head_of, frame_from, listed, length_from, written_from}
use Rattle.frame.specs.FormatLaws.{proper_count}
use Rattle.frame.specs.FromLaws.{listed_first, listed_second, listed_count, from_writable, from_line, from_listed, lists_are, from_parts}
use Rattle.frame.specs.Code.Leaves.{proper_header}
use Rattle.frame.proofs.Runs.{commands_length, commands_total}

-- ---- each value of the type fits

pub words_fit : (n : ℕ) (xs : List ℕ) → length xs ≡ n → ((i : ℕ) → get_or xs i 0 < 256 ^ command_width) → all_fit (commands n) xs ≡ true
unfolding all_fit
words_fit zero [] e h = refl
words_fit zero (x ∷ xs) e h = absurd (omega arith)
words_fit (suc n) [] e h = absurd (omega arith)
words_fit (suc n) (x ∷ xs) e h =
    and_both (ltb x (256 ^ command_width)) (all_fit (commands n) xs) (lt-ltb x (256 ^ command_width) (h 0)) (words_fit n xs (omega arith) (λ i. h (suc i)))

-- what is known of a value of the type
pub record Sized (h : Heading) : Type 0 where
  pub kind : h.kind < 256
  pub sender : h.sender < 256
  pub view : h.view.0 < 2 ^ 32
  pub ballot : h.ballot.0 < 2 ^ 32
  pub proven_ballot : h.proven_ballot.0 < 2 ^ 32
  pub mask : h.mask < 2 ^ 16
  pub n : h.n < 256
  pub m : h.m < 256

sized_fits : (h : Heading) (g k : List ℕ) → Sized h → all_fit widths (values (frame_from h g k)) ≡ true
unfolding all_fit
sized_fits h g k s =
    simp (
      lt-ltb h.kind 256 s.kind,
      lt-ltb h.sender 256 s.sender,
      lt-ltb h.view.0 (2 ^ 32) s.view,
      lt-ltb h.ballot.0 (2 ^ 32) s.ballot,
      lt-ltb h.proven_ballot.0 (2 ^ 32) s.proven_ballot,
      lt-ltb h.mask (2 ^ 16) s.mask,
      lt-ltb h.n 256 s.n,
      lt-ltb h.m 256 s.m,
    )

-- so lists that are n and m long are short
pub lists_short : (h : Heading) (g k : List ℕ) → Sized h → listed h g k ≡ true → (length g < 256) × (length k < 256)
lists_short h g k s e = (omega (arith, listed_first h g k e, s.n), omega (arith, listed_second h g k e, s.m))

-- ---- refused, and nothing is written

-- of a frame, and of one whose heading and lists are apart
abbrev Unwritten : Frame → List ℕ → Type 0
Unwritten f out = (0 ≡ written_length f out) × (out ≡ written f out)

no_room : (f : Frame) (out : List ℕ) → has_room f (length out) ≡ false → Unwritten f out
unfolding written_length written
no_room f out e = (rw e, rw e)

not_writable : (f : Frame) (out : List ℕ) → writable f ≡ false → Unwritten f out
unfolding has_room
not_writable f out e = no_room f out (rw e)

not_proper : (f : Frame) (out : List ℕ) → proper capacity f ≡ false → Unwritten f out
unfolding writable
not_proper f out e = not_writable f out (rw e)

module _ (h : Heading) (g k out : List ℕ) where
  abbrev UnwrittenFrom : Type 0
  UnwrittenFrom = (0 ≡ length_from h g k out) × (out ≡ written_from h g k out)

  pub not_listed : listed h g k ≡ false → UnwrittenFrom
  unfolding length_from written_from
  not_listed e = (rw e, rw e)

  module _ (e : listed h g k ≡ true) where
    unwritten : Unwritten (frame_from h g k) out → UnwrittenFrom
    unwritten u = (u.0 ∙ sym (from_listed h g k out e).0, u.1 ∙ sym (from_listed h g k out e).1)

    pub from_not_proper : proper_header capacity (values (frame_from h g k)) ≡ false → UnwrittenFrom
    unfolding proper proper_header unused_zero
    from_not_proper p = unwritten (not_proper (frame_from h g k) out p)

    pub too_small : length out ≤ 36 + 16 * length g + 16 * length k → UnwrittenFrom
    unfolding has_room total
    too_small p =
        let f = frame_from h g k in
        unwritten
        (no_room f out
        (ap (λ (b : Bool). writable f && b) (lt-leb (line_length (count f)) (length out) (omega (arith, listed_count h g k e))) ∙ and-false (writable f)))

-- ---- written, piece by piece

spell_size : (ws xs : List ℕ) → length xs ≡ length ws → length (spell ws xs) ≡ 2 * total ws
unfolding spell total
spell_size [] xs e = refl
spell_size (w ∷ ws) [] e = absurd (omega arith)
spell_size (w ∷ ws) (x ∷ xs) e = omega (arith, length-append (digits_of w x) (spell ws xs), length_digits w x, spell_size ws xs (omega arith))

words_size : (xs d : List ℕ) → d ≡ spell (commands (length xs)) xs → length d ≡ 16 * length xs
words_size xs d e = ap length e ∙ spell_size (commands (length xs)) xs (sym (commands_length (length xs))) ∙ commands_total (length xs)

-- what stands at the front, w, and then what was there: a piece is put behind w
module _ (w p out : List ℕ) (at end : ℕ) (e : length w ≡ at) (le : at ≤ end) where
  behind : drop (end - at) (drop at (w ++ drop at out)) ≡ drop end out
  behind =
      let same : at + (end - at) ≡ end = omega arith in
      ap (drop (end - at)) (drop_at w (drop at out) at e) ∙ drop-drop (end - at) at out ∙ ap (λ (n : ℕ). drop n out) same

  piece : put_mid at (end - at) (w ++ drop at out) p ≡ (w ++ p) ++ drop end out
  piece =
      ap₂ (λ (a b : List ℕ). a ++ (p ++ b)) (take_at w (drop at out) at e) behind
      ∙ sym (append_assoc w p (drop end out))

  piece_room : end ≤ length out → length (take (end - at) (drop at (w ++ drop at out))) ≡ end - at
  piece_room h =
      ap (λ (l : List ℕ). length (take (end - at) l)) (drop_at w (drop at out) at e)
      ∙ length-take-le (end - at) (drop at out) (omega (arith, length-drop at out))

front_size : (w out : List ℕ) (at : ℕ) → length w ≡ at → at ≤ length out → length (w ++ drop at out) ≡ length out
front_size w out at e h = omega (arith, length-append w (drop at out), length-drop at out)

module _ (out g k head hdr : List ℕ) (eight : length head ≡ 8) (eh : hdr ≡ spell widths head) (room : 36 + 16 * length g + 16 * length k < length out) where
  hdr_size : length hdr ≡ 36
  unfolding total
  hdr_size = ap length eh ∙ spell_size widths head eight

  pub header_kept : length (hdr ++ drop 36 out) ≡ length out
  header_kept = front_size hdr out 36 hdr_size (omega arith)

  pub first_room : length (take (36 + 16 * length g - 36) (drop 36 (hdr ++ drop 36 out))) ≡ 16 * length g
  first_room = piece_room hdr [] out 36 (36 + 16 * length g) hdr_size (omega arith) (omega arith) ∙ omega arith

  module _ (a : List ℕ) (ea : a ≡ spell (commands (length g)) g) where
    middle : ℕ
    middle = 36 + 16 * length g

    first_size : length (hdr ++ a) ≡ middle
    unfolding middle
    first_size = omega (arith, length-append hdr a, hdr_size, words_size g a ea)

    first_is : put_mid 36 (36 + 16 * length g - 36) (hdr ++ drop 36 out) a ≡ (hdr ++ a) ++ drop middle out
    unfolding middle
    first_is = piece hdr a out 36 (36 + 16 * length g) hdr_size (omega arith)

    pub first_kept : length (put_mid 36 (36 + 16 * length g - 36) (hdr ++ drop 36 out) a) ≡ length out
    unfolding middle
    first_kept = ap length first_is ∙ front_size (hdr ++ a) out middle first_size (omega arith)

    pub second_room : length (take (36 + 16 * length g + 16 * length k - (36 + 16 * length g)) (drop (36 + 16 * length g) (put_mid 36 (36 + 16 * length g - 36) (hdr ++ drop 36 out) a))) ≡ 16 * length k
    unfolding middle
    second_room =
        let end = 36 + 16 * length g + 16 * length k in
        ap (λ (l : List ℕ). length (take (end - middle) (drop middle l))) first_is
        ∙ piece_room (hdr ++ a) [] out middle end first_size (omega arith) (omega arith)
        ∙ omega arith

    module _ (b : List ℕ) (eb : b ≡ spell (commands (length k)) k) where
      abbrev pub both : List ℕ
      both =
          put_mid (36 + 16 * length g) (36 + 16 * length g + 16 * length k - (36 + 16 * length g))
          (put_mid 36 (36 + 16 * length g - 36) (hdr ++ drop 36 out) a) b

      end : ℕ
      end = 36 + 16 * length g + 16 * length k

      all_size : length ((hdr ++ a) ++ b) ≡ end
      unfolding end middle
      all_size = omega (arith, length-append (hdr ++ a) b, first_size, words_size k b eb)

      both_is : both ≡ ((hdr ++ a) ++ b) ++ drop end out
      unfolding end middle
      both_is =
          ap (λ (l : List ℕ). put_mid middle (end - middle) l b) first_is
          ∙ piece (hdr ++ a) b out middle end first_size (omega arith)

      pub both_kept : length both ≡ length out
      unfolding end
      both_kept = ap length both_is ∙ front_size ((hdr ++ a) ++ b) out end all_size (omega arith)

      -- the line at the front, and the bytes after it as they were
      put_is : set both end 10 ≡ (hdr ++ ((a ++ b) ++ 10 ∷ [])) ++ drop (end + 1) out
      unfolding end
      put_is =
          let r = drop (end + 1) out in
          ap (λ (l : List ℕ). set l end 10) (both_is ∙ ap (λ (l : List ℕ). ((hdr ++ a) ++ b) ++ l) (drop_next out end room))
          ∙ set_at ((hdr ++ a) ++ b) (get_or out end 0) r 10 end all_size
          ∙ sym (append_assoc ((hdr ++ a) ++ b) (10 ∷ []) r)
          ∙ ap (λ (l : List ℕ). l ++ r) (ap (λ (l : List ℕ). l ++ 10 ∷ []) (append_assoc hdr a b) ∙ append_assoc hdr (a ++ b) (10 ∷ []))

      pub all_written : (h : Heading) → head ≡ values (frame_from h g k) → listed h g k ≡ true → Sized h → proper_header capacity head ≡ true
          → ((i : ℕ) → get_or g i 0 < 2 ^ 64) → ((i : ℕ) → get_or k i 0 < 2 ^ 64)
          → (36 + 16 * length g + 16 * length k + 1 ≡ length_from h g k out) × (set both (36 + 16 * length g + 16 * length k) 10 ≡ written_from h g k out)
      unfolding written_length written has_room total proper proper_header unused_zero end
      all_written h same e s p fg fk =
          let f = frame_from h g k in
          let good : proper capacity f ≡ true = ap (proper_header capacity) (sym same) ∙ p in
          let can : writable f ≡ true =
          from_writable h g k e good (sized_fits h g k s) (words_fit (length g) g refl fg) (words_fit (length k) k refl fk) in
          let long : end + 1 ≡ line_length (count f) = omega (arith, listed_count h g k e) in
          let fine : has_room f (length out) ≡ true =
          and_both (writable f) (leb (line_length (count f)) (length out)) can (le-leb (line_length (count f)) (length out) (omega arith)) in
          let line : hdr ++ ((a ++ b) ++ 10 ∷ []) ≡ line_of f =
          ap₂ (λ (x y : List ℕ). x ++ (y ++ 10 ∷ [])) (eh ∙ ap (spell widths) same) (ap₂ ◌++◌ ea eb) ∙ sym (from_line h g k e good) in (
            long ∙ sym (ap (λ (t : Bool). cond t (line_length (count f)) 0) fine) ∙ sym (from_listed h g k out e).0,
            put_is
                ∙ ap₂ (λ (x : List ℕ) (n : ℕ). x ++ drop n out) line long
                ∙ sym (ap (λ (t : Bool). cond t (line_of f ++ drop (line_length (count f)) out) out) fine)
                ∙ sym (from_listed h g k out e).1,
          )

-- ---- a frame by value, written by its heading and its two lists

module _ (f : Frame) (out : List ℕ) (size : length f.words ≡ frame_capacity) where
  pub too_many : length f.words < count f → Unwritten f out
  too_many h = go (proper capacity f) refl
    where
      go : (b : Bool) → proper capacity f ≡ b → Unwritten f out
      go true e = absurd (omega (arith, proper_count capacity f e))
      go false e = not_proper f out e

  -- the words after the commands, as the code takes them
  tail_is : take (length f.words - count f) (drop (count f) f.words) ≡ drop (count f) f.words
  tail_is = take_all (length f.words - count f) (drop (count f) f.words) (omega (arith, length-drop (count f) f.words))

  pub not_clear : all_zero (take (length f.words - count f) (drop (count f) f.words)) ≡ false → Unwritten f out
  unfolding writable
  not_clear e =
      not_writable f out
      (ap (λ (l : List ℕ). proper capacity f && (all_zero l && fits f)) (sym tail_is) ∙ ap (λ (b : Bool). proper capacity f && (b && fits f)) e
      ∙ and-false (proper capacity f))

  module _ (few : count f ≤ length f.words) where
    second_is : take (count f - f.n) (drop f.n f.words) ≡ second f
    second_is = ap (λ (k : ℕ). take k (drop f.n f.words)) rest
      where
        rest : count f - f.n ≡ f.m
        rest = omega arith

    pub parts_written : all_zero (take (length f.words - count f) (drop (count f) f.words)) ≡ true → (r : ℕ) (put : List ℕ)
        → (r ≡ length_from (head_of f) (first f) (take (count f - f.n) (drop f.n f.words)) out)
        × (put ≡ written_from (head_of f) (first f) (take (count f - f.n) (drop f.n f.words)) out)
        → (r ≡ written_length f out) × (put ≡ written f out)
    parts_written z r put w =
        let listed-all = lists_are f size (omega arith) in
        let whole : frame_from (head_of f) (first f) (second f) ≡ f = from_parts f size (omega arith) (ap all_zero (sym tail_is) ∙ z) in
        let lists = from_listed (head_of f) (first f) (second f) out listed-all in (
          w.0 ∙ ap (λ (l : List ℕ). length_from (head_of f) (first f) l out) second_is ∙ lists.0 ∙ ap (λ (x : Frame). written_length x out) whole,
          w.1 ∙ ap (λ (l : List ℕ). written_from (head_of f) (first f) l out) second_is ∙ lists.1 ∙ ap (λ (x : Frame). written x out) whole,
        )

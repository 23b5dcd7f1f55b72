-- Runs of numbers with their widths, read and written one after the other: what the loops keep, one turn, a stop and the end.
use Prim.Native.Nat.{ℕ, ◌+◌, ◌-◌, ◌*◌, ◌≤◌, ◌<◌, zero-le}
use native.Mathlib.Numerals.{add-one}
use native.Mathlib.Omega.{arith}
use mathlib.Core.Path.{◌≡◌, refl, sym, ap, ap₂, subst, ◌∙◌}
use mathlib.Core.Bool.{Bool, true, false, cond, ◌&&◌, true≢false}
use mathlib.Core.List.{List, [], ◌∷◌, ◌++◌, append-nil, append_assoc}
use lib.Dec.{leb}
use lib.ListN.{length, get_or, take, drop, set, length-set, length-replicate, get_or-replicate, length-append, length-drop, drop_of_length-le, take-append-drop}
use lib.Seq.{take-suc-set, take_all, take_at, drop-drop, length-take-le, append_snoc}
use borrow.Author.Tests.{leb-true}
use Rattle.std.specs.Prelude.{Option, None, Some}
use Rattle.std.proofs.lemmas.Option.{cond_some}
use Rattle.basics.specs.Bools.{every_at, every_below}
use Rattle.basics.specs.Lists.{drop_next}
use Rattle.frame.specs.Hex.{all_digits, number, digits_of, spell, numbers, total}
use Rattle.frame.specs.HexLaws.{all_append, length_digits}
use Rattle.frame.specs.Layout.{widths, command_width}
use Rattle.frame.specs.Format.{commands}
use Rattle.frame.specs.FormatLaws.{total_commands}
use Rattle.frame.specs.Code.Leaves.{number_in, NumbersIn}

-- each field has eight bytes at most
width_test : ℕ → Bool
width_test k = leb (get_or widths k 0) 8

all_widths : every_below 8 width_test ≡ true
unfolding every_below width_test
all_widths = refl

pub width_most : (k : ℕ) → k < 8 → get_or widths k 0 ≤ 8
unfolding width_test
width_most k h = leb-true (get_or widths k 0) 8 (every_at 8 width_test all_widths k h)

-- the bytes from a place on
total_next : (ws : List ℕ) (k : ℕ) → k < length ws → total (drop k ws) ≡ get_or ws k 0 + total (drop (k + 1) ws)
unfolding total
total_next ws k h = ap total (drop_next ws k h)

module _ (ws l : List ℕ) (at k : ℕ) (h : k < length ws) (left : at + 2 * total (drop k ws) ≡ length l) where
  -- a number's digits are there
  pub end_within : at + 2 * get_or ws k 0 ≤ length l
  end_within = omega (arith, total_next ws k h)

  module _ (end : ℕ) (e : end ≡ at + 2 * get_or ws k 0) where
    pub part_size : length (take (end - at) (drop at l)) ≡ 2 * get_or ws k 0
    part_size =
        length-take-le (end - at) (drop at l) (omega (arith, end_within, length-drop at l)) ∙ omega arith

    part_is : take (end - at) (drop at l) ≡ take (2 * get_or ws k 0) (drop at l)
    part_is = ap (λ (n : ℕ). take n (drop at l)) width
      where
        width : end - at ≡ 2 * get_or ws k 0
        width = omega arith

    rest_is : drop (2 * get_or ws k 0) (drop at l) ≡ drop end l
    rest_is = drop-drop (2 * get_or ws k 0) at l ∙ ap (λ (n : ℕ). drop n l) (sym e)

    digits_split : all_digits (drop at l) ≡ (all_digits (take (end - at) (drop at l)) && all_digits (drop end l))
    digits_split =
        ap all_digits (sym (take-append-drop (2 * get_or ws k 0) (drop at l)))
        ∙ all_append (take (2 * get_or ws k 0) (drop at l)) (drop (2 * get_or ws k 0) (drop at l))
        ∙ ap₂ (λ (s t : List ℕ). all_digits s && all_digits t) (sym part_is) rest_is

    numbers_split : numbers (drop k ws) (drop at l) ≡ number (take (end - at) (drop at l)) ∷ numbers (drop (k + 1) ws) (drop end l)
    unfolding numbers
    numbers_split =
        ap (λ (vs : List ℕ). numbers vs (drop at l)) (drop_next ws k h)
        ∙ ap₂ (λ (s t : List ℕ). number s ∷ numbers (drop (k + 1) ws) t) (sym part_is) rest_is

    left_next : end + 2 * total (drop (k + 1) ws) ≡ length l
    left_next = omega (arith, total_next ws k h)

-- the widths of commands
pub commands_length : (n : ℕ) → length (commands n) ≡ n
commands_length n = length-replicate n command_width

pub commands_at : (n k : ℕ) → k < n → get_or (commands n) k 0 ≡ command_width
commands_at n k h = get_or-replicate n k command_width 0 h

pub commands_total : (n : ℕ) → 2 * total (commands n) ≡ 16 * n
commands_total n = omega (arith, total_commands n)

-- the end of a command's digits, as the code says it
pub command_end : (n k : ℕ) → k < n → 16 * k + 16 ≡ 16 * k + 2 * get_or (commands n) k 0
command_end n k h = omega (arith, commands_at n k h)

-- ---- reading

-- what the loop keeps at number k and character `at`: the digits' test and the numbers go on from there
pub record Gathering (ws l xs : List ℕ) (at k : ℕ) : Type 0 where
  pub inside : k ≤ length ws
  pub size : length xs ≡ length ws
  pub left : at + 2 * total (drop k ws) ≡ length l
  pub digits : all_digits (drop at l) ≡ all_digits l
  pub values : take k xs ++ numbers (drop k ws) (drop at l) ≡ numbers ws l

cond_none : {A : Type 0} (b : Bool) (x : A) → cond b (Some x) None ≡ None → b ≡ false
cond_none true x e = cc
cond_none false x e = refl

pub gathering_start : (ws l xs : List ℕ) → length xs ≡ length ws → length l ≡ 2 * total ws → Gathering ws l xs 0 0
gathering_start ws l xs e f = record { inside = zero-le; size = e; left = omega arith; digits = refl; values = refl }

module _ (ws l xs : List ℕ) (at k : ℕ) (inv : Gathering ws l xs at k) (h : k < length ws) (end : ℕ) (e : end ≡ at + 2 * get_or ws k 0) (s : Option ℕ) (f : s ≡ number_in (take (end - at) (drop at l))) where
  -- not all are digits
  pub gathering_stop : s ≡ None → (ys : List ℕ) → NumbersIn ws l false ys
  unfolding number_in
  gathering_stop g ys =
      let bad : all_digits (take (end - at) (drop at l)) ≡ false = cond_none (all_digits (take (end - at) (drop at l))) _ (sym f ∙ g) in
      record {
        all = sym (sym inv.digits ∙ digits_split ws l at k h inv.left end e ∙ ap (λ (b : Bool). b && all_digits (drop end l)) bad);
        are = λ t. absurd (true≢false (sym t));
      }

  -- one number more
  pub gathering_turn : {x : ℕ} → s ≡ Some x → (next : ℕ) → end ≡ next → Gathering ws l (set xs k x) next (k + 1)
  unfolding number_in
  gathering_turn {x} g next same =
      let some = cond_some (all_digits (take (end - at) (drop at l))) _ x (sym f ∙ g) in
      let good : all_digits (take (end - at) (drop at l)) ≡ true = some.0 in
      let value : x ≡ number (take (end - at) (drop at l)) = sym some.1 in
      let front : take (k + 1) (set xs k x) ≡ take k xs ++ x ∷ [] =
      ap (λ (n : ℕ). take n (set xs k x)) (add-one k) ∙ take-suc-set xs k x (omega (arith, inv.size)) in
      subst (λ (a : ℕ). Gathering ws l (set xs k x) a (k + 1)) same
      record {
        inside = omega arith;
        size = length-set xs k x ∙ inv.size;
        left = left_next ws l at k h inv.left end e;
        digits =
            sym (digits_split ws l at k h inv.left end e ∙ ap (λ (b : Bool). b && all_digits (drop end l)) good)
            ∙ inv.digits;
        values =
            ap (λ (t : List ℕ). t ++ numbers (drop (k + 1) ws) (drop end l)) front
            ∙ append_snoc (take k xs) x (numbers (drop (k + 1) ws) (drop end l))
            ∙ ap (λ (n : ℕ). take k xs ++ n ∷ numbers (drop (k + 1) ws) (drop end l)) value
            ∙ ap (λ (t : List ℕ). take k xs ++ t) (sym (numbers_split ws l at k h inv.left end e))
            ∙ inv.values;
      }

pub gathering_end : (ws l xs : List ℕ) (at k : ℕ) → Gathering ws l xs at k → length ws ≤ k → NumbersIn ws l true xs
unfolding total numbers all_digits
gathering_end ws l xs at k inv h =
    let none : drop k ws ≡ [] = drop_of_length-le ws {i = k} h in
    let over : drop at l ≡ [] = drop_of_length-le l {i = at} (omega (arith, inv.left, ap total none)) in
    record {
      all = sym (ap all_digits over) ∙ inv.digits;
      are = λ t.
          sym (append-nil xs)
          ∙ ap₂ (λ (s : List ℕ) (vs : List ℕ). s ++ numbers vs (drop at l)) (sym (take_all k xs (omega (arith, inv.size)))) (sym none)
          ∙ inv.values;
    }

-- ---- writing

-- what the loop keeps: what is written, and then the digits of the numbers from k on, are the goal
pub record Laying (ws xs l : List ℕ) (at k : ℕ) : Type 0 where
  pub inside : k ≤ length ws
  pub size : length xs ≡ length ws
  pub whole : length l ≡ 2 * total ws
  pub left : at + 2 * total (drop k ws) ≡ length l
  pub rest : take at l ++ spell (drop k ws) (drop k xs) ≡ spell ws xs

pub laying_start : (ws xs l : List ℕ) → length xs ≡ length ws → length l ≡ 2 * total ws → Laying ws xs l 0 0
laying_start ws xs l e f = record { inside = zero-le; size = e; whole = f; left = omega arith; rest = refl }

module _ (ws xs l : List ℕ) (at k : ℕ) (inv : Laying ws xs l at k) (h : k < length ws) (end : ℕ) (e : end ≡ at + 2 * get_or ws k 0) (d : List ℕ) (f : d ≡ digits_of (get_or ws k 0) (get_or xs k 0)) where
  d_size : length d ≡ 2 * get_or ws k 0
  d_size = ap length f ∙ length_digits (get_or ws k 0) (get_or xs k 0)

  front_size : length (take at l) ≡ at
  front_size = length-take-le at l (omega (arith, inv.left))

  laid : List ℕ
  laid = take at l ++ (d ++ drop (end - at) (drop at l))

  laid_size : length laid ≡ length l
  unfolding laid
  laid_size =
      omega (
        arith,
        length-append (take at l) (d ++ drop (end - at) (drop at l)),
        length-append d (drop (end - at) (drop at l)),
        front_size,
        d_size,
        length-drop (end - at) (drop at l),
        length-drop at l,
        end_within ws l at k h inv.left,
      )

  laid_front : take end laid ≡ take at l ++ d
  unfolding laid
  laid_front =
      ap (take end) (sym (append_assoc (take at l) d (drop (end - at) (drop at l))))
      ∙ take_at (take at l ++ d) (drop (end - at) (drop at l)) end (omega (arith, length-append (take at l) d, front_size, d_size))

  spell_next : spell (drop k ws) (drop k xs) ≡ d ++ spell (drop (k + 1) ws) (drop (k + 1) xs)
  unfolding spell
  spell_next =
      ap₂ spell (drop_next ws k h) (drop_next xs k (omega (arith, inv.size)))
      ∙ ap (λ (t : List ℕ). t ++ spell (drop (k + 1) ws) (drop (k + 1) xs)) (sym f)

  pub laying_turn : (next : ℕ) → end ≡ next → Laying ws xs (take at l ++ (d ++ drop (end - at) (drop at l))) next (k + 1)
  unfolding laid
  laying_turn next same =
      subst (λ (a : ℕ). Laying ws xs laid a (k + 1)) same
      record {
        inside = omega arith;
        size = inv.size;
        whole = laid_size ∙ inv.whole;
        left = left_next ws l at k h inv.left end e ∙ sym laid_size;
        rest =
            ap (λ (t : List ℕ). t ++ spell (drop (k + 1) ws) (drop (k + 1) xs)) laid_front
            ∙ append_assoc (take at l) d (spell (drop (k + 1) ws) (drop (k + 1) xs))
            ∙ ap (λ (t : List ℕ). take at l ++ t) (sym spell_next)
            ∙ inv.rest;
      }

pub laying_end : (ws xs l : List ℕ) (at k : ℕ) → Laying ws xs l at k → length ws ≤ k → l ≡ spell ws xs
unfolding total spell
laying_end ws xs l at k inv h =
    let none : drop k ws ≡ [] = drop_of_length-le ws {i = k} h in
    sym (append-nil l)
    ∙ ap₂ (λ (s : List ℕ) (vs : List ℕ). s ++ spell vs (drop k xs)) (sym (take_all at l (omega (arith, inv.left, ap total none)))) (sym none)
    ∙ inv.rest

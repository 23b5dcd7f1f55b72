-- One turn of the loops that move commands, and what they leave at their end.
use mathlib.Core.Path.{◌≡◌, refl, sym, ap, ap₂, ◌∙◌, subst}
use mathlib.Core.Bool.{Bool, true, false, and-false}
use mathlib.Core.List.{List, [], ◌∷◌, ◌++◌}
use Prim.Native.Nat.{ℕ, zero, suc, ◌+◌, ◌-◌, ◌≤◌, ◌<◌}
use native.Mathlib.Omega.{arith}
use borrow.Author.Tests.{le-ltb}
use lib.ListN.{length, take, drop, get_or, drop_of_length-le, length-drop, take-append-drop}
use lib.Seq.{take-take, take_all, append_snoc, drop-drop, get_or-drop}
use Rattle.basics.specs.Lists.{drop_next, take_next}
use Rattle.history.specs.History.{comes_off, without, extends}
use Rattle.history.specs.Code.Insertion.{clear, place, insert, arrange, Bounded, none, more}
use Rattle.history.specs.Front.{rotated, fronted, off_at}
use Rattle.history.specs.FrontLaws.{Standing, off_at_standing, off_at_absent}
use Rattle.history.proofs.Moves.{moved, moved_take, moved_drop, moved_head, moved_rest, moved_length}

-- ---- putting in order

arrange_next : (m : List ℕ) (c : ℕ) (h : List ℕ) → arrange m (c ∷ h) ≡ arrange (insert c m) h
unfolding arrange
arrange_next m c h = refl

inserted : (h : List ℕ) (i at : ℕ) → at ≤ i → at ≡ place (get_or h i 0) (take i h)
    → take at h ++ get_or h i 0 ∷ drop at (take i h) ≡ insert (get_or h i 0) (take i h)
unfolding insert
inserted h i at p e = rw (← e, take-take at i h p)

-- a command at least as large as all before it has its place behind them
pub place_bounded : {top : ℕ} {m : List ℕ} (c : ℕ) → top ≤ c → Bounded top m → place c m ≡ length m
unfolding place
place_bounded c p none = refl
place_bounded c p (more {c = d} {h = m} q b) = rw (le-ltb c d (omega arith), and-false (clear c (d ∷ m))) (ap suc (place_bounded c p b))

bounded_up : {top r : ℕ} {m : List ℕ} → top ≤ r → Bounded top m → Bounded r m
bounded_up p none = none
bounded_up p (more {c = d} l b) = more {c = d} (omega arith) (bounded_up p b)

-- with one command more, wherever it goes, the larger of it and the bound is a bound
bounded_more : {top : ℕ} (r c at : ℕ) {m : List ℕ} → top ≤ r → c ≤ r → Bounded top m → Bounded r (take at m ++ c ∷ drop at m)
bounded_more r c zero p q none = more q none
bounded_more r c (suc at) p q none = more q none
bounded_more r c zero p q (more {c = d} l b) = more q (more {c = d} (omega arith) (bounded_up p b))
bounded_more r c (suc at) p q (more {c = d} l b) = more {c = d} (omega arith) (bounded_more r c at p q b)

-- also at the end
pub bounded_next : (h : List ℕ) (i top r : ℕ) → i < length h → top ≤ r → get_or h i 0 ≤ r → Bounded top (take i h) → Bounded r (take (i + 1) h)
bounded_next h i top r l p q b = rw take_next (at_end (take i h) b)
  where
    at_end : (m : List ℕ) → Bounded top m → Bounded r (m ++ get_or h i 0 ∷ [])
    at_end [] none = more q none
    at_end (d ∷ m) (more l b) = more {c = d} (omega arith) (at_end m b)

-- what the loop keeps at position i: the first i commands, with the others inserted, are the answer m₀, and none of the first i is over `top`;
-- the length is n₀
pub record Arranging (h : List ℕ) (i top n₀ : ℕ) (m₀ : List ℕ) : Type 0 where
  pub inside : i ≤ length h
  pub size : length h ≡ n₀
  pub rest : arrange (take i h) (drop i h) ≡ m₀
  pub bound : Bounded top (take i h)

-- the command at i goes to its place among the first i
pub arrange_turn : (h : List ℕ) (i at top r n₀ : ℕ) (m₀ ys : List ℕ) → Arranging h i top n₀ m₀ → at ≤ i → i < length h → at ≡ place (get_or h i 0) (take i h)
    → top ≤ r → get_or h i 0 ≤ r → ys ≡ rotated (take (i + 1 - at) (drop at h)) → Arranging (take at h ++ (ys ++ drop (i + 1 - at) (drop at h))) (i + 1) r n₀ m₀
arrange_turn h i at top r n₀ m₀ ys inv p q e t u f = subst (λ (l : List ℕ). Arranging (take at h ++ (l ++ drop (i + 1 - at) (drop at h))) (i + 1) r n₀ m₀) (sym f) turned
  where
    turned : Arranging (moved h at i) (i + 1) r n₀ m₀
    turned =
        record {
          inside = omega (arith, moved_length h at i p q);
          size = moved_length h at i p q ∙ inv.size;
          rest =
              ap₂ arrange (moved_take h at i p q ∙ inserted h i at p e) (moved_drop h at i p q)
              ∙ sym (arrange_next (take i h) (get_or h i 0) (drop (i + 1) h)) ∙ ap (arrange (take i h)) (sym (drop_next h i q)) ∙ inv.rest;
          bound = rw (moved_take h at i p q, ← take-take at i h p) (bounded_more r (get_or h i 0) at t u inv.bound);
        }

pub arrange_end : (h : List ℕ) (i : ℕ) → length h ≤ i → arrange (take i h) (drop i h) ≡ h
unfolding arrange
arrange_end h i p = rw (drop_of_length-le h p) (take_all i h p)

-- ---- bringing to the front

-- what the loop keeps at position i: the first i commands of g stand in front, and the test and the result go on from there; e₀ and m₀ are the answers
pub record Bringing (w g : List ℕ) (i n₀ : ℕ) (e₀ : Bool) (m₀ : List ℕ) : Type 0 where
  pub inside : i ≤ length g
  pub within : i ≤ length w
  pub size : length w ≡ n₀
  pub answer : extends (drop i w) (drop i g) ≡ e₀
  pub rest : take i w ++ fronted (drop i w) (drop i g) ≡ m₀

pub bring_start : (w g : List ℕ) → Bringing w g 0 (length w) (extends w g) (fronted w g)
bring_start w g = record { inside = omega arith; within = omega arith; size = refl; answer = refl; rest = refl }

pub bring_end : (w g : List ℕ) (i n₀ : ℕ) (e₀ : Bool) (m₀ : List ℕ) → Bringing w g i n₀ e₀ m₀ → length g ≤ i → (true ≡ e₀) × (w ≡ m₀)
unfolding extends fronted
bring_end w g i n₀ e₀ m₀ inv p =
    (rw (drop_of_length-le g p) at inv.answer, sym (take-append-drop i w) ∙ (rw (drop_of_length-le g p) at inv.rest))

module _ (w g : List ℕ) (i n₀ : ℕ) (e₀ : Bool) (m₀ : List ℕ) (inv : Bringing w g i n₀ e₀ m₀) (p : i < length g) where
  -- the command does not come off
  pub bring_stop : length w ≤ i + off_at (get_or g i 0) (drop i w) → (false ≡ e₀) × (w ≡ m₀)
  unfolding extends fronted
  bring_stop q =
      let no-off : comes_off (get_or g i 0) (drop i w) ≡ false = off_at_absent (get_or g i 0) (drop i w) (rw length-drop (omega (arith, inv.within))) in
      (rw (drop_next g i p, no-off) at inv.answer, sym (take-append-drop i w) ∙ (rw (drop_next g i p, no-off) at inv.rest))

  -- the command comes off, and goes to place i
  module _ (at : ℕ) (e : at ≡ i + off_at (get_or g i 0) (drop i w)) (q : at < length w) where
    standing : Standing (get_or g i 0) (drop i w) (off_at (get_or g i 0) (drop i w))
    standing = off_at_standing (get_or g i 0) (drop i w) (rw length-drop (omega arith))

    ordered : i ≤ at
    ordered = omega arith

    head_is : take (i + 1) (moved w i at) ≡ take i w ++ get_or g i 0 ∷ []
    head_is = moved_head w i at ordered q ∙ ap (λ (c : ℕ). take i w ++ c ∷ []) (rw e (sym (get_or-drop i w _ 0) ∙ standing.found))

    rest_is : drop (i + 1) (moved w i at) ≡ without (get_or g i 0) (drop i w)
    rest_is =
        let j = off_at (get_or g i 0) (drop i w) in
        let front : at - i ≡ j = omega arith in
        let back : at + 1 ≡ i + suc j = omega arith in
        moved_rest w i at ordered q
        ∙ ap₂ (λ (m n : ℕ). take m (drop i w) ++ drop n w) front back
        ∙ ap (λ (l : List ℕ). take j (drop i w) ++ l) (sym (drop-drop (suc j) i w))
        ∙ sym standing.left

    -- the test and the result, one command on
    answer_next : extends (without (get_or g i 0) (drop i w)) (drop (i + 1) g) ≡ e₀
    unfolding extends
    answer_next = rw (drop_next g i p, standing.comes) at inv.answer

    rest_next : take i w ++ get_or g i 0 ∷ fronted (without (get_or g i 0) (drop i w)) (drop (i + 1) g) ≡ m₀
    unfolding fronted
    rest_next = rw (drop_next g i p, standing.comes) at inv.rest

    pub bring_turn : (ys : List ℕ) → ys ≡ rotated (take (at + 1 - i) (drop i w)) → Bringing (take i w ++ (ys ++ drop (at + 1 - i) (drop i w))) g (i + 1) n₀ e₀ m₀
    bring_turn ys f = subst (λ (l : List ℕ). Bringing (take i w ++ (l ++ drop (at + 1 - i) (drop i w))) g (i + 1) n₀ e₀ m₀) (sym f) turned
      where
        turned : Bringing (moved w i at) g (i + 1) n₀ e₀ m₀
        turned =
            record {
              inside = omega arith;
              within = omega (arith, moved_length w i at ordered q);
              size = moved_length w i at ordered q ∙ inv.size;
              answer = rw rest_is answer_next;
              rest = rw (head_is, rest_is, append_snoc) rest_next;
            }

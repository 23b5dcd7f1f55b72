-- One turn of the loop that appends, and what it leaves at its end.
use mathlib.Core.Path.{◌≡◌, refl, sym, ap, ◌∙◌}
use mathlib.Core.Bool.{true, false, cond}
use mathlib.Core.List.{List, [], ◌∷◌, ◌++◌}
use Prim.Native.Nat.{ℕ, zero, suc, ◌+◌, ◌≤◌, ◌<◌, min}
use native.Mathlib.Omega.{arith}
use native.Mathlib.Nat.{zero-min, min-zero, suc-min-suc}
use native.Mathlib.Numerals.{add-one}
use lib.ListN.{length, take, drop, get_or, set, drop_of_length-le, length-take, length-set, take-append-drop}
use lib.Seq.{drop-cons, take_all, length-take-le, take-suc-set, drop-set-lt, drop-drop}
use Rattle.history.specs.History.{present}
use Rattle.merge.specs.Merge.{appended, appended_in}
use Rattle.merge.specs.AppendingLaws.{appended_front}

appended_next : (g : List ℕ) (c : ℕ) (h : List ℕ) → appended g (c ∷ h) ≡ appended (cond (present c g) g (g ++ c ∷ [])) h
unfolding appended
appended_next g c h = refl

take_capped : (k : ℕ) (l : List ℕ) → take (min k (length l)) l ≡ take k l
take_capped zero l = rw zero-min
take_capped (suc k) [] = rw min-zero
take_capped (suc k) (c ∷ l) = rw suc-min-suc (ap (λ (x : List ℕ). c ∷ x) (take_capped k l))

-- what the loop keeps: the first n words with the commands from i on appended are the answer; the words behind are those of buf₀
pub record Appending (buf more : List ℕ) (n i : ℕ) (buf₀ answer : List ℕ) : Type 0 where
  pub inside : i ≤ length more
  pub room : n ≤ length buf
  pub size : length buf ≡ length buf₀
  pub rest : take (length buf₀) (appended (take n buf) (drop i more)) ≡ answer
  pub behind : drop n buf ≡ drop n buf₀

pub append_start : (buf more : List ℕ) (count : ℕ) → Appending buf more (min count (length buf)) 0 buf (appended_in buf count more)
append_start buf more count =
    record {
      inside = omega arith;
      room = omega arith;
      size = refl;
      rest = ap (λ (l : List ℕ). take (length buf) (appended l more)) (take_capped count buf);
      behind = refl;
    }

module _ (buf more : List ℕ) (n i : ℕ) (buf₀ answer : List ℕ) (inv : Appending buf more n i buf₀ answer) where
  -- the loop ends where the commands or the room do
  done : answer ≡ take n buf → (n ≡ length answer) × (buf ≡ answer ++ drop n buf₀)
  done e = (rw (e, length-take-le n buf inv.room), rw (e, ← inv.behind) (sym (take-append-drop n buf)))

  pub append_end : length more ≤ i → (n ≡ length answer) × (buf ≡ answer ++ drop n buf₀)
  unfolding appended
  append_end p = done (sym inv.rest ∙ rw (drop_of_length-le more p) (take_all (length buf₀) (take n buf) (rw length-take (omega (arith, inv.size)))))

  pub append_full : length buf ≤ n → (n ≡ length answer) × (buf ≡ answer ++ drop n buf₀)
  append_full p =
      let all : length buf₀ ≡ length (take n buf) = rw length-take (omega (arith, inv.size, inv.room)) in
      done (sym inv.rest ∙ ap (λ (k : ℕ). take k (appended (take n buf) (drop i more))) all ∙ appended_front (take n buf) (drop i more))

  module _ (p : i < length more) where
    next : drop i more ≡ get_or more i 0 ∷ drop (i + 1) more
    next = rw add-one (drop-cons more i 0 p)

    -- a command that is there already
    pub append_old : present (get_or more i 0) (take n buf) ≡ true → Appending buf more n (i + 1) buf₀ answer
    unfolding appended
    append_old e =
        record {
          inside = omega arith;
          room = inv.room;
          size = inv.size;
          rest = rw (next, appended_next, e) at inv.rest;
          behind = inv.behind;
        }

    -- a new one
    pub append_new : n < length buf → present (get_or more i 0) (take n buf) ≡ false → Appending (set buf n (get_or more i 0)) more (n + 1) (i + 1) buf₀ answer
    unfolding appended
    append_new q e =
        let c = get_or more i 0 in
        let front-is : take (n + 1) (set buf n c) ≡ take n buf ++ c ∷ [] = rw add-one (take-suc-set buf n c q) in
        let behind-is : drop (n + 1) (set buf n c) ≡ drop (n + 1) buf = rw add-one (drop-set-lt (suc n) buf n c (omega arith)) in
        record {
          inside = omega arith;
          room = rw length-set (omega arith);
          size = length-set buf n _ ∙ inv.size;
          rest = ap (λ (l : List ℕ). take (length buf₀) (appended l (drop (i + 1) more))) front-is ∙ (rw (next, appended_next, e) at inv.rest);
          behind = behind-is ∙ sym (drop-drop 1 n buf) ∙ ap (drop 1) inv.behind ∙ drop-drop 1 n buf₀;
        }

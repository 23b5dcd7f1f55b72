-- What one turn of each loop does to the definition that the loop computes: the loop stops, goes on with one command less, or has come to the end.
use mathlib.Core.Path.{◌≡◌, refl, ap, ◌∙◌}
use Rattle.std.specs.List.{list_any, range_with_len, slice_get}
use Rattle.std.specs.Option.{unwrap_or}
use Rattle.std.proofs.lemmas.Option.{unwrap_or-slice_get}
use mathlib.Core.Bool.{true, false, cond, ◌||◌}
use mathlib.Core.List.{List, ◌++◌, append-nil}
use Prim.Native.Nat.{ℕ, zero, suc, ◌+◌, ◌-◌, ◌≤◌, ◌<◌}
use native.Mathlib.Omega.{arith}
use native.Mathlib.Numerals.{add-one, sub-one}
use borrow.Author.Tests.{eq-eqb, ne_eqb, lt-ltb, le-ltb}
use lib.Dec.{ltb}
use lib.ListN.{length, take, drop, get_or, set, drop_of_length-le, length-drop}
use lib.Seq.{take-length, take_all, length-take-le, append_snoc, take-suc-set, drop-set-lt}
use Rattle.basics.specs.Lists.{drop_next, take_next}
use Rattle.command.specs.Command.{conflict, same_request}
use Rattle.history.specs.History.{present, repeated}
use Rattle.history.specs.Code.Insertion.{place, stays, walk}
use Rattle.history.specs.Front.{off_at, shifted, rotated}

-- the part of a list from a on, as a slice `&h[a..]` is made of it
pub tail_part : (h : List ℕ) (a : ℕ) → take (length h - a) (drop a h) ≡ drop a h
tail_part h a = rw (← length-drop a h) (take-length (drop a h))

-- ---- present

pub present_stop : (c : ℕ) (h : List ℕ) (i : ℕ) → i < length h → same_request c (get_or h i 0) ≡ true → present c (drop i h) ≡ true
unfolding present
present_stop c h i p e = rw (drop_next h i p, e)

pub present_more : (c : ℕ) (h : List ℕ) (i : ℕ) → i < length h → same_request c (get_or h i 0) ≡ false → present c (drop i h) ≡ present c (drop (i + 1) h)
unfolding present
present_more c h i p e = rw (drop_next h i p, e)

pub present_end : (c : ℕ) (h : List ℕ) (i : ℕ) → length h ≤ i → present c (drop i h) ≡ false
unfolding present
present_end c h i p = rw (drop_of_length-le h p)

-- ---- repeated, as the chain computes it

-- from position i on, of the n that are left
repeated_from : (h : List ℕ) (i n : ℕ) → i + n ≡ length h
    → repeated (drop i h) ≡ list_any (λ k. present (get_or h k 0) (take (length h - (k + 1)) (drop (k + 1) h))) (range_with_len i n)
unfolding repeated
repeated_from h i zero e = rw (drop_of_length-le h {i = i} (omega arith))
repeated_from h i (suc n) e =
    rw (drop_next h i (omega arith), tail_part h (i + 1))
    (ap (λ b. present (get_or h i 0) (drop (i + 1) h) || b) (repeated_from h (i + 1) n (omega arith)))

pub repeated_chain : (h : List ℕ) → repeated h ≡ list_any (λ k. present (get_or h k 0) (take (length h - (k + 1)) (drop (k + 1) h))) (range_with_len 0 (length h))
repeated_chain h = repeated_from h 0 (length h) (omega arith)

-- ---- walking left

walk_at : (c : ℕ) (h : List ℕ) (k at : ℕ) → 0 < k → walk c h k at ≡ cond (conflict c (get_or h (k - 1) 0)) at (walk c h (k - 1) (cond (ltb c (get_or h (k - 1) 0)) (k - 1) at))
unfolding walk
walk_at c h zero at p = absurd (omega arith)
walk_at c h (suc k) at p = rw sub-one refl

pub walk_stop : (c : ℕ) (h : List ℕ) (k at : ℕ) → 0 < k → conflict c (get_or h (k - 1) 0) ≡ true → walk c h k at ≡ at
walk_stop c h k at p e = rw (walk_at c h k at p, e)

pub walk_before : (c : ℕ) (h : List ℕ) (k at : ℕ) → 0 < k → conflict c (get_or h (k - 1) 0) ≡ false → c < get_or h (k - 1) 0 → walk c h k at ≡ walk c h (k - 1) (k - 1)
walk_before c h k at p e q = rw (walk_at c h k at p, e, lt-ltb c _ q)

pub walk_past : (c : ℕ) (h : List ℕ) (k at : ℕ) → 0 < k → conflict c (get_or h (k - 1) 0) ≡ false → get_or h (k - 1) 0 ≤ c → walk c h k at ≡ walk c h (k - 1) at
walk_past c h k at p e q = rw (walk_at c h k at p, e, le-ltb c _ q)

-- ---- the canonical test

pub stays_stop : (h : List ℕ) (i : ℕ) → i < length h → (place (get_or h i 0) (take i h) ≡ i → ⊥) → stays (take i h) (drop i h) ≡ false
unfolding stays
stays_stop h i p n = rw (drop_next h i p, length-take-le i h (omega arith), ne_eqb _ i n)

pub stays_more : (h : List ℕ) (i : ℕ) → i < length h → place (get_or h i 0) (take i h) ≡ i → stays (take i h) (drop i h) ≡ stays (take (i + 1) h) (drop (i + 1) h)
unfolding stays
stays_more h i p e = rw (drop_next h i p, length-take-le i h (omega arith), e, eq-eqb i i refl, take_next h i p)

pub stays_end : (h : List ℕ) (i : ℕ) → length h ≤ i → stays (take i h) (drop i h) ≡ true
unfolding stays
stays_end h i p = rw (drop_of_length-le h p)

pub walk_end : (c : ℕ) (h : List ℕ) (k at : ℕ) → k ≤ 0 → walk c h k at ≡ at
unfolding walk
walk_end c h zero at p = refl
walk_end c h (suc k) at p = absurd (omega arith)

-- ---- where a command comes off

pub find_here : (c : ℕ) (h : List ℕ) (i : ℕ) → i < length h → c ≡ get_or h i 0 → i ≡ i + off_at c (drop i h)
unfolding off_at
find_here c h i p e = rw (drop_next h i p, eq-eqb c _ e) (omega arith)

pub find_stop : (c : ℕ) (h : List ℕ) (i : ℕ) → i < length h → (c ≡ get_or h i 0 → ⊥) → conflict c (get_or h i 0) ≡ true → length h ≡ i + off_at c (drop i h)
unfolding off_at
find_stop c h i p n e = rw (drop_next h i p, ne_eqb c _ n, e, length-drop) (omega arith)

pub find_more : (c : ℕ) (h : List ℕ) (i : ℕ) → i < length h → (c ≡ get_or h i 0 → ⊥) → conflict c (get_or h i 0) ≡ false → i + 1 + off_at c (drop (i + 1) h) ≡ i + off_at c (drop i h)
unfolding off_at
find_more c h i p n e = rw (drop_next h i p, ne_eqb c _ n, e) (omega arith)

pub find_end : (c : ℕ) (h : List ℕ) (i : ℕ) → length h ≤ i → i ≡ i + off_at c (drop i h)
unfolding off_at
find_end c h i p = rw (drop_of_length-le h p) (omega arith)

-- ---- rotating

-- c goes to k, and the element from there is carried on in its place
pub shifted_more : (s : List ℕ) (k c : ℕ) → k < length s → take (k + 1) (set s k c) ++ shifted (get_or s k 0) (drop (k + 1) (set s k c)) ≡ take k s ++ shifted c (drop k s)
unfolding shifted
shifted_more s k c p = rw (drop_next s k p, add-one, take-suc-set s k c p, drop-set-lt (suc k) s k c (omega arith)) (append_snoc (take k s) c (shifted (get_or s k 0) (drop (suc k) s)))

pub shifted_end : (s : List ℕ) (k c : ℕ) → length s ≤ k → take k s ++ shifted c (drop k s) ≡ s
unfolding shifted
shifted_end s k c p = rw (drop_of_length-le s p, take_all k s p) (append-nil s)

pub rotated_start : (s : List ℕ) (c : ℕ) → c ≡ unwrap_or (slice_get s (length s - 1)) 0 → shifted c s ≡ rotated s
unfolding rotated
rotated_start s c e = ap (λ d. shifted d s) (e ∙ unwrap_or-slice_get s (length s - 1) 0)

-- The canonical order of a history is equivalent to it, and equivalent histories have one canonical order.
use Rattle.std.specs.Prelude.{◌≡◌, refl, Bool, true, false, ℕ, zero, suc, ◌≤◌, min, eqb, length}
use Rattle.std.proofs.Common.{sym, ap, ap₂, ◌∙◌, subst, true≢false, arith, le_antisymm, eqb-true, eq-eqb}
use mathlib.Core.List.Memᴰ
use mathlib.Core.List.{List, [], ◌∷◌, Memᴰ}
use Rattle.std.proofs.Math.Decide.{dec_le}
use Rattle.std.proofs.Math.Nat.{min-eq_left}
use Rattle.basics.specs.Bools.{and_left, and_right}
use Rattle.command.specs.Command.{conflict}
use Rattle.history.specs.History.{Equivalent, same, keep, trans, apart, free, least, without, ordered, canonical, equal, is_canonical}
use Rattle.history.specs.TakesLaws.{Takes, here, there, takes_equivalent, takes_unique, Taken, taken, takes_along, equivalent_sym, equivalent_length}
use Rattle.history.specs.ExtensionLaws.{takes_without}

-- ---- the commands that have no conflicting command before them are those that can be taken off

pub data Takeable (d : ℕ) (h : List ℕ) : Type 0 where
  off : {k : List ℕ} → Takes d h k → Takeable d h

apart_mem : (c : ℕ) (l : List ℕ) {d : ℕ} → Memᴰ d (apart c l) → (conflict d c ≡ false) × Memᴰ d l
unfolding apart
apart_mem c [] {d = d} m = elim m [ ]
apart_mem c (x ∷ l) {d} m = go (conflict x c) refl (λ n. apart_mem c l n)
  where
    Below : Type 0
    Below = Memᴰ d (apart c l) → (conflict d c ≡ false) × Memᴰ d l

    split : conflict x c ≡ false → Below → Memᴰ d (x ∷ apart c l) → (conflict d c ≡ false) × Memᴰ d (x ∷ l)
    split e next (Memᴰ.head p) = (ap (λ (y : ℕ). conflict y c) p ∙ e, Memᴰ.head p)
    split e next (Memᴰ.tail n) = ((next n).0, Memᴰ.tail (next n).1)

    go : (b : Bool) → conflict x c ≡ b → Below → (conflict d c ≡ false) × Memᴰ d (x ∷ l)
    go true e next = let r = next (rw e at m) in (r.0, Memᴰ.tail r.1)
    go false e next = split e next (rw e at m)

mem_apart : (c : ℕ) (l : List ℕ) {d : ℕ} → conflict d c ≡ false → Memᴰ d l → Memᴰ d (apart c l)
unfolding apart
mem_apart c [] {d = d} q x'' = elim x'' [ ]
mem_apart c (x ∷ l) {d} q (Memᴰ.head p) = rw (ap (λ (y : ℕ). conflict y c) (sym p) ∙ q) (Memᴰ.head p)
mem_apart c (x ∷ l) {d} q (Memᴰ.tail n) = go (conflict x c) refl (mem_apart c l q n)
  where
    go : (b : Bool) → conflict x c ≡ b → Memᴰ d (apart c l) → Memᴰ d (apart c (x ∷ l))
    go true e r = rw e r
    go false e r = rw e (Memᴰ.tail r)

free_takeable : (h : List ℕ) {d : ℕ} → Memᴰ d (free h) → Takeable d h
unfolding free
free_takeable [] {d = d} x' = elim x' [ ]
free_takeable (c ∷ h) (Memᴰ.head e) = off (here e)
free_takeable (c ∷ h) {d} (Memᴰ.tail n) = let r = apart_mem c (free h) n in under r.0 (free_takeable h r.1)
  where
    under : conflict d c ≡ false → Takeable d h → Takeable d (c ∷ h)
    under p (off t) = off (there p t)

takes_free : {d : ℕ} {h k : List ℕ} → Takes d h k → Memᴰ d (free h)
unfolding free
takes_free (here e) = Memᴰ.head e
takes_free (there {d = c} {h = h} p t) = Memᴰ.tail (mem_apart c (free h) p (takes_free t))

-- ---- the smallest

least_mem : (c : ℕ) (l : List ℕ) → Memᴰ (least c l) (c ∷ l)
unfolding least
least_mem c [] = Memᴰ.head refl
least_mem c (d ∷ l) = go (dec_le d (least c l)) (least_mem c l)
  where
    deeper : {x : ℕ} → Memᴰ x (c ∷ l) → Memᴰ x (c ∷ d ∷ l)
    deeper (Memᴰ.head e) = Memᴰ.head e
    deeper (Memᴰ.tail m) = Memᴰ.tail (Memᴰ.tail m)

    go : Dec (d ≤ least c l) → Memᴰ (least c l) (c ∷ l) → Memᴰ (min d (least c l)) (c ∷ d ∷ l)
    go (yes p) r = Memᴰ.tail (Memᴰ.head (min-eq_left p))
    go (no n) r = Memᴰ.cast (omega (arith, n)) (deeper r)

least_le : (c : ℕ) (l : List ℕ) {d : ℕ} → Memᴰ d (c ∷ l) → least c l ≤ d
unfolding least
least_le c [] {d = d} (Memᴰ.tail x5) = elim x5 [ ]
least_le c [] (Memᴰ.head e) = omega (arith, e)
least_le c (x ∷ l) {d} (Memᴰ.head e) = let r = least_le c l {d = d} (Memᴰ.head e) in omega arith
least_le c (x ∷ l) {d} (Memᴰ.tail (Memᴰ.head e)) = omega (arith, e)
least_le c (x ∷ l) {d} (Memᴰ.tail (Memᴰ.tail m)) = let r = least_le c l {d = d} (Memᴰ.tail m) in omega arith

-- ---- the canonical order, as a relation

-- m is the canonical order of h: its first command is the smallest that can be taken off h, and the rest is the canonical order of what is left
pub data Canonical : List ℕ → List ℕ → Type 0 where
  done : Canonical [] []
  next : {c : ℕ} {h k m : List ℕ} → Takes c h k → ((d : ℕ) → Takeable d h → c ≤ d) → Canonical k m → Canonical h (c ∷ m)

-- the definition picks such a command at each turn
smallest_takeable : (c : ℕ) (h : List ℕ) → Takeable (least c (free (c ∷ h))) (c ∷ h)
smallest_takeable c h = go (least_mem c (free (c ∷ h)))
  where
    go : {x : ℕ} → Memᴰ x (c ∷ free (c ∷ h)) → Takeable x (c ∷ h)
    go (Memᴰ.head e) = off (here e)
    go (Memᴰ.tail m) = free_takeable (c ∷ h) m

smallest_least : (c : ℕ) (h : List ℕ) (d : ℕ) → Takeable d (c ∷ h) → least c (free (c ∷ h)) ≤ d
smallest_least c h d (off t) = least_le c (free (c ∷ h)) (Memᴰ.tail (takes_free t))

takes_length : {c : ℕ} {h k : List ℕ} → Takes c h k → length h ≡ suc (length k)
takes_length t = sym (equivalent_length (takes_equivalent t))

ordered_canonical : (n : ℕ) (h : List ℕ) → length h ≤ n → Canonical h (ordered n h)
unfolding ordered
ordered_canonical zero [] p = done
ordered_canonical zero (c ∷ h) p = absurd (omega arith)
ordered_canonical (suc n) [] p = done
ordered_canonical (suc n) (c ∷ h) p = go (smallest_takeable c h) (λ k q. ordered_canonical n k q)
  where
    s : ℕ
    s = least c (free (c ∷ h))

    go : Takeable s (c ∷ h) → ((k : List ℕ) → length k ≤ n → Canonical k (ordered n k)) → Canonical (c ∷ h) (s ∷ ordered n (without s (c ∷ h)))
    go (off {k = k} t) ih = rw (takes_without t) (next t (smallest_least c h) (ih k (omega (arith, takes_length t))))

pub canonical_is : (h : List ℕ) → Canonical h (canonical h)
unfolding canonical
canonical_is h = ordered_canonical (length h) h (omega arith)

-- the canonical order is equivalent
pub canonical_equivalent' : {h m : List ℕ} → Canonical h m → Equivalent m h
canonical_equivalent' done = same
canonical_equivalent' (next t s r) = trans (keep (canonical_equivalent' r)) (takes_equivalent t)

pub canonical_equivalent : (h : List ℕ) → Equivalent (canonical h) h
canonical_equivalent h = canonical_equivalent' (canonical_is h)

-- equivalent histories have one canonical order
pub takeable_along : {d : ℕ} {g h : List ℕ} → Equivalent g h → Takeable d g → Takeable d h
takeable_along e (off t) = go (takes_along e t)
  where
    go : {d : ℕ} {k h : List ℕ} → Taken d k h → Takeable d h
    go (taken u f) = off u

-- what is left after the same command is taken off both is equivalent
left_equivalent : {c d : ℕ} {g h k l : List ℕ} → Equivalent g h → Takes c g k → Takes d h l → c ≡ d → Equivalent k l
left_equivalent {c} {d} {h = h} {k = k} {l = l} e t u p = go (takes_along e t)
  where
    go : Taken c k h → Equivalent k l
    go (taken v f) = subst (λ (x : List ℕ). Equivalent k x) (takes_unique v (subst (λ (x : ℕ). Takes x h l) (sym p) u)) f

pub one_order : {g h m n : List ℕ} → Equivalent g h → Canonical g m → Canonical h n → m ≡ n
one_order e done done = refl
one_order e done (next t s r) = absurd (omega (arith, equivalent_length e, takes_length t))
one_order e (next t s r) done = absurd (omega (arith, equivalent_length e, takes_length t))
one_order e (next {c = c} t s r) (next {c = d} u p q) =
    let f : c ≡ d = le_antisymm (s d (takeable_along (equivalent_sym e) (off u))) (p c (takeable_along e (off t))) in
    ap₂ (λ (x : ℕ) (l : List ℕ). x ∷ l) f (one_order (left_equivalent e t u f) r q)

-- "Equivalent histories have one canonical order."
pub canonical_unique : {g h : List ℕ} → Equivalent g h → canonical g ≡ canonical h
canonical_unique {g} {h} e = one_order e (canonical_is g) (canonical_is h)

-- and histories of one canonical order are equivalent
pub canonical_same : (g h : List ℕ) → canonical g ≡ canonical h → Equivalent g h
canonical_same g h e =
    trans (equivalent_sym (canonical_equivalent g)) (subst (λ (x : List ℕ). Equivalent x h) (sym e) (canonical_equivalent h))

pub canonical_twice : (h : List ℕ) → canonical (canonical h) ≡ canonical h
canonical_twice h = canonical_unique (canonical_equivalent h)

pub canonical_length : (h : List ℕ) → length (canonical h) ≡ length h
canonical_length h = equivalent_length (canonical_equivalent h)

-- ---- the test

pub equal_true : (g h : List ℕ) → equal g h ≡ true → g ≡ h
unfolding equal
equal_true [] [] e = refl
equal_true [] (d ∷ h) e = absurd (true≢false (sym e))
equal_true (c ∷ g) [] e = absurd (true≢false (sym e))
equal_true (c ∷ g) (d ∷ h) e = ap₂ (λ (x : ℕ) (l : List ℕ). x ∷ l) (eqb-true c d (and_left _ _ e)) (equal_true g h (and_right (eqb c d) _ e))

pub equal_refl : (h : List ℕ) → equal h h ≡ true
unfolding equal
equal_refl [] = refl
equal_refl (c ∷ h) = rw (eq-eqb c c refl, equal_refl h)

pub is_canonical_lem : (h : List ℕ) → is_canonical h ≡ true → canonical h ≡ h
unfolding is_canonical
is_canonical_lem h e = equal_true (canonical h) h e

pub canonical_is_canonical : (h : List ℕ) → is_canonical (canonical h) ≡ true
unfolding is_canonical
canonical_is_canonical h = rw (canonical_twice h) (equal_refl (canonical h))

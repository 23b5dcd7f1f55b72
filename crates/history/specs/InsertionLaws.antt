-- Inserting a history's commands one after the other puts it in canonical order.
use Rattle.std.specs.Prelude.{◌≡◌, refl, Bool, true, false, not, cond, ◌&&◌, ℕ, zero, suc, ◌+◌, ◌≤◌, eqb, ltb, length, take, get_or}
use Rattle.std.proofs.Common.{sym, ap, ◌∙◌, subst, arith, eqb-true, eq-eqb, ltb-true, ltb-false, take-suc, length-take-le, zero-add, add-zero}
use Rattle.std.proofs.Math.Bool.{and-false}
use mathlib.Core.List.{List, [], ◌∷◌, ◌++◌, append-nil, append_assoc, head-eq_of_cons-eq, tail-eq_of_cons-eq}
use Rattle.std.proofs.lemmas.Bool.{not-true}
use Rattle.std.proofs.Math.Seq.{take-length, drop-length, append_snoc}
use Rattle.basics.specs.Bools.{and_left, and_right}
use Rattle.command.specs.Command.{conflict}
use Rattle.history.specs.History.{Equivalent, same, keep, trans, canonical, equal, is_canonical}
use Rattle.history.specs.TakesLaws.{Takes, here, there, takes_equivalent, equivalent_sym, equivalent_behind, equivalent_refl}
use Rattle.history.specs.CoherenceLaws.{Clear, empty, more, clear_past}
use Rattle.history.specs.CanonicalLaws.{Takeable, off, takeable_along, Canonical, done, next, canonical_is, canonical_equivalent, canonical_equivalent', equal_refl, is_canonical_lem, one_order}
use Rattle.history.specs.Code.Insertion.{clear, place, insert, arrange, stays, walk}

-- ---- one insertion

clear_true : (c : ℕ) (h : List ℕ) → clear c h ≡ true → Clear c h
unfolding clear
clear_true c [] e = empty
clear_true c (d ∷ h) e = more (not-true (conflict c d) (and_left _ _ e)) (clear_true c h (and_right (not (conflict c d)) _ e))

true_clear : {c : ℕ} {h : List ℕ} → Clear c h → clear c h ≡ true
unfolding clear
true_clear empty = refl
true_clear (more p r) = rw (p, true_clear r)

insert_nil : (c : ℕ) → insert c [] ≡ c ∷ []
unfolding insert place
insert_nil c = refl

insert_first : (c d : ℕ) (h : List ℕ) → (clear c (d ∷ h) && ltb c d) ≡ true → insert c (d ∷ h) ≡ c ∷ d ∷ h
unfolding insert place
insert_first c d h e = rw e

insert_later : (c d : ℕ) (h : List ℕ) → (clear c (d ∷ h) && ltb c d) ≡ false → insert c (d ∷ h) ≡ d ∷ insert c h
unfolding insert place
insert_later c d h e = rw e

-- inserting is moving from behind, past commands that don't conflict
pub insert_equivalent : (c : ℕ) (h : List ℕ) → Equivalent (insert c h) (h ++ c ∷ [])
insert_equivalent c [] = equivalent_refl (insert_nil c)
insert_equivalent c (d ∷ h) = go (clear c (d ∷ h) && ltb c d) refl (insert_equivalent c h)
  where
    go : (b : Bool) → (clear c (d ∷ h) && ltb c d) ≡ b → Equivalent (insert c h) (h ++ c ∷ []) → Equivalent (insert c (d ∷ h)) (d ∷ h ++ c ∷ [])
    go true e ih = rw (insert_first c d h e) (takes_equivalent (clear_past (clear_true c (d ∷ h) (and_left _ _ e))))
    go false e ih = rw (insert_later c d h e) (keep ih)

-- ---- lists that are in canonical order already

-- each command is at most as large as those that can be taken off from there on
pub data Settled : List ℕ → Type 0 where
  end : Settled []
  first : {c : ℕ} {h : List ℕ} → ((d : ℕ) → Takeable d (c ∷ h) → c ≤ d) → Settled h → Settled (c ∷ h)

pub settled_canonical : {h : List ℕ} → Settled h → Canonical h h
settled_canonical end = done
settled_canonical (first s r) = next (here refl) s (settled_canonical r)

settled_along : {h m : List ℕ} → Canonical h m → Settled m
settled_along done = end
settled_along (next t s r) = first (λ d x. s d (takeable_along (trans (keep (canonical_equivalent' r)) (takes_equivalent t)) x)) (settled_along r)

pub canonical_settled : (h : List ℕ) → Settled (canonical h)
canonical_settled h = settled_along (canonical_is h)

pub settled_fixed : {h : List ℕ} → Settled h → canonical h ≡ h
settled_fixed {h} s = one_order same (canonical_is h) (settled_canonical s)

-- two equivalent lists that are in canonical order are equal
pub settled_unique : {g h : List ℕ} → Equivalent g h → Settled g → Settled h → g ≡ h
settled_unique e s r = one_order e (settled_canonical s) (settled_canonical r)

-- what can be taken off m followed by c: something of m, or c past all of m
data Behind (e c : ℕ) (m : List ℕ) : Type 0 where
  inside : Takeable e m → Behind e c m
  last : e ≡ c → Clear e m → Behind e c m

behind : {e : ℕ} (c : ℕ) (m : List ℕ) {k : List ℕ} → Takes e (m ++ c ∷ []) k → Behind e c m
behind {e = e} c [] (there {k = k} p t) = elim t [ ]
behind c [] (here p) = last p empty
behind c (d ∷ m) (here p) = inside (off (here p))
behind {e} c (d ∷ m) (there p t) = go (behind c m t)
  where
    go : Behind e c m → Behind e c (d ∷ m)
    go (inside (off u)) = inside (off (there p u))
    go (last q r) = last q (more p r)

insert_settled : (c : ℕ) {m : List ℕ} → Settled m → Settled (insert c m)
insert_settled c end = rw (insert_nil c) (first (λ d x. only x) end)
  where
    only : {d : ℕ} → Takeable d (c ∷ []) → c ≤ d
    only {d = d} (off (there {k = k} _ x10)) = elim x10 [ ]
    only (off (here e)) = omega (arith, e)
insert_settled c (first {c = d} {h = m} s r) = go (clear c (d ∷ m) && ltb c d) refl (insert_settled c r)
  where
    smaller : (clear c (d ∷ m) && ltb c d) ≡ true → (x : ℕ) → Takeable x (c ∷ d ∷ m) → c ≤ x
    smaller e x (off (here p)) = omega (arith, p)
    smaller e x (off (there p t)) = omega (arith, s x (off t), ltb-true c d (and_right (clear c (d ∷ m)) _ e))

    from : (clear c (d ∷ m) && ltb c d) ≡ false → (x : ℕ) → conflict x d ≡ false → Behind x c m → d ≤ x
    from e x p (inside (off t)) = s x (off (there p t))
    from e x p (last q t) =
        let whole : clear c (d ∷ m) ≡ true = subst (λ (y : ℕ). clear y (d ∷ m) ≡ true) q (true_clear (more p t)) in
        omega (arith, q, ltb-false c d (rw whole at e))

    larger : (clear c (d ∷ m) && ltb c d) ≡ false → (x : ℕ) → Takeable x (d ∷ insert c m) → d ≤ x
    larger e x (off (here p)) = omega (arith, p)
    larger e x (off (there p t)) = reach (takeable_along (insert_equivalent c m) (off t))
      where
        reach : Takeable x (m ++ c ∷ []) → d ≤ x
        reach (off u) = from e x p (behind c m u)

    go : (b : Bool) → (clear c (d ∷ m) && ltb c d) ≡ b → Settled (insert c m) → Settled (insert c (d ∷ m))
    go true e ih = rw (insert_first c d m e) (first (smaller e) (first s r))
    go false e ih = rw (insert_later c d m e) (first (larger e) ih)

-- ---- all insertions

arrange_equivalent : (m h : List ℕ) → Equivalent (arrange m h) (m ++ h)
unfolding arrange
arrange_equivalent m [] = equivalent_refl (sym (append-nil m))
arrange_equivalent m (c ∷ h) =
    trans (arrange_equivalent (insert c m) h)
    (trans (equivalent_behind h (insert_equivalent c m)) (equivalent_refl (append_assoc m (c ∷ []) h)))

arrange_settled : {m : List ℕ} (h : List ℕ) → Settled m → Settled (arrange m h)
unfolding arrange
arrange_settled [] s = s
arrange_settled {m = m} (c ∷ h) s = arrange_settled {m = insert c m} h (insert_settled c s)

-- insertion gives the canonical order
pub arrange_canonical : (h : List ℕ) → arrange [] h ≡ canonical h
arrange_canonical h =
    settled_unique (trans (arrange_equivalent [] h) (equivalent_sym (canonical_equivalent h))) (arrange_settled h end) (canonical_settled h)

-- ---- the test: in canonical order each command has its place where it stands

bool_eq : (a b : Bool) → (a ≡ true → b ≡ true) → (b ≡ true → a ≡ true) → a ≡ b
bool_eq true b p q = sym (p refl)
bool_eq false true p q = q refl
bool_eq false false p q = refl

insert_last : (c : ℕ) (m : List ℕ) → place c m ≡ length m → insert c m ≡ m ++ c ∷ []
unfolding insert
insert_last c m e = rw (e, take-length m, drop-length m)

last_place : (c : ℕ) (m : List ℕ) → insert c m ≡ m ++ c ∷ [] → place c m ≡ length m
unfolding place
last_place c [] e = refl
last_place c (d ∷ m) e = go (clear c (d ∷ m) && ltb c d) refl (last_place c m)
  where
    go : (b : Bool) → (clear c (d ∷ m) && ltb c d) ≡ b → (insert c m ≡ m ++ c ∷ [] → place c m ≡ length m) → place c (d ∷ m) ≡ suc (length m)
    go true f ih =
        let p : c ≡ d = head-eq_of_cons-eq (sym (insert_first c d m f) ∙ e) in
        absurd (omega (arith, ltb-true c d (and_right (clear c (d ∷ m)) _ f)))
    go false f ih = rw f (ap suc (ih (tail-eq_of_cons-eq (sym (insert_later c d m f) ∙ e))))

settled_front : (m x : List ℕ) → Settled (m ++ x) → Settled m
settled_front [] x s = end
settled_front (c ∷ m) x (first s r) = first (λ d t. s d (longer t)) (settled_front m x r)
  where
    taken_longer : {d : ℕ} {g k : List ℕ} → Takes d g k → Takes d (g ++ x) (k ++ x)
    taken_longer (here e) = here e
    taken_longer (there p t) = there p (taken_longer t)

    longer : {d : ℕ} → Takeable d (c ∷ m) → Takeable d (c ∷ m ++ x)
    longer (off t) = off (taken_longer t)

stays_settled : (m h : List ℕ) → Settled m → stays m h ≡ true → Settled (m ++ h)
unfolding stays
stays_settled m [] s e = rw (append-nil m) s
stays_settled m (c ∷ h) s e =
    rw append_snoc at
    (stays_settled (m ++ c ∷ []) h
    (subst Settled (insert_last c m (eqb-true (place c m) (length m) (and_left _ _ e))) (insert_settled c s))
    (and_right (eqb (place c m) (length m)) _ e))

settled_stays : (m h : List ℕ) → Settled (m ++ h) → stays m h ≡ true
unfolding stays
settled_stays m [] s = refl
settled_stays m (c ∷ h) s =
    let t : Settled ((m ++ c ∷ []) ++ h) = subst Settled (sym (append_snoc m c h)) s in
    let u : Settled (m ++ c ∷ []) = settled_front (m ++ c ∷ []) h t in
    let p : insert c m ≡ m ++ c ∷ [] = settled_unique (insert_equivalent c m) (insert_settled c (settled_front m (c ∷ []) u)) u in
    rw (eq-eqb (place c m) (length m) (last_place c m p)) (settled_stays (m ++ c ∷ []) h t)

-- the test by places decides whether a list is in canonical order
pub stays_canonical : (h : List ℕ) → stays [] h ≡ is_canonical h
unfolding is_canonical
stays_canonical h =
    bool_eq (stays [] h) (is_canonical h)
    (λ e. subst (λ (x : List ℕ). equal x h ≡ true) (sym (settled_fixed (stays_settled [] h end e))) (equal_refl h))
    (λ e. settled_stays [] h (subst Settled (is_canonical_lem h e) (canonical_settled h)))

-- ---- finding the place by walking left

clear_blocked : (c : ℕ) (p s : List ℕ) → clear c s ≡ false → clear c (p ++ s) ≡ false
unfolding clear
clear_blocked c [] s e = e
clear_blocked c (x ∷ p) s e = rw (clear_blocked c p s e) (and-false (not (conflict c x)))

clear_conflict : (c d : ℕ) (r : List ℕ) → conflict c d ≡ true → clear c (d ∷ r) ≡ false
unfolding clear
clear_conflict c d r e = rw e

clear_apart : (c d : ℕ) (r : List ℕ) → conflict c d ≡ false → clear c (d ∷ r) ≡ clear c r
unfolding clear
clear_apart c d r e = rw e

place_blocked : (c d : ℕ) (p r : List ℕ) → conflict c d ≡ true → place c (p ++ d ∷ r) ≡ length p + suc (place c r)
unfolding place
place_blocked c d [] r e = rw (clear_conflict c d r e) (sym (zero-add (suc (place c r))))
place_blocked c d (x ∷ p) r e = rw (clear_blocked c (x ∷ p) (d ∷ r) (clear_conflict c d r e)) (omega (arith, place_blocked c d p r e))

place_reached : (c d k : ℕ) (r : List ℕ) (at : ℕ) → clear c (d ∷ r) ≡ true → at ≡ suc k + place c r → cond (ltb c d) k at ≡ k + place c (d ∷ r)
unfolding place
place_reached c d k r at q e = rw q (go (ltb c d))
  where
    go : (b : Bool) → cond b k at ≡ k + cond b zero (suc (place c r))
    go true = sym (add-zero k)
    go false = omega arith

walk_found : (c : ℕ) (h : List ℕ) (k : ℕ) (r : List ℕ) (at : ℕ) → k ≤ length h → clear c r ≡ true → at ≡ k + place c r
    → walk c h k at ≡ place c (take k h ++ r)
unfolding walk
walk_found c h zero r at p q e = e ∙ zero-add (place c r)
walk_found c h (suc k) r at p q e = rw (take-suc h k 0, append_snoc) (go (conflict c (get_or h k 0)) refl (λ x. walk_found c h k (get_or h k 0 ∷ r) x))
  where
    d : ℕ
    d = get_or h k 0

    go : (b : Bool) → conflict c d ≡ b
        → ((x : ℕ) → k ≤ length h → clear c (d ∷ r) ≡ true → x ≡ k + place c (d ∷ r) → walk c h k x ≡ place c (take k h ++ d ∷ r))
        → walk c h (suc k) at ≡ place c (take k h ++ d ∷ r)
    go true f ih = rw f (omega (arith, place_blocked c d (take k h) r f, length-take-le k h (omega arith)))
    go false f ih =
        let t : clear c (d ∷ r) ≡ true = clear_apart c d r f ∙ q in
        rw f (ih (cond (ltb c d) k at) (omega arith) t (place_reached c d k r at t e))

-- walking left from position n finds the place among the first n commands
pub walk_place : (c : ℕ) (h : List ℕ) (n : ℕ) → n ≤ length h → walk c h n n ≡ place c (take n h)
unfolding place clear
walk_place c h n p = walk_found c h n [] n p refl (sym (add-zero n)) ∙ ap (place c) (append-nil (take n h))

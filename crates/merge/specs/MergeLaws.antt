-- The computed merge is the merge: it extends both histories, it is least, and it is found whenever a common extension exists.
use Rattle.std.specs.Prelude.{◌≡◌, refl, Bool, true, false, cond, ◌||◌, List, [], ◌∷◌, ◌++◌, ℕ, suc, ◌+◌, ◌≤◌, length}
use Rattle.std.proofs.Common.{sym, ap, ◌∙◌, subst, true≢false, append-nil, append_assoc, length-append, arith}
use Rattle.std.proofs.Math.Option.{Option, none, some}
use Rattle.basics.specs.Bools.{and_left, and_right, or_left, or_right}
use Rattle.command.specs.Command.{same_request, valid_command, all_valid}
use Rattle.command.specs.CommandLaws.{same_refl, same_sym, same_conflict}
use Rattle.history.specs.History.{Equivalent, same, trans, Extends, Compatible, Least, present, repeated, canonical, is_canonical, extends}
use Rattle.history.specs.TakesLaws.{Takes, here, takes_equivalent, equivalent_sym, equivalent_behind, equivalent_refl}
use Rattle.history.specs.ExtensionLaws.{Below, take, below_extends, extends_below, extends_refl, extends_trans, extends_along, extended_along, extends_append, extends_sound, extends_complete, extends_antisym}
use Rattle.history.specs.CoherenceLaws.{Clear, empty, more, clear_past, Residual, held, lacked, residual}
use Rattle.history.specs.CanonicalLaws.{canonical_equivalent, canonical_unique, canonical_is_canonical, is_canonical_lem}
use Rattle.history.specs.OrderLaws.{present_along, repeated_along, all_valid_along}
use Rattle.history.specs.ValidLaws.{present_append, all_valid_append, distinct_append, ValidHistory}
use Rattle.merge.specs.Merge.{IsMerge, appended, merge}

-- ---- what is appended

-- the commands of h whose proposer and serial are not in g
lacking : List ℕ → List ℕ → List ℕ
lacking g [] = []
lacking g (c ∷ h) = cond (present c g) (lacking g h) (c ∷ lacking g h)

-- c's request is none of h's
apart_from : (c : ℕ) (h : List ℕ) → present c h ≡ false → (g g' : List ℕ) → ((d : ℕ) → same_request d c ≡ false → present d g ≡ present d g') → lacking g h ≡ lacking g' h
unfolding lacking present
apart_from c [] e g g' f = refl
apart_from c (d ∷ h) e g g' f =
    rw (f d (same_sym d c ∙ or_left (same_request c d) _ e), apart_from c h (or_right (same_request c d) _ e) g g' f)

-- of an h that repeats no request, what is appended does not depend on what was appended before
appended_fresh : (g h : List ℕ) → repeated h ≡ false → appended g h ≡ g ++ lacking g h
unfolding appended lacking repeated present
appended_fresh g [] u = sym (append-nil g)
appended_fresh g (c ∷ h) u = go (present c g) refl (λ x. appended_fresh x h (or_right (present c h) _ u))
  where
    absent : present c h ≡ false
    absent = or_left (present c h) _ u

    other : (d : ℕ) → same_request d c ≡ false → present d (g ++ c ∷ []) ≡ present d g
    other d e = rw (present_append d g (c ∷ []), e) (or_nothing (present d g))
      where
        or_nothing : (b : Bool) → (b || false) ≡ b
        or_nothing true = refl
        or_nothing false = refl

    go : (b : Bool) → present c g ≡ b → ((x : List ℕ) → appended x h ≡ x ++ lacking x h)
        → appended (cond (present c g) g (g ++ c ∷ [])) h ≡ g ++ cond (present c g) (lacking g h) (c ∷ lacking g h)
    go true e ih = rw e (ih g)
    go false e ih =
        rw e
        (ih (g ++ c ∷ []) ∙ append_assoc g (c ∷ []) (lacking (g ++ c ∷ []) h)
        ∙ ap (λ (x : List ℕ). g ++ c ∷ x) (apart_from c h absent (g ++ c ∷ []) g other))

-- appending only appends
pub appended_extends : (g h : List ℕ) → Extends (appended g h) g
unfolding appended
appended_extends g [] = extends_refl g
appended_extends g (c ∷ h) = go (present c g) (appended_extends (cond (present c g) g (g ++ c ∷ [])) h)
  where
    go : (b : Bool) → Extends (appended (cond b g (g ++ c ∷ [])) h) (cond b g (g ++ c ∷ [])) → Extends (appended (cond b g (g ++ c ∷ [])) h) g
    go true p = p
    go false p = extends_trans p (extends_append g (c ∷ []))

-- ---- the least common extension

clear_absent : {c : ℕ} {g : List ℕ} → Clear c g → present c g ≡ false
unfolding present
clear_absent empty = refl
clear_absent {c} (more {d = d} {h = g} p r) = go (same_request c d) refl (clear_absent r)
  where
    go : (b : Bool) → same_request c d ≡ b → present c g ≡ false → (same_request c d || present c g) ≡ false
    go true e q = absurd (true≢false (sym (same_conflict c d e) ∙ p))
    go false e q = rw (e, q)

takes_present : {c : ℕ} {g k : List ℕ} → Takes c g k → present c g ≡ true
unfolding present
takes_present {c} {k = k} t = sym (present_along c (takes_equivalent t)) ∙ ap (λ (b : Bool). b || present c k) (same_refl c)

-- what is shown of a common extension k of g and h: it extends g with the lacking commands of h, which extends h
record Joined (g h k : List ℕ) : Type 0 where
  upper : Extends k (g ++ lacking g h)
  holds : Extends (g ++ lacking g h) h

-- with c in front of what is shown already of x
joined_first : {c : ℕ} {g h k l x : List ℕ} → Takes c k l → Equivalent (c ∷ x) (g ++ lacking g (c ∷ h)) → Extends l x → Extends x h → Joined g (c ∷ h) k
joined_first t e p q =
    record {
      upper = extended_along e (below_extends (take t (extends_below p)));
      holds = extends_along e (below_extends (take (here refl) (extends_below q)));
    }

-- where g had c, and where g lacked it
lacking_held : {c : ℕ} {g g' : List ℕ} (h : List ℕ) → Takes c g g' → present c h ≡ false → Equivalent (c ∷ (g' ++ lacking g' h)) (g ++ lacking g (c ∷ h))
unfolding lacking present
lacking_held {c} {g} {g'} h u a =
    rw (takes_present u)
    (subst (λ (x : List ℕ). Equivalent (c ∷ (g' ++ lacking g' h)) (g ++ x)) (apart_from c h a g' g there_too)
    (equivalent_behind (lacking g' h) (takes_equivalent u)))
  where
    there_too : (d : ℕ) → same_request d c ≡ false → present d g' ≡ present d g
    there_too d e = sym (ap (λ (b : Bool). b || present d g') e) ∙ present_along d (takes_equivalent u)

lacking_lacked : {c : ℕ} {g : List ℕ} (h : List ℕ) → Clear c g → Equivalent (c ∷ (g ++ lacking g h)) (g ++ lacking g (c ∷ h))
unfolding lacking
lacking_lacked {c} {g} h r =
    rw (clear_absent r)
    (trans (equivalent_behind (lacking g h) (takes_equivalent (clear_past r))) (equivalent_refl (append_assoc g (c ∷ []) (lacking g h))))

joined : (g h : List ℕ) {k : List ℕ} → repeated h ≡ false → Below g k → Below h k → Joined g h k
unfolding lacking repeated
joined g [] {k} u p q = record { upper = subst (λ (x : List ℕ). Extends k x) (sym (append-nil g)) (below_extends p); holds = record { x = g ++ []; equivalent = same } }
joined g (c ∷ h) {k} u p (take {k = l} t q) = go (residual t p) (λ x y. joined x h (or_right (present c h) _ u) y q)
  where
    go : Residual c g l → ((x : List ℕ) → Below x l → Joined x h l) → Joined g (c ∷ h) k
    go (held {k = g'} v y) ih = let j = ih g' y in joined_first t (lacking_held h v (or_left (present c h) _ u)) j.upper j.holds
    go (lacked r y) ih = let j = ih g y in joined_first t (lacking_lacked h r) j.upper j.holds

-- g with h appended is the least common extension of two compatible histories
pub appended_least : {g h : List ℕ} → repeated h ≡ false → Compatible g h → Least g h (appended g h)
appended_least {g} {h} u p =
    record {
      left = appended_extends g h;
      right = rw (appended_fresh g h u) (joined g h u (extends_below p.left) (extends_below p.right)).holds;
      least = λ k x y. rw (appended_fresh g h u) (joined g h u (extends_below x) (extends_below y)).upper;
    }

-- ---- the computed merge

-- what a merge that was found is
record Found (g h m : List ℕ) : Type 0 where
  passed : extends (appended g h) h ≡ true
  order : m ≡ canonical (appended g h)

found : (g h : List ℕ) {m : List ℕ} → merge g h ≡ some m → Found g h m
unfolding merge
found g h {m} e = go (extends (appended g h) h) refl
  where
    go : (b : Bool) → extends (appended g h) h ≡ b → Found g h m
    go true p = record { passed = p; order = sym (some_eq (rw p at e)) }
      where
        some_eq : {x y : List ℕ} → ◌≡◌ {A = Option (List ℕ)} (some x) (some y) → x ≡ y
        some_eq q = cc
    go false p = absurd (none_some (rw p at e))
      where
        none_some : {x : List ℕ} → ◌≡◌ {A = Option (List ℕ)} none (some x) → ⊥
        none_some q = let z : ◌≡◌ {A = ℕ} 0 1 = cc in omega arith

-- a merge that was found extends both histories, and is canonical
pub merge_left : (g h : List ℕ) {m : List ℕ} → merge g h ≡ some m → Extends m g
merge_left g h e = rw (found g h e).order (extends_along (equivalent_sym (canonical_equivalent (appended g h))) (appended_extends g h))

pub merge_right : (g h : List ℕ) {m : List ℕ} → merge g h ≡ some m → Extends m h
merge_right g h e =
    rw (found g h e).order
    (extends_along (equivalent_sym (canonical_equivalent (appended g h))) (extends_sound (appended g h) h (found g h e).passed))

pub merge_canonical : (g h : List ℕ) {m : List ℕ} → merge g h ≡ some m → is_canonical m ≡ true
merge_canonical g h e = rw (found g h e).order (canonical_is_canonical (appended g h))

-- it is found whenever a common extension exists, and then it is the merge
pub merge_exists : {g h : List ℕ} → repeated h ≡ false → Compatible g h → merge g h ≡ some (canonical (appended g h))
unfolding merge
merge_exists u p = rw (extends_complete (appended_least u p).right)

pub merge_none : (g h : List ℕ) → repeated h ≡ false → merge g h ≡ none → Compatible g h → ⊥
merge_none g h u e p = let q : ◌≡◌ {A = Option (List ℕ)} none (some (canonical (appended g h))) = sym e ∙ merge_exists u p in let z : ◌≡◌ {A = ℕ} 0 1 = cc in omega arith

pub merge_compatible : (g h : List ℕ) {m : List ℕ} → merge g h ≡ some m → Compatible g h
merge_compatible g h {m} e = record { common = m; left = merge_left g h e; right = merge_right g h e }

pub merge_found : (g h : List ℕ) {m : List ℕ} → repeated h ≡ false → merge g h ≡ some m → IsMerge g h m
merge_found g h u e =
    record {
      in_order = merge_canonical g h e;
      common = record {
        left = merge_left g h e;
        right = merge_right g h e;
        least = λ k x y. rw (found g h e).order (extended_along (equivalent_sym (canonical_equivalent (appended g h))) ((appended_least u (merge_compatible g h e)).least k x y));
      };
    }

-- two histories have one merge, the same in either order
pub least_unique : {g h m n : List ℕ} → Least g h m → Least g h n → Equivalent m n
least_unique {m = m} {n = n} p q = extends_antisym (p.least n q.left q.right) (q.least m p.left p.right)

pub merge_unique : {g h m n : List ℕ} → IsMerge g h m → IsMerge g h n → m ≡ n
merge_unique {m = m} {n = n} p q =
    sym (is_canonical_lem m p.in_order) ∙ canonical_unique (least_unique p.common q.common) ∙ is_canonical_lem n q.in_order

pub least_swapped : {g h m : List ℕ} → Least g h m → Least h g m
least_swapped p = record { left = p.right; right = p.left; least = λ k x y. p.least k y x }

merge_swapped : {g h m : List ℕ} → IsMerge g h m → IsMerge h g m
merge_swapped p = record { in_order = p.in_order; common = least_swapped p.common }

pub merge_comm : (g h : List ℕ) → repeated g ≡ false → repeated h ≡ false → merge g h ≡ merge h g
merge_comm g h u v = go (merge g h) refl (merge h g) refl
  where
    go : (a : Option (List ℕ)) → merge g h ≡ a → (b : Option (List ℕ)) → merge h g ≡ b → merge g h ≡ merge h g
    go none e none f = e ∙ sym f
    go none e (some m) f = absurd (merge_none g h v e (record { common = m; left = merge_right h g f; right = merge_left h g f }))
    go (some m) e none f = absurd (merge_none h g u f (record { common = m; left = merge_right g h e; right = merge_left g h e }))
    go (some m) e (some n) f = e ∙ ap some (merge_unique (merge_found g h v e) (merge_swapped (merge_found h g u f))) ∙ sym f

-- ---- the commands and the length of what is appended or merged

pub appended_all_valid : (g h : List ℕ) → all_valid g ≡ true → all_valid h ≡ true → all_valid (appended g h) ≡ true
unfolding appended all_valid
appended_all_valid g [] p q = p
appended_all_valid g (c ∷ h) p q = appended_all_valid (cond (present c g) g (g ++ c ∷ [])) h (step (present c g)) (and_right (valid_command c) _ q)
  where
    step : (b : Bool) → all_valid (cond b g (g ++ c ∷ [])) ≡ true
    step true = p
    step false = rw (all_valid_append g (c ∷ []), p, and_left (valid_command c) _ q)

pub appended_distinct : (g h : List ℕ) → repeated g ≡ false → repeated (appended g h) ≡ false
unfolding appended
appended_distinct g [] u = u
appended_distinct g (c ∷ h) u = appended_distinct (cond (present c g) g (g ++ c ∷ [])) h (step (present c g) refl)
  where
    step : (b : Bool) → present c g ≡ b → repeated (cond b g (g ++ c ∷ [])) ≡ false
    step true e = u
    step false e = distinct_append g c u e

pub length_appended : (g h : List ℕ) → length (appended g h) ≤ length g + length h
unfolding appended
length_appended g [] = omega arith
length_appended g (c ∷ h) = go (present c g) (length_appended (cond (present c g) g (g ++ c ∷ [])) h)
  where
    go : (b : Bool) → length (appended (cond b g (g ++ c ∷ [])) h) ≤ length (cond b g (g ++ c ∷ [])) + length h
        → length (appended (cond b g (g ++ c ∷ [])) h) ≤ length g + suc (length h)
    go true p = omega arith
    go false p = omega (arith, length-append g (c ∷ []))

merge_equivalent : (g h : List ℕ) {m : List ℕ} → merge g h ≡ some m → Equivalent m (appended g h)
merge_equivalent g h e = rw (found g h e).order (canonical_equivalent (appended g h))

-- the merge of lists of valid commands in which no request is repeated is a valid history
pub merge_valid : (g h : List ℕ) {m : List ℕ} → all_valid g ≡ true → repeated g ≡ false → all_valid h ≡ true → merge g h ≡ some m → ValidHistory m
merge_valid g h p u q e =
    record {
      commands = all_valid_along (merge_equivalent g h e) ∙ appended_all_valid g h p q;
      distinct = repeated_along (merge_equivalent g h e) ∙ appended_distinct g h u;
      in_order = merge_canonical g h e;
    }

-- "least history": the merge of two histories is one, of valid histories a valid one
pub merge_appended : {g h m : List ℕ} → repeated h ≡ false → IsMerge g h m → Equivalent m (appended g h)
merge_appended {m = m} v p = least_unique p.common (appended_least v (record { common = m; left = p.common.left; right = p.common.right }))

pub merge_distinct : {g h m : List ℕ} → repeated g ≡ false → repeated h ≡ false → IsMerge g h m → repeated m ≡ false
merge_distinct {g} {h} u v p = repeated_along (merge_appended v p) ∙ appended_distinct g h u

pub is_merge_valid : {g h m : List ℕ} → ValidHistory g → ValidHistory h → IsMerge g h m → ValidHistory m
is_merge_valid {g} {h} p q k =
    record {
      commands = all_valid_along (merge_appended q.distinct k) ∙ appended_all_valid g h p.commands q.commands;
      distinct = merge_distinct p.distinct q.distinct k;
      in_order = k.in_order;
    }

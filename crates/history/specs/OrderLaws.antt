-- Conflicting commands stand in the same order in compatible histories; and what depends on a history's commands alone is the same in equivalent ones.
use Rattle.std.specs.Prelude.{◌≡◌, refl, ◌⊎◌, Bool, true, false, ◌&&◌, ◌||◌, ℕ}
use Rattle.std.proofs.Common.{sym, ap, ap₂, ◌∙◌, subst, inl, inr, true≢false}
use mathlib.Core.List.{List, ◌∷◌, Memᴰ}
use Rattle.basics.specs.Bools.{or_left, or_right}
use Rattle.command.specs.Command.{conflict, same_request, valid_command, all_valid}
use Rattle.command.specs.CommandLaws.{same_refl, same_sym}
use Rattle.history.specs.History.{Equivalent, same, swap, keep, trans, Compatible, Before, at, later, present, repeated}
use Rattle.history.specs.TakesLaws.{Takes, here, there}
use Rattle.history.specs.ExtensionLaws.{Below, take, extends_below}
use Rattle.history.specs.CoherenceLaws.{Clear, more, Residual, held, lacked, residual}

-- ---- the commands of a history and of what is left of it

takes_mem : {c d : ℕ} {h k : List ℕ} → Takes c h k → Memᴰ d h → (d ≡ c) ⊎ Memᴰ d k
takes_mem (here e) (Memᴰ.head p) = inl (p ∙ sym e)
takes_mem (here e) (Memᴰ.tail m) = inr m
takes_mem (there p t) (Memᴰ.head q) = inr (Memᴰ.head q)
takes_mem {c} {d} (there {d = x} p t) (Memᴰ.tail m) = go (takes_mem t m)
  where
    go : {k : List ℕ} → (d ≡ c) ⊎ Memᴰ d k → (d ≡ c) ⊎ Memᴰ d (x ∷ k)
    go (inl e) = inl e
    go (inr n) = inr (Memᴰ.tail n)

mem_takes : {c d : ℕ} {h k : List ℕ} → Takes c h k → Memᴰ d k → Memᴰ d h
mem_takes (here e) m = Memᴰ.tail m
mem_takes (there p t) (Memᴰ.head q) = Memᴰ.head q
mem_takes (there p t) (Memᴰ.tail m) = Memᴰ.tail (mem_takes t m)

clear_mem : {c d : ℕ} {h : List ℕ} → Clear c h → Memᴰ d h → conflict c d ≡ false
clear_mem {c = c} {d = d} Rattle.history.specs.CoherenceLaws.empty x3 = elim x3 [ ]
clear_mem {c} (more p r) (Memᴰ.head e) = ap (conflict c) e ∙ p
clear_mem (more p r) (Memᴰ.tail m) = clear_mem r m

-- a command that conflicts with one taken off stands after it
takes_before : {c d : ℕ} {h k : List ℕ} → Takes c h k → Memᴰ d k → conflict c d ≡ true → Before c d h
takes_before (here e) m q = at e m
takes_before {c} (there p t) (Memᴰ.head e) q = absurd (true≢false (sym q ∙ ap (conflict c) e ∙ p))
takes_before (there p t) (Memᴰ.tail m) q = later (takes_before t m q)

before_takes : {b c d : ℕ} {h k : List ℕ} → Takes b h k → Before c d k → Before c d h
before_takes (here e) b = later b
before_takes (there p t) (at e m) = at e (mem_takes t m)
before_takes (there p t) (later b) = later (before_takes t b)

before_mem : {c d : ℕ} {h : List ℕ} → Before c d h → Memᴰ d h
before_mem (at e m) = Memᴰ.tail m
before_mem (later b) = Memᴰ.tail (before_mem b)

-- a request that is not present is no command's
pub absent_mem : (c : ℕ) {d : ℕ} {h : List ℕ} → present c h ≡ false → Memᴰ d h → same_request c d ≡ false
unfolding present
absent_mem c e (Memᴰ.head {x = x} p) = ap (same_request c) p ∙ or_left (same_request c x) _ e
absent_mem c e (Memᴰ.tail {x = x} m) = absent_mem c (or_right (same_request c x) _ e) m

absent_ne : (c : ℕ) {d : ℕ} {h : List ℕ} → present c h ≡ false → Memᴰ d h → d ≡ c → ⊥
absent_ne c e m p = true≢false (sym (same_refl c) ∙ ap (same_request c) (sym p) ∙ absent_mem c e m)

-- ---- order

same_order' : {c d : ℕ} {g h n : List ℕ} → repeated g ≡ false → conflict c d ≡ true → Below g n → Below h n → Before c d g → Memᴰ d h → Before c d h
unfolding repeated
same_order' {c = c} {d = d} {h = h} u q Rattle.history.specs.ExtensionLaws.none hn x16 n = elim x16 [ ]
same_order' {c} {d} {h = h} u q (take {c = e} {g = g} t b) hn (at p m) n = go (residual t hn)
  where
    apart' : d ≡ e → ⊥
    apart' r = absent_ne e (or_left (present e g) _ u) m r

    found : {k : List ℕ} → Takes e h k → (d ≡ e) ⊎ Memᴰ d k → Before c d h
    found t (inl r) = absurd (apart' r)
    found {k} t (inr l) = takes_before (subst (λ (x : ℕ). Takes x h k) (sym p) t) l q

    go : {l : List ℕ} → Residual e h l → Before c d h
    go (held t x) = found t (takes_mem t n)
    go (lacked r x) = absurd (true≢false (sym q ∙ ap (λ (x : ℕ). conflict x d) p ∙ clear_mem r n))
same_order' {c} {d} {h = h} u q (take {c = e} {g = g} {k = k} t b) hn (later f) n = go (residual t hn) (λ l x y. same_order' {h = l} (or_right (present e g) _ u) q b x f y)
  where
    go : Residual e h k → ((l : List ℕ) → Below l k → Memᴰ d l → Before c d l) → Before c d h
    go (held {k = l} t x) next = found (takes_mem t n)
      where
        found : (d ≡ e) ⊎ Memᴰ d l → Before c d h
        found (inl r) = absurd (absent_ne e (or_left (present e g) _ u) (before_mem f) r)
        found (inr m) = before_takes t (next l x m)
    go (lacked r x) next = next h x n

-- If one of two compatible histories holds c before a conflicting d, the other holds d only after c.
pub same_order : {c d : ℕ} {g h : List ℕ} → repeated g ≡ false → conflict c d ≡ true → Compatible g h → Before c d g → Memᴰ d h → Before c d h
same_order u q p b m = same_order' u q (extends_below p.left) (extends_below p.right) b m

-- ---- what equivalent histories share

or_exchange : (a b c : Bool) → (a || (b || c)) ≡ (b || (a || c))
or_exchange true true c = refl
or_exchange true false c = refl
or_exchange false true c = refl
or_exchange false false c = refl

or_cross : (a b c d : Bool) → ((a || b) || (c || d)) ≡ ((a || c) || (b || d))
or_cross true b c d = refl
or_cross false true true d = refl
or_cross false true false d = refl
or_cross false false c d = refl

and_exchange : (a b c : Bool) → (a && (b && c)) ≡ (b && (a && c))
and_exchange true true c = refl
and_exchange true false c = refl
and_exchange false true c = refl
and_exchange false false c = refl

pub present_along : (c : ℕ) {g h : List ℕ} → Equivalent g h → present c g ≡ present c h
unfolding present
present_along c same = refl
present_along c (swap {c = a} {d = b} {h = h} p) = or_exchange (same_request c a) (same_request c b) (present c h)
present_along c (keep {c = a} e) = ap (λ (x : Bool). same_request c a || x) (present_along c e)
present_along c (trans e f) = present_along c e ∙ present_along c f

pub repeated_along : {g h : List ℕ} → Equivalent g h → repeated g ≡ repeated h
unfolding repeated present
repeated_along same = refl
repeated_along (swap {c = c} {d = d} {h = h} p) = rw (same_sym d c) (or_cross (same_request c d) (present c h) (present d h) (repeated h))
repeated_along (keep {c = a} e) = ap₂ (λ (x y : Bool). x || y) (present_along a e) (repeated_along e)
repeated_along (trans e f) = repeated_along e ∙ repeated_along f

pub all_valid_along : {g h : List ℕ} → Equivalent g h → all_valid g ≡ all_valid h
unfolding all_valid
all_valid_along same = refl
all_valid_along (swap {c = c} {d = d} {h = h} p) = and_exchange (valid_command c) (valid_command d) (all_valid h)
all_valid_along (keep {c = a} e) = ap (λ (x : Bool). valid_command a && x) (all_valid_along e)
all_valid_along (trans e f) = all_valid_along e ∙ all_valid_along f

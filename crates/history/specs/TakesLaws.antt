-- Taking a command off the front of a history, past commands that it does not conflict with.
use Rattle.std.specs.Prelude.{◌≡◌, refl, false, List, ◌∷◌, ◌++◌, ℕ, suc, length}
use Rattle.std.proofs.Common.{sym, ap, ◌∙◌, subst, true≢false}
use Rattle.command.specs.Command.{conflict}
use Rattle.command.specs.CommandLaws.{conflict_refl}
use Rattle.command.proofs.KindsLaws.{conflict_sym}
use Rattle.history.specs.History.{Equivalent, same, swap, keep, trans}

-- c can be taken off the front of h, which leaves k
pub data Takes (c : ℕ) : List ℕ → List ℕ → Type 0 where
  here : {d : ℕ} {h : List ℕ} → c ≡ d → Takes c (d ∷ h) h
  there : {d : ℕ} {h k : List ℕ} → conflict c d ≡ false → Takes c h k → Takes c (d ∷ h) (d ∷ k)

-- a command conflicts with itself, so none passes an equal one
pub no_pass : {c d : ℕ} → c ≡ d → conflict c d ≡ false → ⊥
no_pass {c} {d} e p = true≢false (sym (conflict_refl c) ∙ ap (conflict c) e ∙ p)

-- no conflict, either way round
pub apart_sym : (c d : ℕ) → conflict c d ≡ false → conflict d c ≡ false
apart_sym c d p = conflict_sym d c ∙ p

-- ---- taking one command

-- what is taken off and what is left are the history again
pub takes_equivalent : {c : ℕ} {h k : List ℕ} → Takes c h k → Equivalent (c ∷ k) h
takes_equivalent {c} (here {h = r} e) = subst (λ (d : ℕ). Equivalent (c ∷ r) (d ∷ r)) e same
takes_equivalent (there p t) = trans (swap p) (keep (takes_equivalent t))

-- what is left is fixed
pub takes_unique : {c : ℕ} {h k l : List ℕ} → Takes c h k → Takes c h l → k ≡ l
takes_unique (here e) (here f) = refl
takes_unique (here e) (there p t) = absurd (no_pass e p)
takes_unique (there p t) (here e) = absurd (no_pass e p)
takes_unique (there {d = d} p t) (there q u) = ap (λ (x : List ℕ). d ∷ x) (takes_unique t u)

-- Two commands that can each be taken off are equal, or can be taken off in either order.
pub data Diamond (c d : ℕ) (k l : List ℕ) : Type 0 where
  one : c ≡ d → Diamond c d k l
  both : {m : List ℕ} → conflict c d ≡ false → Takes d k m → Takes c l m → Diamond c d k l

pub takes_diamond : {c d : ℕ} {h k l : List ℕ} → Takes c h k → Takes d h l → Diamond c d k l
takes_diamond (here e) (here f) = one (e ∙ sym f)
takes_diamond {c} {d} (here e) (there p t) = both (rw e (apart_sym d _ p)) t (here e)
takes_diamond {c} {d} (there p t) (here f) = both (rw f p) (here f) t
takes_diamond {c} {d} (there {d = x} p t) (there q u) = under (takes_diamond t u)
  where
    under : {k l : List ℕ} → Diamond c d k l → Diamond c d (x ∷ k) (x ∷ l)
    under (one e) = one e
    under (both r v w) = both r (there q v) (there p w)

-- Taken off second, a command that does not conflict with the first can be taken off first.
pub data Exchange (c d : ℕ) (h m : List ℕ) : Type 0 where
  exchange : {l : List ℕ} → Takes d h l → Takes c l m → Exchange c d h m

pub takes_exchange : {c d : ℕ} {h k m : List ℕ} → Takes c h k → Takes d k m → conflict d c ≡ false → Exchange c d h m
takes_exchange {c} {d} (here {d = x} e) u q = exchange (there (subst (λ (y : ℕ). conflict d y ≡ false) e q) u) (here e)
takes_exchange (there p t) (here f) q = exchange (here f) t
takes_exchange {c} {d} (there {d = x} p t) (there r u) q = under (takes_exchange t u q)
  where
    under : {h m : List ℕ} → Exchange c d h m → Exchange c d (x ∷ h) (x ∷ m)
    under (exchange v w) = exchange (there r v) (there p w)

-- ---- equivalence

pub equivalent_sym : {g h : List ℕ} → Equivalent g h → Equivalent h g
equivalent_sym same = same
equivalent_sym (swap {c = c} {d = d} p) = swap (apart_sym c d p)
equivalent_sym (keep e) = keep (equivalent_sym e)
equivalent_sym (trans e f) = trans (equivalent_sym f) (equivalent_sym e)

-- what can be taken off a history can be taken off an equivalent one
pub data Taken (c : ℕ) (k h : List ℕ) : Type 0 where
  taken : {l : List ℕ} → Takes c h l → Equivalent k l → Taken c k h

after : {c : ℕ} {k l h : List ℕ} → Equivalent k l → Taken c l h → Taken c k h
after e (taken t f) = taken t (trans e f)

chain : {c : ℕ} {k g h : List ℕ} → Taken c k g → ((l : List ℕ) → Takes c g l → Taken c l h) → Taken c k h
chain (taken {l = l} t e) next = after e (next l t)

under : {c : ℕ} (x : ℕ) {k h : List ℕ} → conflict c x ≡ false → Taken c k h → Taken c (x ∷ k) (x ∷ h)
under x p (taken t e) = taken (there p t) (keep e)

pub takes_along : {c : ℕ} {g h k : List ℕ} → Equivalent g h → Takes c g k → Taken c k h
takes_along same t = taken t same
takes_along (swap {d = y} p) (here e) = taken (there {d = y} (rw e p) (here e)) same
takes_along (swap p) (there q (here e)) = taken (here e) same
takes_along (swap p) (there q (there r t)) = taken (there r (there q t)) (swap p)
takes_along (keep e) (here f) = taken (here f) e
takes_along (keep {c = x} e) (there q t) = under x q (takes_along e t)
takes_along (trans e f) t = chain (takes_along e t) (λ l u. takes_along f u)

pub equivalent_length : {g h : List ℕ} → Equivalent g h → length g ≡ length h
equivalent_length same = refl
equivalent_length (swap p) = refl
equivalent_length (keep e) = ap suc (equivalent_length e)
equivalent_length (trans e f) = equivalent_length e ∙ equivalent_length f

-- more behind two equivalent histories
pub equivalent_behind : {g h : List ℕ} (x : List ℕ) → Equivalent g h → Equivalent (g ++ x) (h ++ x)
equivalent_behind x same = same
equivalent_behind x (swap p) = swap p
equivalent_behind x (keep e) = keep (equivalent_behind x e)
equivalent_behind x (trans e f) = trans (equivalent_behind x e) (equivalent_behind x f)

pub equivalent_refl : {g h : List ℕ} → g ≡ h → Equivalent g h
equivalent_refl {g} e = subst (λ (x : List ℕ). Equivalent g x) e same

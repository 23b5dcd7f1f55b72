-- Histories that are compatible in pairs have one common extension, and order conflicting commands alike.
use Rattle.std.specs.Prelude.{◌≡◌, refl, false, List, [], ◌∷◌, ◌++◌, ℕ}
use Rattle.std.proofs.Common.{sym, subst}
use Rattle.command.specs.Command.{conflict}
use Rattle.history.specs.History.{Extends, Compatible, Least}
use Rattle.history.specs.TakesLaws.{Takes, here, there, no_pass, apart_sym, takes_equivalent, takes_unique, Diamond, one, both, takes_diamond, Exchange, exchange, takes_exchange}
use Rattle.history.specs.ExtensionLaws.{extended_along, extends_refl, extends_trans, Below, none, take, below_extends, extends_below}

-- ---- a command and a history that does not hold it

-- c conflicts with no command of h
pub data Clear (c : ℕ) : List ℕ → Type 0 where
  empty : Clear c []
  more : {d : ℕ} {h : List ℕ} → conflict c d ≡ false → Clear c h → Clear c (d ∷ h)

pub clear_takes : {c : ℕ} {h k : List ℕ} → Clear c h → Takes c h k → ⊥
clear_takes {c = c} {k = k} empty x3 = elim x3 [ ]
clear_takes (more p r) (here e) = no_pass e p
clear_takes (more p r) (there q t) = clear_takes r t

-- past a history that it does not conflict with, a command goes to its end
pub clear_past : {c : ℕ} {h : List ℕ} → Clear c h → Takes c (h ++ (c ∷ [])) h
clear_past empty = here refl
clear_past (more p r) = there p (clear_past r)

-- ---- taking a command off an extension

-- What is left of h when c is taken off an extension of it: h had c in front, or h is clear of c and stays.
pub data Residual (c : ℕ) (h n : List ℕ) : Type 0 where
  held : {k : List ℕ} → Takes c h k → Below k n → Residual c h n
  lacked : Clear c h → Below h n → Residual c h n

below_first : {c d : ℕ} {h m k : List ℕ} → conflict c d ≡ false → Takes d m k → Residual c h k → Residual c (d ∷ h) m
below_first p t (held u b) = held (there p u) (take t b)
below_first p t (lacked r b) = lacked (more p r) (take t b)

pub residual : {c : ℕ} {h n m : List ℕ} → Takes c n m → Below h n → Residual c h m
residual t none = lacked empty none
residual {c} {n = n} {m = m} t (take {c = d} {g = h} {k = k} u b) = go (takes_diamond t u) (λ l v. residual v b)
  where
    go : Diamond c d m k → ((l : List ℕ) → Takes c k l → Residual c h l) → Residual c (d ∷ h) m
    go (one e) next = held (here e) (subst (λ (x : List ℕ). Below h x) (takes_unique u (subst (λ (x : ℕ). Takes x n m) e t)) b)
    go (both {m = l} p v w) next = below_first p v (next l w)

-- what comes off a history comes off its extensions
pub data Raised (c : ℕ) (k n : List ℕ) : Type 0 where
  raised : {m : List ℕ} → Takes c n m → Below k m → Raised c k n

pub below_takes : {c : ℕ} {h k n : List ℕ} → Takes c h k → Below h n → Raised c k n
below_takes {c} {n = n} (here e) (take {k = m} u b) = raised (subst (λ (x : ℕ). Takes x n m) (sym e) u) b
below_takes {c} (there {d = d} p t) (take u b) = go u (below_takes t b)
  where
    go : {k n m : List ℕ} → Takes d n m → Raised c k m → Raised c (d ∷ k) n
    go u (raised v b) = lift (takes_exchange u v p) b
      where
        lift : {k n m : List ℕ} → Exchange d c n m → Below k m → Raised c (d ∷ k) n
        lift (exchange w x) b = raised w (take x b)

-- ---- three histories

-- the same, one command after the other
pub data Common (f g h : List ℕ) : Type 0 where
  common : {n : List ℕ} → Below f n → Below g n → Below h n → Common f g h

-- A history stays below with a command in front that it starts with, or is clear of.
below_put : {c : ℕ} {h k n : List ℕ} → Takes c h k → Below k n → Below h (c ∷ n)
below_put t b = extends_below (extended_along (takes_equivalent t) (below_extends (take (here refl) b)))

below_past : {c : ℕ} {h n : List ℕ} → Clear c h → Below h n → Below h (c ∷ n)
below_past empty none = none
below_past {c} (more {d = d} p r) (take t b) = take (there (apart_sym c d p) t) (below_past r b)

-- what coherence says of g: histories that are compatible with it, and with each other, have a common extension with it
abbrev Coherent : List ℕ → Type 0
Coherent g = (h k l m n : List ℕ) → Below g l → Below h l → Below g m → Below k m → Below h n → Below k n → Common g h k

-- c is put back in front of the common extension of what is left
restore : {c : ℕ} {g h k : List ℕ} {h' k' : List ℕ} → Common g h' k'
    → ((n : List ℕ) → Below h' n → Below h (c ∷ n)) → ((n : List ℕ) → Below k' n → Below k (c ∷ n)) → Common (c ∷ g) h k
restore (common {n = n} x y z) p q = common (take (here refl) x) (p n y) (q n z)

-- c comes off h and k alike where both have it in front
both_held : {c : ℕ} {k k' m : List ℕ} → Takes c k k' → Residual c k m → Below k' m
both_held {m = m} t (held u b) = subst (λ (x : List ℕ). Below x m) (takes_unique u t) b
both_held t (lacked r b) = absurd (clear_takes r t)

one_lacks : {c : ℕ} {k m : List ℕ} → Clear c k → Residual c k m → Below k m
one_lacks r (held u b) = absurd (clear_takes r u)
one_lacks r (lacked q b) = b

flip : {f g h : List ℕ} → Common f g h → Common f h g
flip (common x y z) = common x z y

-- c comes off h, so off the common extension of h and k; k' is what is left of k there
first_held : {c : ℕ} {g h h' k k' l m n : List ℕ} → Coherent g → Below g l → Below h' l → Below g m → Below k' m → Takes c h h' → Raised c h' n
    → ((x : List ℕ) → Takes c n x → Below k' x) → ((x : List ℕ) → Below k' x → Below k (c ∷ x)) → Common (c ∷ g) h k
first_held {h' = h'} {k' = k'} {l = l} {m = m} ih gl hl gm km t (raised {m = x} w hx) left put =
    restore (ih h' k' l m x gl hl gm km hx (left x w)) (λ y. below_put t) put

step : (c : ℕ) {g h k l m n : List ℕ} → Coherent g → Below g l → Below g m → Below h n → Below k n → Residual c h l → Residual c k m → Common (c ∷ g) h k
step c ih gl gm hn kn (held t hl) (held u km) =
    first_held ih gl hl gm km t (below_takes t hn) (λ x w. both_held u (residual w kn)) (λ x. below_put u)
step c ih gl gm hn kn (held t hl) (lacked r km) =
    first_held ih gl hl gm km t (below_takes t hn) (λ x w. one_lacks r (residual w kn)) (λ x. below_past r)
step c ih gl gm hn kn (lacked q hl) (held u km) =
    flip (first_held ih gm km gl hl u (below_takes u kn) (λ x w. one_lacks q (residual w hn)) (λ x. below_past q))
step c {h = h} {k = k} {l = l} {m = m} {n = n} ih gl gm hn kn (lacked q hl) (lacked r km) =
    restore (ih h k l m n gl hl gm km hn kn) (λ x. below_past q) (λ x. below_past r)

coherent : (g : List ℕ) → Coherent g
coherent [] h k l m n gl hl gm km hn kn = common none hn kn
coherent (c ∷ g) h k l m n (take t gl) hl (take u gm) km hn kn = step c (coherent g) gl gm hn kn (residual t hl) (residual u km)

-- a common extension of three
pub record CommonOfThree (f g h : List ℕ) : Type 0 where
  pub common : List ℕ
  pub first : Extends common f
  pub second : Extends common g
  pub third : Extends common h

-- Three histories that are compatible in pairs have a common extension.
pub three_compatible : {f g h : List ℕ} → Compatible f g → Compatible f h → Compatible g h → CommonOfThree f g h
three_compatible {f} {g} {h} p q r =
    whole
    (coherent f g h p.common q.common r.common (extends_below p.left) (extends_below p.right) (extends_below q.left) (extends_below q.right) (extends_below r.left) (extends_below r.right))
  where
    whole : Common f g h → CommonOfThree f g h
    whole (common {n = n} x y z) = record { common = n; first = below_extends x; second = below_extends y; third = below_extends z }

-- ---- the least common extension

data Lowest (g h : List ℕ) : Type 0 where
  lowest : {n : List ℕ} → Below g n → Below h n → ((k : List ℕ) → Below g k → Below h k → Below n k) → Lowest g h

-- c is put back in front of the least common extension of what is left of g, and of h
lowest_put : {c : ℕ} {g g' h : List ℕ} → ((n : List ℕ) → Below g' n → Below g (c ∷ n)) → ((k l : List ℕ) → Takes c k l → Below g k → Below g' l)
    → Lowest g' h → Lowest g (c ∷ h)
lowest_put {c} {g} {g'} {h} put left (lowest {n = n} x y z) = lowest (put n x) (take (here refl) y) (λ k p q. under p q)
  where
    under : {k : List ℕ} → Below g k → Below (c ∷ h) k → Below (c ∷ n) k
    under {k} p (take {k = l} t q) = take t (z l (left k l t p) q)

low : (g h : List ℕ) {k : List ℕ} → Below g k → Below h k → Lowest g h
low g [] p q = lowest (extends_below (extends_refl g)) none (λ k x y. x)
low g (c ∷ h) p (take {k = l} t q) = go (residual t p) (λ g' x. low g' h x q)
  where
    go : Residual c g l → ((g' : List ℕ) → Below g' l → Lowest g' h) → Lowest g (c ∷ h)
    go (held {k = g'} u x) next = lowest_put (λ n. below_put u) (λ k m w y. both_held u (residual w y)) (next g' x)
    go (lacked r x) next = lowest_put (λ n. below_past r) (λ k m w y. one_lacks r (residual w y)) (next g x)

-- compatible histories have a least common extension
pub data HasLeast (g h : List ℕ) : Type 0 where
  has_least : {n : List ℕ} → Least g h n → HasLeast g h

pub least_common : {g h : List ℕ} → Compatible g h → HasLeast g h
least_common {g} {h} p = go (low g h (extends_below p.left) (extends_below p.right))
  where
    go : Lowest g h → HasLeast g h
    go (lowest x y z) =
        has_least
        (record { left = below_extends x; right = below_extends y; least = λ k p q. below_extends (z k (extends_below p) (extends_below q)) })

-- ---- any number of histories

-- n extends each of hs
pub data ExtendsAll (n : List ℕ) : List (List ℕ) → Type 0 where
  no_more : ExtendsAll n []
  and : {h : List ℕ} {hs : List (List ℕ)} → Extends n h → ExtendsAll n hs → ExtendsAll n (h ∷ hs)

-- g is compatible with each of hs
pub data CompatibleWith (g : List ℕ) : List (List ℕ) → Type 0 where
  no_other : CompatibleWith g []
  other : {h : List ℕ} {hs : List (List ℕ)} → Compatible g h → CompatibleWith g hs → CompatibleWith g (h ∷ hs)

-- the histories of a list are compatible in pairs
pub data Pairwise : List (List ℕ) → Type 0 where
  no_pair : Pairwise []
  pairs : {h : List ℕ} {hs : List (List ℕ)} → CompatibleWith h hs → Pairwise hs → Pairwise (h ∷ hs)

-- what is compatible with two histories, or with each of some, is compatible with their least common extension
least_compatible : {g h k n : List ℕ} → Least g h n → Compatible g h → Compatible g k → Compatible h k → Compatible n k
least_compatible l gh gk hk = let a = three_compatible gh gk hk in record { common = a.common; left = l.least a.common a.first a.second; right = a.third }

pub least_with : {g h n : List ℕ} {hs : List (List ℕ)} → Least g h n → Compatible g h → CompatibleWith g hs → CompatibleWith h hs → CompatibleWith n hs
least_with l gh no_other no_other = no_other
least_with l gh (other p ps) (other q qs) = other (least_compatible l gh p q) (least_with l gh ps qs)

pub data CommonOfAll (hs : List (List ℕ)) : Type 0 where
  common_of_all : {n : List ℕ} → ExtendsAll n hs → CommonOfAll hs

spread : {g h n : List ℕ} {hs : List (List ℕ)} → Least g h n → CommonOfAll (n ∷ hs) → CommonOfAll (g ∷ h ∷ hs)
spread l (common_of_all (and x xs)) = common_of_all (and (extends_trans x l.left) (and (extends_trans x l.right) xs))

collect : {g : List ℕ} {hs : List (List ℕ)} → Pairwise hs → CompatibleWith g hs → CommonOfAll (g ∷ hs)
collect {g} no_pair no_other = common_of_all (and (extends_refl g) no_more)
collect {g} (pairs qs rs) (other {h = h} {hs = hs} p ps) = go (least_common p) (λ n w. collect rs w)
  where
    go : HasLeast g h → ((n : List ℕ) → CompatibleWith n hs → CommonOfAll (n ∷ hs)) → CommonOfAll (g ∷ h ∷ hs)
    go (has_least {n = n} l) next = spread l (next n (least_with l p ps qs))

-- Any number of histories that are compatible in pairs have a common extension.
pub many_compatible : {hs : List (List ℕ)} → Pairwise hs → CommonOfAll hs
many_compatible no_pair = common_of_all {n = []} no_more
many_compatible (pairs p ps) = collect ps p

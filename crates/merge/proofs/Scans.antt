-- What the loop and the chains over lists of commands answer, by the definitions of this crate.
use Rattle.std.specs.Prelude.{◌≡◌, refl, true, false, ◌&&◌, ◌||◌, List, [], ◌∷◌, ℕ, ◌+◌, ◌≤◌, ◌<◌, length, get_or, drop}
use Rattle.std.specs.List.{list_any, list_all}
use Rattle.std.proofs.Common.{ap, drop_of_length-le, eq-eqb, ne_eqb}
use Rattle.basics.specs.Lists.{drop_next}
use Rattle.merge.specs.Appending.{holds, differs, reuses, nothing_new}

-- ---- one command among those of g

module _ (g : List ℕ) (i c : ℕ) where
  pub holds_stop : i < length g → c ≡ get_or g i 0 → holds (drop i g) c ≡ true
  unfolding holds
  holds_stop p e = rw (drop_next g i p, eq-eqb c _ e)

  pub holds_more : i < length g → (c ≡ get_or g i 0 → ⊥) → holds (drop i g) c ≡ holds (drop (i + 1) g) c
  unfolding holds
  holds_more p n = rw (drop_next g i p, ne_eqb c _ n)

  pub holds_end : length g ≤ i → holds (drop i g) c ≡ false
  unfolding holds
  holds_end p = rw (drop_of_length-le g p)

-- ---- the commands of h in g

pub reuses_any : (g h : List ℕ) → reuses g h ≡ list_any (differs g) h
unfolding reuses
reuses_any g [] = refl
reuses_any g (c ∷ h) = ap (λ b. differs g c || b) (reuses_any g h)

pub nothing_all : (g h : List ℕ) → nothing_new g h ≡ list_all (holds g) h
unfolding nothing_new
nothing_all g [] = refl
nothing_all g (c ∷ h) = ap (λ b. holds g c && b) (nothing_all g h)

-- The canonical order by insertion, which is quicker: each command goes to its place among those before it.
-- `arrange_canonical` and `stays_canonical` (InsertionLaws.antt) say that this is the order of History.antt.
use Rattle.std.specs.Prelude.{Bool, true, not, cond, ◌&&◌, List, [], ◌∷◌, ◌++◌, ℕ, zero, suc, ◌≤◌, eqb, ltb, length, take, drop, get_or}
use Rattle.command.specs.Command.{conflict}

-- whether c conflicts with no command of h
unfoldable pub clear : ℕ → List ℕ → Bool
clear c [] = true
clear c (d ∷ h) = not (conflict c d) && clear c h

-- where c goes in h when it comes from behind: before the first larger command that it reaches past commands it does not conflict with
unfoldable pub place : ℕ → List ℕ → ℕ
place c [] = zero
place c (d ∷ h) = cond (clear c (d ∷ h) && ltb c d) zero (suc (place c h))

unfoldable pub insert : ℕ → List ℕ → List ℕ
insert c h = take (place c h) h ++ c ∷ drop (place c h) h

-- the commands of h inserted one after the other behind m
unfoldable pub arrange : List ℕ → List ℕ → List ℕ
arrange m [] = m
arrange m (c ∷ h) = arrange (insert c m) h

-- whether each command of h, behind m, has its place where it stands
unfoldable pub stays : List ℕ → List ℕ → Bool
stays m [] = true
stays m (c ∷ h) = eqb (place c m) (length m) && stays (m ++ c ∷ []) h

-- the place of c, found by walking left from position k of h: `at` is the place found so far
unfoldable pub walk : ℕ → List ℕ → ℕ → ℕ → ℕ
walk c h zero at = at
walk c h (suc k) at = cond (conflict c (get_or h k 0)) at (walk c h k (cond (ltb c (get_or h k 0)) k at))

-- no command of a list is over `top`
pub data Bounded (top : ℕ) : List ℕ → Type 0 where
  none : Bounded top []
  more : {c : ℕ} {h : List ℕ} → c ≤ top → Bounded top h → Bounded top (c ∷ h)

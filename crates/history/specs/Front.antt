-- Bringing the commands of one history to the front of another, past commands that they don't conflict with: how extension is tested in place.
use Rattle.std.specs.Prelude.{cond, List, [], ◌∷◌, ℕ, zero, suc, ◌-◌, eqb, length, get_or}
use Rattle.command.specs.Command.{conflict}
use Rattle.history.specs.History.{comes_off, without}

-- where c stands in h with no conflicting command before it; h's length where it does not
unfoldable pub off_at : ℕ → List ℕ → ℕ
off_at c [] = zero
off_at c (d ∷ h) = cond (eqb c d) zero (cond (conflict c d) (suc (length h)) (suc (off_at c h)))

-- the commands of g brought to the front of h one after the other, up to the first that does not come off
unfoldable pub fronted : List ℕ → List ℕ → List ℕ
fronted h [] = h
fronted h (c ∷ g) = cond (comes_off c h) (c ∷ fronted (without c h) g) h

-- c and then all but the last of a list
unfoldable pub shifted : ℕ → List ℕ → List ℕ
shifted c [] = []
shifted c (d ∷ h) = c ∷ shifted d h

-- the last of a list before the others
unfoldable pub rotated : List ℕ → List ℕ
rotated h = shifted (get_or h (length h - 1) 0) h

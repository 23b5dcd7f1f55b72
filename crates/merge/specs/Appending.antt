-- What a list already holds of commands that are to be appended to it.
use Rattle.std.specs.Prelude.{Bool, true, false, not, ◌&&◌, ◌||◌, List, [], ◌∷◌, ℕ, eqb, ltb, length}
use Rattle.history.specs.History.{present}
use Rattle.merge.specs.Merge.{appended}

-- whether a list holds c: "Two commands are equal if all bytes are."
unfoldable pub holds : List ℕ → ℕ → Bool
holds [] c = false
holds (d ∷ h) c = eqb c d || holds h c

-- REUSED: "a command's proposer and serial are held with other bytes"
abbrev pub differs : List ℕ → ℕ → Bool
differs g c = present c g && not (holds g c)

unfoldable pub reuses : List ℕ → List ℕ → Bool
reuses g [] = false
reuses g (c ∷ h) = differs g c || reuses g h

-- NOTHING: "all commands are held already"
unfoldable pub nothing_new : List ℕ → List ℕ → Bool
nothing_new g [] = true
nothing_new g (c ∷ h) = holds g c && nothing_new g h

-- FULL: "the result would exceed" the limit, which counts only the commands that are new
unfoldable pub overflows : ℕ → List ℕ → List ℕ → Bool
overflows limit g h = ltb limit (length (appended g h))

-- Marks of proposers and serials, which spare the test for a repeat most of its comparisons: a command whose mark is not set is not among those
-- whose marks are.
use Rattle.std.specs.Prelude.{Bool, true, false, ◌&&◌, List, [], ◌∷◌, ℕ, ◌+◌, ◌*◌, ◌%◌, get_or}
use Rattle.command.specs.Command.{proposer, serial}

-- the number of a command's mark
abbrev pub mark : ℕ → ℕ
mark c = (serial c + 157 * proposer c) % 256

-- whether the marks of all commands of h are set
unfoldable pub marked : List Bool → List ℕ → Bool
marked s [] = true
marked s (c ∷ h) = get_or s (mark c) false && marked s h

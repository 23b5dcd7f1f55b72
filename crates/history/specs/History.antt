-- Histories, as document 01, "Histories", words them. A history is the list of its commands, each a number.
-- Every definition takes any list; `repeated` tells the lists that are no history. Laws stand in the other files.
use Rattle.std.specs.Prelude.{◌≡◌, Bool, true, false, not, cond, ◌&&◌, ◌||◌, ℕ, zero, suc, min, eqb, length}
use mathlib.Core.List.{List, [], ◌∷◌, ◌++◌, Memᴰ}
use Rattle.command.specs.Command.{conflict, same_request, all_valid}
unfoldable pub use Rattle.words.specs.Words.{equal}

-- whether some command of h has c's proposer and serial
unfoldable pub present : ℕ → List ℕ → Bool
present c [] = false
present c (d ∷ h) = same_request c d || present c h

-- "A history has no two commands of one proposer and serial": whether h has two
unfoldable pub repeated : List ℕ → Bool
repeated [] = false
repeated (c ∷ h) = present c h || repeated h

-- "Two are equivalent if swaps of neighbours that don't conflict turn one into the other."
pub data Equivalent : List ℕ → List ℕ → Type 0 where
  same : {h : List ℕ} → Equivalent h h
  swap : {c d : ℕ} {h : List ℕ} → conflict c d ≡ false → Equivalent (c ∷ d ∷ h) (d ∷ c ∷ h)
  keep : {c : ℕ} {g h : List ℕ} → Equivalent g h → Equivalent (c ∷ g) (c ∷ h)
  trans : {f g h : List ℕ} → Equivalent f g → Equivalent g h → Equivalent f h

-- "h extends g if some x exists with g followed by x equivalent to h."
pub record Extends (h g : List ℕ) : Type 0 where
  pub x : List ℕ
  pub equivalent : Equivalent (g ++ x) h

-- two histories with a common extension: one that extends both
pub record Compatible (g h : List ℕ) : Type 0 where
  pub common : List ℕ
  pub left : Extends common g
  pub right : Extends common h

-- n is the least common extension of g and h: it extends both, and every list that extends both extends it
pub record Least (g h n : List ℕ) : Type 0 where
  pub left : Extends n g
  pub right : Extends n h
  pub least : (k : List ℕ) → Extends k g → Extends k h → Extends k n

-- c stands before d in a history
pub data Before (c d : ℕ) : List ℕ → Type 0 where
  at : {e : ℕ} {h : List ℕ} → c ≡ e → Memᴰ d h → Before c d (e ∷ h)
  later : {e : ℕ} {h : List ℕ} → Before c d h → Before c d (e ∷ h)

-- the commands of a list that don't conflict with c
unfoldable pub apart : ℕ → List ℕ → List ℕ
apart c [] = []
apart c (d ∷ h) = cond (conflict d c) (apart c h) (d ∷ apart c h)

-- the commands of h that have no conflicting command before them
unfoldable pub free : List ℕ → List ℕ
free [] = []
free (c ∷ h) = c ∷ apart c (free h)

-- the smallest of c and the commands of a list
unfoldable pub least : ℕ → List ℕ → ℕ
least c [] = c
least c (d ∷ h) = min d (least c h)

-- h without the first c in it
unfoldable pub without : ℕ → List ℕ → List ℕ
without c [] = []
without c (d ∷ h) = cond (eqb c d) h (d ∷ without c h)

-- n times: the smallest remaining command that has no conflicting command still before it
unfoldable pub ordered : ℕ → List ℕ → List ℕ
ordered zero h = []
ordered (suc n) [] = []
ordered (suc n) (c ∷ h) =
    let s = least c (free (c ∷ h)) in
    s ∷ ordered n (without s (c ∷ h))

-- "The canonical order takes, again and again, the smallest remaining command (as eight bytes) that has no conflicting command still before it."
unfoldable pub canonical : List ℕ → List ℕ
canonical h = ordered (length h) h

-- whether a list is in canonical order
unfoldable pub is_canonical : List ℕ → Bool
is_canonical h = equal (canonical h) h

-- what CONFIG asks of a stored history besides its length: no "wrong command, a repeated proposer and serial in one list, a stored history not canonical"
unfoldable pub valid_history : List ℕ → Bool
valid_history h = all_valid h && (not (repeated h) && is_canonical h)

-- HISTORY, of the kinds that carry a history: "proposer and serial repeated; not canonical; n = 0"
unfoldable pub improper : List ℕ → Bool
improper h = repeated h || (not (is_canonical h) || eqb (length h) 0)

-- whether c can be taken off the front of h: it stands there with no conflicting command before it
unfoldable pub comes_off : ℕ → List ℕ → Bool
comes_off c [] = false
comes_off c (d ∷ h) = eqb c d || (not (conflict c d) && comes_off c h)

-- the test of extension: g's commands can be taken off h one after the other. `extends_sound` and `extends_complete` say that it is `Extends`
unfoldable pub extends : List ℕ → List ℕ → Bool
extends h [] = true
extends h (c ∷ g) = comes_off c h && extends (without c h) g

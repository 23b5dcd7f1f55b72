-- Commands: the fields of the eight bytes, when a command is valid, and when two conflict.
use Rattle.std.specs.Prelude.{ℕ, ◌^◌, ◌/◌, ◌%◌, Bool, true, false, not, ◌&&◌, ◌||◌, List, [], ◌∷◌, eqb, leb, get_or}

-- A command is the number of its eight bytes, big-endian. `field at width c`: the `width` bytes of c above its lowest `at` bytes.
unfoldable pub field : ℕ → ℕ → ℕ → ℕ
field at width c = c / 256 ^ at % 256 ^ width

-- "Eight bytes, big-endian: proposer (1 byte, not 0), kind (1), serial (2, not 0), slot (2), argument (2)."
unfoldable pub proposer : ℕ → ℕ
proposer c = field 7 1 c

unfoldable pub kind : ℕ → ℕ
kind c = field 6 1 c

unfoldable pub serial : ℕ → ℕ
serial c = field 4 2 c

unfoldable pub slot : ℕ → ℕ
slot c = field 2 2 c

unfoldable pub argument : ℕ → ℕ
argument c = field 0 2 c

-- "Kinds: 1 ENROL and 2 REVOKE, argument 0; 3 RAISE, argument at least 1."
abbrev pub enrol : ℕ
enrol = 1

abbrev pub revoke : ℕ
revoke = 2

abbrev pub raise : ℕ
raise = 3

-- whether a number is a kind
unfoldable pub is_kind : ℕ → Bool
is_kind k = leb enrol k && leb k raise

-- whether an argument is one that a command of this kind may have; a number that is no kind has none
unfoldable pub valid_argument : ℕ → ℕ → Bool
valid_argument k a = ((eqb k enrol || eqb k revoke) && eqb a 0) || (eqb k raise && leb 1 a)

-- whether a command's fields are right: proposer and serial not 0, a kind, and an argument of that kind
unfoldable pub valid_command : ℕ → Bool
valid_command c = not (eqb (proposer c) 0) && (not (eqb (serial c) 0) && valid_argument (kind c) (argument c))

-- whether each command of a list is valid
unfoldable pub all_valid : List ℕ → Bool
all_valid [] = true
all_valid (c ∷ h) = valid_command c && all_valid h

-- COMMAND: "a command's fields are wrong"
unfoldable pub wrong : List ℕ → Bool
wrong h = not (all_valid h)

-- and "in PROPOSE its proposer isn't the sender": whether each command of a list is by this proposer
unfoldable pub all_by : ℕ → List ℕ → Bool
all_by p [] = true
all_by p (c ∷ h) = eqb (proposer c) p && all_by p h

-- "proposer and serial agree": two commands of one request
unfoldable pub same_request : ℕ → ℕ → Bool
same_request c d = eqb (proposer c) (proposer d) && eqb (serial c) (serial d)

-- The table of kinds, `true` for yes: a row and a column for 0, which is no kind, then ENROL, REVOKE, RAISE.
unfoldable pub kinds_table : List (List Bool)
kinds_table =
    (false ∷ false ∷ false ∷ false ∷ []) ∷
    (false ∷ true ∷ true ∷ true ∷ []) ∷  -- ENROL
    (false ∷ true ∷ true ∷ true ∷ []) ∷  -- REVOKE
    (false ∷ true ∷ true ∷ false ∷ []) ∷ []  -- RAISE

-- what the table says of two kinds; of a number that is no kind it says no
unfoldable pub kinds_conflict : ℕ → ℕ → Bool
kinds_conflict k l = get_or (get_or kinds_table k []) l false

-- "Two commands conflict if proposer and serial agree, or if the slots agree and this table of kinds says yes."
unfoldable pub conflict : ℕ → ℕ → Bool
conflict c d = same_request c d || (eqb (slot c) (slot d) && kinds_conflict (kind c) (kind d))

-- The kinds of frames, and which fields each uses.
use Rattle.std.specs.Prelude.{ℕ, ◌+◌, ◌^◌, Bool, true, false, ◌&&◌, ◌||◌, List, [], ◌∷◌, leb, ltb, eqb, length, get_or}
use Rattle.frame.specs.declared.Frame.{Frame}
use Rattle.frame.specs.Layout.{values}

-- "1 P1A, 2 FAST", "3 P1B", "4 PROPOSE", "5 P2A, 6 VERIFY", "7 P2B", "8 SUSPICION", "9 VIEWCHANGE, 10 LEADER"
abbrev pub P1A : ℕ
P1A = 1

abbrev pub FAST : ℕ
FAST = 2

abbrev pub P1B : ℕ
P1B = 3

abbrev pub PROPOSE : ℕ
PROPOSE = 4

abbrev pub P2A : ℕ
P2A = 5

abbrev pub VERIFY : ℕ
VERIFY = 6

abbrev pub P2B : ℕ
P2B = 7

abbrev pub SUSPICION : ℕ
SUSPICION = 8

abbrev pub VIEWCHANGE : ℕ
VIEWCHANGE = 9

abbrev pub LEADER : ℕ
LEADER = 10

-- all of them
abbrev pub all : List ℕ
all = P1A ∷ FAST ∷ P1B ∷ PROPOSE ∷ P2A ∷ VERIFY ∷ P2B ∷ SUSPICION ∷ VIEWCHANGE ∷ LEADER ∷ []

-- a set of kinds, each named once: kind k is bit k
abbrev pub set_of : List ℕ → ℕ
set_of [] = 0
set_of (k ∷ ks) = 2 ^ k + set_of ks

-- the words of the table
abbrev yes : Bool
yes = true

abbrev no : Bool
no = false

-- The table of kinds, a row for each number from 0 on, which is no kind: whether it uses each field of the header.
unfoldable pub uses : List (List Bool)
uses =
    -- kind  sender view   ballot proven mask   n      m
    (no ∷ no ∷ no ∷ no ∷ no ∷ no ∷ no ∷ no ∷ []) ∷
    (yes ∷ yes ∷ yes ∷ yes ∷ no ∷ no ∷ no ∷ no ∷ []) ∷  -- 1 P1A
    (yes ∷ yes ∷ yes ∷ yes ∷ no ∷ no ∷ no ∷ no ∷ []) ∷  -- 2 FAST
    (yes ∷ yes ∷ no ∷ yes ∷ yes ∷ yes ∷ yes ∷ yes ∷ []) ∷  -- 3 P1B
    (yes ∷ yes ∷ no ∷ yes ∷ no ∷ no ∷ yes ∷ no ∷ []) ∷  -- 4 PROPOSE
    (yes ∷ yes ∷ yes ∷ yes ∷ no ∷ no ∷ yes ∷ no ∷ []) ∷  -- 5 P2A
    (yes ∷ yes ∷ yes ∷ yes ∷ no ∷ no ∷ yes ∷ no ∷ []) ∷  -- 6 VERIFY
    (yes ∷ yes ∷ no ∷ yes ∷ no ∷ yes ∷ yes ∷ no ∷ []) ∷  -- 7 P2B
    (yes ∷ yes ∷ yes ∷ no ∷ no ∷ no ∷ no ∷ no ∷ []) ∷  -- 8 SUSPICION
    (yes ∷ yes ∷ yes ∷ no ∷ no ∷ yes ∷ no ∷ no ∷ []) ∷  -- 9 VIEWCHANGE
    (yes ∷ yes ∷ yes ∷ no ∷ no ∷ yes ∷ no ∷ no ∷ []) ∷ []  -- 10 LEADER

-- whether a number is a kind of the table
unfoldable pub is_kind : ℕ → Bool
is_kind k = leb 1 k && ltb k (length uses)

-- whether each value that a row doesn't use is 0
unfoldable pub zero_unless : List Bool → List ℕ → Bool
zero_unless [] xs = true
zero_unless (u ∷ us) [] = true
zero_unless (u ∷ us) (x ∷ xs) = (u || eqb x 0) && zero_unless us xs

-- "Fields a kind doesn't use are 0."
unfoldable pub unused_zero : Frame → Bool
unused_zero f = zero_unless (get_or uses f.kind []) (values f)

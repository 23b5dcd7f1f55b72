-- Document 01, "Frames", as text: the whole example line, and for each field a line that has 1 there alone.
use Rattle.std.specs.Prelude.{ℕ, cond, List, [], ◌∷◌, ◌++◌, length}
use Prim.Native.Char.{code}
use Prim.Native.String.{String, [] as end, ◌∷◌ as ◌then◌}
use Rattle.words.specs.Sizes.{limit}
use Rattle.words.specs.Words.{padded}
use Rattle.frame.specs.declared.Frame.{Frame}
use Rattle.frame.specs.Layout.{frame_capacity}
use Rattle.frame.specs.Kinds.{P1B, P2B}
use Rattle.frame.specs.Format.{is_line}

-- the characters of a text
unfoldable pub characters : String → List ℕ
characters end = []
characters (c then t) = code c ∷ characters t

-- A enrols slot 7, B revokes it
abbrev pub A : ℕ
A = 0x0101000100070000

abbrev pub B : ℕ
B = 0x0202000100070000

-- a vote of a site in ballot 1, with proofs of sites 0, 1 and 2
abbrev pub vote : ℕ → List ℕ → Frame
vote site h =
    record {
      kind = P2B;
      sender = site;
      view = record { 0 = 0 };
      ballot = record { 0 = 1 };
      proven_ballot = record { 0 = 0 };
      mask = 0b111;
      n = length h;
      m = 0;
      words = padded frame_capacity h;
    }

-- "Whole example, a vote from site 2 in ballot 1, proofs of sites 0, 1, 2, one command A", and its line
abbrev pub example : Frame
example = vote 2 (A ∷ [])

abbrev pub example_line : String
example_line = "0702000000000000000100000000000701000101000100070000\n"

-- a P1B from site 3 in ballot 2 with a command in each list, "n (proven), m (held)": A, which sites 0, 1 and 2 prove for ballot 1, and B; and its line
abbrev pub report : Frame
report =
    record {
      kind = P1B;
      sender = 3;
      view = record { 0 = 0 };
      ballot = record { 0 = 2 };
      proven_ballot = record { 0 = 1 };
      mask = 0b111;
      n = 1;
      m = 1;
      words = padded frame_capacity (A ∷ B ∷ []);
    }

abbrev pub report_line : String
report_line = "03030000000000000002000000010007010101010001000700000202000100070000\n"

-- each field that a kind may use besides the sender, and the rest of a line after its kind that has 1 in this field alone
abbrev pub fields : List (String × String)
fields =
    ("view", "0000000001000000000000000000000000\n") ∷
    ("ballot", "0000000000000000010000000000000000\n") ∷
    ("proven ballot", "0000000000000000000000000100000000\n") ∷
    ("mask", "0000000000000000000000000000010000\n") ∷
    ("n", "00000000000000000000000000000001000000000000000000\n") ∷
    ("m", "00000000000000000000000000000000010000000000000000\n") ∷ []

-- the names of those of these fields that a kind, as text, may have 1 in
unfoldable pub used_of : String → List (String × String) → List String
used_of kind [] = []
used_of kind ((name, rest) ∷ l) = cond (is_line limit (characters kind ++ characters rest)) (name ∷ used_of kind l) (used_of kind l)

abbrev pub used : String → List String
used kind = used_of kind fields

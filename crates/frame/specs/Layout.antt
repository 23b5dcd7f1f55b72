-- The layout of a line: the fields of the header with their widths, the commands after it, and how long a line is.
use Rattle.std.specs.Prelude.{ℕ, ◌+◌, ◌*◌, List, [], ◌∷◌, map, get_or, take, drop}
use Rattle.words.specs.Sizes.{capacity}
use Rattle.frame.specs.declared.Frame.{Frame}
use Rattle.frame.specs.Hex.{total}

-- a field of the header: how many bytes it has, and its value
pub record Field : Type 0 where
  pub width : ℕ
  pub value : Frame → ℕ

-- "Bytes: kind 1, sender 1, view 4, ballot 4, proven ballot 4, mask 2 (site i is bit i), n 1, m 1, then n commands, then m."
abbrev pub header : List Field
header =
    record { width = 1; value = λ f. f.kind } ∷
    record { width = 1; value = λ f. f.sender } ∷
    record { width = 4; value = λ f. f.view.0 } ∷
    record { width = 4; value = λ f. f.ballot.0 } ∷
    record { width = 4; value = λ f. f.proven_ballot.0 } ∷
    record { width = 2; value = λ f. f.mask } ∷
    record { width = 1; value = λ f. f.n } ∷
    record { width = 1; value = λ f. f.m } ∷ []

-- a command's width: "Eight bytes, big-endian"
abbrev pub command_width : ℕ
command_width = 8

-- the most commands of a frame: two full lists
abbrev pub frame_capacity : ℕ
frame_capacity = capacity + capacity

-- the widths of the fields, and a frame's values of them
abbrev pub widths : List ℕ
widths = map (λ (d : Field). d.width) header

abbrev pub values : Frame → List ℕ
values f = map (λ (d : Field). d.value f) header

-- the frame with these values of the fields, in the header's order, and these words
abbrev pub with_values : List ℕ → List ℕ → Frame
with_values h ws =
    record {
      kind = get_or h 0 0;
      sender = get_or h 1 0;
      view = record { 0 = get_or h 2 0 };
      ballot = record { 0 = get_or h 3 0 };
      proven_ballot = record { 0 = get_or h 4 0 };
      mask = get_or h 5 0;
      n = get_or h 6 0;
      m = get_or h 7 0;
      words = ws;
    }

-- how many commands a frame holds
abbrev pub count : Frame → ℕ
count f = f.n + f.m

-- "then n commands, then m": the frame's two lists
abbrev pub first : Frame → List ℕ
first f = take f.n f.words

abbrev pub second : Frame → List ℕ
second f = take f.m (drop f.n f.words)

-- how many characters a line with k commands has: two digits a byte, and the line feed
abbrev pub line_length : ℕ → ℕ
line_length k = 2 * (total widths + command_width * k) + 1

-- the longest line's length
abbrev pub longest : ℕ
longest = line_length frame_capacity

-- What line a frame has, which frames have one, and what frame a line has.
use Rattle.std.specs.Prelude.{ℕ, ◌-◌, ◌*◌, Bool, true, false, not, cond, ◌&&◌, List, [], ◌∷◌, ◌++◌, leb, eqb, length, get_or, take, drop, replicate, Option, None, Some}
use Rattle.words.specs.Sizes.{capacity}
use Rattle.words.specs.Words.{padded}
use Rattle.frame.specs.declared.Frame.{Frame}
use Rattle.frame.specs.declared.Heading.{Heading}
use Rattle.roster.specs.Mask.{bit}
use Rattle.frame.specs.Hex.{all_digits, spell, numbers, all_fit, total}
use Rattle.frame.specs.Layout.{command_width, frame_capacity, widths, values, with_values, count, line_length}
use Rattle.frame.specs.Kinds.{is_kind, unused_zero}

-- the widths of k commands
abbrev pub commands : ℕ → List ℕ
commands k = replicate k command_width

-- "A line of lower-case hex digits and one line feed": the header, then the commands, which are the first words.
abbrev pub line_feed : ℕ
line_feed = 10

unfoldable pub line_of : Frame → List ℕ
line_of f = spell widths (values f) ++ (spell (commands (count f)) f.words ++ line_feed ∷ [])

-- what FORM asks of a frame's values: a known kind, n and m at most the limit, and 0 in each field that the kind doesn't use
unfoldable pub proper : ℕ → Frame → Bool
proper limit f = is_kind f.kind && ((leb f.n limit && leb f.m limit) && unused_zero f)

-- whether all words are 0
unfoldable pub all_zero : List ℕ → Bool
all_zero [] = true
all_zero (w ∷ ws) = eqb w 0 && all_zero ws

-- whether each field fits its width, and there are as many words of eight bytes as a frame has: so it is with each value of the type Frame
unfoldable pub fits : Frame → Bool
fits f = all_fit widths (values f) && all_fit (commands frame_capacity) f.words

-- which frames have a line, whatever the limit: those with proper values that there is room for, with 0 in the words after the commands
unfoldable pub writable : Frame → Bool
writable f = proper capacity f && (all_zero (drop (count f) f.words) && fits f)

-- the frame that a line's digits spell: the header's values, and as many commands as they say, with 0 after them
unfoldable pub framed : List ℕ → List ℕ → Frame
framed h rest = with_values h (padded frame_capacity (numbers (commands (count (with_values h []))) rest))

unfoldable pub frame_of : List ℕ → Frame
frame_of l = framed (numbers widths l) (drop (2 * total widths) l)

-- whether these characters are such a line: digits and then a line feed; of the length that n and m say; with proper values
unfoldable pub is_line : ℕ → List ℕ → Bool
is_line limit l =
    (all_digits (take (length l - 1) l) && eqb (get_or l (length l - 1) 0) line_feed)
    && (eqb (length l) (line_length (count (frame_of l))) && proper limit (frame_of l))

-- what reading a line finds: a frame, or none, and then the frame is all 0
pub record Reading : Type 0 where
  pub found : Bool
  pub frame : Frame

abbrev pub blank : Frame
blank = with_values [] (replicate frame_capacity 0)

abbrev pub nothing : Reading
nothing = record { found = false; frame = blank }

-- what is read of a line by a role that takes these kinds (kind k is bit k), n and m being at most the limit: FORM is given exactly if nothing is found
unfoldable pub reading_of : ℕ → List ℕ → ℕ → Reading
reading_of limit l kinds = cond (is_line limit l && bit kinds (frame_of l).kind) (record { found = true; frame = frame_of l }) nothing

-- the heading of a frame
abbrev pub head_of : Frame → Heading
head_of f =
    record {
      kind = f.kind;
      sender = f.sender;
      view = f.view;
      ballot = f.ballot;
      proven_ballot = f.proven_ballot;
      mask = f.mask;
      n = f.n;
      m = f.m;
    }

-- a frame whose heading and words are apart, and what is read so
abbrev pub frame_with : Heading → List ℕ → Frame
frame_with h ws =
    record {
      kind = h.kind;
      sender = h.sender;
      view = h.view;
      ballot = h.ballot;
      proven_ballot = h.proven_ballot;
      mask = h.mask;
      n = h.n;
      m = h.m;
      words = ws;
    }

abbrev pub reading_with : Option Heading → List ℕ → Reading
reading_with (Some h) ws = record { found = true; frame = frame_with h ws }
reading_with None ws = record { found = false; frame = frame_with (head_of blank) ws }

-- what a call that answers a frame or none has read
abbrev pub reading : Option Frame → Reading
reading (Some f) = record { found = true; frame = f }
reading None = nothing

-- FORM, for a role that takes these kinds: "not such a line; unknown kind or one this role doesn't take; unused field not 0; n or m over" the limit
unfoldable pub malformed : ℕ → List ℕ → ℕ → Bool
malformed limit l kinds = not (reading_of limit l kinds).found

-- whether a frame can be written into so much room
unfoldable pub has_room : Frame → ℕ → Bool
has_room f room = writable f && leb (line_length (count f)) room

-- what writing a frame answers, the line's length or 0, and what it leaves: the line at the front, and the bytes after it as they were
unfoldable pub written_length : Frame → List ℕ → ℕ
written_length f out = cond (has_room f (length out)) (line_length (count f)) 0

unfoldable pub written : Frame → List ℕ → List ℕ
written f out = cond (has_room f (length out)) (line_of f ++ drop (line_length (count f)) out) out

-- the frame with this heading and these two lists of commands, whether the lists are n and m long, and what writing it answers and leaves
abbrev pub frame_from : Heading → List ℕ → List ℕ → Frame
frame_from h g k = frame_with h (padded frame_capacity (g ++ k))

unfoldable pub listed : Heading → List ℕ → List ℕ → Bool
listed h g k = eqb (length g) h.n && eqb (length k) h.m

unfoldable pub length_from : Heading → List ℕ → List ℕ → List ℕ → ℕ
length_from h g k out = cond (listed h g k) (written_length (frame_from h g k) out) 0

unfoldable pub written_from : Heading → List ℕ → List ℕ → List ℕ → List ℕ
written_from h g k out = cond (listed h g k) (written (frame_from h g k) out) out

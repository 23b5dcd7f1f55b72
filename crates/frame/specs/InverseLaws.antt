-- Reading and writing are inverse, as the contracts of `read` and `write` have them; every kind has a frame; and how much room a line takes.
use Rattle.std.specs.Prelude.{ℕ, zero, suc, ◌≤◌, ◌<◌, ◌≡◌, refl, Bool, true, ◌&&◌, List, [], ◌∷◌, ◌++◌, leb, ltb, eqb, length, take, drop, replicate}
use Rattle.std.proofs.Common.{⊎_elim, arith, sym, ap, ◌∙◌, subst, le-leb, take_at}
use Rattle.basics.specs.Bools.{and_left, and_right}
use Rattle.roster.specs.SitesLaws.{last_or_below}
use Rattle.roster.specs.Mask.{bit}
use Rattle.words.specs.Sizes.{capacity}
use Rattle.frame.specs.Hex.{all_fit}
use Rattle.frame.specs.declared.Frame.{Frame}
use Rattle.frame.specs.Layout.{longest, line_length, count, frame_capacity, with_values, header}
use Rattle.frame.specs.Kinds.{uses, is_kind, unused_zero, zero_unless}
use Rattle.frame.specs.Format.{proper, all_zero, fits, line_of, is_line, frame_of, writable, reading_of, has_room, written_length, written}
use Rattle.frame.specs.FormatLaws.{writable_n, writable_m, frame_of_line, line_is_line, line_of_frame, frame_is_writable, length_of_line, line_at_most, reading_line}

-- ---- both ways round

module _ (f : Frame) (out : List ℕ) (room : has_room f (length out) ≡ true) where
  can_write : writable f ≡ true
  unfolding has_room
  can_write = and_left (writable f) _ room

  pub written_length_lem : written_length f out ≡ length (line_of f)
  unfolding written_length
  written_length_lem = rw room (sym (length_of_line f can_write))

  pub written_front : take (written_length f out) (written f out) ≡ line_of f
  unfolding written
  written_front = rw room (take_at (line_of f) _ (written_length f out) (sym written_length_lem))

  -- reading what was written gives the frame, under each limit that its counts are within
  pub read_what_was_written : (limit kinds : ℕ) → f.n ≤ limit → f.m ≤ limit → bit kinds f.kind ≡ true
      → reading_of limit (take (written_length f out) (written f out)) kinds ≡ record { found = true; frame = f }
  read_what_was_written limit kinds n m b =
      rw (written_front, reading_line limit (line_of f) kinds (line_is_line limit f can_write n m) (rw (frame_of_line f can_write) b), frame_of_line f can_write)

  -- so under the capacity every frame that can be written is read back
  pub whatever_was_written : (kinds : ℕ) → bit kinds f.kind ≡ true
      → reading_of capacity (take (written_length f out) (written f out)) kinds ≡ record { found = true; frame = f }
  whatever_was_written kinds b = read_what_was_written capacity kinds (writable_n f can_write) (writable_m f can_write) b

-- writing what was read gives the line, byte for byte, under each limit that there is room for
module _ (limit : ℕ) (l : List ℕ) (small : limit ≤ capacity) (is : is_line limit l ≡ true) (out : List ℕ) (room : length l ≤ length out) where
  line_length_lem : length l ≡ line_length (count (frame_of l))
  line_length_lem = ap length (sym (line_of_frame limit l small is)) ∙ length_of_line (frame_of l) (frame_is_writable limit l small is)

  has_room_lem : has_room (frame_of l) (length out) ≡ true
  unfolding has_room
  has_room_lem = rw (frame_is_writable limit l small is) (le-leb (line_length (count (frame_of l))) (length out) (omega (arith, line_length_lem)))

  pub write_what_was_read : written (frame_of l) out ≡ l ++ drop (length l) out
  unfolding written
  write_what_was_read = rw (has_room_lem, line_of_frame limit l small is, ← line_length_lem)

  pub length_of_what_was_read : written_length (frame_of l) out ≡ length l
  unfolding written_length
  length_of_what_was_read = rw has_room_lem (sym line_length_lem)

-- a frame has one line: a line is this frame's exactly if it is the frame's line
pub one_line_each : (limit : ℕ) (f : Frame) → limit ≤ capacity → (l : List ℕ) → (is_line limit l ≡ true) × (frame_of l ≡ f) → l ≡ line_of f
one_line_each limit f small l p = sym (line_of_frame limit l small p.0) ∙ ap line_of p.1

pub its_line : (limit : ℕ) (f : Frame) → writable f ≡ true → f.n ≤ limit → f.m ≤ limit → (is_line limit (line_of f) ≡ true) × (frame_of (line_of f) ≡ f)
its_line limit f w n m = (line_is_line limit f w n m, frame_of_line f w)

-- ---- the longest line

pub longest_room : (f : Frame) → writable f ≡ true → (room : ℕ) → longest ≤ room → has_room f room ≡ true
unfolding has_room
longest_room f w room p = rw w (le-leb (line_length (count f)) room (omega (arith, line_at_most f w, length_of_line f w)))

pub line_within : (limit : ℕ) (l : List ℕ) → limit ≤ capacity → is_line limit l ≡ true → length l ≤ longest
line_within limit l small is =
    subst (λ (x : List ℕ). length x ≤ longest) (line_of_frame limit l small is) (line_at_most (frame_of l) (frame_is_writable limit l small is))

-- ---- the kinds

-- the kinds are 1 to 10, and each row of the table speaks of every field of the header
pub kinds_are : (k : ℕ) → is_kind k ≡ (leb 1 k && ltb k 11)
unfolding is_kind uses
kinds_are k = refl

-- whether each row does
unfoldable pub whole : List (List Bool) → Bool
whole [] = true
whole (row ∷ rows) = eqb (length row) (length header) && whole rows

pub rows_whole : whole uses ≡ true
unfolding whole uses
rows_whole = refl

-- a frame of each kind with nothing but its kind, and the longest frame
abbrev bare : ℕ → Frame
bare k = with_values (k ∷ []) (replicate frame_capacity 0)

all_bare : ℕ → Bool
all_bare zero = true
all_bare (suc k) = writable (bare (suc k)) && all_bare k

bare_each : (n : ℕ) → all_bare n ≡ true → (k : ℕ) → 1 ≤ k → k ≤ n → writable (bare k) ≡ true
unfolding all_bare
bare_each zero e k p q = absurd (omega arith)
bare_each (suc n) e k p q =
    ⊎_elim (λ (i : k ≡ suc n). rw i (and_left (writable (bare (suc n))) _ e))
    (λ (i : k < suc n). bare_each n (and_right (writable (bare (suc n))) _ e) k p (omega arith))
    (last_or_below (omega arith))

-- every kind has frames
pub kind_has_frame : (k : ℕ) → 1 ≤ k → k ≤ 10 → writable (bare k) ≡ true
unfolding all_bare writable proper is_kind uses unused_zero zero_unless all_zero fits all_fit
kind_has_frame k p q = bare_each 10 refl k p q

-- a P1B with two full lists has the longest line
pub longest_line : Frame
longest_line = with_values (3 ∷ 0 ∷ 0 ∷ 0 ∷ 0 ∷ 0 ∷ capacity ∷ capacity ∷ []) (replicate frame_capacity 0)

pub longest_attained : (writable longest_line ≡ true) × (length (line_of longest_line) ≡ longest)
unfolding longest_line writable proper is_kind uses unused_zero zero_unless all_zero fits all_fit
longest_attained = (refl, length_of_line longest_line refl)

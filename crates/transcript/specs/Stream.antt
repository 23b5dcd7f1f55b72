-- A learner over bytes that arrive in any pieces, byte by byte: what stands between two of them, and what is written at each.
use Rattle.std.specs.Prelude.{ℕ, ◌+◌, ◌-◌, ◌≤◌, ◌<◌, ◌≡◌, Bool, true, false, cond, leb, eqb, length, take, drop}
use mathlib.Core.List.{List, [], ◌∷◌, ◌++◌, flatten}
use Rattle.std.proofs.lemmas.List.Edits.{sets}
use Rattle.frame.specs.Layout.{longest}
use Rattle.frame.specs.Format.{line_feed}
use Rattle.learner.specs.Learner as learner
use Rattle.lines.specs.Lines.{roster_of, kept, kept_length, longest_answer}
use Rattle.transcript.specs.declared.Stream.{Stream}
use Rattle.transcript.specs.declared.Fed.{Fed}
use Rattle.transcript.specs.Transcript.{said, transcript}

-- before any input: no line has ended, and nothing is kept
abbrev pub fresh : Stream
fresh = record { roster = record { n = 0; f = 0 }; state = learner.fresh; started = false; len = 0 }

-- a stream and its line buffer, of which the first `len` bytes are the line that arrives
pub record Progress : Type 0 where
  pub stream : Stream
  pub line : List ℕ

abbrev pub at : Stream → List ℕ → Progress
at s l = record { stream = s; line = l }

abbrev pub arrived : Progress → List ℕ
arrived p = take p.stream.len p.line

-- ---- a line

-- more bytes of it are kept, as many as there is room for
unfoldable pub keeping : Progress → List ℕ → Progress
keeping p bs =
    let s = p.stream in
    record {
      stream = record { roster = s.roster; state = s.state; started = s.started; len = kept_length p.line s.len bs };
      line = kept p.line s.len bs;
    }

-- it has ended: the first one is the roster, and a step is made on each later one
unfoldable pub ended : Progress → Progress
ended p =
    let s = p.stream in
    record {
      stream =
          cond s.started
          (record { roster = s.roster; state = (learner.step s.roster s.state (arrived p)).state; started = true; len = 0 })
          (record { roster = roster_of (arrived p); state = s.state; started = true; len = 0 });
      line = p.line;
    }

-- and what is written then
unfoldable pub answer : Progress → List ℕ
answer p = let s = p.stream in cond s.started (said (learner.step s.roster s.state (arrived p))) []

-- ---- bytes

-- a byte is kept, and a line feed ends the line
unfoldable pub next : Progress → ℕ → Progress
next p b = let q = keeping p (b ∷ []) in cond (eqb b line_feed) (ended q) q

unfoldable pub writes : Progress → ℕ → List ℕ
writes p b = cond (eqb b line_feed) (answer (keeping p (b ∷ []))) []

-- what stands after bytes, and what is written meanwhile
unfoldable pub after : Progress → List ℕ → Progress
after p [] = p
after p (b ∷ bs) = after (next p b) bs

unfoldable pub written : Progress → List ℕ → List ℕ
written p [] = []
written p (b ∷ bs) = writes p b ++ written (next p b) bs

-- at the end of the input: an unfinished line, if it has any byte, is answered like the others
unfoldable pub last : Progress → List ℕ
last p = cond (eqb p.stream.len 0) [] (answer p)

-- ---- a piece of input, and an output with so much room

-- whether there is room for the longest answer
unfoldable pub has_room : ℕ → Bool
has_room room = leb longest_answer room

-- the bytes that are taken: as long as there is room
unfoldable pub taken : Progress → ℕ → List ℕ → List ℕ
taken p room [] = []
taken p room (b ∷ bs) = cond (has_room room) (b ∷ taken (next p b) (room - length (writes p b)) bs) []

-- what `feed` answers, and what it leaves in the line buffer and the output
pub record FeedOutcome : Type 0 where
  pub fed : Fed
  pub line : List ℕ
  pub out : List ℕ

abbrev pub feed_outcome : Fed → List ℕ → List ℕ → FeedOutcome
feed_outcome r l o = record { fed = r; line = l; out = o }

-- bytes from a place `from` on are taken, and what is written for them stands in the output behind its first `used` bytes
unfoldable pub feed : Stream → List ℕ → List ℕ → ℕ → List ℕ → ℕ → FeedOutcome
feed s l out used bytes from =
    let t = taken (at s l) (length out - used) (drop from bytes) in
    let p = after (at s l) t in
    let w = written (at s l) t in
    feed_outcome (record { stream = p.stream; next = from + length t; used = used + length w }) p.line (sets out used w)

-- ---- all reads of an input

-- what a program writes that calls `feed` and `finish`. It has a stream and its line buffer, an output whose first `used` bytes are in use, a read of
-- which the bytes from `from` on are not taken yet, and more reads to come
pub data Writes : Stream → List ℕ → List ℕ → ℕ → List ℕ → ℕ → List (List ℕ) → List ℕ → Type 0 where
  -- it calls `feed`, and goes on with what that call answered and left
  feeds : {s : Stream} {l out : List ℕ} {used : ℕ} {bytes : List ℕ} {from : ℕ} {more : List (List ℕ)} {w : List ℕ} (r : FeedOutcome)
      → r ≡ feed s l out used bytes from
      → Writes r.fed.stream r.line r.out r.fed.used bytes r.fed.next more w
      → Writes s l out used bytes from more w
  -- it writes the output's bytes in use, and goes on with any output of which none are
  empties : {s : Stream} {l out : List ℕ} {used : ℕ} {bytes : List ℕ} {from : ℕ} {more : List (List ℕ)} {w : List ℕ} (fresh-out : List ℕ)
      → Writes s l fresh-out 0 bytes from more w
      → Writes s l out used bytes from more (take used out ++ w)
  -- the read is used up, and the next one is made
  used_up : {s : Stream} {l out : List ℕ} {used : ℕ} {bytes : List ℕ} {from : ℕ} {read : List ℕ} {more : List (List ℕ)} {w : List ℕ}
      → length bytes ≤ from
      → Writes s l out used read 0 more w
      → Writes s l out used bytes from (read ∷ more) w
  -- the last read is used up: it calls `finish`, where there is room for the longest answer, and writes the bytes in use
  finishes : {s : Stream} {l out : List ℕ} {used : ℕ} {bytes : List ℕ} {from : ℕ} (end : ℕ) (out' : List ℕ)
      → length bytes ≤ from
      → longest_answer ≤ length out - used
      → end ≡ kept_length out used (last (at s l))
      → out' ≡ kept out used (last (at s l))
      → Writes s l out used bytes from [] (take end out')

-- For every list of reads, cut in any way, and whatever outputs the calls got, all that is written is the transcript of all bytes together; the line
-- buffer has room for more than the longest line.
abbrev pub Transcribed : Type 0
Transcribed =
    (line out : List ℕ) → longest < length line → (reads : List (List ℕ)) (w : List ℕ) → Writes fresh line out 0 [] 0 reads w → w ≡ transcript (flatten reads)

-- And such a program there is, for every list of reads.
pub record Run (s : Stream) (l out : List ℕ) (used : ℕ) (bytes : List ℕ) (from : ℕ) (reads : List (List ℕ)) : Type 0 where
  pub text : List ℕ
  pub writing : Writes s l out used bytes from reads text

abbrev pub Runs : Type 0
Runs = (s : Stream) (l out : List ℕ) (used : ℕ) (bytes : List ℕ) (from : ℕ) → length bytes ≤ from → (reads : List (List ℕ))
    → Run s l out used bytes from reads

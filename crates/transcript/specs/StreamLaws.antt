-- Laws of a learner over bytes: a run over bytes and more bytes, what is kept of a line and how much is written; and, as statements, what a call of
-- `feed` or `finish` puts in the output and leaves to do.
use Rattle.std.specs.Prelude.{ℕ, ◌-◌, ◌*◌, ◌≤◌, ◌≡◌, refl, ◌⊎◌, true, false, eqb}
use native.Mathlib.Omega.{arith}
use Rattle.std.proofs.Common.{sym, ◌∙◌, inl, inr}
use Rattle.std.proofs.Math.Path.{ap}
use mathlib.Core.List.{List, [], ◌∷◌, ◌++◌, append_assoc}
use Rattle.std.proofs.Math.ListN.{length, take, drop}
use Rattle.basics.specs.Bools.{true_or_false}
use Rattle.frame.specs.Format.{line_feed}
use Rattle.refusal.specs.Refusal.{answer_number}
use Rattle.learner.specs.declared.Outcome.{Outcome}
use Rattle.learner.specs.Learner.{step}
use Rattle.lines.specs.Lines.{kept, kept_length, longest_answer}
use Rattle.lines.specs.AnswerLaws.{line_short}
use Rattle.lines.specs.BufferLaws.{kept_append, length_append_kept, kept_none, length_none}
use Rattle.transcript.specs.declared.Stream.{Stream}
use Rattle.transcript.specs.Stream.{Progress, at, arrived, keeping, answer, next, writes, after, written, last, taken, FeedOutcome, feed}

-- a run over bytes and more bytes goes on from where the first ones led: so input may be cut anywhere
pub after_append : (p : Progress) (a b : List ℕ) → after p (a ++ b) ≡ after (after p a) b
unfolding after
after_append p [] b = refl
after_append p (x ∷ a) b = after_append (next p x) a b

pub written_append : (p : Progress) (a b : List ℕ) → written p (a ++ b) ≡ written p a ++ written (after p a) b
unfolding after written
written_append p [] b = refl
written_append p (x ∷ a) b =
    ap (λ (t : List ℕ). writes p x ++ t) (written_append (next p x) a b)
    ∙ sym (append_assoc (writes p x) (written (next p x) a) (written (after (next p x) a) b))

-- bytes of a line kept behind others are those of both
pub keeping_append : (p : Progress) (a b : List ℕ) → keeping (keeping p a) b ≡ keeping p (a ++ b)
unfolding keeping
keeping_append p a b =
    let s = p.stream in
    let len = length_append_kept p.line s.len a b in
    let line = kept_append p.line s.len a b in
    λ i. record { stream = record { roster = s.roster; state = s.state; started = s.started; len = len i }; line = line i }

pub keeping_none : (p : Progress) → keeping p [] ≡ p
unfolding keeping
keeping_none p =
    let s = p.stream in
    let len = length_none p.line s.len in
    let line = kept_none p.line s.len in
    λ i. record { stream = record { roster = s.roster; state = s.state; started = s.started; len = len i }; line = line i }

-- ---- how much is written

pub answer_short : (p : Progress) → length (answer p) ≤ longest_answer
unfolding answer
answer_short p = go (true_or_false p.stream.started)
  where
    o : Outcome
    o = step p.stream.roster p.stream.state (arrived p)

    go : (p.stream.started ≡ true) ⊎ (p.stream.started ≡ false) → length (answer p) ≤ longest_answer
    go (inl e) = rw e (line_short (answer_number o.answer) o.supporters)
    go (inr e) = rw e (omega arith)

pub writes_short : (p : Progress) (b : ℕ) → length (writes p b) ≤ longest_answer
unfolding writes
writes_short p b = go (true_or_false (eqb b line_feed))
  where
    go : (eqb b line_feed ≡ true) ⊎ (eqb b line_feed ≡ false) → length (writes p b) ≤ longest_answer
    go (inl e) = rw e (answer_short (keeping p (b ∷ [])))
    go (inr e) = rw e (omega arith)

pub last_short : (p : Progress) → length (last p) ≤ longest_answer
unfolding last
last_short p = go (true_or_false (eqb p.stream.len 0))
  where
    go : (eqb p.stream.len 0 ≡ true) ⊎ (eqb p.stream.len 0 ≡ false) → length (last p) ≤ longest_answer
    go (inl e) = rw e (omega arith)
    go (inr e) = rw e (answer_short p)

-- ---- what the calls put in the output

-- the bytes that a call of `feed` takes
abbrev pub these : Stream → List ℕ → List ℕ → ℕ → List ℕ → ℕ → List ℕ
these s l out used bytes from = taken (at s l) (length out - used) (drop from bytes)

-- of a call of `feed`, by what it answered and left
pub record Feeds (s : Stream) (l out : List ℕ) (used : ℕ) (bytes : List ℕ) (from : ℕ) (r : FeedOutcome) : Type 0 where
  -- the stream and the line buffer are those after these bytes
  pub after_these : at r.fed.stream r.line ≡ after (at s l) (these s l out used bytes from)
  -- these bytes and those from the place on that it answers are all
  pub rest : these s l out used bytes from ++ drop r.fed.next bytes ≡ drop from bytes
  -- the bytes of the output in use are those that were, and what is written for these bytes, whole
  pub output : used ≤ length out → take r.fed.used r.out ≡ take used out ++ written (at s l) (these s l out used bytes from)
  pub room : used ≤ length out → r.fed.used ≤ length r.out
  -- these bytes are all where the output has room for as many of the longest answers
  pub all : longest_answer * length (drop from bytes) ≤ length out - used → these s l out used bytes from ≡ drop from bytes
  pub ends : longest_answer * length (drop from bytes) ≤ length out - used → length bytes ≤ r.fed.next

abbrev pub EachFeeds : Type 0
EachFeeds = (s : Stream) (l out : List ℕ) (used : ℕ) (bytes : List ℕ) (from : ℕ) (r : FeedOutcome) → r ≡ feed s l out used bytes from
    → Feeds s l out used bytes from r

-- of a call of `finish`: the bytes of the output in use are those that were, and what is written at the end of the input, whole
abbrev pub EachFinishes : Type 0
EachFinishes = (p : Progress) (out : List ℕ) (used end : ℕ) (out' : List ℕ) → longest_answer ≤ length out - used
    → end ≡ kept_length out used (last p) → out' ≡ kept out used (last p)
    → take end out' ≡ take used out ++ last p

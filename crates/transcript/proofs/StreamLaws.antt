-- Why a call of `feed` or `finish` puts that in the output, and leaves that to do.
use Rattle.std.specs.Prelude.{ℕ, ◌+◌, ◌-◌, ◌*◌, ◌≤◌, ◌≡◌, refl, ◌⊎◌, true, false}
use native.Mathlib.Omega.{arith}
use Rattle.std.proofs.Common.{sym, ap₂, ◌∙◌, inl, inr, length-append, drop-drop, le-leb, leb-true}
use Rattle.std.proofs.Math.Path.{ap}
use mathlib.Core.List.{List, [], ◌∷◌, ◌++◌}
use Rattle.std.proofs.Math.ListN.{length, take, drop, length-drop}
use Rattle.std.proofs.Math.Seq.{length-sets}
use Rattle.basics.specs.Bools.{true_or_false}
use Rattle.lines.specs.Lines.{kept, kept_length, longest_answer}
use Rattle.lines.specs.BufferLaws.{kept_all, length_all, all_front}
use Rattle.transcript.specs.declared.Stream.{Stream}
use Rattle.transcript.specs.Stream.{Progress, at, next, writes, after, written, last, has_room, taken, FeedOutcome, feed}
use Rattle.transcript.specs.StreamLaws.{writes_short, last_short, these, EachFeeds, EachFinishes}

-- ---- calls of `feed`

-- there is room or there is none
pub room_for : (room : ℕ) → has_room room ≡ true → longest_answer ≤ room
unfolding has_room
room_for room e = leb-true longest_answer room e

pub has_room_lem : (room : ℕ) → longest_answer ≤ room → has_room room ≡ true
unfolding has_room
has_room_lem room h = le-leb longest_answer room h

-- what is written for the bytes that are taken has room
taken_fits : (p : Progress) (room : ℕ) (bs : List ℕ) → length (written p (taken p room bs)) ≤ room
unfolding taken written
taken_fits p room [] = omega arith
taken_fits p room (b ∷ bs) = go (true_or_false (has_room room)) (taken_fits (next p b) (room - length (writes p b)) bs)
  where
    rest : List ℕ
    rest = written (next p b) (taken (next p b) (room - length (writes p b)) bs)

    go : (has_room room ≡ true) ⊎ (has_room room ≡ false) → length rest ≤ room - length (writes p b) → length (written p (taken p room (b ∷ bs))) ≤ room
    go (inl e) ih = rw e (omega (arith, ih, room_for room e, writes_short p b, length-append (writes p b) rest))
    go (inr e) ih = rw e (omega arith)

-- they are the first ones
taken_rest : (p : Progress) (room : ℕ) (bs : List ℕ) → taken p room bs ++ drop (length (taken p room bs)) bs ≡ bs
unfolding taken
taken_rest p room [] = refl
taken_rest p room (b ∷ bs) = go (true_or_false (has_room room)) (taken_rest (next p b) (room - length (writes p b)) bs)
  where
    rest : List ℕ
    rest = taken (next p b) (room - length (writes p b)) bs

    go : (has_room room ≡ true) ⊎ (has_room room ≡ false) → rest ++ drop (length rest) bs ≡ bs
        → taken p room (b ∷ bs) ++ drop (length (taken p room (b ∷ bs))) (b ∷ bs) ≡ b ∷ bs
    go (inl e) ih = rw e (ap (λ (x : List ℕ). b ∷ x) ih)
    go (inr e) ih = rw e refl

-- and all of them where there is room for as many of the longest answers
taken_all : (p : Progress) (room : ℕ) (bs : List ℕ) → longest_answer * length bs ≤ room → taken p room bs ≡ bs
unfolding taken
taken_all p room [] h = refl
taken_all p room (b ∷ bs) h =
    rw (has_room_lem room (omega arith))
    (ap (λ (x : List ℕ). b ∷ x) (taken_all (next p b) (room - length (writes p b)) bs (omega (arith, writes_short p b))))

-- a call of `feed`, by what it answered and left
module _ (s : Stream) (l out : List ℕ) (used : ℕ) (bytes : List ℕ) (from : ℕ) (r : FeedOutcome) (e : r ≡ feed s l out used bytes from) where
  abbrev p : Progress
  p = at s l

  abbrev all_these : List ℕ
  all_these = these s l out used bytes from

  -- the stream and the line buffer are those after these bytes
  pub feed_after : at r.fed.stream r.line ≡ after p all_these
  unfolding feed
  feed_after = ap (λ (f : FeedOutcome). at f.fed.stream f.line) e

  -- these bytes and those from the place on that it answers are all
  pub feed_rest : all_these ++ drop r.fed.next bytes ≡ drop from bytes
  unfolding feed
  feed_rest =
      ap (λ (f : FeedOutcome). all_these ++ drop f.fed.next bytes) e
      ∙ ap (λ (x : List ℕ). all_these ++ x) (sym (drop-drop (length all_these) from bytes))
      ∙ taken_rest p (length out - used) (drop from bytes)

  -- the bytes of the output in use are those that were, and what is written for these bytes, whole
  pub feed_output : used ≤ length out → take r.fed.used r.out ≡ take used out ++ written p all_these
  unfolding feed
  feed_output h =
      ap (λ (f : FeedOutcome). take f.fed.used f.out) e
      ∙ all_front out used (written p all_these) (omega (arith, taken_fits p (length out - used) (drop from bytes)))

  pub feed_used : used ≤ length out → r.fed.used ≤ length r.out
  unfolding feed
  feed_used h =
      omega (
        arith,
        ap (λ (f : FeedOutcome). f.fed.used) e,
        ap (λ (f : FeedOutcome). length f.out) e,
        length-sets out used (written p all_these),
        taken_fits p (length out - used) (drop from bytes),
      )

  -- these bytes are all where the output has room for as many of the longest answers
  pub feed_all : longest_answer * length (drop from bytes) ≤ length out - used → all_these ≡ drop from bytes
  feed_all h = taken_all p (length out - used) (drop from bytes) h

  pub feed_ends : longest_answer * length (drop from bytes) ≤ length out - used → length bytes ≤ r.fed.next
  unfolding feed
  feed_ends h = omega (arith, ap (λ (f : FeedOutcome). f.fed.next) e, ap length (feed_all h), length-drop from bytes)

pub each_feeds : EachFeeds
each_feeds s l out used bytes from r e =
    record {
      after_these = feed_after s l out used bytes from r e;
      rest = feed_rest s l out used bytes from r e;
      output = feed_output s l out used bytes from r e;
      room = feed_used s l out used bytes from r e;
      all = feed_all s l out used bytes from r e;
      ends = feed_ends s l out used bytes from r e;
    }

-- ---- a call of `finish`

-- the bytes of the output in use are those that were, and what is written at the end of the input, whole
pub finish_output : (p : Progress) (out : List ℕ) (used end : ℕ) (out' : List ℕ) → longest_answer ≤ length out - used
    → end ≡ kept_length out used (last p) → out' ≡ kept out used (last p)
    → take end out' ≡ take used out ++ last p
finish_output p out used end out' h e f =
    let fits : used + length (last p) ≤ length out = omega (arith, last_short p) in
    ap₂ take (e ∙ length_all out used (last p) fits) (f ∙ kept_all out used (last p) fits) ∙ all_front out used (last p) fits

pub each_finishes : EachFinishes
each_finishes = finish_output

-- What is written for an input is the transcript of all its bytes together, however it was cut into reads and wherever the output was emptied.
use Rattle.std.specs.Prelude.{ℕ, ◌-◌, ◌*◌, ◌≤◌, ◌<◌, ◌≡◌, refl, ◌⊎◌, true, false, cond, eqb, length, take, drop, replicate}
use Rattle.std.proofs.Common.{arith, sym, ap₂, ◌∙◌, inl, inr, length-take, drop_of_length-le, eq-eqb, ne_eqb}
use Rattle.std.proofs.Math.Path.{ap}
use mathlib.Core.List.{List, [], ◌∷◌, ◌++◌, append-nil, append_assoc, flatten}
use Rattle.std.proofs.lemmas.List.{length-replicate}
use Rattle.std.proofs.Math.Seq.{take-nil}
use Rattle.basics.specs.Bools.{true_or_false}
use Rattle.frame.specs.Format.{line_feed}
use Rattle.frame.specs.Layout.{longest}
use Rattle.roster.specs.declared.Roster.{Roster}
use Rattle.learner.specs.declared.State.{State}
use Rattle.learner.specs.declared.Outcome.{Outcome}
use Rattle.learner.specs.Learner.{step}
use Rattle.learner.specs.Run.{outcomes}
use Rattle.lines.specs.Lines.{lines_of, ends, roster_of, kept, kept_length, longest_answer}
use Rattle.lines.specs.BufferLaws.{kept_line, length_kept}
use Rattle.lines.specs.LinesLaws.{lines_feed, lines_unfinished, no_feed_more}
use Rattle.transcript.specs.declared.Stream.{Stream}
use Rattle.transcript.specs.Transcript.{said, text, answers, transcript}
use Rattle.transcript.specs.Stream.{Progress, fresh, at, arrived, keeping, ended, answer, next, writes, after, written, last}
use Rattle.transcript.specs.Stream.{FeedOutcome, feed, Writes, feeds, empties, used_up, finishes, Transcribed, Runs}
use Rattle.transcript.specs.StreamLaws.{after_append, written_append, these}
use Rattle.transcript.proofs.StreamLaws.{feed_after, feed_output, feed_used, feed_rest, feed_ends, finish_output}
use Rattle.transcript.specs.CutLaws.{step_cut, roster_cut}

-- ---- what is kept of a line

-- u is the line that arrives at p, and the buffer has room for more than the longest line
record Arrives (p : Progress) (u : List ℕ) : Type 0 where
  room : longest < length p.line
  open_ended : ends u ≡ false
  front : arrived p ≡ take (length p.line) u
  size : p.stream.len ≡ length (take (length p.line) u)

-- what is kept of u and more bytes
module _ {p : Progress} {u : List ℕ} (a : Arrives p u) (bs : List ℕ) where
  kept_room : longest < length (keeping p bs).line
  unfolding keeping
  kept_room = omega (arith, a.room, length_kept p.line p.stream.len bs)

  kept_front : arrived (keeping p bs) ≡ take (length (keeping p bs).line) (u ++ bs)
  unfolding keeping
  kept_front = rw (length_kept p.line p.stream.len bs) (kept_line p.line p.stream.len u bs a.front a.size).0

  kept_size : (keeping p bs).stream.len ≡ length (take (length (keeping p bs).line) (u ++ bs))
  unfolding keeping
  kept_size = rw (length_kept p.line p.stream.len bs) (kept_line p.line p.stream.len u bs a.front a.size).1

-- a step on what is kept is the step on the line, and so with the roster
module _ (p : Progress) (u : List ℕ) (room : longest < length p.line) (front : arrived p ≡ take (length p.line) u) where
  step_kept : step p.stream.roster p.stream.state (arrived p) ≡ step p.stream.roster p.stream.state u
  step_kept = ap (step p.stream.roster p.stream.state) front ∙ step_cut (length p.line) u p.stream.roster p.stream.state room

  roster_kept : roster_of (arrived p) ≡ roster_of u
  roster_kept = ap roster_of front ∙ roster_cut (length p.line) u (omega arith)

-- ---- what is to be written from a place on, given the lines to come, the one that arrives being the first

answers_from : State → List (List ℕ) → List ℕ
answers_from s [] = []
answers_from s (line ∷ lines) = text (outcomes (roster_of line) s lines)

to_write : Progress → List (List ℕ) → List ℕ
to_write p lines = cond p.stream.started (text (outcomes p.stream.roster p.stream.state lines)) (answers_from p.stream.state lines)

-- ---- a line ends

module _ (p : Progress) (u : List ℕ) (room : longest < length p.line) (front : arrived p ≡ take (length p.line) u) (lines : List (List ℕ)) where
  line_ended : answer p ++ to_write (ended p) lines ≡ to_write p (u ∷ lines)
  unfolding answer ended to_write answers_from outcomes text
  line_ended = go (true_or_false p.stream.started)
    where
      go : (p.stream.started ≡ true) ⊎ (p.stream.started ≡ false) → answer p ++ to_write (ended p) lines ≡ to_write p (u ∷ lines)
      go (inl e) = rw e (ap (λ (o : Outcome). said o ++ text (outcomes p.stream.roster o.state lines)) (step_kept p u room front))
      go (inr e) = rw e (ap (λ (r : Roster). text (outcomes r p.stream.state lines)) (roster_kept p u room front))

-- after it nothing is kept, and no line to come means nothing to write
ended_empty : (p : Progress) → (ended p).stream.len ≡ 0
unfolding ended
ended_empty p = go (true_or_false p.stream.started)
  where
    go : (p.stream.started ≡ true) ⊎ (p.stream.started ≡ false) → (ended p).stream.len ≡ 0
    go (inl e) = rw e
    go (inr e) = rw e

no_lines : (p : Progress) → to_write p [] ≡ []
unfolding to_write answers_from outcomes text
no_lines p = go (true_or_false p.stream.started)
  where
    go : (p.stream.started ≡ true) ⊎ (p.stream.started ≡ false) → to_write p [] ≡ []
    go (inl e) = rw e
    go (inr e) = rw e

ended_arrives : (p : Progress) → longest < length p.line → Arrives (ended p) []
unfolding ended ends
ended_arrives p h =
    record {
      room = h;
      open_ended = refl;
      front = ap (λ (n : ℕ). take n p.line) (ended_empty p) ∙ sym (take-nil (length p.line));
      size = ended_empty p ∙ ap length (sym (take-nil {A = ℕ} (length p.line)));
    }

-- ---- the end of the input

at_end : {p : Progress} (u : List ℕ) → Arrives p u → last p ≡ to_write p (lines_of u)
unfolding last lines_of
at_end {p} [] a = rw (eq-eqb p.stream.len 0 (a.size ∙ ap length (take-nil {A = ℕ} (length p.line)))) (sym (no_lines p))
at_end {p} (x ∷ u) a =
    let some : (p.stream.len ≡ 0 → ⊥) = λ e. omega (arith, a.room, a.size, length-take (length p.line) (x ∷ u)) in
    rw (ne_eqb p.stream.len 0 some)
    (sym (append-nil (answer p))
    ∙ ap (λ (t : List ℕ). answer p ++ t) (sym (no_lines (ended p)))
    ∙ line_ended p (x ∷ u) a.room a.front []
    ∙ ap (to_write p) (sym (lines_unfinished x u a.open_ended)))

-- ---- bytes, whatever line arrives

-- what is written from p on for bytes that the input ends with
abbrev all_written : Progress → List ℕ → List ℕ
all_written p bs = written p bs ++ last (after p bs)

abbrev Writing : Progress → List ℕ → List ℕ → Type 0
Writing p u bs = all_written p bs ≡ to_write p (lines_of (u ++ bs))

module _ {p : Progress} {u : List ℕ} (a : Arrives p u) (b : ℕ) (bs : List ℕ) where
  at_feed : eqb b line_feed ≡ true → Writing (ended (keeping p (b ∷ []))) [] bs → Writing p u (b ∷ bs)
  unfolding written after next writes keeping to_write
  at_feed e ih =
      let q = keeping p (b ∷ []) in
      rw e
      (append_assoc (answer q) (written (ended q) bs) (last (after (ended q) bs))
      ∙ ap (λ (t : List ℕ). answer q ++ t) ih
      ∙ line_ended q (u ++ b ∷ []) (kept_room a (b ∷ [])) (kept_front a (b ∷ [])) (lines_of bs)
      ∙ ap (to_write p) (sym (lines_feed u b bs a.open_ended e)))

  at_other : eqb b line_feed ≡ false → Writing (keeping p (b ∷ [])) (u ++ b ∷ []) bs → Writing p u (b ∷ bs)
  unfolding written after next writes keeping to_write
  at_other e ih = rw e (ih ∙ ap (λ (t : List ℕ). to_write p (lines_of t)) (append_assoc u (b ∷ []) bs))

  more_arrives : eqb b line_feed ≡ false → Arrives (keeping p (b ∷ [])) (u ++ b ∷ [])
  more_arrives e =
      record {
        room = kept_room a (b ∷ []);
        open_ended = no_feed_more u b a.open_ended e;
        front = kept_front a (b ∷ []);
        size = kept_size a (b ∷ []);
      }

writing : {p : Progress} {u : List ℕ} → Arrives p u → (bs : List ℕ) → Writing p u bs
unfolding written after
writing {p} {u} a [] = at_end u a ∙ ap (λ (t : List ℕ). to_write p (lines_of t)) (sym (append-nil u))
writing {p} {u} a (b ∷ bs) =
    go
    (true_or_false (eqb b line_feed))
    (λ h. writing {p = ended (keeping p (b ∷ []))} {u = []} h bs)
    (λ h. writing {p = keeping p (b ∷ [])} {u = u ++ b ∷ []} h bs)
  where
    go : (eqb b line_feed ≡ true) ⊎ (eqb b line_feed ≡ false)
        → (Arrives (ended (keeping p (b ∷ []))) [] → Writing (ended (keeping p (b ∷ []))) [] bs)
        → (Arrives (keeping p (b ∷ [])) (u ++ b ∷ []) → Writing (keeping p (b ∷ [])) (u ++ b ∷ []) bs)
        → Writing p u (b ∷ bs)
    go (inl e) f g = at_feed a b bs e (f (ended_arrives (keeping p (b ∷ [])) (kept_room a (b ∷ []))))
    go (inr e) f g = at_other a b bs e (g (more_arrives a b bs e))

-- ---- all reads

all_append : (p : Progress) (a b : List ℕ) → written p a ++ all_written (after p a) b ≡ all_written p (a ++ b)
all_append p a b =
    sym (append_assoc (written p a) (written (after p a) b) (last (after (after p a) b)))
    ∙ ap₂ (λ (x : List ℕ) (q : Progress). x ++ last q) (sym (written_append p a b)) (sym (after_append p a b))

-- what is written is what the output holds, and then what is written for all bytes that are not taken yet
abbrev Together : Stream → List ℕ → List ℕ → ℕ → List ℕ → ℕ → List (List ℕ) → List ℕ → Type 0
Together s l out used bytes from more w = w ≡ take used out ++ all_written (at s l) (drop from bytes ++ flatten more)

module _ (s : Stream) (l out : List ℕ) (used : ℕ) (bytes : List ℕ) (from : ℕ) (more : List (List ℕ)) (w : List ℕ) where
  after_feed : (r : FeedOutcome) → r ≡ feed s l out used bytes from → used ≤ length out
      → Together r.fed.stream r.line r.out r.fed.used bytes r.fed.next more w
      → Together s l out used bytes from more w
  after_feed r e h ih =
      let p = at s l in
      let t = these s l out used bytes from in
      let rest = drop r.fed.next bytes ++ flatten more in
      ih
      ∙ ap₂ (λ (x : List ℕ) (q : Progress). x ++ all_written q rest) (feed_output s l out used bytes from r e h) (feed_after s l out used bytes from r e)
      ∙ append_assoc (take used out) (written p t) (all_written (after p t) rest)
      ∙ ap (λ (x : List ℕ). take used out ++ x) (all_append p t rest)
      ∙ ap (λ (x : List ℕ). take used out ++ all_written p x)
      (sym (append_assoc t (drop r.fed.next bytes) (flatten more))
      ∙ ap (λ (x : List ℕ). x ++ flatten more) (feed_rest s l out used bytes from r e))

none_left : (bytes : List ℕ) (from : ℕ) (more : List (List ℕ)) → length bytes ≤ from → drop from bytes ++ flatten more ≡ flatten more
none_left bytes from more h = ap (λ (x : List ℕ). x ++ flatten more) (drop_of_length-le bytes h)

put_together : {s : Stream} {l out : List ℕ} {used : ℕ} {bytes : List ℕ} {from : ℕ} {more : List (List ℕ)} {w : List ℕ} → used ≤ length out
    → Writes s l out used bytes from more w → Together s l out used bytes from more w
unfolding flatten written after
put_together {s} {l} {out} {used} {bytes} {from} {more} {w} h (feeds r e d) =
    after_feed s l out used bytes from more w r e h (put_together (feed_used s l out used bytes from r e h) d)
put_together {out = out} {used = used} h (empties fresh-out d) = ap (λ (x : List ℕ). take used out ++ x) (put_together (omega arith) d)
put_together {s} {l} {out} {used} {bytes} {from} h (used_up {read = read} {more = more} u d) =
    put_together h d ∙ ap (λ (x : List ℕ). take used out ++ all_written (at s l) x) (sym (none_left bytes from (read ∷ more) u))
put_together {s} {l} {out} {used} {bytes} {from} h (finishes end out' u room e f) =
    finish_output (at s l) out used end out' room e f ∙ ap (λ (x : List ℕ). take used out ++ all_written (at s l) x) (sym (none_left bytes from [] u))

fresh_arrives : (line : List ℕ) → longest < length line → Arrives (at fresh line) []
unfolding ends
fresh_arrives line h = record { room = h; open_ended = refl; front = sym (take-nil (length line)); size = ap length (sym (take-nil {A = ℕ} (length line))) }

-- the theorem
pub transcribed : Transcribed
unfolding transcript answers to_write answers_from
transcribed line out h reads w d =
    put_together (omega arith) d ∙ writing (fresh_arrives line h) (flatten reads) ∙ first_line (lines_of (flatten reads))
  where
    first_line : (lines : List (List ℕ)) → to_write (at fresh line) lines ≡ answers lines
    first_line [] = refl
    first_line (x ∷ lines) = refl

-- ---- such a program there is, for every list of reads: each is fed whole, with an output that has room for an answer to each byte

pub runs : Runs
runs s l out used bytes from h [] =
    let o : List ℕ = replicate longest_answer 0 in
    let end = kept_length o 0 (last (at s l)) in
    let out' = kept o 0 (last (at s l)) in
    let room : longest_answer ≤ length o - 0 = omega (arith, length-replicate {A = ℕ} longest_answer 0) in
    record {
      text = take used out ++ take end out';
      writing = empties o (finishes end out' h room refl refl);
    }
runs s l out used bytes from h (read ∷ more) =
    let o : List ℕ = replicate (longest_answer * length read) 0 in
    let r = feed s l o 0 read 0 in
    let room : longest_answer * length read ≤ length o - 0 = omega (arith, length-replicate {A = ℕ} (longest_answer * length read) 0) in
    let rest = runs r.fed.stream r.line r.out r.fed.used read r.fed.next (feed_ends s l o 0 read 0 r refl room) more in
    record { text = take used out ++ rest.text; writing = empties o (used_up h (feeds r refl rest.writing)) }

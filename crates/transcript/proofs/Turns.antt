-- A turn of `feed`: what is left to do after the bytes of a line, through its line feed or as many as there are, leads to the same. And what there
-- is to put at the end of the input.
use Prim.Native.Nat.{ℕ, ◌+◌, ◌-◌, ◌≤◌, ◌<◌}
use native.Mathlib.Nat.{add-zero, sub-zero}
use native.Mathlib.Omega.{arith}
use mathlib.Core.Path.{◌≡◌, refl, sym, ap, ap₂, ◌∙◌}
use mathlib.Core.Logic.{◌⊎◌, inl, inr}
use mathlib.Core.Bool.{Bool, true, false, true≢false}
use mathlib.Core.List.{List, [], ◌∷◌, ◌++◌, append-nil}
use lib.Dec.{eqb}
use lib.ListN.{length, take, drop, length-append, drop_of_length-le}
use lib.Seq.{sets, length-sets, drop-drop}
use borrow.Author.Tests.{eq-eqb, ne_eqb}
use Rattle.basics.specs.Bools.{true_or_false}
use Rattle.basics.specs.Lists.{drop_next}
use Rattle.roster.specs.declared.Roster.{Roster}
use Rattle.frame.specs.Format.{line_feed}
use Rattle.refusal.specs.Refusal.{answer_number}
use Rattle.learner.specs.declared.Outcome.{Outcome}
use Rattle.learner.specs.Learner.{step}
use Rattle.lines.specs.declared.Pulled.{Pulled}
use Rattle.lines.specs.Lines.{roster_of, through, ends, kept, kept_length, pulled, longest_answer}
use Rattle.lines.specs.LinesLaws.{through_feed, through_other, ends_other, no_feed_first, no_feed_rest}
use Rattle.lines.specs.BufferLaws.{sets_append, kept_none, length_none, kept_all, length_all}
use Rattle.lines.specs.AnswerLaws.{line_short}
use Rattle.transcript.specs.declared.Stream.{Stream}
use Rattle.transcript.specs.Transcript.{said}
use Rattle.transcript.specs.Stream.{Progress, at, keeping, ended, answer, next, writes, after, written, last, has_room, taken, FeedOutcome, feed_outcome, feed}
use Rattle.transcript.specs.StreamLaws.{after_append, written_append, keeping_append, keeping_none}
use Rattle.transcript.proofs.StreamLaws.{has_room_lem}

-- ---- the bytes of a line

-- a byte that is none is kept, and a line feed ends the line
module _ (p : Progress) (b : ℕ) where
  other_step : (c : List ℕ) → eqb b line_feed ≡ false
      → (after p (b ∷ c) ≡ after (keeping p (b ∷ [])) c) × (written p (b ∷ c) ≡ written (keeping p (b ∷ [])) c)
  unfolding after written next writes
  other_step c e = rw e (refl, refl)

  feed_step : eqb b line_feed ≡ true → (after p (b ∷ []) ≡ ended (keeping p (b ∷ []))) × (written p (b ∷ []) ≡ answer (keeping p (b ∷ [])))
  unfolding after written next writes
  feed_step e = rw e (refl, append-nil (answer (keeping p (b ∷ []))))

-- bytes without a line feed are kept, and nothing is written
none_open : (p : Progress) → (after p (through []) ≡ keeping p (through [])) × (written p (through []) ≡ [])
unfolding after written through
none_open p = (sym (keeping_none p), refl)

pub kept_open : (p : Progress) (bs : List ℕ) → ends bs ≡ false → (after p (through bs) ≡ keeping p (through bs)) × (written p (through bs) ≡ [])
kept_open p [] h = none_open p
kept_open p (b ∷ bs) h =
    let e = no_feed_first b bs h in
    let ih = kept_open (keeping p (b ∷ [])) bs (no_feed_rest b bs h) in
    let s = other_step p b (through bs) e in
    rw (through_other b bs e) (s.0 ∙ ih.0 ∙ keeping_append p (b ∷ []) (through bs), s.1 ∙ ih.1)

-- with a line feed they are the line that ends
abbrev Ends : Progress → List ℕ → Type 0
Ends p c = (after p c ≡ ended (keeping p c)) × (written p c ≡ answer (keeping p c))

pub kept_ended : (p : Progress) (bs : List ℕ) → ends bs ≡ true → Ends p (through bs)
unfolding ends
kept_ended p [] h = absurd (true≢false (sym h))
kept_ended p (b ∷ bs) h = go (true_or_false (eqb b line_feed)) (λ g. kept_ended (keeping p (b ∷ [])) bs g)
  where
    go : (eqb b line_feed ≡ true) ⊎ (eqb b line_feed ≡ false) → (ends bs ≡ true → Ends (keeping p (b ∷ [])) (through bs)) → Ends p (through (b ∷ bs))
    go (inl e) f = rw (through_feed b bs e) (feed_step p b e)
    go (inr e) f =
        let ih = f (sym (ends_other b bs e) ∙ h) in
        let s = other_step p b (through bs) e in
        let k = keeping_append p (b ∷ []) (through bs) in
        rw (through_other b bs e) (s.0 ∙ ih.0 ∙ ap ended k, s.1 ∙ ih.1 ∙ ap answer k)

-- ---- how far the bytes are taken

-- where there is a byte, some are taken
through_some : (bytes : List ℕ) (i : ℕ) → i < length bytes → 0 < length (through (drop i bytes))
unfolding through
through_some bytes i h = rw (drop_next bytes i h) (omega arith)

-- what is taken is a list c at the front of the bytes, and then what is taken after it
abbrev TakenAfter : Progress → ℕ → List ℕ → List ℕ → Type 0
TakenAfter p room c bs = taken p room bs ≡ c ++ taken (after p c) (room - length (written p c)) (drop (length c) bs)

none_taken : (p : Progress) (room : ℕ) → TakenAfter p room (through []) []
unfolding taken through
none_taken p room = refl

module _ (p : Progress) (room : ℕ) (h : longest_answer ≤ room) (b : ℕ) (bs : List ℕ) where
  at_feed : TakenAfter p room (b ∷ []) (b ∷ bs)
  unfolding taken after written
  at_feed = rw (has_room_lem room h, append-nil (writes p b))

  at_other : (c : List ℕ) → eqb b line_feed ≡ false → TakenAfter (keeping p (b ∷ [])) room c bs → TakenAfter p room (b ∷ c) (b ∷ bs)
  unfolding taken after written next writes
  at_other c e ih = rw (has_room_lem room h, e, sub-zero room) (ap (λ (x : List ℕ). b ∷ x) ih)

pub taken_through : (p : Progress) (room : ℕ) → longest_answer ≤ room → (bs : List ℕ) → TakenAfter p room (through bs) bs
taken_through p room h [] = none_taken p room
taken_through p room h (b ∷ bs) = go (true_or_false (eqb b line_feed)) (taken_through (keeping p (b ∷ [])) room h bs)
  where
    go : (eqb b line_feed ≡ true) ⊎ (eqb b line_feed ≡ false)
        → TakenAfter (keeping p (b ∷ [])) room (through bs) bs → TakenAfter p room (through (b ∷ bs)) (b ∷ bs)
    go (inl e) ih = rw (through_feed b bs e) (at_feed p room h b bs)
    go (inr e) ih = rw (through_other b bs e) (at_other p room h b bs (through bs) e ih)

taken_empty : (p : Progress) (room : ℕ) → taken p room [] ≡ []
unfolding taken
taken_empty p room = refl

taken_full : (p : Progress) (room : ℕ) (bs : List ℕ) → has_room room ≡ false → taken p room bs ≡ []
unfolding taken
taken_full p room [] e = refl
taken_full p room (b ∷ bs) e = rw e

taken_none : (p : Progress) (room : ℕ) (bytes : List ℕ) (from : ℕ) → (length bytes ≤ from) ⊎ (has_room room ≡ false) → taken p room (drop from bytes) ≡ []
taken_none p room bytes from (inl h) = ap (taken p room) (drop_of_length-le bytes h) ∙ taken_empty p room
taken_none p room bytes from (inr h) = taken_full p room (drop from bytes) h

-- ---- a call of `feed`, taken as far as some bytes

-- what it answers and leaves if it takes the bytes t
abbrev Taking : Progress → List ℕ → ℕ → ℕ → List ℕ → FeedOutcome
Taking p out used from t =
    feed_outcome
    (record { stream = (after p t).stream; next = from + length t; used = used + length (written p t) })
    (after p t).line
    (sets out used (written p t))

-- to take two lists of bytes is to take one and then the other
taking_append : (p : Progress) (out : List ℕ) (used from : ℕ) (c t : List ℕ)
    → Taking (after p c) (sets out used (written p c)) (used + length (written p c)) (from + length c) t
    ≡ Taking p out used from (c ++ t)
taking_append p out used from c t =
    let q = sym (after_append p c t) in
    let w = sym (written_append p c t) in
    let place : from + length c + length t ≡ from + length (c ++ t) = omega (arith, length-append c t) in
    let size : used + length (written p c) + length (written (after p c) t) ≡ used + length (written p (c ++ t))
    = omega (arith, length-append (written p c) (written (after p c) t), ap length w) in
    let out' : sets (sets out used (written p c)) (used + length (written p c)) (written (after p c) t) ≡ sets out used (written p (c ++ t))
    = sets_append out used (written p c) (written (after p c) t) ∙ ap (sets out used) w in
    λ i. feed_outcome (record { stream = (q i).stream; next = place i; used = size i }) (q i).line (out' i)

-- a stream with so many bytes of a line, with its roster, and after an outcome
abbrev with_len : Stream → ℕ → Stream
with_len s n = record { roster = s.roster; state = s.state; started = s.started; len = n }

abbrev with_roster : Stream → Roster → Stream
with_roster s r = record { roster = r; state = s.state; started = true; len = 0 }

abbrev with_outcome : Stream → Outcome → Stream
with_outcome s o = record { roster = s.roster; state = o.state; started = true; len = 0 }

module _ (s : Stream) (l out : List ℕ) (used : ℕ) (bytes : List ℕ) (from : ℕ) where
  abbrev p : Progress
  p = at s l

  abbrev piece : List ℕ
  piece = through (drop from bytes)

  -- a turn takes the bytes through the first line feed
  turn : longest_answer ≤ length out - used
      → feed (after p piece).stream (after p piece).line (sets out used (written p piece)) (used + length (written p piece)) bytes (from + length piece)
      ≡ feed s l out used bytes from
  unfolding feed
  turn h =
      let bs = drop from bytes in
      let w = written p piece in
      let q = after p piece in
      let rest = drop (length piece) bs in
      let room = length out - used - length w in
      let left : length (sets out used w) - (used + length w) ≡ room = omega (arith, length-sets out used w) in
      ap₂ (λ (r : ℕ) (d : List ℕ). Taking q (sets out used w) (used + length w) (from + length piece) (taken q r d))
      left (sym (drop-drop (length piece) from bytes))
      ∙ taking_append p out used from piece (taken q room rest)
      ∙ ap (Taking p out used from) (sym (taken_through p (length out - used) h bs))

  -- without a byte or room, nothing is taken
  pub stops : (length bytes ≤ from) ⊎ (has_room (length out - used) ≡ false)
      → feed_outcome (record { stream = s; next = from; used = used }) l out ≡ feed s l out used bytes from
  unfolding feed after written
  stops h =
      let none = taken_none p (length out - used) bytes from h in
      ap₂ (λ (n u : ℕ). feed_outcome (record { stream = s; next = n; used = u }) l out) (sym (add-zero from)) (sym (add-zero used))
      ∙ ap (Taking p out used from) (sym none)

  -- ---- the turns of the code

  abbrev size : ℕ
  size = kept_length l s.len piece

  abbrev line : List ℕ
  line = kept l s.len piece

  turn_to : longest_answer ≤ length out - used → (q : Progress) (w : List ℕ) → after p piece ≡ q → written p piece ≡ w
      → feed q.stream q.line (sets out used w) (used + length w) bytes (from + length piece) ≡ feed s l out used bytes from
  turn_to h q w e f =
      ap₂ (λ (q : Progress) (w : List ℕ). feed q.stream q.line (sets out used w) (used + length w) bytes (from + length piece)) (sym e) (sym f) ∙ turn h

  turn_silent : longest_answer ≤ length out - used → (q : Progress) → after p piece ≡ q → written p piece ≡ []
      → feed q.stream q.line out used bytes (from + length piece) ≡ feed s l out used bytes from
  turn_silent h q e f =
      ap (λ (u : ℕ). feed q.stream q.line out u bytes (from + length piece)) (sym (add-zero used)) ∙ turn_to h q [] e f

  -- bytes without a line feed are kept
  turn_open : longest_answer ≤ length out - used → ends (drop from bytes) ≡ false
      → feed (with_len s size) line out used bytes (from + length piece)
      ≡ feed s l out used bytes from
  unfolding keeping
  turn_open h e = let k = kept_open p (drop from bytes) e in turn_silent h (keeping p piece) k.0 k.1

  -- the first line is the roster
  turn_first : longest_answer ≤ length out - used → ends (drop from bytes) ≡ true → s.started ≡ false
      → feed (with_roster s (roster_of (take size line))) line out used bytes (from + length piece)
      ≡ feed s l out used bytes from
  unfolding keeping ended answer
  turn_first h e b =
      let k = kept_ended p (drop from bytes) e in
      turn_silent h (at (with_roster s (roster_of (take size line))) line) (k.0 ∙ rw b refl) (k.1 ∙ rw b refl)

  -- what is left after an outcome was put
  abbrev answering : Outcome → List ℕ → ℕ → FeedOutcome
  answering o y n = feed (with_outcome s o) y (kept out used (said o)) (kept_length out used (said o)) bytes n

  -- a later line is answered
  turn_later : longest_answer ≤ length out - used → ends (drop from bytes) ≡ true → s.started ≡ true
      → answering (step s.roster s.state (take size line)) line (from + length piece) ≡ feed s l out used bytes from
  unfolding keeping ended answer
  turn_later h e b =
      let o = step s.roster s.state (take size line) in
      let q = at (with_outcome s o) line in
      let k = kept_ended p (drop from bytes) e in
      let fits : used + length (said o) ≤ length out = omega (arith, line_short (answer_number o.answer) o.supporters) in
      ap₂ (λ (x : List ℕ) (u : ℕ). feed q.stream q.line x u bytes (from + length piece))
      (kept_all out used (said o) fits) (length_all out used (said o) fits)
      ∙ turn_to h q (said o) (k.0 ∙ rw b refl) (k.1 ∙ rw b refl)

  -- the same, where r is what `pull` answered, and l' what it left in the line buffer
  module _ (h : longest_answer ≤ length out - used) (r : Pulled) (l' : List ℕ) (e : r ≡ pulled l s.len (drop from bytes) from) (f : l' ≡ line) where
    whole_is : r.whole ≡ ends (drop from bytes)
    unfolding pulled
    whole_is = ap (λ (x : Pulled). x.whole) e

    pub on_open : r.whole ≡ false
        → feed (with_len s r.len) l' out used bytes r.next ≡ feed s l out used bytes from
    unfolding pulled
    on_open w =
        ap₂ (λ (x : Pulled) (y : List ℕ). feed (with_len s x.len) y out used bytes x.next) e f
        ∙ turn_open h (sym whole_is ∙ w)

    pub on_first : r.whole ≡ true → s.started ≡ false
        → feed (with_roster s (roster_of (take r.len l'))) l' out used bytes r.next
        ≡ feed s l out used bytes from
    unfolding pulled
    on_first w b =
        ap₂ (λ (x : Pulled) (y : List ℕ). feed (with_roster s (roster_of (take x.len y))) y out used bytes x.next) e f
        ∙ turn_first h (sym whole_is ∙ w) b

    -- o is the step's outcome, and what is put for it leaves out' and end
    pub on_later : r.whole ≡ true → s.started ≡ true → (o : Outcome) → o ≡ step s.roster s.state (take r.len l')
        → (out' : List ℕ) (end : ℕ) → out' ≡ kept out used (said o) → end ≡ kept_length out used (said o)
        → feed (record { roster = s.roster; state = o.state; started = s.started; len = 0 }) l' out' end bytes r.next
        ≡ feed s l out used bytes from
    unfolding pulled
    on_later w b o k out' end i j =
        ap (λ (t : Bool). feed (record { roster = s.roster; state = o.state; started = t; len = 0 }) l' out' end bytes r.next) b
        ∙ ap₂ (λ (x : List ℕ) (u : ℕ). feed (with_outcome s o) l' x u bytes r.next) i j
        ∙ ap (λ (o : Outcome). answering o l' r.next) k
        ∙ ap₂ (λ (x : Pulled) (y : List ℕ). answering (step s.roster s.state (take x.len y)) y x.next) e f
        ∙ turn_later h (sym whole_is ∙ w) b

    -- and some byte is taken, if there is one
    pub goes_on : from < length bytes → from < r.next
    unfolding pulled
    goes_on i = omega (arith, ap (λ (x : Pulled). x.next) e, through_some bytes from i)

-- ---- the end of the input

module _ (s : Stream) (l : List ℕ) where
  -- before the first line has ended, or where nothing is kept, there is nothing to put
  unstarted : s.started ≡ false → last (at s l) ≡ []
  unfolding last answer
  unstarted b = go (true_or_false (eqb s.len 0))
    where
      go : (eqb s.len 0 ≡ true) ⊎ (eqb s.len 0 ≡ false) → last (at s l) ≡ []
      go (inl e) = rw e
      go (inr e) = rw (e, b)

  none_kept : s.len ≡ 0 → last (at s l) ≡ []
  unfolding last
  none_kept e = rw (eq-eqb s.len 0 e)

  module _ (out : List ℕ) (used : ℕ) where
    silent : last (at s l) ≡ [] → (used ≡ kept_length out used (last (at s l))) × (out ≡ kept out used (last (at s l)))
    silent e = rw e (sym (length_none out used), sym (kept_none out used))

    pub before_start : s.started ≡ false → (used ≡ kept_length out used (last (at s l))) × (out ≡ kept out used (last (at s l)))
    before_start b = silent (unstarted b)

    pub between_lines : s.len ≡ 0 → (used ≡ kept_length out used (last (at s l))) × (out ≡ kept out used (last (at s l)))
    between_lines e = silent (none_kept e)

  -- else the answer to what is kept
  pub unfinished : s.started ≡ true → (s.len ≡ 0 → ⊥) → said (step s.roster s.state (take s.len l)) ≡ last (at s l)
  unfolding last answer
  unfinished b e = rw (ne_eqb s.len 0 e, b)

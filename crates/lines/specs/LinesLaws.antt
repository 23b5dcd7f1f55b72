-- Laws of the lines of bytes.
use Rattle.std.specs.Prelude.{ℕ, ◌≡◌, refl, ◌⊎◌, Bool, true, false, cond, eqb, length, drop}
use Rattle.std.proofs.Common.{sym, ap, ◌∙◌, inl, inr, true≢false}
use mathlib.Core.List.{List, [], ◌∷◌, ◌++◌, flatten}
use Rattle.basics.specs.Bools.{true_or_false, or_left, or_right}
use Rattle.frame.specs.Format.{line_feed}
use Rattle.lines.specs.Lines.{joined, lines_of, through, ends}

-- the lines, put together, are the bytes
flat_joined : (b : ℕ) (lines : List (List ℕ)) → flatten (joined b lines) ≡ b ∷ flatten lines
unfolding joined flatten
flat_joined b [] = refl
flat_joined b (line ∷ lines) = refl

pub lines_flat : (bs : List ℕ) → flatten (lines_of bs) ≡ bs
unfolding lines_of flatten
lines_flat [] = refl
lines_flat (b ∷ bs) = go (eqb b line_feed) ∙ ap (λ (s : List ℕ). b ∷ s) (lines_flat bs)
  where
    go : (e : Bool) → flatten (cond e ((b ∷ []) ∷ lines_of bs) (joined b (lines_of bs))) ≡ b ∷ flatten (lines_of bs)
    go true = refl
    go false = flat_joined b (lines_of bs)

-- ---- through the first line feed

module _ (b : ℕ) (bs : List ℕ) where
  pub through_feed : eqb b line_feed ≡ true → through (b ∷ bs) ≡ b ∷ []
  unfolding through
  through_feed e = rw e

  pub through_other : eqb b line_feed ≡ false → through (b ∷ bs) ≡ b ∷ through bs
  unfolding through
  through_other e = rw e

  pub ends_feed : eqb b line_feed ≡ true → ends (b ∷ bs) ≡ true
  unfolding ends
  ends_feed e = rw e

  pub ends_other : eqb b line_feed ≡ false → ends (b ∷ bs) ≡ ends bs
  unfolding ends
  ends_other e = rw e

-- ---- bytes without a line feed

-- none of them is one
module _ (b : ℕ) (bs : List ℕ) (h : ends (b ∷ bs) ≡ false) where
  pub no_feed_first : eqb b line_feed ≡ false
  unfolding ends
  no_feed_first = or_left (eqb b line_feed) (ends bs) h

  pub no_feed_rest : ends bs ≡ false
  unfolding ends
  no_feed_rest = or_right (eqb b line_feed) (ends bs) h

-- bytes and another without a line feed have none
pub no_feed_more : (u : List ℕ) (b : ℕ) → ends u ≡ false → eqb b line_feed ≡ false → ends (u ++ b ∷ []) ≡ false
unfolding ends
no_feed_more [] b h e = rw e
no_feed_more (x ∷ u) b h e = rw (no_feed_first x u h) (no_feed_more u b (no_feed_rest x u h) e)

-- with a line feed behind them they are the first line
pub lines_feed : (u : List ℕ) (b : ℕ) (bs : List ℕ) → ends u ≡ false → eqb b line_feed ≡ true → lines_of (u ++ b ∷ bs) ≡ (u ++ b ∷ []) ∷ lines_of bs
unfolding lines_of joined
lines_feed [] b bs h e = rw e
lines_feed (x ∷ u) b bs h e = rw (no_feed_first x u h) (ap (joined x) (lines_feed u b bs (no_feed_rest x u h) e))

-- and at the end of all bytes they are a line too, if there is any
pub lines_unfinished : (b : ℕ) (bs : List ℕ) → ends (b ∷ bs) ≡ false → lines_of (b ∷ bs) ≡ (b ∷ bs) ∷ []
unfolding lines_of joined
lines_unfinished b [] h = rw (no_feed_first b [] h)
lines_unfinished b (x ∷ bs) h = rw (no_feed_first b (x ∷ bs) h) (ap (joined b) (lines_unfinished x bs (no_feed_rest b (x ∷ bs) h)))

-- ---- pulling lines

joined_first : (b : ℕ) (line : List ℕ) (lines all : List (List ℕ)) → all ≡ line ∷ lines → joined b all ≡ (b ∷ line) ∷ lines
unfolding joined
joined_first b line lines all e = ap (joined b) e

-- the first line is what is pulled through the first line feed, and the others are the lines of the bytes after it
pub lines_pull : (bs : List ℕ) → ends bs ≡ true → lines_of bs ≡ through bs ∷ lines_of (drop (length (through bs)) bs)
unfolding lines_of ends
lines_pull [] h = absurd (true≢false (sym h))
lines_pull (b ∷ bs) h = go (true_or_false (eqb b line_feed)) (λ g. lines_pull bs g)
  where
    go : (eqb b line_feed ≡ true) ⊎ (eqb b line_feed ≡ false) → (ends bs ≡ true → lines_of bs ≡ through bs ∷ lines_of (drop (length (through bs)) bs))
        → lines_of (b ∷ bs) ≡ through (b ∷ bs) ∷ lines_of (drop (length (through (b ∷ bs))) (b ∷ bs))
    go (inl e) f = rw (through_feed b bs e, e)
    go (inr e) f =
        let rest = lines_of (drop (length (through bs)) bs) in
        rw (through_other b bs e, e) (joined_first b (through bs) rest (lines_of bs) (f (sym (ends_other b bs e) ∙ h)))

-- and of bytes in two pieces, of which the first has no line feed, the first and what is pulled from the second: so the cut changes nothing
pub through_pieces : (a b : List ℕ) → ends a ≡ false → through (a ++ b) ≡ a ++ through b
through_pieces [] b h = refl
through_pieces (x ∷ a) b h = through_other x (a ++ b) (no_feed_first x a h) ∙ ap (λ (s : List ℕ). x ∷ s) (through_pieces a b (no_feed_rest x a h))

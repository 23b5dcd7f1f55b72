-- Appending in a buffer: what is in it then, and that a buffer of 64 has room for two histories of 32. What is appended fits eight bytes if both
-- lists do, and what a list holds it holds with more appended.
use Rattle.std.specs.Prelude.{◌≡◌, refl, Bool, true, false, cond, ◌||◌, List, [], ◌∷◌, ◌++◌, ℕ, ◌≤◌, ◌<◌, min, eqb, ltb, length, take, drop}
use Rattle.std.proofs.Common.{sym, ap, ◌∙◌, true≢false, ⊎_elim, lt-ltb, le-ltb, arith, length-append, length-take, take_all, take_at, take-take}
use Rattle.basics.specs.Bools.{lt_or_le}
use Rattle.std.proofs.Math.Seq.{take-length, take-append_seam}
use Rattle.history.specs.History.{present}
use Rattle.history.specs.Words.{padded}
use Rattle.history.specs.WordsLaws.{length_padded, take_padded}
use Rattle.history.specs.FitLaws.{EachFits, none, more, each_append}
use Rattle.merge.specs.Merge.{appended, appended_in}
use Rattle.merge.specs.Appending.{holds, overflows}
use Rattle.merge.specs.MergeLaws.{length_appended}

-- appending keeps what was there in front
pub appended_front : (g h : List ℕ) → take (length g) (appended g h) ≡ g
unfolding appended
appended_front g [] = take-length g
appended_front g (c ∷ h) = go (present c g) (appended_front (cond (present c g) g (g ++ c ∷ [])) h)
  where
    go : (b : Bool) → take (length (cond b g (g ++ c ∷ []))) (appended (cond b g (g ++ c ∷ [])) h) ≡ cond b g (g ++ c ∷ []) → take (length g) (appended (cond b g (g ++ c ∷ [])) h) ≡ g
    go true p = p
    go false p =
        sym (take-take (length g) (length (g ++ c ∷ [])) _ (omega (arith, length-append g (c ∷ [])))) ∙ ap (take (length g)) p ∙ take-append_seam g (c ∷ [])

-- appending in a buffer that holds g and zeros: as much as there is room for
pub appended_in_row : (n : ℕ) (g h : List ℕ) → length g ≤ n → appended_in (padded n g) (length g) h ≡ take n (appended g h)
appended_in_row n g h p = rw (length_padded n g, take_padded n g p)

pub appended_in_work : (g h : List ℕ) → length g ≤ 32 → length h ≤ 32 → appended_in (padded 64 g) (length g) h ≡ appended g h
appended_in_work g h p q =
    appended_in_row 64 g h (omega arith) ∙ take_all 64 (appended g h) (omega (arith, length_appended g h))

-- what is appended to is not shortened
pub appended_longer : (g h : List ℕ) → length g ≤ length (appended g h)
appended_longer g h = omega (arith, ap length (appended_front g h), length-take (length g) (appended g h))

-- below 64 a buffer of 64 tells whether what is appended is over a limit, also where g itself is longer
pub overflows_in_work : (limit : ℕ) (g h : List ℕ) → limit < 64 → ltb limit (length (appended_in (padded 64 g) (length g) h)) ≡ overflows limit g h
unfolding overflows
overflows_in_work limit g h p = ⊎_elim over within (lt_or_le 64 (length g))
  where
    cut : (k : ℕ) → k ≡ min 64 (length (appended g h)) → ltb limit k ≡ ltb limit (length (appended g h))
    cut k e =
        ⊎_elim (λ q. lt-ltb limit k (omega arith) ∙ sym (lt-ltb limit (length (appended g h)) q))
        (λ q. le-ltb limit k (omega arith) ∙ sym (le-ltb limit (length (appended g h)) q))
        (lt_or_le limit (length (appended g h)))

    within : length g ≤ 64 → ltb limit (length (appended_in (padded 64 g) (length g) h)) ≡ ltb limit (length (appended g h))
    within q = cut _ (ap length (appended_in_row 64 g h q) ∙ length-take 64 (appended g h))

    over : 64 < length g → ltb limit (length (appended_in (padded 64 g) (length g) h)) ≡ ltb limit (length (appended g h))
    over q =
        let whole : take (length g) (padded 64 g) ≡ padded 64 g = take_all (length g) (padded 64 g) (omega (arith, length_padded 64 g)) in
        let long = appended_longer (padded 64 g) h in
        let size : length (appended_in (padded 64 g) (length g) h) ≡ 64 = rw (length_padded 64 g, whole, length-take) (omega (arith, long, length_padded 64 g)) in
        lt-ltb limit _ (omega arith) ∙ sym (lt-ltb limit (length (appended g h)) (omega (arith, appended_longer g h)))

-- after `append`, the first n words of w are what was appended, and w has so many
module _ (b : List ℕ) (k : ℕ) (h : List ℕ) (n : ℕ) (w : List ℕ) (p : n ≡ length (appended_in b k h)) (q : w ≡ appended_in b k h ++ drop n b) where
  pub take_appended : take n w ≡ appended_in b k h
  take_appended = rw q (take_at (appended_in b k h) (drop n b) n (sym p))

  pub append_bound : n ≤ length w
  append_bound = rw (q, length-append) (omega arith)

-- each word of what is appended fits eight bytes, if those of both lists do
pub each_appended : {g h : List ℕ} → EachFits g → EachFits h → EachFits (appended g h)
unfolding appended
each_appended v none = v
each_appended {g = g} v (more {c = c} p w) = each_appended {g = cond (present c g) g (g ++ c ∷ [])} (next (present c g)) w
  where
    next : (b : Bool) → EachFits (cond b g (g ++ c ∷ []))
    next true = v
    next false = each_append v (more p none)

-- what a list holds it holds with more behind it
pub holds_append : (g x : List ℕ) (c : ℕ) → holds g c ≡ true → holds (g ++ x) c ≡ true
unfolding holds
holds_append [] x c e = absurd (true≢false (sym e))
holds_append (d ∷ g) x c e = go (eqb c d) e (holds_append g x c)
  where
    go : (b : Bool) → (b || holds g c) ≡ true → (holds g c ≡ true → holds (g ++ x) c ≡ true) → (b || holds (g ++ x) c) ≡ true
    go true e ih = refl
    go false e ih = ih e

-- and with a list appended
pub appended_holds : (g h : List ℕ) (c : ℕ) → holds g c ≡ true → holds (appended g h) c ≡ true
unfolding appended
appended_holds g [] c e = e
appended_holds g (d ∷ h) c e = appended_holds (cond (present d g) g (g ++ d ∷ [])) h c (next (present d g))
  where
    next : (b : Bool) → holds (cond b g (g ++ d ∷ [])) c ≡ true
    next true = e
    next false = holds_append g (d ∷ []) c e

-- What the library's methods on lists of words, and one turn of copying them, come to by the definitions of this crate.
use Rattle.std.specs.Prelude.{◌≡◌, refl, Bool, true, false, ◌&&◌, List, [], ◌∷◌, ℕ, suc, ◌+◌, ◌-◌, ◌≤◌, ◌<◌, cond, eqb, length, get_or, take, drop, set, replicate}
use Rattle.std.specs.List.{zip, prefix_len}
use Rattle.std.specs.Cmp.Lexicographic.{pointwise}
use Rattle.std.proofs.Common.{ap, sym, ◌∙◌, arith, add-one, one-add, eqb-true, eq-eqb, length-take, length-drop, append-nil, take-suc, take-suc-set}
use Rattle.std.proofs.lemmas.List.{drop_all}
use Rattle.std.proofs.Math.Bool.{true≢false}
use borrow.Rule.Slice.PartMut.{put_mid}
use Rattle.words.specs.Words.{equal, Common, padded, cleared}
use Rattle.words.specs.WordsLaws.{filled}

-- ---- comparing

pub equal_pointwise : (g h : List ℕ) → equal g h ≡ pointwise eqb g h
unfolding equal
equal_pointwise [] [] = refl
equal_pointwise [] (d ∷ h) = refl
equal_pointwise (c ∷ g) [] = refl
equal_pointwise (c ∷ g) (d ∷ h) = ap (λ b. eqb c d && b) (equal_pointwise g h)

-- how many pairs of two lists are of equal words, from the first pair on
abbrev pub matched : List ℕ → List ℕ → ℕ
matched h g = prefix_len (λ p. eqb p.0 p.1) (zip h g)

common_more : (c d : ℕ) (h g : List ℕ) (n : ℕ) → c ≡ d → Common h g n → Common (c ∷ h) (d ∷ g) (suc n)
common_more c d h g n e s =
    record {
      first = omega (arith, s.first);
      second = omega (arith, s.second);
      same = rw (e, s.same);
      differ = λ p q. s.differ (omega arith) (omega arith);
    }

common_none : (h g : List ℕ) → (0 < length h → 0 < length g → get_or h 0 0 ≡ get_or g 0 0 → ⊥) → Common h g 0
common_none h g n = record { first = omega arith; second = omega arith; same = refl; differ = n }

pub matched_common : (h g : List ℕ) → Common h g (matched h g)
matched_common [] g = common_none [] g (λ p q e. omega arith)
matched_common (c ∷ h) [] = common_none (c ∷ h) [] (λ p q e. omega arith)
matched_common (c ∷ h) (d ∷ g) = go (eqb c d) refl (matched_common h g)
  where
    go : (b : Bool) → eqb c d ≡ b → Common h g (matched h g) → Common (c ∷ h) (d ∷ g) (cond b (1 + matched h g) 0)
    go true e s = rw one-add (common_more c d h g (matched h g) (eqb-true c d e) s)
    go false e s = common_none (c ∷ h) (d ∷ g) (λ p q f. true≢false (sym (eq-eqb c d f) ∙ e))

-- ---- copying and filling

-- the first words are the same after a copy of one more
pub copied_more : (s l : List ℕ) (k : ℕ) → k < length s → k < length l → take k s ≡ take k l → take (k + 1) (set s k (get_or l k 0)) ≡ take (k + 1) l
copied_more s l k p q e = rw (add-one, take-suc-set s k _ p, take-suc l k 0 q, e)

-- the list after `xs[m..].fill(0)`
zeroed : (xs z : List ℕ) (m : ℕ) → m ≤ length xs → z ≡ replicate (length (take (length xs - m) (drop m xs))) 0 → put_mid m (length xs - m) xs z ≡ cleared xs m
unfolding cleared
zeroed xs z m p e =
    let size : length (take (length xs - m) (drop m xs)) ≡ length xs - m = rw (length-take, length-drop) (omega arith) in
    let end : drop (length xs - m) (drop m xs) ≡ [] = drop_all (length xs - m) (drop m xs) (rw length-drop (omega arith)) in
    rw (e, size, end, append-nil)

-- the list d after a list was copied to its front, as much of it as fits, and then `d[k..].fill(0)`, with k the length of what fits
pub fill_after : (d s fit xs z : List ℕ) → fit ≡ take (length d) s → length xs ≡ length d → take (length fit) xs ≡ fit
    → z ≡ replicate (length (take (length xs - length fit) (drop (length fit) xs))) 0 → put_mid (length fit) (length xs - length fit) xs z ≡ padded (length d) s
fill_after d s fit xs z f size c e =
    let short : length fit ≤ length d = rw f (rw length-take (omega arith)) in
    zeroed xs z (length fit) (omega arith) e ∙ filled xs s fit (length d) size f c

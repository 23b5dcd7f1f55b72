-- "Two quorums share at least f+1 sites", so they share one that does not lie. A set of sites is a test on their numbers; the laws
-- are stated again for masks.
use Rattle.std.specs.Prelude.{ℕ, ◌≤◌, ◌<◌, ◌≡◌, Bool, true, false, not, ◌&&◌}
use Rattle.std.proofs.Common.{subst, arith}
use Rattle.std.proofs.lemmas.Bool.{not-true}
use Rattle.basics.specs.Bools.{and_left, and_right}
use Rattle.roster.specs.declared.Roster.{Roster}
use Rattle.roster.specs.Sites.{count_to}
use Rattle.roster.specs.SitesLaws.{count_some, count_both, count_not}
use Rattle.roster.specs.Mask.{bit, reaches, beyond}
use Rattle.roster.specs.MaskLaws.{inside_ones, reaches_iff}
use Rattle.roster.specs.Roster.{valid_roster, quorum, weak_certificate}
use Rattle.roster.specs.RosterLaws.{Figures, valid_figures}

-- of a valid roster
module _ (s : Roster) (ok : valid_roster s ≡ true) where
  figures : Figures s
  figures = valid_figures s ok

  -- two quorums share at least f+1 sites
  pub quorums_share : (p q : ℕ → Bool) → quorum s ≤ count_to s.n p → quorum s ≤ count_to s.n q → weak_certificate s ≤ count_to s.n (λ i. p i && q i)
  quorums_share p q hp hq = omega (arith, figures, count_both s.n p q)

  -- at most f liars leave a quorum of honest sites
  pub honest_quorum : (liar : ℕ → Bool) → count_to s.n liar ≤ s.f → quorum s ≤ count_to s.n (λ i. not (liar i))
  honest_quorum liar h = omega (arith, figures, count_not s.n liar)

  -- f+1 sites have an honest one among them
  pub weak_honest : (p honest : ℕ → Bool) → weak_certificate s ≤ count_to s.n p → quorum s ≤ count_to s.n honest
      → (i : ℕ) × (i < s.n) × (p i ≡ true) × (honest i ≡ true)
  weak_honest p honest hp hh =
      let t = count_some s.n (λ i. p i && honest i) (omega (arith, figures, count_both s.n p honest)) in
      (t.0, t.1, and_left (p t.0) (honest t.0) t.2, and_right (p t.0) (honest t.0) t.2)

  pub weak_no_liar : (p liar : ℕ → Bool) → weak_certificate s ≤ count_to s.n p → count_to s.n liar ≤ s.f
      → (i : ℕ) × (i < s.n) × (p i ≡ true) × (liar i ≡ false)
  weak_no_liar p liar hp hl =
      let t = weak_honest p (λ i. not (liar i)) hp (honest_quorum liar hl) in (t.0, t.1, t.2, not-true (liar t.0) t.3)

  -- two quorums share an honest site
  pub quorums_honest : (p q honest : ℕ → Bool) → quorum s ≤ count_to s.n p → quorum s ≤ count_to s.n q → quorum s ≤ count_to s.n honest
      → (i : ℕ) × (i < s.n) × (p i ≡ true) × (q i ≡ true) × (honest i ≡ true)
  quorums_honest p q honest hp hq hh =
      let t = weak_honest (λ i. p i && q i) honest (quorums_share p q hp hq) hh in
      (t.0, t.1, and_left (p t.0) (q t.0) t.2, and_right (p t.0) (q t.0) t.2, t.3)

  pub quorums_no_liar : (p q liar : ℕ → Bool) → quorum s ≤ count_to s.n p → quorum s ≤ count_to s.n q → count_to s.n liar ≤ s.f
      → (i : ℕ) × (i < s.n) × (p i ≡ true) × (q i ≡ true) × (liar i ≡ false)
  quorums_no_liar p q liar hp hq hl =
      let t = quorums_honest p q (λ i. not (liar i)) hp hq (honest_quorum liar hl) in
      (t.0, t.1, t.2, t.3, not-true (liar t.0) t.4)

-- a mask with no bit at n or above that has at least t ones has t of the n sites
pub mask_count : (n mask t : ℕ) → beyond mask n ≡ false → reaches mask t ≡ true → t ≤ count_to n (bit mask)
mask_count n mask t e r = subst (λ (k : ℕ). t ≤ k) (inside_ones mask n e) ((reaches_iff mask t).0 r)

-- a mask with f+1 ones has an honest site
pub mask_honest : (s : Roster) → valid_roster s ≡ true → (mask : ℕ) → beyond mask s.n ≡ false → reaches mask (weak_certificate s) ≡ true
    → (honest : ℕ → Bool) → quorum s ≤ count_to s.n honest → (i : ℕ) × (i < s.n) × (bit mask i ≡ true) × (honest i ≡ true)
mask_honest s ok mask e r honest h = weak_honest s ok (bit mask) honest (mask_count s.n mask (weak_certificate s) e r) h

-- two masks that have a quorum of ones each and no bit at n or above share f+1 sites, and an honest one
module _ (s : Roster) (ok : valid_roster s ≡ true) (a b : ℕ) (a_in : beyond a s.n ≡ false) (b-in : beyond b s.n ≡ false)
    (a-has : reaches a (quorum s) ≡ true) (b-has : reaches b (quorum s) ≡ true) where
  pub masks_share : weak_certificate s ≤ count_to s.n (λ i. bit a i && bit b i)
  masks_share =
      quorums_share s ok (bit a) (bit b) (mask_count s.n a (quorum s) a_in a-has) (mask_count s.n b (quorum s) b-in b-has)

  pub masks_honest : (honest : ℕ → Bool) → quorum s ≤ count_to s.n honest
      → (i : ℕ) × (i < s.n) × (bit a i ≡ true) × (bit b i ≡ true) × (honest i ≡ true)
  masks_honest honest h =
      quorums_honest s ok (bit a) (bit b) honest (mask_count s.n a (quorum s) a_in a-has) (mask_count s.n b (quorum s) b-in b-has) h

  pub masks_no_liar : (liar : ℕ → Bool) → count_to s.n liar ≤ s.f
      → (i : ℕ) × (i < s.n) × (bit a i ≡ true) × (bit b i ≡ true) × (liar i ≡ false)
  masks_no_liar liar h =
      quorums_no_liar s ok (bit a) (bit b) liar (mask_count s.n a (quorum s) a_in a-has) (mask_count s.n b (quorum s) b-in b-has) h

-- and of one mask with f+1 ones
pub mask_no_liar : (s : Roster) → valid_roster s ≡ true → (mask : ℕ) → beyond mask s.n ≡ false → reaches mask (weak_certificate s) ≡ true
    → (liar : ℕ → Bool) → count_to s.n liar ≤ s.f → (i : ℕ) × (i < s.n) × (bit mask i ≡ true) × (liar i ≡ false)
mask_no_liar s ok mask inside has liar h = weak_no_liar s ok (bit mask) liar (mask_count s.n mask (weak_certificate s) inside has) h

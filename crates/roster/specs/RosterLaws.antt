-- What follows from a roster's validity, and that the leader of a view is a site.
use Rattle.std.specs.Prelude.{ℕ, ◌+◌, ◌-◌, ◌*◌, ◌%◌, ◌≤◌, ◌<◌, ◌≡◌, refl, Bool, true, cond, ◌&&◌, leb}
use Rattle.std.proofs.Common.{sym, ap, subst, mod-lt, arith, leb-true, le-leb, eq-eqb, ne_eqb}
use Rattle.basics.specs.Bools.{and_left, and_right}
use Rattle.roster.specs.declared.Roster.{Roster}
use Rattle.roster.specs.declared.View.{View}
use Rattle.roster.specs.Roster.{valid_roster, quorum, weak_certificate, leader_of}

-- what the two thresholds are
pub quorum_is : (s : Roster) → quorum s ≡ s.n - s.f
unfolding quorum
quorum_is s = refl

pub weak_certificate_is : (s : Roster) → weak_certificate s ≡ s.f + 1
unfolding weak_certificate
weak_certificate_is s = refl

-- the figures of a valid roster, with what they say of the thresholds
pub record Figures (s : Roster) : Type 0 where
  pub min_sites : 4 ≤ s.n
  pub max_sites : s.n ≤ 16
  pub min_faults : 1 ≤ s.f
  pub enough : 3 * s.f + 1 ≤ s.n
  pub faults_le : s.f ≤ s.n
  pub quorum_sum : quorum s + s.f ≡ s.n
  pub weak_sum : weak_certificate s ≡ s.f + 1
  pub quorum_le : quorum s ≤ s.n
  pub quorum_min : 3 ≤ quorum s
  pub weak_le : weak_certificate s ≤ quorum s

figures_of : (s : Roster) → 4 ≤ s.n → s.n ≤ 16 → 1 ≤ s.f → 3 * s.f + 1 ≤ s.n → Figures s
unfolding quorum weak_certificate
figures_of s a b c d = omega arith

-- a roster is valid exactly where its figures are within the limits
pub valid_figures : (s : Roster) → valid_roster s ≡ true → Figures s
unfolding valid_roster
valid_figures s e =
    let a = leb 4 s.n in
    let b = leb s.n 16 in
    let c = leb 1 s.f in
    let d = leb (3 * s.f + 1) s.n in
    let abc = and_left (a && b && c) d e in
    let ab = and_left (a && b) c abc in
    figures_of s (leb-true _ _ (and_left a b ab)) (leb-true _ _ (and_right a b ab)) (leb-true _ _ (and_right (a && b) c abc))
    (leb-true _ _ (and_right (a && b && c) d e))

pub figures_valid : (s : Roster) → 4 ≤ s.n → s.n ≤ 16 → 1 ≤ s.f → 3 * s.f + 1 ≤ s.n → valid_roster s ≡ true
unfolding valid_roster
figures_valid s a b c d = simp (le-leb 4 s.n a, le-leb s.n 16 b, le-leb 1 s.f c, le-leb (3 * s.f + 1) s.n d)

-- the leader of a view is the view mod N, if there are sites, and then one of them
pub leader_none : (s : Roster) (v : View) → s.n ≡ 0 → leader_of s v ≡ 0
unfolding leader_of
leader_none s v e = ap (λ (b : Bool). cond b 0 (v.0 % s.n)) (eq-eqb s.n 0 e)

pub leader_is : (s : Roster) (v : View) → 0 < s.n → leader_of s v ≡ v.0 % s.n
unfolding leader_of
leader_is s v h = ap (λ (b : Bool). cond b 0 (v.0 % s.n)) (ne_eqb s.n 0 (λ e. omega arith))

pub leader_below : (s : Roster) (v : View) → 0 < s.n → leader_of s v < s.n
leader_below s v h = subst (λ (k : ℕ). k < s.n) (sym (leader_is s v h)) (mod-lt v.0 h)

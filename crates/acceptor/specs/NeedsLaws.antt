-- What view and ballot a frame needs, else STALE, and what a P1B carries, in document 01's words; and the kinds of frames by their names.
use Rattle.std.specs.Prelude.{◌≡◌, refl, ◌≢◌, ◌&&◌, List, [], ◌∷◌, ℕ}
use borrow.Author.Tests.{eqb-true, eqb-false, eq-eqb, ne_eqb, not-true, not-false}
use Rattle.std.proofs.Math.Dec.{eqb}
use Rattle.basics.specs.Bools.{and_left, and_right}
use Rattle.roster.specs.declared.Roster.{Roster}
use Rattle.roster.specs.declared.Ballot.{Ballot}
use Rattle.refusal.specs.declared.Refusal.TheVariants.{Stale}
use Rattle.refusal.specs.JudgedLaws.{test_of, Needs}
use Rattle.frame.specs.Kinds as kinds
use Rattle.frame.specs.Example.{A, B, report}
use Rattle.site.specs.declared.ViewRecord.{ViewRecord}
use Rattle.acceptor.specs.declared.State.{State}
use Rattle.acceptor.specs.Acceptor.{P1A, FAST, PROPOSE, P2A, VERIFY, kind_of, taken, received, rules, proven_of, held_of, p1b, verify, p2b}

module _ (r : Roster) (own room : ℕ) (v : ViewRecord) (s : State) (line : List ℕ) where
  -- PROPOSE: "ballot equal and fast, else STALE"
  pub propose_needs : kind_of (received line).kind ≡ PROPOSE
      → Needs Stale (((received line).ballot.0 ≡ s.ballot.0) × (s.fast ≢ 0)) (rules r own room v s line)
  unfolding test_of
  propose_needs k =
      let same = eqb (received line).ballot.0 s.ballot.0 in
      rw k (
        λ e.
            let both = not-false (same && _) e in
            (eqb-true _ _ (and_left same _ both), eqb-false s.fast 0 (not-true _ (and_right same _ both))),
        λ p. rw (eq-eqb _ _ p.0, ne_eqb s.fast 0 p.1),
      )

  -- VERIFY: "view and ballot equal"
  pub verify_needs : kind_of (received line).kind ≡ VERIFY
      → Needs Stale (((received line).view.0 ≡ v.view.0) × ((received line).ballot.0 ≡ s.ballot.0)) (rules r own room v s line)
  unfolding test_of
  verify_needs k =
      let same = eqb (received line).view.0 v.view.0 in
      rw k (
        λ e.
            let both = not-false (same && _) e in
            (eqb-true _ _ (and_left same _ both), eqb-true _ _ (and_right same _ both)),
        λ p. rw (eq-eqb _ _ p.0, eq-eqb _ _ p.1),
      )

-- P1B: "n (proven), m (held)". With A proven for ballot 1 by sites 0, 1 and 2, and B held, site 3 answers ballot 2 by the report whose line is proved
pub report_carries : (s : State) → proven_of s ≡ A ∷ [] → held_of s ≡ B ∷ [] → s.proven_ballot.0 ≡ 1 → s.certificate ≡ 0b111
    → p1b 3 s (record { 0 = 2 }) ≡ report
report_carries s p h b c = rw (p, h, b, c)

-- the kinds that are taken, each by its name, and those that are sent
pub kinds_taken : (taken ≡ kinds.set_of (kinds.P1A ∷ kinds.FAST ∷ kinds.PROPOSE ∷ kinds.P2A ∷ kinds.VERIFY ∷ []))
    × (kind_of kinds.P1A ≡ P1A)
    × (kind_of kinds.FAST ≡ FAST)
    × (kind_of kinds.PROPOSE ≡ PROPOSE)
    × (kind_of kinds.P2A ≡ P2A)
    × (kind_of kinds.VERIFY ≡ VERIFY)
kinds_taken = (refl, refl, refl, refl, refl, refl)

pub kinds_sent : (own : ℕ) (v : ViewRecord) (s : State) (ballot : Ballot) (mask : ℕ) (h : List ℕ) → ((p1b own s ballot).kind ≡ kinds.P1B)
    × ((verify own v s h).kind ≡ kinds.VERIFY)
    × ((p2b own s mask h).kind ≡ kinds.P2B)
kinds_sent own v s ballot mask h = (refl, refl, refl)

-- What an opening, a LEADER and the proof of a P1B's history need, and what is kept of a P1B, in document 01's words; and the kinds of
-- frames by their names.
use Rattle.std.specs.Prelude.{◌≡◌, refl, ◌≢◌, ◌&&◌, List, [], ◌∷◌, ℕ, ◌-◌, ◌%◌, ◌^◌, ◌≤◌, ◌<◌, ltb}
use borrow.Author.Tests.{eqb-true, eq-eqb, ne_eqb, ltb-true, lt-ltb, not-false}
use Rattle.std.specs.Int.Count.{ones}
use Rattle.std.proofs.Math.Dec.{eqb}
use Rattle.basics.specs.Bools.{and_left, and_right}
use Rattle.roster.specs.declared.Roster.{Roster}
use Rattle.roster.specs.declared.View.{View}
use Rattle.roster.specs.declared.Ballot.{Ballot}
use Rattle.roster.specs.Roster.{quorum}
use Rattle.roster.specs.RosterLaws.{leader_is}
use Rattle.roster.specs.Mask.{with_site, bit}
use Rattle.roster.specs.MaskLaws.{proven_iff}
use Rattle.words.specs.Words.{padded}
use Rattle.table.specs.Table.{in_range, row, row_of, stored_at, empty_table}
use Rattle.frame.specs.Kinds as kinds
use Rattle.frame.specs.Example.{A, B, report}
use Rattle.refusal.specs.declared.Refusal.TheVariants.{Stale, Proof}
use Rattle.refusal.specs.JudgedLaws.{test_of, Needs}
use Rattle.leader.specs.declared.State.{State}
use Rattle.leader.specs.Leader.{P1B, PROPOSE, LEADER, kind_of, taken, received, p2a, invitation, unfounded, rules, reporting, may_open, opening_rules, fresh}

-- "The host opens a ballot greater than the leader's last, its view mod N being its own number, else STALE"
pub opening_needs : (r : Roster) (own room : ℕ) (s : State) (ballot : Ballot) → 0 < r.n
    → Needs Stale ((s.ballot.0 < ballot.0) × (s.view.0 % r.n ≡ own)) (opening_rules r own room s ballot)
unfolding test_of may_open
opening_needs r own room s ballot some =
    let later = ltb s.ballot.0 ballot.0 in
    rw (leader_is r s.view some) (
      λ e.
          let both = not-false (later && _) e in
          (ltb-true _ _ (and_left later _ both), eqb-true _ _ (and_right later _ both)),
      λ p. rw (lt-ltb _ _ p.0, eq-eqb _ _ p.1),
    )

module _ (r : Roster) (own room : ℕ) (s : State) (line : List ℕ) where
  -- LEADER "needs ... N-f ones": PROOF is for "a mask bit at N or above, or too few ones"
  pub leader_proofs : kind_of (received line).kind ≡ LEADER
      → Needs Proof (((received line).mask < 2 ^ r.n) × (r.n - r.f ≤ ones (received line).mask)) (rules r own room s line)
  unfolding test_of quorum
  leader_proofs k = rw k (proven_iff (received line).mask r.n (r.n - r.f))

  -- P1B: "An empty proven history needs proven ballot 0 and mask 0"
  pub empty_proven : kind_of (received line).kind ≡ P1B → (received line).n ≡ 0
      → Needs Proof (((received line).proven_ballot.0 ≡ 0) × ((received line).mask ≡ 0)) (rules r own room s line)
  unfolding test_of unfounded
  empty_proven k none =
      let first = eqb (received line).proven_ballot.0 0 in
      rw (k, eq-eqb (received line).n 0 none) (
        λ e.
            let both = not-false (first && _) e in
            (eqb-true _ _ (and_left first _ both), eqb-true _ _ (and_right first _ both)),
        λ p. rw (eq-eqb _ _ p.0, eq-eqb _ _ p.1),
      )

  -- "another needs N-f ones; else PROOF"
  pub other_proven : kind_of (received line).kind ≡ P1B → (received line).n ≢ 0
      → Needs Proof (((received line).mask < 2 ^ r.n) × (r.n - r.f ≤ ones (received line).mask)) (rules r own room s line)
  unfolding test_of unfounded quorum
  other_proven k some = rw (k, ne_eqb (received line).n 0 some) (proven_iff (received line).mask r.n (r.n - r.f))

-- P1B: "n (proven), m (held)". Of the report whose line is proved, A is kept as proven and B as held
pub report_kept : (row_of (reporting fresh report).proven 3 ≡ A ∷ []) × (row_of (reporting fresh report).held 3 ≡ B ∷ [])
unfolding padded in_range row stored_at empty_table with_site bit
report_kept = (refl, refl)

-- the kinds that are taken, each by its name, and those that are sent
pub kinds_taken : (taken ≡ kinds.set_of (kinds.P1B ∷ kinds.PROPOSE ∷ kinds.LEADER ∷ []))
    × (kind_of kinds.P1B ≡ P1B)
    × (kind_of kinds.PROPOSE ≡ PROPOSE)
    × (kind_of kinds.LEADER ≡ LEADER)
kinds_taken = (refl, refl, refl, refl)

pub kinds_sent : (own : ℕ) (view : View) (ballot : Ballot) (h : List ℕ) (fast : ℕ) → ((p2a own view ballot h).kind ≡ kinds.P2A)
    × ((invitation own view ballot 0).kind ≡ kinds.P1A)
    × (fast ≢ 0 → (invitation own view ballot fast).kind ≡ kinds.FAST)
kinds_sent own view ballot h fast = (refl, refl, λ p. rw (ne_eqb fast 0 p))

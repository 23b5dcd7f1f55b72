-- What a vote needs, in document 01's words, whatever its history; and the one kind that is taken, by its name.
use Rattle.std.specs.Prelude.{◌≡◌, refl, List, [], ◌∷◌, ℕ, ◌-◌, ◌^◌, ◌≤◌, ◌<◌}
use Rattle.std.proofs.Common.{arith}
use borrow.Author.Tests.{eqb-false, ne_eqb}
use Rattle.std.specs.Int.Count.{ones}
use Rattle.roster.specs.declared.Roster.{Roster}
use Rattle.roster.specs.Roster.{quorum}
use Rattle.roster.specs.MaskLaws.{proven_iff}
use Rattle.refusal.specs.declared.Refusal.TheVariants.{Stale, Proof}
use Rattle.refusal.specs.JudgedLaws.{test_of, Needs}
use Rattle.learner.specs.declared.State.{State}
use Rattle.frame.specs.Kinds as kinds
use Rattle.learner.specs.Learner.{taken, vote, rules}

module _ (r : Roster) (s : State) (line : List ℕ) where
  -- "P2B needs ballot ≥ 1 (STALE)"
  pub vote_ballot : Needs Stale (1 ≤ (vote line).ballot.0) (rules r s line)
  unfolding test_of
  vote_ballot = let b = (vote line).ballot.0 in (λ e. omega (arith, eqb-false b 0 e), λ p. ne_eqb b 0 (λ e. omega arith))

  -- "and N-f ones": PROOF is for "a mask bit at N or above, or too few ones"
  pub vote_proofs : Needs Proof (((vote line).mask < 2 ^ r.n) × (r.n - r.f ≤ ones (vote line).mask)) (rules r s line)
  unfolding test_of quorum
  vote_proofs = proven_iff (vote line).mask r.n (r.n - r.f)

pub kinds_taken : taken ≡ kinds.set_of (kinds.P2B ∷ [])
kinds_taken = refl

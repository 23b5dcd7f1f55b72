-- What a chain over a list of commands answers, by the definitions of this crate.
use Rattle.std.specs.Prelude.{ℕ, ◌&&◌, ◌≡◌, refl, List, [], ◌∷◌, eqb}
use Rattle.std.specs.List.{list_all}
use Rattle.std.proofs.Common.{ap}
use Rattle.command.specs.Command.{proposer, valid_command, all_valid, all_by}

pub all_valid_chain : (h : List ℕ) → all_valid h ≡ list_all valid_command h
unfolding all_valid
all_valid_chain [] = refl
all_valid_chain (c ∷ h) = ap (λ b. valid_command c && b) (all_valid_chain h)

pub all_by_chain : (by : ℕ) (h : List ℕ) → all_by by h ≡ list_all (λ c. eqb (proposer c) by) h
unfolding all_by
all_by_chain by [] = refl
all_by_chain by (c ∷ h) = ap (λ b. eqb (proposer c) by && b) (all_by_chain by h)

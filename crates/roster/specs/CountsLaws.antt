-- The order that views and ballots derive is that of their counts.
use Rattle.std.specs.Prelude.{◌≡◌, ℕ, ltb}
use Rattle.std.specs.Ordering.{is_gt, nat_cmp}
use Rattle.std.proofs.Common.{arith}
use Rattle.std.proofs.lemmas.Grind.{common_steps}

pub later_count : (a b : ℕ) → is_gt (nat_cmp a b) ≡ ltb b a
later_count a b = grind (arith, common_steps)

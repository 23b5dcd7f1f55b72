-- Masks: a set of sites as a 16-bit number, "site i is bit i". "Proofs are counted as ones in a 16-bit mask."
use Rattle.std.specs.Prelude.{ℕ, ◌+◌, ◌/◌, ◌%◌, ◌^◌, Bool, not, cond, ◌&&◌, ◌||◌, leb, ltb, eqb}
use Rattle.std.specs.Int.Count.{ones}

-- whether bit i of the mask is set
unfoldable pub bit : ℕ → ℕ → Bool
bit mask i = eqb (mask / 2 ^ i % 2) 1

-- whether the mask has at least `threshold` ones: what is asked against f+1 and N-f
unfoldable pub reaches : ℕ → ℕ → Bool
reaches mask threshold = leb threshold (ones mask)

-- whether the mask has a bit at n or above
unfoldable pub beyond : ℕ → ℕ → Bool
beyond mask n = leb (2 ^ n) mask

-- PROOF: "a mask bit at N or above, or too few ones"
unfoldable pub unproven : ℕ → ℕ → ℕ → Bool
unproven mask n needed = beyond mask n || not (reaches mask needed)

-- the mask with site i's bit set: 2 ^ i is added if it is not in yet; a site of 16 or more has no bit, and the mask stays
unfoldable pub with_site : ℕ → ℕ → ℕ
with_site mask i = cond (ltb i 16 && not (bit mask i)) (mask + 2 ^ i) mask

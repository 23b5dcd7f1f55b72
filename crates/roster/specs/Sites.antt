-- Counting over sites: the sites are numbered from 0, and a set of them is a test on their numbers.
use Rattle.std.specs.Prelude.{ℕ, zero, suc, ◌+◌, ◌*◌, ◌^◌, Bool, true, false, ◌&&◌}

-- a test as a number: 1 where it holds, and 0 where not
abbrev pub to_nat : Bool → ℕ
to_nat true = 1
to_nat false = 0

-- how many sites below n have p
unfoldable pub count_to : ℕ → (ℕ → Bool) → ℕ
count_to zero p = 0
count_to (suc n) p = count_to n p + to_nat (p n)

-- whether all sites below n have p
unfoldable pub all_to : ℕ → (ℕ → Bool) → Bool
all_to zero p = true
all_to (suc n) p = all_to n p && p n

-- the mask of the sites below n that have p: "site i is bit i"
unfoldable pub mask_to : ℕ → (ℕ → Bool) → ℕ
mask_to zero p = 0
mask_to (suc n) p = to_nat (p n) * 2 ^ n + mask_to n p

-- An entry of a table is what its rule gives there. That a table of the code is the list of what its rule gives is computed, at all entries at once.
use Prim.Native.Nat.{ℕ, zero, suc, ◌<◌}
use native.Mathlib.Nat.{not-suc-le-zero, le_of_suc-le-suc}
use mathlib.Core.Path.{◌≡◌, refl, ap, ◌∙◌}
use mathlib.Core.List.{List}
use lib.ListN.{length, get_or}
use Rattle.frame.specs.Hex.{digit}
use Rattle.frame.specs.Code.Leaves.{digit_in, tabled, values, characters}

entry : (n : ℕ) (rule : ℕ → ℕ) (k : ℕ) → k < n → get_or (tabled n rule) k 0 ≡ rule k
entry zero rule k h = absurd (not-suc-le-zero h)
entry (suc n) rule zero h = refl
entry (suc n) rule (suc k) h = entry n (λ k. rule (suc k)) k (le_of_suc-le-suc h)

tabled_length : (n : ℕ) (rule : ℕ → ℕ) → length (tabled n rule) ≡ n
tabled_length zero rule = refl
tabled_length (suc n) rule = ap suc (tabled_length n (λ k. rule (suc k)))

pub value_at : (t : List ℕ) → t ≡ values → (c : ℕ) → c < 256 → get_or t c 0 ≡ digit_in c
unfolding values
value_at t e c h = ap (λ (l : List ℕ). get_or l c 0) e ∙ entry 256 digit_in c h

module _ (t : List ℕ) (e : t ≡ characters) where
  pub character_at : (d : ℕ) → d < 16 → get_or t d 0 ≡ digit d
  unfolding characters
  character_at d h = ap (λ (l : List ℕ). get_or l d 0) e ∙ entry 16 digit d h

  pub characters_length : length t ≡ 16
  unfolding characters
  characters_length = ap length e ∙ tabled_length 16 digit

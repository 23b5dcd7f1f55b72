-- How a line with no commands is judged after its header, as `read_bare` goes: under the limit 0 n and m are 0.
use Prim.Native.Nat.{ℕ, ◌+◌, ◌-◌, ◌*◌}
use native.Mathlib.Omega.{arith}
use mathlib.Core.Path.{◌≡◌, refl, sym, ap, ◌∙◌}
use mathlib.Core.Bool.{true}
use mathlib.Core.List.{List, []}
use lib.ListN.{length, get_or, take, drop, replicate}
use Rattle.std.specs.Prelude.{Some}
use Rattle.frame.specs.declared.Heading.{Heading}
use Rattle.frame.specs.Hex.{all_digits, numbers}
use Rattle.frame.specs.Layout.{frame_capacity}
use Rattle.frame.specs.Format.{commands, nothing, reading_of, reading_with}
use Rattle.frame.specs.Code.Leaves.{NumbersIn, Found}
use Rattle.frame.proofs.Lines.{head_few, wrong_length, no_feed, body_in, found_counted, rest_bad, rest_good}

module _ (l : List ℕ) (kinds : ℕ) (hd : Heading) (f : Found 0 l kinds hd) where
  none : hd.n + hd.m ≡ 0
  none = omega (arith, head_few 0 l f.headed hd.n hd.m (found_counted f))

  pub bare_length : (length l ≡ 37 → ⊥) → nothing ≡ reading_of 0 l kinds
  bare_length x = rest_bad 0 l kinds hd f (wrong_length l hd.n hd.m (found_counted f) (λ p. x (omega (arith, p, none))))

  module _ (size : length l ≡ 37) where
    long : length l ≡ 36 + 16 * (hd.n + hd.m) + 1
    long = omega (arith, none)

    at : 36 ≡ 36 + 16 * (hd.n + hd.m)
    at = omega (arith, none)

    pub bare_feed : (get_or l 36 0 ≡ 10 → ⊥) → nothing ≡ reading_of 0 l kinds
    bare_feed x = rest_bad 0 l kinds hd f (no_feed l hd.n hd.m (found_counted f) long (λ p. x (ap (λ (k : ℕ). get_or l k 0) at ∙ p)))

    pub bare_found : get_or l 36 0 ≡ 10 → reading_with (Some hd) (replicate frame_capacity 0) ≡ reading_of 0 l kinds
    unfolding all_digits numbers
    bare_found x =
        let k = hd.n + hd.m in
        let zero : 36 + 16 * k - 36 ≡ 0 = omega (arith, none) in
        let empty : NumbersIn (commands 0) (take (36 + 16 * k - 36) (drop 36 l)) true [] =
        record { all = sym (ap (λ (n : ℕ). all_digits (take n (drop 36 l))) zero); are = λ t. refl } in
        let zeros : List ℕ = replicate frame_capacity 0 in
        let all : drop k zeros ≡ zeros = ap (λ (n : ℕ). drop n zeros) none in
        let body = body_in l hd.n hd.m (found_counted f) long (ap (λ (n : ℕ). get_or l n 0) (sym at) ∙ x) (omega (arith, none)) 0 (sym none) true [] empty refl in
        rest_good 0 l kinds hd f body.is (sym all ∙ body.words refl)

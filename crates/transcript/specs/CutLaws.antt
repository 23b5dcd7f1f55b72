-- A line that is longer than every frame's may be cut: what is kept of it is refused as the whole line is.
use Rattle.std.specs.Prelude.{ℕ, ◌≤◌, ◌<◌, ◌≡◌, ◌⊎◌, true, false, cond, List, length, take}
use Rattle.std.proofs.Math.Decide.{dec_le}
use Rattle.std.proofs.Common.{arith, sym, ◌∙◌, inl, inr, take_all}
use Rattle.std.proofs.Math.Path.{ap}
use Rattle.std.proofs.Math.Seq.{length-take-le}
use borrow.Author.Tests.{ne_eqb}
use Rattle.basics.specs.Bools.{true_or_false}
use Rattle.words.specs.Sizes.{limit}
use Rattle.roster.specs.declared.Roster.{Roster}
use Rattle.refusal.specs.declared.Refusal.TheVariants.{Config, Form}
use Rattle.refusal.specs.Rules.{judged}
use Rattle.frame.specs.Layout.{longest}
use Rattle.frame.specs.Format.{is_line, reading_of, malformed}
use Rattle.frame.specs.InverseLaws.{line_within}
use Rattle.learner.specs.declared.State.{State}
use Rattle.learner.specs.Learner.{config, form, refuse, step}
use Rattle.lines.specs.Lines.{roster_line_length, is_roster_line, roster_of}

-- more characters than the longest line has are no frame's line, and FORM
too_long : (l : List ℕ) → longest < length l → is_line limit l ≡ false
too_long l h = go (true_or_false (is_line limit l))
  where
    go : (is_line limit l ≡ true) ⊎ (is_line limit l ≡ false) → is_line limit l ≡ false
    go (inl e) = absurd (omega (arith, line_within limit l (omega arith) e))
    go (inr e) = e

too_long_form : (l : List ℕ) → longest < length l → form l ≡ true
unfolding reading_of malformed
too_long_form l h = rw (too_long l h)

-- so it is answered CONFIG or FORM, whatever it is
unframed : (r : Roster) (s : State) (l : List ℕ) → form l ≡ true → step r s l ≡ cond (config r s) (refuse s Config) (refuse s Form)
unfolding step judged
unframed r s l e = rw e

module _ (n : ℕ) (l : List ℕ) where
  -- a step on the first n bytes of a line, where n is above the length of the longest line, is the step on the whole
  pub step_cut : (r : Roster) (s : State) → longest < n → step r s (take n l) ≡ step r s l
  step_cut r s h = go (dec_le (length l) n)
    where
      go : Dec (length l ≤ n) → step r s (take n l) ≡ step r s l
      go (yes p) = ap (step r s) (take_all n l p)
      go (no p) =
          unframed r s (take n l) (too_long_form (take n l) (omega (arith, length-take-le n l (omega arith))))
          ∙ sym (unframed r s l (too_long_form l (omega arith)))

  -- and so with the first line, where n is above the length of a roster's line
  pub roster_cut : roster_line_length < n → roster_of (take n l) ≡ roster_of l
  unfolding roster_of is_roster_line
  roster_cut h = go (dec_le (length l) n)
    where
      go : Dec (length l ≤ n) → roster_of (take n l) ≡ roster_of l
      go (yes p) = ap roster_of (take_all n l p)
      go (no p) =
          rw (ne_eqb (length (take n l)) roster_line_length (λ e. omega (arith, length-take-le n l (omega arith))), ne_eqb (length l) roster_line_length (λ e. omega arith))

-- `frame::read_into` meets its contract: where the header or the rest is not good there is no frame and the words are 0; else both are what the line spells.
use Rattle.frame.proofs.Lines.{head_few, found_counted, rest_bad, rest_good, same_limit}
use Rattle.frame.specs.Code.Leaves.{values, digit_in}
use Rattle.frame.specs.Hex.{is_digit, value_of}
use mathlib.Core.Path.{refl, sym, ◌∙◌}
use native.Mathlib.Omega.{arith}
use Rattle.frame.proofs.read_into.Goals as goal

pub read_head-requires : goal.read_head-requires
unfolding values digit_in is_digit value_of
read_head-requires c = refl

pub returns-in_err-h : goal.returns-in_err-h
returns-in_err-h c = rw (c.from_residual.ensures) (c.in_err-h.ensures ∙ same_limit _ _ c.within.ensures)

pub read_body-good-requires : goal.read_body-good-requires
unfolding values digit_in is_digit value_of
read_body-good-requires c = let found = c.in_ok-h.ensures in (refl, found_counted found, omega (arith, c.within.ensures, head_few _ _ found.headed _ _ (found_counted found)), refl)

pub returns-then-not-good : goal.returns-then-not-good
returns-then-not-good c = rest_bad _ _ _ _ c.in_ok-h.ensures (sym c.if-not-good.true ∙ c.read_body-good.ensures.is) ∙ same_limit _ _ c.within.ensures

pub returns : goal.returns
returns c = rest_good _ _ _ _ c.in_ok-h.ensures (sym c.if-not-good.false ∙ c.read_body-good.ensures.is) (c.read_body-good.ensures.words c.if-not-good.false) ∙ same_limit _ _ c.within.ensures

-- `frame::read_bare` meets its contract: under the limit 0 a header has no commands; after it the length and the line feed are tested, and each failure leaves no frame.
use Rattle.frame.proofs.Bare.{bare_length, bare_feed, bare_found}
use Rattle.frame.specs.Code.Leaves.{values, digit_in}
use Rattle.frame.specs.Hex.{is_digit, value_of}
use mathlib.Core.Path.{refl}
use Rattle.frame.proofs.read_bare.Goals as goal

pub read_head-requires : goal.read_head-requires
unfolding values digit_in is_digit value_of
read_head-requires c = refl

pub returns-in_err-h : goal.returns-in_err-h
returns-in_err-h c = rw (c.from_residual.ensures) (c.in_err-h.ensures)

pub returns-then-line-ne-SHORTEST : goal.returns-then-line-ne-SHORTEST
returns-then-line-ne-SHORTEST c = bare_length _ _ _ c.in_ok-h.ensures c.if-line-ne-SHORTEST.true

pub returns-then-line-ne-FEED : goal.returns-then-line-ne-FEED
returns-then-line-ne-FEED c = bare_feed _ _ _ c.in_ok-h.ensures c.if-line-ne-SHORTEST.false c.if-line-ne-FEED.true

pub returns : goal.returns
returns c = bare_found _ _ _ c.in_ok-h.ensures c.if-line-ne-SHORTEST.false c.if-line-ne-FEED.false

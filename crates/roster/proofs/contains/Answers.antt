-- `roster::contains` meets its contract: below 16 the code's test is the definition's, and a mask of 16 bits has none from 16 on.
use mathlib.Core.Path.{refl, sym}
use borrow.Author.Rules.{rules}
use Rattle.roster.specs.Mask.{bit}
use Rattle.roster.specs.MaskLaws.{bit_out}
use Rattle.roster.proofs.contains.Goals as goal

pub returns-then-site-lt-MAX_SITES : goal.returns-then-site-lt-MAX_SITES
unfolding bit
returns-then-site-lt-MAX_SITES c = refl

pub returns-else-site-lt-MAX_SITES : goal.returns-else-site-lt-MAX_SITES
returns-else-site-lt-MAX_SITES c = sym (bit_out c.args.mask 16 c.args.site (search rules) (search rules))

-- `roster::beyond` meets its contract: below 16 the shift leaves something exactly where a bit at `n` or above is set, and a mask of 16 bits has none from 16 on.
use mathlib.Core.Path.{sym}
use borrow.Author.Rules.{rules}
use Rattle.roster.specs.MaskLaws.{beyond_shift, beyond_wide}
use Rattle.roster.proofs.beyond.Goals as goal

pub returns-then-n-lt-MAX_SITES : goal.returns-then-n-lt-MAX_SITES
returns-then-n-lt-MAX_SITES c = sym (beyond_shift c.args.mask c.args.n)

pub returns-else-n-lt-MAX_SITES : goal.returns-else-n-lt-MAX_SITES
returns-else-n-lt-MAX_SITES c = sym (beyond_wide 16 c.args.mask c.args.n (search rules) (search rules))

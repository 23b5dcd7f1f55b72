-- `roster::with_site` meets its contract: below 16 the site's power of two is not cut off by the shift, and `|` sets its bit.
use mathlib.Core.Path.{sym}
use borrow.Author.Rules.{rules}
use Rattle.roster.specs.MaskLaws.{with_shifted, with_past}
use Rattle.roster.proofs.with_site.Goals as goal

pub returns-then-site-lt-MAX_SITES : goal.returns-then-site-lt-MAX_SITES
returns-then-site-lt-MAX_SITES c = sym (with_shifted c.args.mask c.args.site (search rules))

pub returns-else-site-lt-MAX_SITES : goal.returns-else-site-lt-MAX_SITES
returns-else-site-lt-MAX_SITES c = sym (with_past c.args.mask c.args.site (search rules))

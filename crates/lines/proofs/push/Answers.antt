-- `lines::push` meets its contract: it stores the byte where there is room, and else does nothing.
use borrow.Author.Tests.{lt-ltb, le-ltb}
use lib.ListN.{length}
use Rattle.lines.specs.Lines.{pushed, pushed_length}
use Rattle.lines.proofs.push.Goals as goal

pub returns-then-line-len : goal.returns-then-line-len
unfolding pushed pushed_length
returns-then-line-len c = (rw (le-ltb c.args.len (length c.args.line.now) c.if-line-len.true), rw (le-ltb c.args.len (length c.args.line.now) c.if-line-len.true))

pub returns : goal.returns
unfolding pushed pushed_length
returns c = (rw (lt-ltb c.args.len (length c.args.line.now) c.if-line-len.false), rw (lt-ltb c.args.len (length c.args.line.now) c.if-line-len.false))

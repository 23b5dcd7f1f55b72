-- `learn::answer` meets its contract: it is `feed` from the first byte on, and the output has room for an answer to each byte, so `feed` takes them all.
use Rattle.std.proofs.Math.Nat.{sub-zero}
use Rattle.transcript.specs.Stream.{feed_outcome}
use Rattle.transcript.proofs.StreamLaws.{feed_ends}
use Rattle.learn.proofs.answer.Goals as goal

pub returns-clause-whole : goal.returns-clause-whole
returns-clause-whole c =
    feed_ends c.args.s c.args.line.now c.args.out.now 0 c.args.bytes.now 0
    (feed_outcome c.feed.result c.feed.new.line c.feed.new.out)
    c.feed.ensures (simp sub-zero c.requires)

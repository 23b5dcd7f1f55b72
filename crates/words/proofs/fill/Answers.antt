-- `words::fill` meets its contract: as many words as fit are copied, and the rest is cleared.
use Rattle.std.proofs.Common.{ap, arith, length, length-take}
use Rattle.words.proofs.Scans.{fill_after}
use Rattle.words.proofs.fill.Goals as goal

pub copy-requires : goal.copy-requires
copy-requires c = omega (arith, simp length-take at (ap length c.first-fit.ensures))

pub returns : goal.returns
returns c = fill_after c.args.dst.now c.args.src.now c.first-fit.result.now c.copy.new.dst c.fill.new.self c.first-fit.ensures c.copy.ensures.0 c.copy.ensures.1 (c.fill.ensures.after (λ y h. h))

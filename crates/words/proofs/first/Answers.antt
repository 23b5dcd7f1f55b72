-- `words::first` meets its contract: past its end a list has no more to take.
use Rattle.std.proofs.Common.{sym, arith}
use lib.Seq.{length-take-le, take_all}
use Rattle.words.proofs.first.Goals as goal

pub slice_bounds-result-end : goal.slice_bounds-result-end
slice_bounds-result-end g c = sym (length-take-le c.args.n c.args.items.now (omega arith))

pub returns-else-n-items : goal.returns-else-n-items
returns-else-n-items g c = sym (take_all c.args.n c.args.items.now (omega arith))

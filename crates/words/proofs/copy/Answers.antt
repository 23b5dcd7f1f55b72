-- `words::copy` meets its contract: the loop keeps that the first i words are those of src.
use Rattle.std.proofs.Common.{◌≡◌, length, rules, arith, ◌∙◌, take_all}
use Rattle.words.proofs.Scans.{copied_more}
use Rattle.words.proofs.copy.Goals as goal

pub loop-i-preserved : goal.loop-i-preserved
loop-i-preserved c = copied_more _ _ c.loop-i.i (omega arith) (omega arith) c.loop-i.invariant

pub returns : goal.returns
returns c = let src = c.args.src.now in
    let e : length src ≡ c.loop-i.i = omega arith in
    (search rules, rw e (c.loop-i.invariant ∙ take_all c.loop-i.i src (omega arith)))

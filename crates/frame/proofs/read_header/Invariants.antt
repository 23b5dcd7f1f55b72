-- `frame::read_header` meets its contract: the loop keeps that the digits' test and the numbers go on from the field it is at.
use Rattle.frame.specs.Layout.{widths}
use Rattle.frame.proofs.Runs.{Gathering}
use Rattle.frame.proofs.read_header.Given as goal

abbrev pub invariant-loop-k : goal.invariant-loop-k
invariant-loop-k l = Gathering widths l.digits l.head l.at l.k

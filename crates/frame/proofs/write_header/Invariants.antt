-- `frame::write_header` meets its contract: the loop keeps that what is written, and then the digits of the fields from k on, are the goal.
use Rattle.frame.specs.Layout.{widths}
use Rattle.frame.proofs.Runs.{Laying}
use Rattle.frame.proofs.write_header.Given as goal

abbrev pub invariant-loop-k : goal.invariant-loop-k
invariant-loop-k l = Laying widths l.head l.digits l.at l.k

-- `leader::report::heading` meets its contract: each test is its rule's, and they are given in the rules' order.
use Rattle.refusal.specs.Rules.{judged}
use Rattle.leader.proofs.report.heading.Goals as goal

pub returns : goal.returns
unfolding judged
returns c = cc

-- `leader::view::check` meets its contract: each test is its rule's, and they are given in the rules' order.
use Rattle.refusal.specs.Rules.{judged}
use Rattle.leader.proofs.view.check.Goals as goal

pub returns : goal.returns
unfolding judged
returns c = cc

-- `proposal::keep` meets its contract: the loop keeps that the words written with what remains of the commands that are left are the answer.
use lib.ListN.{length, take}
use Rattle.proposal.specs.Proposal.{remaining}
use Rattle.proposal.proofs.Turns.{Keeping}
use Rattle.proposal.proofs.keep.Given as goal

abbrev pub invariant-loop-c : goal.invariant-loop-c
invariant-loop-c l = Keeping l.dst l.pending l.h l.n l.c-index l.initial.dst (take (length l.initial.dst) (remaining l.pending l.h))

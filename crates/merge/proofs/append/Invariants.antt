-- `merge::append` meets its contract: the loop keeps that the first n words with the commands that are left appended are the answer, and that the words behind stay.
use Rattle.merge.specs.Merge.{appended_in}
use Rattle.merge.proofs.Turns.{Appending}
use Rattle.merge.proofs.append.Given as goal

abbrev pub invariant-loop-c : goal.invariant-loop-c
invariant-loop-c l = Appending l.buf l.more l.n l.c-index l.initial.buf (appended_in l.initial.buf l.count l.more)

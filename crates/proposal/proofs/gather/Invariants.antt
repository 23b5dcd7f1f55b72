-- `proposal::gather` meets its contract: the loop keeps that the first words are what the reports of the sites looked at give.
use lib.ListN.{length, take}
use Rattle.proposal.specs.Proposal.{report, filled_to}
use Rattle.proposal.specs.Code.Work.{Begins}
use Rattle.proposal.proofs.gather.Given as goal

abbrev pub invariant-loop-site : goal.invariant-loop-site
invariant-loop-site l = Begins (length l.initial.work) l.work l.len (filled_to (length l.initial.work) l.site (report l.rows.words.now l.rows.counts.now l.reported) (take l.count l.initial.work))

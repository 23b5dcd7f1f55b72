-- `proposal::assemble` meets its contract: work holds what there is room for of g, then the held histories too, then what is pending; what g has past
-- the end of work does not count.
use native.Mathlib.Omega.{arith}
use lib.ListN.{length, length-take}
use Rattle.history.specs.WordsLaws.{length_padded}
use Rattle.proposal.specs.Proposal.{report}
use Rattle.proposal.proofs.Turns.{assembled_all}
use Rattle.proposal.proofs.assemble.Goals as goal

pub gather-some-requires : goal.gather-some-requires
gather-some-requires c = rw (c.fill.ensures, length_padded, c.first-front.ensures, length-take) (omega arith)

pub returns : goal.returns
returns c = let given = c.args in
    let append-call = c.append in
    assembled_all (length given.work.now) given.n (report given.held.words.now given.held.counts.now given.reported) given.pending.now given.g.now
    c.first-front.result.now c.first-front.ensures c.fill.new.dst c.fill.ensures c.gather-some.ensures
    append-call.result append-call.new.buf append-call.ensures.0 append-call.ensures.1 append-call.auto.buf

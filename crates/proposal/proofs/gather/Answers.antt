-- `proposal::gather` meets its contract: the loop keeps that the first words are what the reports of the sites looked at give.
use Prim.Native.Nat.{ℕ}
use native.Mathlib.Omega.{arith}
use native.Mathlib.Numerals.{add-one}
use mathlib.Core.Path.{◌≡◌, subst}
use lib.ListN.{length, take}
use Rattle.proposal.specs.Proposal.{report, filled_to}
use Rattle.proposal.specs.Code.Work.{Begins}
use Rattle.proposal.proofs.ProposalLaws.{filled_to_zero, filled_to_suc}
use Rattle.proposal.proofs.Turns.{gather_start, gather_more}
use Rattle.proposal.proofs.gather.Goals as goal

pub loop-site-init : goal.loop-site-init
loop-site-init c = let given = c.args in
    rw (filled_to_zero (length given.work.now) (report given.rows.words.now given.rows.counts.now given.reported) (take given.count given.work.now))
    (gather_start given.work.now given.count c.requires)

pub loop-site-preserved : goal.loop-site-preserved
loop-site-preserved c = let given = c.args in
    let turn = c.loop-site in
    let append-call = c.append-len in
    let reports = report given.rows.words.now given.rows.counts.now given.reported in
    rw (add-one, filled_to_suc (length given.work.now) turn.site reports (take given.count given.work.now), ← c.report.ensures)
    (gather_more turn.invariant c.report.result.now append-call.result append-call.new.buf append-call.ensures.0 append-call.ensures.1 append-call.auto.buf)

pub returns : goal.returns
returns c = let given = c.args in
    let turn = c.loop-site in
    let end : turn.site ≡ given.n = omega arith in
    subst (λ (k : ℕ). Begins (length given.work.now) turn.work turn.len (filled_to (length given.work.now) k (report given.rows.words.now given.rows.counts.now given.reported) (take given.count given.work.now)))
    end turn.invariant

-- `leader::report::conclude` meets its contract: it tests for report N-f, and then proposes, keeps the rest pending, and hands over the P2A if there is one.
use Rattle.std.proofs.Common.{◌≤◌, [], refl, sym, ◌∙◌, length, take, arith, rules}
use Rattle.std.specs.Prelude.{not, eqb}
use lib.ListN.{length-take}
use lib.Seq.{take_all}
use Rattle.words.specs.Sizes.{capacity}
use Rattle.site.specs.Message.{message}
use Rattle.site.specs.Reply.{Handed, sends_if}
use Rattle.leader.specs.Leader.{conclude}
use Rattle.leader.proofs.Calls.{concludes}
use Rattle.leader.proofs.report.conclude.Goals as goal

pub returns-then-not-reaches : goal.returns-then-not-reaches
unfolding conclude
returns-then-not-reaches c = rw (← c.quorum.ensures, sym c.reaches.ensures ∙ c.if-not-reaches.true) (refl, refl)

pub returns : goal.returns
returns c = let s = c.args.s.now in
    let h = c.commands-h.result.now in
    let short : length h ≤ capacity = rw (c.commands-h.ensures, length-take) (omega arith) in
    let sent : Handed (sends_if (not (eqb (length h) 0)) (message 5 c.args.own s.view s.ballot (record { 0 = 0 }) 0 (take capacity h) [])) c.send_if.result c.args.out.now c.send_if.new.out = search rules in
    let whole = rw (take_all capacity h short) at sent in
    rw (
      concludes c.args.r c.args.own s (rw (← c.quorum.ensures) (sym c.reaches.ensures ∙ c.if-not-reaches.false)) _ _ _ c.commands.ensures (rw (← c.rows.ensures.0, ← c.rows.ensures.1, ← c.rows-2.ensures.0, ← c.rows-2.ensures.1) c.propose-proposed.ensures) c.commands-h.ensures,
      c.remaining-s.ensures,
      c.commands-2.ensures,
    ) (rw whole.0 refl, whole.1)

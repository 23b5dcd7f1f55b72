-- `acceptor::perform` meets its contract: of each kind what its module does is what the accepted frame asks for; a PROPOSE leaves at most 32 commands, which are signed whole.
use Rattle.std.proofs.Common.{◌≤◌, length, refl, ◌∙◌}
use Rattle.merge.specs.Merge.{appended}
use Rattle.acceptor.specs.Acceptor.{held_of}
use Rattle.acceptor.proofs.Tests.{lengthened_short}
use Rattle.acceptor.proofs.perform.Goals as goal

pub perform-requires-in-4 : goal.perform-requires-in-4
perform-requires-in-4 c =
    let held = held_of c.args.s.now in
    let h = c.first-h.result.now in
    let short : length (appended held h) ≤ 32 = rw c.first-h.ensures (c.requires.fits (rw c.in-4.is refl)) in
    rw (c.first.ensures ∙ c.lengthen-n.ensures) (lengthened_short held h short)

pub returns-in-4 : goal.returns-in-4
returns-in-4 c = rw (c.in-4.is, ← c.first-h.ensures, ← (c.first.ensures ∙ c.lengthen-n.ensures)) c.perform-in-4.ensures

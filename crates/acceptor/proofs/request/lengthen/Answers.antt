-- `acceptor::request::lengthen` meets its contract: there is room for the union of the two lists, which is put in order in its place.
use Rattle.std.proofs.Common.{rules, ◌≡◌, length}
use Rattle.acceptor.specs.Acceptor.{lengthened}
use Rattle.acceptor.proofs.Tests.{united, arranged}
use Rattle.acceptor.proofs.request.lengthen.Goals as goal

pub returns : goal.returns
unfolding lengthened
returns c =
    let size : length c.args.all.now ≡ 32 = search rules in
    let whole = rw (c.fill.ensures, size, c.commands-held.ensures) at c.append-n.ensures in
    let all = united _ c.args.h.now c.requires.0 c.requires.1 c.append-n.result c.append-n.new.buf whole in
    arranged c.append-n.new.buf _ _ c.append-n.result _ all.0 all.1 c.put_in_order.ensures

-- `acceptor::signing::perform` meets its contract: the state is the signed one, and the VERIFY is sent whole, the history being within the capacity.
use Rattle.std.proofs.Common.{rules, ◌≡◌}
use lib.Seq.{take_all}
use Rattle.acceptor.specs.Acceptor.{sign}
use Rattle.acceptor.proofs.Tests.{blank}
use Rattle.acceptor.proofs.signing.perform.Goals as goal

pub returns : goal.returns
unfolding sign
returns c =
    let zeros : c.default.result ≡ blank = search rules in
    let handed = rw (zeros, take_all 32 c.args.h.now c.requires) at c.send.ensures in
    (rw (c.set.ensures, c.store.ensures, handed.0), handed.1)

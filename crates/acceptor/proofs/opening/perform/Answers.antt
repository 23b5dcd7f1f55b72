-- `acceptor::opening::perform` meets its contract: the state is the one in the ballot, and the P1B goes out in a classic one.
use Rattle.std.proofs.Common.{rules, ◌≡◌}
use lib.Seq.{take_all}
use Rattle.acceptor.specs.Acceptor.{opening, held_of, proven_of}
use Rattle.acceptor.proofs.Tests.{blank, flag_is}
use Rattle.acceptor.proofs.opening.perform.Goals as goal

pub returns : goal.returns
unfolding opening
returns c =
    let s = c.args.s.now in
    let zeros : c.default.result ≡ blank = search rules in
    let handed = rw (zeros, c.commands.ensures, c.commands-2.ensures, take_all 32 (held_of s) c.requires.0, take_all 32 (proven_of s) c.requires.1) at c.send_if-sent.ensures in
    (rw (flag_is c.args.fast, c.clear.ensures, handed.0), handed.1)

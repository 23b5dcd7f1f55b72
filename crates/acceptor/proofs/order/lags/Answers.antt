-- `acceptor::order::lags` meets its contract: the proven history is asked first, and the held one if one was signed.
use Rattle.std.proofs.Common.{sym, ap}
use Rattle.std.proofs.Math.Bool.{not}
use Rattle.std.proofs.lemmas.Bool.{ne_eqb}
use Rattle.acceptor.specs.Acceptor.{lags}
use Rattle.acceptor.proofs.Tests.{extends_is}
use Rattle.acceptor.proofs.order.lags.Goals as goal

pub returns-then-not-extends : goal.returns-then-not-extends
unfolding lags
returns-then-not-extends c = rw (← c.commands.ensures, extends_is c.args.h.now c.commands.result.now _ c.requires c.extends.ensures, c.if-not-extends.true)

pub returns-then-s-ne0 : goal.returns-then-s-ne0
unfolding lags
returns-then-s-ne0 c = rw (← c.commands.ensures, extends_is c.args.h.now c.commands.result.now _ c.requires c.extends.ensures, c.if-not-extends.false, ne_eqb _ _ c.if-s-ne0.true, ← c.commands-then-s-ne0.ensures)
    (ap not (sym (extends_is c.args.h.now c.commands-then-s-ne0.result.now _ c.requires c.extends-then-s-ne0.ensures)))

pub returns-else-s-ne0 : goal.returns-else-s-ne0
unfolding lags
returns-else-s-ne0 c = rw (← c.commands.ensures, extends_is c.args.h.now c.commands.result.now _ c.requires c.extends.ensures, c.if-not-extends.false, c.if-s-ne0.false)

-- `site::send` meets its contract: what is written of the heading and the two lists that were cut is what is written of the message.
use Rattle.site.proofs.Frames.{cut_fits, message_sent}
use Rattle.site.proofs.send.Goals as goal

pub overflow_cast-n : goal.overflow_cast-n
overflow_cast-n c = record { fits = cut_fits c.args.g.now _ c.first-one.ensures }

pub overflow_cast-m : goal.overflow_cast-m
overflow_cast-m c = record { fits = cut_fits c.args.h.now _ c.first-two.ensures }

pub returns : goal.returns
returns c = message_sent _ _ _ _ _ _ c.args.g.now c.args.h.now _ _ _ c.first-one.ensures c.first-two.ensures _ _ c.write_from.ensures

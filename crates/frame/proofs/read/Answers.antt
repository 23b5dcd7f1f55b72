-- `frame::read` meets its contract: it is `read_into` with words of its own.
use Rattle.frame.proofs.Lines.{nothing_read}
use Rattle.frame.proofs.read.Goals as goal

pub returns-in_err-h : goal.returns-in_err-h
returns-in_err-h c = rw (c.from_residual.ensures) (nothing_read _ _ _ _ c.in_err-h.ensures)

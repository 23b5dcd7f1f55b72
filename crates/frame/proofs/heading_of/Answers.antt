-- `frame::heading_of` meets its contract: each value fits its width, so that no cast changes it.
use lib.Dec.{lit<}
use Rattle.frame.proofs.heading_of.Goals as goal

pub overflow_cast-result : goal.overflow_cast-result
overflow_cast-result c = record { fits = c.requires 0 (lit< tt) }

pub overflow_cast-result-2 : goal.overflow_cast-result-2
overflow_cast-result-2 c = record { fits = c.requires 1 (lit< tt) }

pub overflow_cast-result-3 : goal.overflow_cast-result-3
overflow_cast-result-3 c = record { fits = c.requires 2 (lit< tt) }

pub overflow_cast-result-4 : goal.overflow_cast-result-4
overflow_cast-result-4 c = record { fits = c.requires _ (lit< tt) }

pub overflow_cast-result-5 : goal.overflow_cast-result-5
overflow_cast-result-5 c = record { fits = c.requires _ (lit< tt) }

pub overflow_cast-result-6 : goal.overflow_cast-result-6
overflow_cast-result-6 c = record { fits = c.requires 5 (lit< tt) }

pub overflow_cast-result-7 : goal.overflow_cast-result-7
overflow_cast-result-7 c = record { fits = c.requires 6 (lit< tt) }

pub overflow_cast-result-8 : goal.overflow_cast-result-8
overflow_cast-result-8 c = record { fits = c.requires 7 (lit< tt) }

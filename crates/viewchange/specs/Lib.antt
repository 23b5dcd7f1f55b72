-- What the contracts of `viewchange` cite, and the laws of it.
pub mod ViewChange
pub mod ViewChangeLaws
pub mod Code

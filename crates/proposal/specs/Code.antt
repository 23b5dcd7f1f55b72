-- What only contracts inside this crate cite.
pub mod Work

-- What the proofs of `leader` share.
pub mod Calls

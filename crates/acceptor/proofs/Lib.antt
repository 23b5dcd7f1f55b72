-- What the proofs of `acceptor` share.
pub mod Tests

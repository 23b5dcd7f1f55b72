-- What the proofs of the entries share, and the laws of calls by a host.
pub mod CallLaws

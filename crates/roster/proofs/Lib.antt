-- The laws of roster, and what its proofs share.
pub mod QuorumLaws

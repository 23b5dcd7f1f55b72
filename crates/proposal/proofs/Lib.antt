-- Laws that the proofs of this crate share.
mod Turns
pub mod ProposalLaws

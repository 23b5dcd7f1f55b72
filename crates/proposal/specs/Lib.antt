-- What the contracts of `proposal` cite, and the laws of it.
pub mod Proposal
pub mod ProposalLaws
pub mod Code

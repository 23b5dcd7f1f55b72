-- Why the claim holds.
pub mod ChainLaws
pub mod AgreementLaws
pub mod Testing
pub mod Example

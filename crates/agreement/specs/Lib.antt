-- Demand 3: call lists, the claim, and why it holds.
pub mod Calls
pub mod Agreement
pub mod ChainLaws
pub mod AgreementLaws
pub mod Testing
pub mod Example

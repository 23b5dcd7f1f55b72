-- Laws that the proofs of this crate share.
mod Tests
pub mod StepLaws
pub mod RunLaws
pub mod VoteLaws

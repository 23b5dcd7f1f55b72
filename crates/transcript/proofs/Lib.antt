-- Why the theorem holds, and laws that the proofs of this crate share.
pub mod StreamLaws
pub mod TranscriptLaws
mod Turns

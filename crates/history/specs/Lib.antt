-- What the contracts of `history` cite, and the laws of it.
pub mod History
pub mod TakesLaws
pub mod ExtensionLaws
pub mod CoherenceLaws
pub mod CanonicalLaws
pub mod InsertionLaws
pub mod OrderLaws
pub mod ValidLaws
pub mod Front
pub mod FrontLaws
pub mod Words
pub mod WordsLaws
pub mod FitLaws
pub mod Code

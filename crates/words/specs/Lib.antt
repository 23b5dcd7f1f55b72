-- What the contracts of `words` cite, and the laws of it.
pub mod Sizes
pub mod Words
pub mod WordsLaws

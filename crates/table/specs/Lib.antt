-- What the contracts of `table` cite, and the laws of it.
pub mod Table
pub mod TableLaws
pub mod ValidLaws
pub mod FitLaws

-- The laws of call lists, and that the example holds.
pub mod CallLaws
pub mod Example

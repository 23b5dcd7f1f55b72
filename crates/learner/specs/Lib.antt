-- What the contracts of `learner` cite, and the laws of it.
pub mod Learner
pub mod NeedsLaws
pub mod StepLaws
pub mod VoteLaws
pub mod Run
pub mod RunLaws
pub mod Code

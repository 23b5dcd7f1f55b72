-- The laws of `leader`: what its definitions imply.
pub mod LeaderLaws
pub mod LineLaws

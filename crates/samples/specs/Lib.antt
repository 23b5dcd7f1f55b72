-- The table of document 01's sample histories and votes, and why it holds.
pub mod Samples
pub mod SamplesLaws

-- A site's calls by the kinds of their lines, and an example.
pub mod Calls
pub mod Example

-- What the contracts of `frame` cite, and the laws of it.
pub mod Hex
pub mod Layout
pub mod Kinds
pub mod Format
pub mod Example
pub mod ExampleLaws
pub mod Code
pub mod HexLaws
pub mod FormatLaws
pub mod BareLaws
pub mod FromLaws
pub mod InverseLaws

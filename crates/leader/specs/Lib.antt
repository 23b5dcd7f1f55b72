-- What the contracts of `leader` cite; `code` is what only the code's own functions cite.
pub mod Leader
pub mod NeedsLaws
pub mod Code

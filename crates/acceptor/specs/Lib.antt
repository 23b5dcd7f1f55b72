-- What the contracts of `acceptor` cite, and the laws of it.
pub mod Acceptor
pub mod NeedsLaws
pub mod Code
pub mod AcceptorLaws

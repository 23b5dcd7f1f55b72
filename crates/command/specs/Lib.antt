-- What the contracts of `command` cite, and the laws of it.
pub mod Command
pub mod CommandLaws

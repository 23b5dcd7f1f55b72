-- What the contracts of `content` cite, and the laws of it.
pub mod Content
pub mod ContentLaws

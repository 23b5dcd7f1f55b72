-- What the contracts of `site` cite, and the laws of it.
pub mod Site
pub mod Reply
pub mod Message
pub mod SiteLaws
pub mod ReplyLaws
pub mod MessageLaws

-- What the contracts of `speckleewe` cite, and what they come to over call lists.
pub mod Outcomes
pub mod CallLaws

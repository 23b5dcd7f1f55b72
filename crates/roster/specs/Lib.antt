-- What the contracts of `roster` cite, and the laws of it.
pub mod Sites
pub mod SitesLaws
pub mod Mask
pub mod MaskLaws
pub mod Roster
pub mod Counts
pub mod CountsLaws
pub mod RosterLaws

-- Laws of the table of kinds, and of chains over a list of commands.
pub mod KindsLaws
mod Chains

-- Laws that the proofs of this crate share.
mod Scans
mod Moves
mod Turns
mod Marks

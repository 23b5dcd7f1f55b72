-- Laws that the proofs of this crate share.
mod Entries
mod Turns
mod Runs
mod Lines
mod Bare
mod Frames

-- Laws that the proofs of this crate share.
mod Digits
mod Answers
mod Turns

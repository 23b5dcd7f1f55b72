-- What the contracts of `transcript` cite, what is to be written for bytes of input, and the theorem that it is, as a statement.
pub mod Transcript
pub mod Stream
pub mod StreamLaws
pub mod CutLaws
pub mod Reads

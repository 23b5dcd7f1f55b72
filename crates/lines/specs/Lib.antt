-- What the contracts of `lines` cite, and the laws of it.
pub mod Lines
pub mod LinesLaws
pub mod BufferLaws
pub mod AnswerLaws

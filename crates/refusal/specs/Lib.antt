-- What the contracts of `refusal` cite, and the laws of it.
pub mod Refusal
pub mod Rules
pub mod Order
pub mod RulesLaws
pub mod JudgedLaws
pub mod AnswerLaws

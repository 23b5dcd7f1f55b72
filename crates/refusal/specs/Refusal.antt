-- The refusals and what a step answers, with their numbers.
use Rattle.std.specs.Prelude.{ℕ, Bool, true, false, Result, Ok, Err}
use Rattle.refusal.specs.declared.Refusal.{Refusal}
use Rattle.refusal.specs.declared.Refusal.TheVariants.{
  Config,
  Form,
  Sender,
  Stale,
  Proof,
  Command,
  History,
  Behind,
  Reused,
  Contradiction,
  Split,
  Nothing,
  Full,
}

-- "Each returns its number only." The columns No. and Name of the table of refusals.
abbrev pub number : Refusal → ℕ
number Config = 1
number Form = 2
number Sender = 3
number Stale = 4
number Proof = 5
number Command = 6
number History = 7
number Behind = 8
number Reused = 9
number Contradiction = 10
number Split = 11
number Nothing = 12
number Full = 13

-- what a step answers: accepted, or refused for a reason
abbrev pub Answer : Type 0
Answer = Result (Unit {0}) Refusal

abbrev pub Accepted : Answer
Accepted = Ok tt

abbrev pub Refused : Refusal → Answer
Refused e = Err e

-- "An accepted frame answers 0", a refused one its refusal's number
abbrev pub answer_number : Answer → ℕ
answer_number (Ok _) = 0
answer_number (Err e) = number e

abbrev pub is_refused : Answer → Bool
is_refused (Ok _) = false
is_refused (Err e) = true

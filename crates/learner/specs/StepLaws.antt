-- What the laws in proofs/StepLaws.antt speak of.
use Rattle.std.specs.Prelude.{◌≡◌, true, false, List, ℕ, ◌≤◌, ◌<◌, leb, length}
use Rattle.roster.specs.declared.Roster.{Roster}
use Rattle.roster.specs.Roster.{valid_roster, quorum}
use Rattle.roster.specs.Counts.{zero_ballot}
use Rattle.roster.specs.Mask.{unproven}
use Rattle.command.specs.Command.{wrong}
use Rattle.history.specs.History.{Extends, improper}
use Rattle.history.specs.ValidLaws.{ValidHistory}
use Rattle.history.specs.Words.{limit, commands, valid_stored}
use Rattle.merge.specs.Merged.{Merged}
use Rattle.table.specs.Table.{row_of, valid_table}
use Rattle.table.specs.TableLaws.{Sized}
use Rattle.content.specs.Content.{contradicts}
use Rattle.refusal.specs.declared.Refusal.{Refusal}
use Rattle.refusal.specs.JudgedLaws.{GivenFirst}
use Rattle.learner.specs.declared.State.{State}
use Rattle.learner.specs.Learner.{config, form, vote, arrived, with_vote, merge_of, accepted, refuse, rules, step}

-- an accepted vote: no check applies
pub record Accepts (r : Roster) (s : State) (line : List ℕ) : Type 0 where
  pub configured : config r s ≡ false
  pub framed : form line ≡ false
  pub from_site : leb r.n (vote line).sender ≡ false
  pub balloted : zero_ballot (vote line).ballot ≡ false
  pub proven : unproven (vote line).mask r.n (quorum r) ≡ false
  pub right : wrong (arrived (vote line)) ≡ false
  pub proper : improper (arrived (vote line)) ≡ false
  pub agrees : contradicts (row_of s.entries (vote line).sender) (arrived (vote line)) ≡ false
  pub joins : (merge_of r (with_vote s.entries (vote line).sender (arrived (vote line))) s (arrived (vote line))).split ≡ false
  pub fits : (merge_of r (with_vote s.entries (vote line).sender (arrived (vote line))) s (arrived (vote line))).full ≡ false
  pub outcome : step r s line ≡ accepted r s (vote line).sender (arrived (vote line))

pub data Stepped (r : Roster) (s : State) (line : List ℕ) : Type 0 where
  refuses : (e : Refusal) → GivenFirst e (rules r s line) → step r s line ≡ refuse s e → Stepped r s line
  accepting : Accepts r s line → Stepped r s line

-- a state of the right sizes that passes CONFIG
pub record Sound (r : Roster) (s : State) : Type 0 where
  pub sized : Sized s.entries
  pub roster : valid_roster r ≡ true
  pub entries : valid_table limit r.n s.entries ≡ true
  pub learned : valid_stored limit s.learned ≡ true

-- the arrived history of an accepted vote
pub record Arrived (h : List ℕ) : Type 0 where
  pub valid : ValidHistory h
  pub some_command : 0 < length h
  pub short : length h ≤ limit

-- what an accepted vote that the learner merges leaves: the merge, which extends what was learned and the arrived history
pub record Learned (g h : List ℕ) (m : Merged) : Type 0 where
  pub grown : Extends (commands m.history) g
  pub holds : Extends (commands m.history) h
  pub valid : valid_stored limit m.history ≡ true

-- what a step keeps and adds
pub record Advance (r : Roster) (s next : State) : Type 0 where
  pub sound : Sound r next
  pub entries_grow : (i : ℕ) → Extends (row_of next.entries i) (row_of s.entries i)
  pub learned_grows : Extends (commands next.learned) (commands s.learned)

-- The refusals that speak of the commands of a frame. COMMAND and HISTORY: one list of rules for each form in which frames carry commands; REUSED,
-- NOTHING and FULL of a PROPOSE; CONTRADICTION: the test of VERIFY and P2B.
use Rattle.std.specs.Prelude.{Bool, not, ◌&&◌, ◌||◌, List, [], ◌∷◌, ℕ, eqb, length}
use Rattle.command.specs.Command.{wrong, all_by}
use Rattle.history.specs.History.{repeated, is_canonical, improper, extends}
use Rattle.history.specs.Words.{extends_within}
use Rattle.merge.specs.Appending.{reuses, nothing_new, overflows}
use Rattle.refusal.specs.declared.Refusal.TheVariants.{Command, History as Improper, Reused, Nothing, Full}
use Rattle.refusal.specs.Rules.{Rule, ◌gives◌}

-- a history, in P2A, VERIFY and P2B. COMMAND: "a command's fields are wrong"; HISTORY: "proposer and serial repeated; not canonical; n = 0"
abbrev pub history_rules : List ℕ → List Rule
history_rules h = wrong h gives Command ∷ improper h gives Improper ∷ []

-- the commands that a proposer asks for. COMMAND: "a command's fields are wrong, or in PROPOSE its proposer isn't the sender"; HISTORY: "proposer and
-- serial repeated; n = 0"; "not canonical (PROPOSE may be)" is no test here
abbrev pub request_rules : ℕ → List ℕ → List Rule
request_rules by h = (wrong h || not (all_by by h)) gives Command ∷ (repeated h || eqb (length h) 0) gives Improper ∷ []

-- HISTORY, of a list that may be empty: "proposer and serial repeated; not canonical"
unfoldable pub disordered : List ℕ → Bool
disordered h = repeated h || not (is_canonical h)

-- the two histories of a P1B: "Its held history follows rules 6 and 7 also."
abbrev pub report_rules : List ℕ → List ℕ → List Rule
report_rules g h = (wrong g || wrong h) gives Command ∷ (disordered g || disordered h) gives Improper ∷ []

-- the commands of a PROPOSE, h, by the list that they are appended to. REUSED: "a command's proposer and serial are held with other bytes"; NOTHING:
-- "all commands are held already"; FULL: "the result would exceed 32 commands"
abbrev pub append_rules : ℕ → List ℕ → List ℕ → List Rule
append_rules limit list h = reuses list h gives Reused ∷ nothing_new list h gives Nothing ∷ overflows limit list h gives Full ∷ []

-- CONTRADICTION: "sender's stored history and this one: neither extends the other"
unfoldable pub contradicts : List ℕ → List ℕ → Bool
contradicts entry h = not (extends h entry) && not (extends entry h)

-- the same, asked of lists of at most n commands only
unfoldable pub contradicts_within : ℕ → List ℕ → List ℕ → Bool
contradicts_within n entry h = not (extends_within n h entry) && not (extends_within n entry h)

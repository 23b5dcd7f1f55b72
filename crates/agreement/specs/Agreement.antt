-- Demand 3 as one statement, `Claim`, below the definitions that it reads. It is proved in AgreementLaws.antt; docs/AGREEMENT.md says why it holds.
-- The quotations are document 01's, of its part "Call lists of demand 3" unless another is named.
use Rattle.std.specs.Prelude.{◌≡◌, Bool, true, false, ◌||◌, ℕ, ◌≤◌, ◌<◌, eqb, take}
use mathlib.Core.List.{List, map, Memᴰ}
use Rattle.roster.specs.declared.Roster.{Roster}
use Rattle.roster.specs.Roster.{valid_roster, quorum}
use Rattle.roster.specs.Sites.{count_to}
use Rattle.command.specs.Command.{conflict}
use Rattle.history.specs.History.{Extends, Before, repeated}
use Rattle.history.specs.Words.{limit, commands}
use Rattle.refusal.specs.declared.Refusal.TheVariants.{Split}
use Rattle.refusal.specs.Refusal.{Refused}
use Rattle.frame.specs.Format.{is_line, frame_of}
use Rattle.learner.specs.declared.Outcome.{Outcome}
use Rattle.learner.specs.Learner as learner
use Rattle.learner.specs.Run.{run, outcomes, Voted}
use Rattle.agreement.specs.Calls.{Call, handed, start, Sent}

-- ---- what happened

-- the call lists of all: any lists, of lines that are any bytes, with any output buffers
pub record World : Type 0 where
  -- "All have one roster"
  pub roster : Roster
  -- which sites are those "N-f or more"; the others may do anything
  pub honest : ℕ → Bool
  -- the call list of each of those sites, by "its one number"
  pub calls : ℕ → List Call
  -- the call list of each learner, by its number: the lines handed to it. There may be any number of learners; others have no calls.
  pub learners : ℕ → List (List ℕ)

-- ---- the premises

-- "one of the N-f or more sites"
pub record Honest (w : World) (i : ℕ) : Type 0 where
  pub member : i < w.roster.n
  pub honest : w.honest i ≡ true

-- "wherever handed in": a line in the call list of a learner, or of one of those sites
pub data HandedIn (w : World) (line : List ℕ) : Type 0 where
  to_learner : (j : ℕ) → Memᴰ line (w.learners j) → HandedIn w line
  to_site : (i : ℕ) → Honest w i → Memᴰ line (map handed (w.calls i)) → HandedIn w line

-- "a kind acceptors send (here P1B, VERIFY, P2B)"
abbrev pub from_acceptor : ℕ → Bool
from_acceptor kind = eqb kind 3 || (eqb kind 6 || eqb kind 7)

-- "A frame of a kind acceptors send … naming" site i "as sender"
pub record Names (line : List ℕ) (i : ℕ) : Type 0 where
  pub frame : is_line limit line ≡ true
  pub kind : from_acceptor (frame_of line).kind ≡ true
  pub sender : (frame_of line).sender ≡ i

pub record Premises (w : World) : Type 0 where
  -- "4 ≤ N ≤ 16, f ≥ 1, N ≥ 3f+1" (Roster and numbers)
  pub valid : valid_roster w.roster ≡ true
  -- "N-f or more sites"
  pub enough : quorum w.roster ≤ count_to w.roster.n w.honest
  -- "A frame of a kind acceptors send … naming one of the N-f or more sites as sender is, wherever handed in, byte for byte one that a call in
  -- that site's list sent."
  pub authentic : (line : List ℕ) → HandedIn w line → (i : ℕ) → Honest w i → Names line i → Sent w.roster i line start (w.calls i)

-- ---- the conclusion

-- what learner j holds after its first k calls: "A learner holds what is learned"
abbrev pub holds : World → ℕ → ℕ → List ℕ
holds w j k = commands (run w.roster learner.fresh (take k (w.learners j))).learned

-- "a common extension extends both"; it is a history itself, with "no two commands of one proposer and serial" (Histories)
pub record CommonExtension (g h : List ℕ) : Type 0 where
  pub common : List ℕ
  pub history : repeated common ≡ false
  pub left : Extends common g
  pub right : Extends common h

pub record Agreement (w : World) : Type 0 where
  -- what a learner holds after a call extends all that it held before
  pub grows : (j k l : ℕ) → k ≤ l → Extends (holds w j l) (holds w j k)
  -- no call of a learner answers SPLIT
  pub never_split : (j : ℕ) (o : Outcome) → Memᴰ o (outcomes w.roster learner.fresh (w.learners j)) → o.answer ≡ Refused Split → ⊥
  -- what any two learners hold, at any two moments, has a common extension
  pub common : (i j k l : ℕ) → CommonExtension (holds w i k) (holds w j l)
  -- if one holds c before a conflicting d, the other holds d only after c
  pub order : (i j k l c d : ℕ) → conflict c d ≡ true → Before c d (holds w i k) → Memᴰ d (holds w j l) → Before c d (holds w j l)
  -- what the accepted votes of N-f different sites carry is contained in what the learner holds: "a history contains what it extends"
  pub contained : (j k : ℕ) (voters : ℕ → Bool) (h : List ℕ) → quorum w.roster ≤ count_to w.roster.n voters
      → ((i : ℕ) → i < w.roster.n → voters i ≡ true → Voted w.roster i h learner.fresh (take k (w.learners j))) → Extends (holds w j k) h

-- ---- the claim: "Demand 3 is a single claim about these lists, for any number of learners, and not one for each call."

abbrev pub Claim : Type 0
Claim = (w : World) → Premises w → Agreement w

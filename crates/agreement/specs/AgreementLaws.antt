-- What the proof of the claim speaks of: entries of honest sites, histories with a quorum behind them, and what a learner's state keeps.
use Rattle.std.specs.Prelude.{◌≡◌, Bool, true, ℕ, ◌≤◌}
use mathlib.Core.List.{List, []}
use Rattle.roster.specs.Roster.{quorum}
use Rattle.roster.specs.Sites.{count_to}
use Rattle.history.specs.History.{Extends, Compatible}
use Rattle.history.specs.Words.{commands}
use Rattle.table.specs.Table.{row_of}
use Rattle.learner.specs.declared.State.{State}
use Rattle.learner.specs.StepLaws.{Sound}
use Rattle.agreement.specs.Calls.{start, Sent}
use Rattle.agreement.specs.Agreement.{World, Honest, Names}
use Rattle.agreement.specs.ChainLaws.{history, VoteSent}

-- nothing, or the history of a vote that the site sent
pub data FromSite (w : World) (i : ℕ) (g : List ℕ) : Type 0 where
  empty : g ≡ [] → FromSite w i g
  voted : (line : List ℕ) → VoteSent w.roster i line start (w.calls i) → history line ≡ g → FromSite w i g

-- an entry of site i that extends h
pub record Support (w : World) (i : ℕ) (h : List ℕ) : Type 0 where
  pub entry : List ℕ
  pub from_site : FromSite w i entry
  pub above : Extends entry h

-- N-f sites support h; of those that lie nothing is known
pub data Backed (w : World) (h : List ℕ) : Type 0 where
  backed : (q : ℕ → Bool) → quorum w.roster ≤ count_to w.roster.n q → ((i : ℕ) → Honest w i → q i ≡ true → Support w i h) → Backed w h

-- compatible with all that is compatible with every backed history
pub record Good (w : World) (g : List ℕ) : Type 0 where
  pub meets : (k : List ℕ) → ((h : List ℕ) → Backed w h → Compatible h k) → Compatible g k

-- the entries of honest sites are their votes, and what is learned is good
pub record Fine (w : World) (s : State) : Type 0 where
  pub sound : Sound w.roster s
  pub entries : (i : ℕ) → Honest w i → FromSite w i (row_of s.entries i)
  pub good : Good w (commands s.learned)

-- the premise for one line that is handed in
abbrev pub Trusted : World → List ℕ → Type 0
Trusted w line = (i : ℕ) → Honest w i → Names line i → Sent w.roster i line start (w.calls i)

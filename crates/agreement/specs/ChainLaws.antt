-- A vote that a site sent; its votes form a chain (proofs/ChainLaws.antt).
use Rattle.std.specs.Prelude.{◌≡◌, List, ℕ}
use Rattle.roster.specs.declared.Roster.{Roster}
use Rattle.frame.specs.Layout.{first}
use Rattle.frame.specs.Format.{frame_of}
use Rattle.agreement.specs.Calls.{Call, Site, Sent}

-- the history that a line carries
abbrev pub history : List ℕ → List ℕ
history line = first (frame_of line)

-- a P2B line, kind 7, that a call of site i sent
pub record VoteSent (r : Roster) (i : ℕ) (line : List ℕ) (s : Site) (calls : List Call) : Type 0 where
  pub sent : Sent r i line s calls
  pub vote : (frame_of line).kind ≡ 7

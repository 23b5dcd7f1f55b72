-- A test of the premises that can be computed, for call lists of which only the first learners' are not empty; and that it is enough.
use Rattle.std.specs.Prelude.{Bool, true, false, not, cond, ◌&&◌, ◌||◌, ℕ, leb, ltb, take}
use mathlib.Core.List.{List, [], ◌∷◌, map}
use Rattle.words.specs.Sizes.{limit}
use Rattle.roster.specs.declared.Roster.{Roster}
use Rattle.roster.specs.Roster.{valid_roster, quorum}
use Rattle.roster.specs.Sites.{count_to, all_to}
use Rattle.history.specs.History.{equal}
use Rattle.frame.specs.Format.{is_line, frame_of}
use Rattle.agreement.specs.Calls.{Call, handed, Site, start, call}
use Rattle.agreement.specs.Agreement.{World, from_acceptor}

-- ---- the test

-- the lines that the calls of site i send from s on
unfoldable pub sent_lines : Roster → ℕ → Site → List Call → List (List ℕ)
sent_lines r i s [] = []
sent_lines r i s (c ∷ calls) =
    let x = call r i s c in
    let more = sent_lines r i x.kept calls in
    cond (ltb 0 x.sent) (take x.sent x.output ∷ more) more

-- whether a line is one of these
unfoldable pub is_in : List ℕ → List (List ℕ) → Bool
is_in line [] = false
is_in line (l ∷ ls) = equal line l || is_in line ls

-- whether a line names one of the honest sites as the sender of a P1B, VERIFY or P2B
unfoldable pub names_honest : World → List ℕ → Bool
names_honest w line =
    let m = frame_of line in
    is_line limit line && (from_acceptor m.kind && (ltb m.sender w.roster.n && w.honest m.sender))

-- whether a line is authentic
unfoldable pub authentic : World → List ℕ → Bool
authentic w line =
    let i = (frame_of line).sender in
    not (names_honest w line) || is_in line (sent_lines w.roster i start (w.calls i))

unfoldable pub all_authentic : World → List (List ℕ) → Bool
all_authentic w [] = true
all_authentic w (l ∷ ls) = authentic w l && all_authentic w ls

-- whether all lines are that learner j gets, and those that site i gets if it is honest
abbrev pub of_learner : World → ℕ → Bool
of_learner w j = all_authentic w (w.learners j)

abbrev pub of_site : World → ℕ → Bool
of_site w i = not (w.honest i) || all_authentic w (map handed (w.calls i))

-- whether N-f sites or more are honest
abbrev pub is_enough : World → Bool
is_enough w = leb (quorum w.roster) (count_to w.roster.n w.honest)

-- whether the premises hold, as far as the first k learners go
unfoldable pub premises : World → ℕ → Bool
premises w k = valid_roster w.roster && (is_enough w && (all_to k (of_learner w) && all_to w.roster.n (of_site w)))

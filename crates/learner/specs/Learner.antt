-- The learner, as document 01, "Learner", words it: its refusals in their order, and what an accepted vote does.
use Rattle.std.specs.Prelude.{Bool, false, not, cond, ◌&&◌, ◌||◌, List, [], ◌∷◌, ◌++◌, ℕ, leb, Result, Ok, Err}
use Rattle.roster.specs.declared.Roster.{Roster}
use Rattle.roster.specs.Roster.{valid_roster, quorum}
use Rattle.roster.specs.Counts.{zero_ballot}
use Rattle.roster.specs.Mask.{unproven}
use Rattle.roster.specs.Sites.{count_to}
use Rattle.history.specs.declared.History.{History as Stored}
use Rattle.history.specs.History.{extends}
use Rattle.history.specs.Words.{limit, commands, valid_stored, stored}
use Rattle.merge.specs.Merged.{Merged}
use Rattle.merge.specs.Merged.{merged}
use Rattle.table.specs.declared.Table.{Table}
use Rattle.table.specs.Table.{row_of, stored_at, empty_table, valid_table}
use Rattle.refusal.specs.declared.Refusal.{Refusal}
use Rattle.refusal.specs.declared.Refusal.TheVariants.{Config, Form, Sender, Stale, Proof, Contradiction, Split, Full}
use Rattle.refusal.specs.Rules.{Rule, ◌gives◌, judged}
use Rattle.content.specs.Content.{history_rules, contradicts}
use Rattle.frame.specs.declared.Frame.{Frame}
use Rattle.frame.specs.Layout.{first}
use Rattle.frame.specs.Format.{reading_of, malformed}
use Rattle.learner.specs.declared.State.{State}
use Rattle.refusal.specs.Refusal.{Accepted, Refused}
use Rattle.learner.specs.declared.Outcome.{Outcome}

-- "fresh: empty"
abbrev pub fresh : State
fresh = record { entries = empty_table; learned = stored [] }

-- ---- CONFIG and FORM

-- CONFIG: a roster outside the figures; a count over 32, a wrong command, a repeated proposer and serial or an order that is not canonical
-- in an entry or in what is learned; an entry at N or above
unfoldable pub config : Roster → State → Bool
config r s = not (valid_roster r && (valid_table limit r.n s.entries && valid_stored limit s.learned))

-- the one kind that a learner takes, P2B, as a set of kinds: bit 7
abbrev pub taken : ℕ
taken = 128

-- FORM: no line of a kind that the learner takes
abbrev pub form : List ℕ → Bool
form line = malformed limit line taken

-- the vote that a line holds, and the history that it carries
abbrev pub vote : List ℕ → Frame
vote line = (reading_of limit line taken).frame

abbrev pub arrived : Frame → List ℕ
arrived v = first v

-- ---- an accepted vote

-- "It is stored if it extends that site's entry; if the entry extends it, the entry stays."
unfoldable pub with_vote : Table → ℕ → List ℕ → Table
with_vote t site h = cond (extends h (row_of t site)) (stored_at t site h) t

-- "Supporters are the sites whose entry then extends the arrived history."
unfoldable pub supporters : Roster → Table → List ℕ → ℕ
supporters r t h = count_to r.n (λ i. extends (row_of t i) h)

-- whether they are N-f or more
unfoldable pub claimed : Roster → Table → List ℕ → Bool
claimed r t h = leb (quorum r) (supporters r t h)

-- what is merged into what is learned, where t are the entries: the arrived history, "If they are N-f or more"
unfoldable pub claims : Roster → Table → List ℕ → List (List ℕ)
claims r t h = cond (claimed r t h) (h ∷ []) []

-- a merge so far with further histories, one after the other, up to the first that does not merge
unfoldable pub further : Merged → List (List ℕ) → Merged
further m [] = m
further m (h ∷ hs) = further (cond (m.split || m.full) m (merged limit (commands m.history) h)) hs

-- "learned becomes the merge of itself and the arrived history": of what is learned, l, and the claims. Without a claim it stays as it is.
unfoldable pub merging : Stored → List (List ℕ) → Merged
merging l hs = further (record { split = false; full = false; history = l }) hs

abbrev pub merge_of : Roster → Table → State → List ℕ → Merged
merge_of r t s h = merging s.learned (claims r t h)

-- the state after it, of which t are the entries
abbrev pub after : Roster → Table → State → List ℕ → State
after r t s h = record { entries = t; learned = (merge_of r t s h).history }

-- what an accepted vote gives: "The answer carries the number of supporters."
abbrev pub accepted : Roster → State → ℕ → List ℕ → Outcome
accepted r s site h =
    let t = with_vote s.entries site h in
    record { answer = Accepted; supporters = supporters r t h; state = after r t s h }

-- "Each returns its number only (a learner's supporters: 0), sends nothing and keeps state"
abbrev pub refuse : State → Refusal → Outcome
refuse s e = record { answer = Refused e; supporters = 0; state = s }

-- what a call in place gives: the supporters or a refusal, and the state that it leaves
abbrev pub outcome : Result ℕ Refusal → State → Outcome
outcome (Ok k) s = record { answer = Accepted; supporters = k; state = s }
outcome (Err e) s = record { answer = Refused e; supporters = 0; state = s }

-- ---- the refusals of a vote

-- SENDER: sender ≥ N. STALE: "P2B needs ballot ≥ 1". PROOF: a mask bit at N or above, or fewer than N-f ones
abbrev pub vote_heading : Roster → Frame → List Rule
vote_heading r v =
    leb r.n v.sender gives Sender ∷
    zero_ballot v.ballot gives Stale ∷
    unproven v.mask r.n (quorum r) gives Proof ∷ []

-- of a vote for h whose sender has this entry, up to its merge
abbrev pub vote_rules : Roster → List ℕ → Frame → List ℕ → List Rule
vote_rules r entry v h = vote_heading r v ++ (history_rules h ++ (contradicts entry h gives Contradiction ∷ []))

-- "SPLIT and FULL speak of that merge." SPLIT: no common extension exists. FULL: the result would exceed 32 commands
abbrev pub merge_rules : Merged → List Rule
merge_rules m = m.split gives Split ∷ m.full gives Full ∷ []

-- ---- the step: "Checks run in this order; the first that applies is given."

-- the checks up to those of the merge
abbrev pub early_rules : Roster → State → List ℕ → List Rule
early_rules r s line =
    let v = vote line in
    config r s gives Config ∷ form line gives Form ∷ vote_rules r (row_of s.entries v.sender) v (arrived v)

abbrev pub rules : Roster → State → List ℕ → List Rule
rules r s line =
    let v = vote line in
    let h = arrived v in
    early_rules r s line ++ merge_rules (merge_of r (with_vote s.entries v.sender h) s h)

unfoldable pub step : Roster → State → List ℕ → Outcome
step r s line = judged (refuse s) (accepted r s (vote line).sender (arrived (vote line))) (rules r s line)

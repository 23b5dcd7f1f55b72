-- Document 01, "Sample histories": one table. `samples_hold` (SamplesLaws.antt) is the one statement about it.
use Rattle.std.specs.Prelude.{◌≡◌, List, [], ◌∷◌, map, ℕ, length}
use Rattle.history.specs.History.{Extends, Compatible, canonical}
use Rattle.history.specs.Words.{commands, padded}
use Rattle.merge.specs.Merge.{IsMerge}
use Rattle.roster.specs.declared.Roster.{Roster}
use Rattle.frame.specs.Layout.{frame_capacity, with_values}
use Rattle.frame.specs.Format.{line_of}
use Rattle.learner.specs.declared.Outcome.{Outcome}
use Rattle.refusal.specs.Refusal.{answer_number}
use Rattle.learner.specs.Learner.{fresh}
use Rattle.learner.specs.Run.{run, outcomes}

-- A enrols slot 7, B revokes it; C and D raise slot 9.
abbrev pub A : ℕ
A = 0x0101000100070000

abbrev pub B : ℕ
B = 0x0202000100070000

abbrev pub C : ℕ
C = 0x0103000200090001

abbrev pub D : ℕ
D = 0x0303000100090005

-- "N=4, f=1"
abbrev pub four : Roster
four = record { n = 4; f = 1 }

-- the line of a vote of a site in ballot 1, with proofs of sites 0, 1 and 2
abbrev pub vote : ℕ → List ℕ → List ℕ
vote site h = line_of (with_values (7 ∷ site ∷ 0 ∷ 1 ∷ 0 ∷ 7 ∷ length h ∷ 0 ∷ []) (padded frame_capacity h))

-- what a learner answers, and how many supporters it names
abbrev pub answers : List Outcome → List (List ℕ)
answers os = map (λ (o : Outcome). answer_number o.answer ∷ o.supporters ∷ []) os

-- what a line of the table says
pub data Sample : Type 0 where
  order : List ℕ → List ℕ → Sample
  extension : List ℕ → List ℕ → Sample
  no_extension : List ℕ → List ℕ → Sample
  merged : List ℕ → List ℕ → List ℕ → Sample
  split : List ℕ → List ℕ → Sample
  votes : List (List ℕ) → List (List ℕ) → List ℕ → Sample

-- the canonical order of g is m; h extends g, or does not; the merge of g and h is m, or no common extension of them exists; a fresh learner answers
-- these lines so, and has then learned m
abbrev pub Holds : Sample → Type 0
Holds (order g m) = canonical g ≡ m
Holds (extension h g) = Extends h g
Holds (no_extension h g) = Extends h g → ⊥
Holds (merged g h m) = IsMerge g h m
Holds (split g h) = Compatible g h → ⊥
Holds (votes ls ws m) = (answers (outcomes four fresh ls) ≡ ws) × (commands (run four fresh ls).learned ≡ m)

abbrev pub samples : List Sample
samples =
    order (B ∷ C ∷ A ∷ []) (C ∷ B ∷ A ∷ []) ∷
    order (D ∷ C ∷ A ∷ []) (A ∷ C ∷ D ∷ []) ∷
    order (A ∷ B ∷ C ∷ []) (A ∷ C ∷ B ∷ []) ∷
    order (B ∷ A ∷ []) (B ∷ A ∷ []) ∷
    extension (A ∷ C ∷ []) (C ∷ []) ∷
    no_extension (A ∷ B ∷ []) (B ∷ []) ∷
    merged (A ∷ C ∷ []) (A ∷ B ∷ []) (A ∷ C ∷ B ∷ []) ∷
    split (A ∷ []) (B ∷ []) ∷
    split (A ∷ B ∷ []) (B ∷ A ∷ []) ∷
    votes (vote 0 (A ∷ []) ∷ vote 1 (A ∷ []) ∷ []) ((0 ∷ 1 ∷ []) ∷ (0 ∷ 2 ∷ []) ∷ []) [] ∷
    votes (vote 0 (A ∷ []) ∷ vote 1 (A ∷ []) ∷ vote 2 (A ∷ C ∷ []) ∷ vote 3 (A ∷ []) ∷ [])
    ((0 ∷ 1 ∷ []) ∷ (0 ∷ 2 ∷ []) ∷ (0 ∷ 1 ∷ []) ∷ (0 ∷ 4 ∷ []) ∷ [])
    (A ∷ []) ∷ []

-- each line of a table holds
pub data AllHold : List Sample → Type 0 where
  end : AllHold []
  line : {s : Sample} {l : List Sample} → Holds s → AllHold l → AllHold (s ∷ l)

-- A site changes its view, and a ballot is opened and used in the new one; all of it is computed. These are the call lists of agreement's second world: of
-- four sites, one of which may lie, site 3 and the site itself suspect the leader of view 0, the two others change to view 1 as well, and site 1, which
-- leads it, opens a classic ballot there.
use Rattle.std.specs.Prelude.{◌≡◌, List, [], ◌∷◌, ℕ}
use mathlib.Core.List.{map}
use Rattle.refusal.specs.declared.Refusal.TheVariants.{Stale}
use Rattle.refusal.specs.Refusal.{Accepted, Refused}
use Rattle.site.specs.declared.ViewRecord.{ViewRecord}
use Rattle.viewchange.specs.ViewChange as viewchange
use Rattle.acceptor.specs.Acceptor as acceptor
use Rattle.agreement.specs.Calls.{handed, start}
use Rattle.agreement.specs.Testing.{sent_lines}
use Rattle.agreement.specs.Example.{four, A, said_in, suspects, changes, late, opens, verifies_order, votes_order, tell, tell_change, changing, changed_calls}
use Rattle.replica.specs.Calls.{lent, call_of, answer_of, after}

-- the record in view 1, and what site i sends
abbrev in_view1 : ViewRecord
in_view1 = record { view = record { 0 = 1 }; suspicions = 0; target = record { 0 = 0 }; changes = 0 }

-- it is in view 1, with sites 0, 1 and 2: a LEADER; and it reports that nothing is proven or held: a P1B
abbrev leads : ℕ → List ℕ
leads i = said_in viewchange.leader_kind i 1 0 7 []

abbrev reports : ℕ → List ℕ
reports i = said_in 3 i 0 2 0 []

unfoldable pub answers : ℕ → List (List ℕ)
answers i = changes i ∷ leads i ∷ reports i ∷ verifies_order i ∷ votes_order i ∷ []

-- ---- what they come to, at site i with sites j and k

pub record Changed (i j k : ℕ) : Type 0 where
  -- each line goes where its kind names
  pub by_kind : map (λ c. call_of (handed c) (lent c)) (changed_calls i j k) ≡ changed_calls i j k
  -- "The host's own suspicion enters as a SUSPICION from itself"
  pub own : viewchange.own_suspicion i (record { 0 = 0 }) ≡ suspects i
  -- "At N-f ones or more the view becomes the target, suspicions and target clear"
  pub moved : (after four i start (changing i j k)).views ≡ in_view1
  -- a VIEWCHANGE to the view that the site is in then is STALE
  pub again : answer_of four i (after four i start (changing i j k)) (tell_change (changes j)) ≡ Refused Stale
  -- so is the ballot of view 0, which a fresh site takes; and that of view 1, which is STALE to a fresh site, is taken
  pub taken : answer_of four i start (tell late) ≡ Accepted
  pub stale : answer_of four i (after four i start (changing i j k)) (tell late) ≡ Refused Stale
  pub early : answer_of four i start (tell opens) ≡ Refused Stale
  pub opened : answer_of four i (after four i start (changing i j k)) (tell opens) ≡ Accepted
  -- the acceptor's calls leave the view; what is voted for is proven; and these lines are sent
  pub stays : (after four i start (changed_calls i j k)).views ≡ in_view1
  pub proven : acceptor.proven_of (after four i start (changed_calls i j k)).state ≡ A ∷ []
  pub sent : sent_lines four i start (changed_calls i j k) ≡ answers i

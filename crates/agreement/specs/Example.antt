-- The premises can be met, in two worlds with three honest sites and a liar, in each of which two learners learn a command. In the first a fast ballot is
-- opened in view 0; in the second the sites change to view 1, and its leader opens a classic ballot there. All of it is computed.
use Rattle.std.specs.Prelude.{◌≡◌, refl, List, [], ◌∷◌, ◌++◌, ℕ, ◌+◌, ◌^◌, zero, suc, ltb, replicate}
use Rattle.std.specs.Int.Count.{ones, ones_in}
use Rattle.roster.specs.declared.Roster.{Roster}
use Rattle.roster.specs.Roster.{valid_roster, quorum}
use Rattle.roster.specs.Mask.{unproven, bit, reaches, beyond}
use Rattle.roster.specs.Sites.{count_to, all_to}
use Rattle.command.specs.Command.{valid_argument, valid_command, all_valid, wrong, field, proposer, kind, serial, slot, argument, same_request, kinds_table, kinds_conflict, conflict}
use Rattle.history.specs.History.{present, repeated, apart, free, least, without, ordered, canonical, equal, is_canonical, valid_history, improper, comes_off, extends}
use Rattle.history.specs.Words.{padded, valid_stored}
use Rattle.merge.specs.Merge.{appended, merge}
use Rattle.merge.specs.Merged.{answered, merged}
use Rattle.table.specs.Table.{in_range, row, stored_at, empty_table, valid_row, valid_table}
use Rattle.content.specs.Content.{contradicts}
use Rattle.refusal.specs.Rules.{judged}
use Rattle.frame.specs.Hex.{digit, is_digit, value_of, all_digits, byte_of, number_from, digits_of, spell, numbers, all_fit, total}
use Rattle.frame.specs.Layout.{longest}
use Rattle.frame.specs.Kinds.{uses, is_kind, zero_unless, unused_zero}
use Rattle.frame.specs.Format.{line_of, proper, all_zero, fits, writable, framed, frame_of, is_line, reading_of, malformed}
use Rattle.site.specs.Message.{message}
use Rattle.viewchange.specs.ViewChange as viewchange
use Rattle.learner.specs.Learner as learner
use Rattle.learner.specs.Run.{run}
use Rattle.agreement.specs.Calls.{Call, to_acceptor, to_view_change}
use Rattle.agreement.specs.Agreement.{World, holds}

-- "N=4, f=1"
unfoldable pub four : Roster
four = record { n = 4; f = 1 }

-- A enrols slot 7, B revokes it: they conflict
unfoldable pub A : ℕ
A = 0x0101000100070000

unfoldable pub B : ℕ
B = 0x0202000100070000

-- ---- the lines

-- the line of a frame in view 0: its kind, sender, ballot, mask and commands
abbrev pub said : ℕ → ℕ → ℕ → ℕ → List ℕ → List ℕ
said kind own ballot mask h = line_of (message kind own (record { 0 = 0 }) (record { 0 = ballot }) (record { 0 = 0 }) mask h [])

-- site 0, which leads view 0, opens the fast ballot 1
unfoldable pub fast : List ℕ
fast = said 2 0 1 0 []

-- proposer 1 proposes A in it
unfoldable pub propose : List ℕ
propose = said 4 1 1 0 (A ∷ [])

-- site i verifies A, and votes for it with proofs of sites 0, 1 and 2
unfoldable pub verifies : ℕ → List ℕ
verifies i = said 6 i 1 0 (A ∷ [])

unfoldable pub votes : ℕ → List ℕ
votes i = said 7 i 1 7 (A ∷ [])

-- site 3 lies: it votes for B too, with proofs that it never had
unfoldable pub lie : List ℕ
lie = said 7 3 1 7 (B ∷ [])

-- and it suspects the leader
unfoldable pub suspicion : List ℕ
suspicion = said 8 3 0 0 []

-- ---- the call lists

-- a buffer of 1,061 bytes, and a call of the acceptor with it
unfoldable pub buffer : List ℕ
buffer = replicate longest 0

unfoldable pub tell : List ℕ → Call
tell line = to_acceptor line buffer

-- each honest site hears of the ballot, signs A, and hears that the two others verify it
unfoldable pub calls_of : ℕ → List Call
calls_of zero = tell fast ∷ tell propose ∷ tell (verifies 1) ∷ tell (verifies 2) ∷ []
calls_of (suc zero) = tell fast ∷ tell propose ∷ tell (verifies 2) ∷ tell (verifies 0) ∷ []
calls_of (suc (suc zero)) = to_view_change suspicion buffer ∷ tell fast ∷ tell propose ∷ tell (verifies 0) ∷ tell (verifies 1) ∷ []
calls_of (suc (suc (suc i))) = []

-- site 3 votes for B before one learner, and for A before the other
unfoldable pub lines_of : ℕ → List (List ℕ)
lines_of zero = lie ∷ votes 0 ∷ votes 1 ∷ votes 2 ∷ []
lines_of (suc zero) = votes 3 ∷ votes 0 ∷ votes 1 ∷ []
lines_of (suc (suc j)) = []

-- sites 0, 1 and 2 are honest
unfoldable pub world : World
world = record { roster = four; honest = λ i. ltb i 3; calls = calls_of; learners = lines_of }

-- both learners have then learned A, so the claim speaks of something
pub learns : (holds world 0 4 ≡ A ∷ []) × (holds world 1 3 ≡ A ∷ [])
unfolding
    four A B votes lie lines_of world
    field proposer kind serial slot argument valid_argument valid_command all_valid wrong same_request kinds_table kinds_conflict conflict
    present repeated apart free least without ordered canonical equal is_canonical valid_history improper comes_off extends padded valid_stored
    appended merge answered merged
    valid_roster quorum bit reaches beyond unproven ones ones_in count_to all_to
    in_range row stored_at empty_table valid_row valid_table
    judged
    digit is_digit value_of all_digits byte_of number_from digits_of spell numbers all_fit total
    uses is_kind zero_unless unused_zero line_of proper all_zero fits writable framed frame_of is_line reading_of malformed
    learner.config contradicts learner.with_vote learner.supporters learner.claimed learner.claims learner.further learner.merging
    learner.step run
learns = (refl, refl)

-- ---- the second world: its lines

-- the line of a frame of some view: its kind, sender, view, ballot, mask and commands
unfoldable pub said_in : ℕ → ℕ → ℕ → ℕ → ℕ → List ℕ → List ℕ
said_in kind own view ballot mask h =
    line_of (message kind own (record { 0 = view }) (record { 0 = ballot }) (record { 0 = 0 }) mask h [])

-- site i suspects the leader of view 0: a SUSPICION
abbrev pub suspects : ℕ → List ℕ
suspects i = said_in viewchange.suspicion_kind i 0 0 0 []

-- it changes to view 1, since it and site 3 suspect: a VIEWCHANGE
abbrev pub changes : ℕ → List ℕ
changes i = said_in viewchange.change_kind i 1 0 (2 ^ i + 8) []

-- site 0, which led view 0, opens ballot 2 there; site 1, which leads view 1, opens it in that view: P1A
abbrev pub late : List ℕ
late = said_in 1 0 0 2 0 []

abbrev pub opens : List ℕ
opens = said_in 1 1 1 2 0 []

-- site 1 orders A: a P2A; site i verifies it, and votes for it with proofs of sites 0, 1 and 2
abbrev pub orders : List ℕ
orders = said_in 5 1 1 2 0 (A ∷ [])

abbrev pub verifies_order : ℕ → List ℕ
verifies_order i = said_in 6 i 1 2 0 (A ∷ [])

abbrev pub votes_order : ℕ → List ℕ
votes_order i = said_in 7 i 0 2 7 (A ∷ [])

-- site 3 lies again: it votes for B too
abbrev pub second_lie : List ℕ
second_lie = said_in 7 3 0 2 7 (B ∷ [])

-- ---- its call lists

-- a call of the view change with the buffer
unfoldable pub tell_change : List ℕ → Call
tell_change line = to_view_change line buffer

-- site i changes its view with sites j and k; then it refuses the ballot of view 0, takes that of view 1, and votes with them
unfoldable pub changing : ℕ → ℕ → ℕ → List Call
changing i j k = tell_change (suspects 3) ∷ tell_change (suspects i) ∷ tell_change (changes j) ∷ tell_change (changes k) ∷ []

unfoldable pub voting : ℕ → ℕ → List Call
voting j k = tell late ∷ tell opens ∷ tell orders ∷ tell (verifies_order j) ∷ tell (verifies_order k) ∷ []

unfoldable pub changed_calls : ℕ → ℕ → ℕ → List Call
changed_calls i j k = changing i j k ++ voting j k

unfoldable pub changed_calls_of : ℕ → List Call
changed_calls_of zero = changed_calls 0 1 2
changed_calls_of (suc zero) = changed_calls 1 2 0
changed_calls_of (suc (suc zero)) = changed_calls 2 0 1
changed_calls_of (suc (suc (suc i))) = []

-- site 3 votes for B before one learner, and for A before the other
unfoldable pub changed_lines_of : ℕ → List (List ℕ)
changed_lines_of zero = second_lie ∷ votes_order 0 ∷ votes_order 1 ∷ votes_order 2 ∷ []
changed_lines_of (suc zero) = votes_order 3 ∷ votes_order 0 ∷ votes_order 1 ∷ []
changed_lines_of (suc (suc j)) = []

-- the same sites are honest
unfoldable pub changed_world : World
changed_world = record { roster = four; honest = world.honest; calls = changed_calls_of; learners = changed_lines_of }

-- both learners have then learned A in it
pub changed_learns : (holds changed_world 0 4 ≡ A ∷ []) × (holds changed_world 1 3 ≡ A ∷ [])
unfolding
    four A B said_in changed_lines_of world changed_world
    field proposer kind serial slot argument valid_argument valid_command all_valid wrong same_request kinds_table kinds_conflict conflict
    present repeated apart free least without ordered canonical equal is_canonical valid_history improper comes_off extends padded valid_stored
    appended merge answered merged
    valid_roster quorum bit reaches beyond unproven ones ones_in count_to all_to
    in_range row stored_at empty_table valid_row valid_table
    judged
    digit is_digit value_of all_digits byte_of number_from digits_of spell numbers all_fit total
    uses is_kind zero_unless unused_zero line_of proper all_zero fits writable framed frame_of is_line reading_of malformed
    learner.config contradicts learner.with_vote learner.supporters learner.claimed learner.claims learner.further learner.merging
    learner.step run
changed_learns = (refl, refl)

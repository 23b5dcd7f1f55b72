-- A site's calls, beside what document 01, "Call lists of demand 3", words (in agreement/specs/Calls.antt): the call that the kind of a line names, its
-- answer, and the site after a list.
use Rattle.std.specs.Prelude.{Bool, cond, List, [], ◌∷◌, ℕ}
use Rattle.roster.specs.declared.Roster.{Roster}
use Rattle.roster.specs.Mask.{bit}
use Rattle.refusal.specs.Refusal.{Answer}
use Rattle.frame.specs.Format.{frame_of}
use Rattle.viewchange.specs.ViewChange as viewchange
use Rattle.acceptor.specs.Acceptor as acceptor
use Rattle.agreement.specs.Calls.{Call, to_acceptor, to_view_change, Site, call}

-- the buffer that a call lends
abbrev pub lent : Call → List ℕ
lent (to_acceptor line out) = out
lent (to_view_change line out) = out

-- the kind that a line names, and the call of a line by its kind: SUSPICION and VIEWCHANGE go to the view change, all other lines to the acceptor
abbrev pub line_kind : List ℕ → ℕ
line_kind line = (frame_of line).kind

abbrev pub call_of : List ℕ → List ℕ → Call
call_of line out = cond (bit viewchange.taken (line_kind line)) (to_view_change line out) (to_acceptor line out)

-- whether FORM refuses a call's line
abbrev pub form : Call → Bool
form (to_acceptor line out) = acceptor.form line
form (to_view_change line out) = viewchange.form line

-- the answer of a call of site `own`, by the contracts of acceptor and view change
abbrev pub answer_of : Roster → ℕ → Site → Call → Answer
answer_of r own s (to_acceptor line out) = (acceptor.returned r own s.views s.state line out).answer
answer_of r own s (to_view_change line out) = (viewchange.returned r own s.views line out).answer

-- the site after a list of calls: "each call gets the state that the last one in its list returned or left"
unfoldable pub after : Roster → ℕ → Site → List Call → Site
after r own s [] = s
after r own s (c ∷ calls) = after r own (call r own s c).kept calls

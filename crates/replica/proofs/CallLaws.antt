-- A call that is accepted is the one that the kind of its line names; what the next call of a list leaves and sends; and a list's lines are all that it
-- sent.
use Rattle.std.specs.Prelude.{◌≡◌, refl, Bool, true, false, not, cond, ◌&&◌, ℕ, ◌≤◌, ltb, length, take}
use Rattle.std.proofs.Common.{sym, ap, ◌∙◌, ⊎_elim, lt-ltb, lit<}
use Rattle.std.proofs.lemmas.Bool.{false≢true, not-false}
use mathlib.Core.List.{List, [], ◌∷◌, ◌++◌, Memᴰ}
use Rattle.words.specs.Sizes.{limit}
use Rattle.basics.specs.Bools.{lt_or_le}
use Rattle.roster.specs.declared.Roster.{Roster}
use Rattle.roster.specs.Mask.{bit}
use Rattle.roster.specs.MaskLaws.{bit_out}
use Rattle.roster.specs.Sites.{all_to}
use Rattle.roster.specs.SitesLaws.{all_each}
use Rattle.refusal.specs.Refusal.{Accepted}
use Rattle.refusal.specs.AnswerLaws.{accepted_not_refused}
use Rattle.frame.specs.Format.{malformed, reading_of}
use Rattle.frame.specs.FormatLaws.{found_taken}
use Rattle.site.specs.Reply.{Reply}
use Rattle.viewchange.specs.ViewChange as viewchange
use Rattle.viewchange.specs.ViewChangeLaws as change_laws
use Rattle.acceptor.specs.Acceptor as acceptor
use Rattle.acceptor.specs.AcceptorLaws as acceptor_laws
use Rattle.agreement.specs.Calls.{Call, to_acceptor, to_view_change, handed, Site, Left, call, Sent, now, later}
use Rattle.agreement.specs.Testing.{sent_lines}
use Rattle.replica.specs.Calls.{lent, line_kind, call_of, form, answer_of, after}

-- ---- the call of a line by its kind

-- no kind is taken by both roles
apart : all_to 10 (λ k. not (bit acceptor.taken k && bit viewchange.taken k)) ≡ true
unfolding all_to bit
apart = refl

not_both : (a b : Bool) → not (a && b) ≡ true → a ≡ true → b ≡ false
not_both true true e p = absurd (false≢true e)
not_both true false e p = refl
not_both false b e p = absurd (false≢true p)

not_taken : (k : ℕ) → bit acceptor.taken k ≡ true → bit viewchange.taken k ≡ false
not_taken k e =
    ⊎_elim
    (λ p. not_both (bit acceptor.taken k) (bit viewchange.taken k) (all_each 10 (λ i. not (bit acceptor.taken i && bit viewchange.taken i)) apart k p) e)
    (λ (p : 10 ≤ k). bit_out viewchange.taken 10 k (lit< tt) p)
    (lt_or_le k 10)

-- a line that FORM lets pass has a kind that its role takes
kind_taken : (line : List ℕ) (kinds : ℕ) → malformed limit line kinds ≡ false → bit kinds (line_kind line) ≡ true
unfolding malformed
kind_taken line kinds e = found_taken limit line kinds (not-false (reading_of limit line kinds).found e)

-- so a call that FORM lets pass is the one that the kind of its line names
pub formed_call : (c : Call) → form c ≡ false → call_of (handed c) (lent c) ≡ c
formed_call (to_acceptor line out) e = rw (not_taken (line_kind line) (kind_taken line acceptor.taken e))
formed_call (to_view_change line out) e = rw (kind_taken line viewchange.taken e)

-- and an accepted one is
accepted_form : (r : Roster) (own : ℕ) (s : Site) (c : Call) → answer_of r own s c ≡ Accepted → form c ≡ false
accepted_form r own s (to_acceptor line out) e = go (acceptor_laws.stepped r own (length out) s.views s.state line)
  where
    go : acceptor_laws.Stepped r own (length out) s.views s.state line → acceptor.form line ≡ false
    go (acceptor_laws.refuses q g o) = absurd (accepted_not_refused (sym e ∙ ap (λ (x : Reply _). x.answer) o))
    go (acceptor_laws.accepting a) = a.framed
accepted_form r own s (to_view_change line out) e = go (change_laws.stepped r own (length out) s.views line)
  where
    go : change_laws.Stepped r own (length out) s.views line → viewchange.form line ≡ false
    go (change_laws.refuses q g o) = absurd (accepted_not_refused (sym e ∙ ap (λ (x : Reply _). x.answer) o))
    go (change_laws.accepting a) = a.framed

pub accepted_call : (r : Roster) (own : ℕ) (s : Site) (c : Call) → answer_of r own s c ≡ Accepted → call_of (handed c) (lent c) ≡ c
accepted_call r own s c e = formed_call c (accepted_form r own s c e)

-- ---- the next call of a list

pub after_append : (r : Roster) (own : ℕ) (s : Site) (calls more : List Call) → after r own s (calls ++ more) ≡ after r own (after r own s calls) more
unfolding after
after_append r own s [] more = refl
after_append r own s (c ∷ calls) more = after_append r own (call r own s c).kept calls more

-- the site after it is what it leaves of the site after the list
pub after_next : (r : Roster) (own : ℕ) (s : Site) (calls : List Call) (c : Call)
    → after r own s (calls ++ c ∷ []) ≡ (call r own (after r own s calls) c).kept
unfolding after
after_next r own s calls c = after_append r own s calls (c ∷ [])

-- and what it sends the longer list sent
pub sent_next : (r : Roster) (own : ℕ) (s : Site) (calls : List Call) (c : Call) {line : List ℕ} → Sent r own line (after r own s calls) (c ∷ [])
    → Sent r own line s (calls ++ c ∷ [])
unfolding after
sent_next r own s [] c t = t
sent_next r own s (d ∷ calls) c t = later (sent_next r own (call r own s d).kept calls c t)

-- ---- what a list sends

-- The lines that agreement's `sent_lines` computes are sent, by its `sent_is` (agreement/proofs/Testing.antt); and no others are.
pub is_sent : {r : Roster} {own : ℕ} {line : List ℕ} {s : Site} {calls : List Call} → Sent r own line s calls → Memᴰ line (sent_lines r own s calls)
unfolding sent_lines
is_sent {r} {own} {s = s} (now {c = c} p e) = rw (lt-ltb 0 (call r own s c).sent p) (Memᴰ.head (sym e))
is_sent {r} {own} {line} {s} (later {c = c} {calls = calls} t) = go (ltb 0 x.sent) (is_sent t)
  where
    x : Left
    x = call r own s c

    more : List (List ℕ)
    more = sent_lines r own x.kept calls

    go : (b : Bool) → Memᴰ line more → Memᴰ line (cond b (take x.sent x.output ∷ more) more)
    go true m = Memᴰ.tail m
    go false m = m

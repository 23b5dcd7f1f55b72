-- One step of the acceptor: its outcome, how the proven history grows, and the frames that it sends.
use Rattle.std.specs.Prelude.{◌≡◌, refl, ◌⊎◌, Bool, true, false, List, ◌∷◌, ℕ, ◌≤◌, length}
use Rattle.std.proofs.Common.{sym, ◌∙◌, subst, inl, inr, arith, length-take}
use Rattle.roster.specs.declared.Roster.{Roster}
use Rattle.roster.specs.Roster.{quorum}
use Rattle.roster.specs.Mask.{reaches}
use Rattle.basics.specs.Bools.{and_left, and_right}
use Rattle.history.specs.History.{Extends, extends, canonical}
use Rattle.history.specs.ExtensionLaws.{extends_refl, extends_sound}
use Rattle.history.specs.Words.{limit}
use Rattle.history.specs.WordsLaws.{commands_stored}
use Rattle.merge.specs.Merge.{appended}
use Rattle.table.specs.declared.Table.{Table}
use Rattle.table.specs.Table.{stored_at}
use Rattle.refusal.specs.declared.Refusal.{Refusal}
use Rattle.refusal.specs.declared.Refusal.TheVariants.{Config, Form}
use Rattle.refusal.specs.Rules.{◌gives◌}
use Rattle.refusal.specs.Order.{in_order, follows}
use Rattle.refusal.specs.JudgedLaws.{GivenFirst, NoneHolds, pass, Judgement, refused, accepts, judgement}
use Rattle.frame.specs.declared.Frame.{Frame}
use Rattle.frame.specs.Layout.{first}
use Rattle.frame.specs.FormatLaws.{read_n}
use Rattle.site.specs.declared.ViewRecord.{ViewRecord}
use Rattle.site.specs.Reply.{silent, sends, Reply, refuse, accept}
use Rattle.site.specs.ReplyLaws.{silent_sends, sends_same}
use Rattle.site.specs.MessageLaws.{first_is}
use Rattle.acceptor.specs.declared.State.{State}
use Rattle.acceptor.specs.Acceptor.{
  Kind,
  P1A,
  FAST,
  PROPOSE,
  P2A,
  VERIFY,
  kind_of,
  taken,
  received,
  carried,
  held_of,
  proven_of,
  entry_of,
  config,
  form,
  frame_rules,
  rules_in,
  rules,
  p1b,
  verify,
  p2b,
  in_ballot,
  lengthened,
  opening,
  signing,
  sign,
  certificate_of,
  convinces,
  proves,
  storing,
  proving,
  store,
  verifying,
  accepted,
  step,
}

-- ---- the outcome of a step

-- the kind of the frame that a line holds
abbrev kind_in : List ℕ → Kind
kind_in line = kind_of (received line).kind

-- an accepted frame: no check applies
pub record Accepts (r : Roster) (own room : ℕ) (v : ViewRecord) (s : State) (line : List ℕ) : Type 0 where
  pub configured : config r own room v s ≡ false
  pub framed : form line ≡ false
  pub passes : NoneHolds (rules_in r v s (received line))
  pub outcome : step r own room v s line ≡ accepted (kind_in line) r own v s (received line)

pub data Stepped (r : Roster) (own room : ℕ) (v : ViewRecord) (s : State) (line : List ℕ) : Type 0 where
  refuses : (e : Refusal) → GivenFirst e (rules r own room v s line) → step r own room v s line ≡ refuse s e → Stepped r own room v s line
  accepting : Accepts r own room v s line → Stepped r own room v s line

pub stepped : (r : Roster) (own room : ℕ) (v : ViewRecord) (s : State) (line : List ℕ) → Stepped r own room v s line
unfolding step
stepped r own room v s line = go (judgement (refuse s) (accepted (kind_in line) r own v s (received line)) (rules r own room v s line))
  where
    go : Judgement (refuse s) (accepted (kind_in line) r own v s (received line)) (rules r own room v s line) → Stepped r own room v s line
    go (refused e g o) = refuses e g o
    go (accepts (pass a (pass b n)) o) = accepting (record { configured = a; framed = b; passes = n; outcome = o })

-- "Checks run in this order": the rules follow the order of the table of refusals
pub rules_follow : (r : Roster) (own room : ℕ) (v : ViewRecord) (s : State) (line : List ℕ) → follows in_order (rules r own room v s line) ≡ true
unfolding follows
rules_follow r own room v s line = go (kind_in line)
  where
    go : (k : Kind)
        → follows in_order
        (config r own room v s gives Config ∷
        form line gives Form ∷
        frame_rules k r v.view s (received line)) ≡ true
    go P1A = refl
    go FAST = refl
    go PROPOSE = refl
    go P2A = refl
    go VERIFY = refl

-- the table with a VERIFY stored in it
abbrev pub verified_by : State → Frame → Table
verified_by s m = stored_at s.verified m.sender (carried m)

-- what an accepted frame does: a ballot is opened, a history is signed, a VERIFY proves its history, is stored only, or has no effect
pub data Effect (r : Roster) (own : ℕ) (v : ViewRecord) (s : State) (m : Frame) : Reply State → Type 0 where
  opens_classic : Effect r own v s m (accept (in_ballot s m.ballot 0) (sends (p1b own s m.ballot)))
  opens_fast : Effect r own v s m (accept (in_ballot s m.ballot 1) silent)
  signs : (h : List ℕ) → Effect r own v s m (accept (signing own s h) (sends (verify own v s h)))
  proves_it : proves r s (verified_by s m) (carried m) ≡ true
      → Effect r own v s m
      (accept (proving s (verified_by s m) (certificate_of r (verified_by s m) (carried m)) (carried m))
      (sends (p2b own s (certificate_of r (verified_by s m) (carried m)) (carried m))))
  stores : Effect r own v s m (accept (storing s (verified_by s m)) silent)
  ignores : Effect r own v s m (accept s silent)

pub effect : (k : Kind) (r : Roster) (own : ℕ) (v : ViewRecord) (s : State) (m : Frame) → Effect r own v s m (accepted k r own v s m)
unfolding opening sign lengthened store verifying
effect P1A r own v s m = opens_classic
effect FAST r own v s m = opens_fast
effect PROPOSE r own v s m = signs (canonical (appended (held_of s) (carried m)))
effect P2A r own v s m = signs (carried m)
effect VERIFY r own v s m = go (extends (carried m) (entry_of s m)) (proves r s (verified_by s m) (carried m)) refl refl
  where
    go : (a b : Bool) → extends (carried m) (entry_of s m) ≡ a → proves r s (verified_by s m) (carried m) ≡ b
        → Effect r own v s m (accepted VERIFY r own v s m)
    go true true p q = rw (p, q) (proves_it q)
    go true false p q = rw (p, q) stores
    go false b p q = rw p ignores

-- ---- the proven history

-- what is proven next extends the proven history
proves_extends : (r : Roster) (s : State) (m : Frame) → proves r s (verified_by s m) (carried m) ≡ true → Extends (carried m) (proven_of s)
unfolding convinces
proves_extends r s m e =
    let h = carried m in
    extends_sound h (proven_of s)
    (and_left (extends h (proven_of s)) _ (and_right (reaches (certificate_of r (verified_by s m) h) (quorum r)) _ e))

-- a line carries at most 32 commands, so its history is stored whole
pub carried_short : (line : List ℕ) → length (carried (received line)) ≤ limit
carried_short line = rw length-take (omega (arith, read_n limit line taken))

effect_grows : {r : Roster} {own : ℕ} {v : ViewRecord} {s : State} {m : Frame} {o : Reply State} → length (carried m) ≤ limit → Effect r own v s m o
    → Extends (proven_of o.state) (proven_of s)
effect_grows {s = s} l opens_classic = extends_refl (proven_of s)
effect_grows {s = s} l opens_fast = extends_refl (proven_of s)
effect_grows {s = s} l (signs h) = extends_refl (proven_of s)
effect_grows {r} {s = s} {m = m} l (proves_it e) = rw (commands_stored (carried m) l) (proves_extends r s m e)
effect_grows {s = s} l stores = extends_refl (proven_of s)
effect_grows {s = s} l ignores = extends_refl (proven_of s)

-- whatever the state, and whoever sent the line: the proven history only grows
pub proven_grows : (r : Roster) (own room : ℕ) (v : ViewRecord) (s : State) (line : List ℕ)
    → Extends (proven_of (step r own room v s line).state) (proven_of s)
proven_grows r own room v s line = go (stepped r own room v s line)
  where
    go : Stepped r own room v s line → Extends (proven_of (step r own room v s line).state) (proven_of s)
    go (refuses e g o) = rw o (extends_refl (proven_of s))
    go (accepting a) = rw a.outcome (effect_grows (carried_short line) (effect (kind_in line) r own v s (received line)))

-- ---- the frames that are sent

-- a P1B, VERIFY or P2B from `own`; a P2B carries the history that is proven in state s
pub record Message (own : ℕ) (s : State) (m : Frame) : Type 0 where
  pub kind : (m.kind ≡ 3) ⊎ ((m.kind ≡ 6) ⊎ (m.kind ≡ 7))
  pub sender : m.sender ≡ own
  pub vote : m.kind ≡ 7 → first m ≡ proven_of s

effect_sends : {r : Roster} {own : ℕ} {v : ViewRecord} {s : State} {m : Frame} {o : Reply State} → length (carried m) ≤ limit → Effect r own v s m o
    → {x : Frame} → o.sending ≡ sends x → Message own o.state x
effect_sends {own = own} {s = s} {m = m} l opens_classic h =
    subst (Message own (in_ballot s m.ballot 0)) (sends_same h) (record { kind = inl refl; sender = refl; vote = λ e. absurd (omega arith) })
effect_sends l opens_fast h = absurd (silent_sends h)
effect_sends {own = own} {s = s} l (signs g) h =
    subst (Message own (signing own s g)) (sends_same h) (record { kind = inr (inl refl); sender = refl; vote = λ e. absurd (omega arith) })
effect_sends {r} {own} {s = s} {m = m} l (proves_it e) h =
    subst (Message own (proving s (verified_by s m) (certificate_of r (verified_by s m) (carried m)) (carried m))) (sends_same h)
    (record {
      kind = inr (inr refl);
      sender = refl;
      vote = λ e. first_is (carried m) (omega arith) ∙ sym (commands_stored (carried m) l);
    })
effect_sends l stores h = absurd (silent_sends h)
effect_sends l ignores h = absurd (silent_sends h)

-- each frame that a step sends is one, and of a P2B the state is the one that the step leaves
pub sends_message : (r : Roster) (own room : ℕ) (v : ViewRecord) (s : State) (line : List ℕ) {m : Frame} → (step r own room v s line).sending ≡ sends m
    → Message own (step r own room v s line).state m
sends_message r own room v s line {m} h = go (stepped r own room v s line)
  where
    go : Stepped r own room v s line → Message own (step r own room v s line).state m
    go (refuses e g o) = absurd (silent_sends (rw o at h))
    go (accepting a) =
        rw a.outcome (effect_sends (carried_short line) (effect (kind_in line) r own v s (received line)) (rw a.outcome at h))

-- A site's votes form a chain: each P2B that it sends extends what it had proven, whatever lines are handed to it.
use Rattle.std.specs.Prelude.{◌≡◌, ◌⊎◌, List, ℕ, ◌<◌, length, take}
use Rattle.std.proofs.Common.{sym, ap, ◌∙◌, inl, inr, arith}
use Rattle.roster.specs.declared.Roster.{Roster}
use Rattle.history.specs.History.{Extends}
use Rattle.history.specs.ExtensionLaws.{extends_refl, extends_trans}
use Rattle.frame.specs.declared.Frame.{Frame}
use Rattle.frame.specs.Layout.{first}
use Rattle.frame.specs.Format.{frame_of}
use Rattle.site.specs.ReplyLaws.{Wrote, wrote, sent_frame}
use Rattle.acceptor.specs.Acceptor as acceptor
use Rattle.acceptor.specs.Acceptor.{proven_of}
use Rattle.acceptor.specs.AcceptorLaws.{proven_grows, sends_message}
use Rattle.viewchange.specs.ViewChange as viewchange
use Rattle.viewchange.specs.ViewChange.{change_kind, leader_kind}
use Rattle.viewchange.specs.ViewChangeLaws.{sends_kind}
use Rattle.agreement.specs.Calls.{Call, to_acceptor, to_view_change, Site, call, Sent, now, later}
use Rattle.agreement.specs.ChainLaws.{history, VoteSent}

-- view change sends no vote
no_vote : {k : ℕ} → (k ≡ change_kind) ⊎ (k ≡ leader_kind) → k ≡ 7 → ⊥
no_vote (inl x) e = omega arith
no_vote (inr x) e = omega arith

module _ (r : Roster) (i : ℕ) where
  -- a call leaves what was proven, or more
  proven_kept : (s : Site) (c : Call) → Extends (proven_of (call r i s c).kept.state) (proven_of s.state)
  proven_kept s (to_acceptor line out) = proven_grows r i (length out) s.views s.state line
  proven_kept s (to_view_change line out) = extends_refl (proven_of s.state)

  -- a vote carries what is proven when it is sent
  vote_now : (s : Site) (c : Call) (line : List ℕ) → 0 < (call r i s c).sent → take (call r i s c).sent (call r i s c).output ≡ line
      → (frame_of line).kind ≡ 7 → history line ≡ proven_of (call r i s c).kept.state
  vote_now s (to_acceptor given out) line p e k = go (sent_frame (acceptor.step r i (length out) s.views s.state given).sending out line p e)
    where
      go : Wrote (acceptor.step r i (length out) s.views s.state given).sending line
          → history line ≡ proven_of (acceptor.step r i (length out) s.views s.state given).state
      go (wrote h f) =
          ap first f ∙ (sends_message r i (length out) s.views s.state given h).vote (sym (ap (λ (m : Frame). m.kind) f) ∙ k)
  vote_now s (to_view_change given out) line p e k = go (sent_frame (viewchange.step r i (length out) s.views given).sending out line p e)
    where
      go : Wrote (viewchange.step r i (length out) s.views given).sending line → history line ≡ proven_of s.state
      go (wrote h f) = absurd (no_vote (sends_kind r i (length out) s.views given h).kind (sym (ap (λ (m : Frame). m.kind) f) ∙ k))

  -- each vote sent from s on extends what s had proven
  vote_above : {line : List ℕ} {s : Site} {calls : List Call} → Sent r i line s calls → (frame_of line).kind ≡ 7
      → Extends (history line) (proven_of s.state)
  vote_above {line} {s} (now {c = c} p e) k = rw (vote_now s c line p e k) (proven_kept s c)
  vote_above {s = s} (later {c = c} t) k = extends_trans (vote_above t k) (proven_kept s c)

  -- of two votes, the later one extends the earlier one
  chained : {a b : List ℕ} {s : Site} {calls : List Call} → Sent r i a s calls → Sent r i b s calls → (frame_of a).kind ≡ 7 → (frame_of b).kind ≡ 7
      → Extends (history a) (history b) ⊎ Extends (history b) (history a)
  chained {a} {b} {s} (now {c = c} p e) (now q f) k l =
      inl (rw (vote_now s c a p e k, vote_now s c b q f l) (extends_refl (proven_of (call r i s c).kept.state)))
  chained {a} {b} {s} (now {c = c} p e) (later t) k l = inr (rw (vote_now s c a p e k) (vote_above t l))
  chained {a} {b} {s} (later t) (now {c = c} q f) k l = inl (rw (vote_now s c b q f l) (vote_above t k))
  chained (later t) (later u) k l = chained t u k l

  pub votes_chained : {a b : List ℕ} {s : Site} {calls : List Call} → VoteSent r i a s calls → VoteSent r i b s calls
      → Extends (history a) (history b) ⊎ Extends (history b) (history a)
  votes_chained p q = chained p.sent q.sent p.vote q.vote

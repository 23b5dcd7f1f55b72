-- The test of the premises is enough.
use Rattle.std.specs.Prelude.{◌≡◌, refl, ◌⊎◌, Bool, true, false, cond, ◌&&◌, ℕ, ◌≤◌, ◌<◌, ltb, take}
use Rattle.std.proofs.Common.{sym, ap, ◌∙◌, subst, inl, inr, ⊎_elim}
use Rattle.std.proofs.lemmas.Bool.{false≢true}
use mathlib.Core.List.{List, [], ◌∷◌, map, Memᴰ}
use borrow.Author.Tests.{leb-true, ltb-true, lt-ltb}
use Rattle.basics.specs.Bools.{lt_or_le, and_left, and_right, or_either, implies}
use Rattle.roster.specs.declared.Roster.{Roster}
use Rattle.roster.specs.Roster.{valid_roster, quorum}
use Rattle.roster.specs.Sites.{count_to, all_to}
use Rattle.roster.specs.SitesLaws.{all_each}
use Rattle.history.specs.History.{equal}
use Rattle.history.specs.CanonicalLaws.{equal_true}
use Rattle.frame.specs.Format.{frame_of}
use Rattle.agreement.specs.Calls.{Call, handed, Site, start, Left, call, Sent, now, later}
use Rattle.agreement.specs.Agreement.{World, Honest, HandedIn, to_learner, to_site, Names, Premises}
use Rattle.agreement.specs.Testing.{sent_lines, is_in, names_honest, authentic, all_authentic, of_learner, of_site, is_enough, premises}

in_mem : (line : List ℕ) (ls : List (List ℕ)) → is_in line ls ≡ true → Memᴰ line ls
unfolding is_in
in_mem line [] e = absurd (false≢true e)
in_mem line (l ∷ ls) e =
    ⊎_elim (λ p. Memᴰ.head (equal_true line l p)) (λ p. Memᴰ.tail (in_mem line ls p)) (or_either (equal line l) (is_in line ls) e)

-- the lines that `sent_lines` computes are sent
pub sent_is : (r : Roster) (i : ℕ) (line : List ℕ) (s : Site) (calls : List Call) → Memᴰ line (sent_lines r i s calls) → Sent r i line s calls
unfolding sent_lines
sent_is r i line s [] m = elim m [ ]
sent_is r i line s (c ∷ calls) m = go (ltb 0 x.sent) refl m (sent_is r i line x.kept calls)
  where
    x : Left
    x = call r i s c

    more : List (List ℕ)
    more = sent_lines r i x.kept calls

    first_or_later : 0 < x.sent → Memᴰ line (take x.sent x.output ∷ more) → (Memᴰ line more → Sent r i line x.kept calls)
        → Sent r i line s (c ∷ calls)
    first_or_later p (Memᴰ.head e) f = now p (sym e)
    first_or_later p (Memᴰ.tail n) f = later (f n)

    go : (b : Bool) → ltb 0 x.sent ≡ b → Memᴰ line (cond b (take x.sent x.output ∷ more) more)
        → (Memᴰ line more → Sent r i line x.kept calls) → Sent r i line s (c ∷ calls)
    go true e n f = first_or_later (ltb-true 0 x.sent e) n f
    go false e n f = later (f n)

each_authentic : (w : World) (ls : List (List ℕ)) → all_authentic w ls ≡ true → {line : List ℕ} → Memᴰ line ls → authentic w line ≡ true
unfolding all_authentic
each_authentic w [] e {line = line} x'' = elim x'' [ ]
each_authentic w (l ∷ ls) e (Memᴰ.head p) = ap (authentic w) p ∙ and_left (authentic w l) _ e
each_authentic w (l ∷ ls) e (Memᴰ.tail m) = each_authentic w ls (and_right (authentic w l) _ e) m

authentic_sent : (w : World) (line : List ℕ) (i : ℕ) → authentic w line ≡ true → Honest w i → Names line i → Sent w.roster i line start (w.calls i)
unfolding authentic names_honest
authentic_sent w line i e h n =
    let k = (frame_of line).sender in
    let l : ltb k w.roster.n ≡ true = lt-ltb k w.roster.n (subst (λ (x : ℕ). x < w.roster.n) (sym n.sender) h.member) in
    let b : w.honest k ≡ true = ap w.honest n.sender ∙ h.honest in
    let named : names_honest w line ≡ true = rw (n.frame, n.kind, l, b) in
    subst (λ (x : ℕ). Sent w.roster x line start (w.calls x)) n.sender
    (sent_is w.roster k line start (w.calls k) (in_mem line _ (implies (names_honest w line) _ named e)))

no_member : {line : List ℕ} → Memᴰ line [] → ⊥
no_member m = elim m [ ]

module _ (w : World) (k : ℕ) (others : (j : ℕ) → k ≤ j → w.learners j ≡ []) (e : premises w k ≡ true) where
  counted : (is_enough w && (all_to k (of_learner w) && all_to w.roster.n (of_site w))) ≡ true
  unfolding premises
  counted = and_right (valid_roster w.roster) _ e

  lists : (all_to k (of_learner w) && all_to w.roster.n (of_site w)) ≡ true
  lists = and_right (is_enough w) _ counted

  of_learner_lem : (j : ℕ) {line : List ℕ} → Memᴰ line (w.learners j) → (j < k) ⊎ (k ≤ j) → authentic w line ≡ true
  of_learner_lem j m (inl l) = each_authentic w (w.learners j) (all_each k (of_learner w) (and_left (all_to k (of_learner w)) _ lists) j l) m
  of_learner_lem j {line} m (inr l) = absurd (no_member (subst (λ (x : List (List ℕ)). Memᴰ line x) (others j l) m))

  of_site_lem : (i : ℕ) {line : List ℕ} → Honest w i → Memᴰ line (map handed (w.calls i)) → authentic w line ≡ true
  of_site_lem i h m =
      let all = all_each w.roster.n (of_site w) (and_right (all_to k (of_learner w)) _ lists) i h.member in
      each_authentic w (map handed (w.calls i)) (implies (w.honest i) _ h.honest all) m

  handed_in : {line : List ℕ} → HandedIn w line → authentic w line ≡ true
  handed_in (to_learner j m) = of_learner_lem j m (lt_or_le j k)
  handed_in (to_site i h m) = of_site_lem i h m

  -- the test is enough, if no other learner has calls
  pub premises_tested : Premises w
  unfolding premises
  premises_tested =
      record {
        valid = and_left (valid_roster w.roster) _ e;
        enough = leb-true (quorum w.roster) (count_to w.roster.n w.honest) (and_left (is_enough w) _ counted);
        authentic = λ line m i h n. authentic_sent w line i (handed_in m) h n;
      }

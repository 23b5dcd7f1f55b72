-- The claim is proved: entries of honest sites are votes that they sent, so histories with a quorum behind them are compatible, and so is all that is
-- learned.
use Rattle.std.specs.Prelude.{◌≡◌, refl, ◌⊎◌, true, false, ℕ, suc, ◌+◌, ◌-◌, ◌≤◌, ◌<◌, take, drop}
use Rattle.std.proofs.Common.{sym, ap, ◌∙◌, subst, inl, inr, arith, take-add}
use mathlib.Core.List.{List, [], ◌∷◌, ◌++◌, Memᴰ}
use Rattle.roster.specs.RosterLaws.{valid_figures}
use Rattle.roster.proofs.QuorumLaws.{quorums_honest}
use Rattle.history.specs.History.{Extends, Compatible, Least, extends, repeated}
use Rattle.history.specs.ExtensionLaws.{extends_refl, extends_nil, extends_trans, extends_sound}
use Rattle.history.specs.CoherenceLaws.{three_compatible, no_more, and, no_other, other, no_pair, pairs}
use Rattle.history.specs.OrderLaws.{same_order}
use Rattle.history.specs.ValidLaws.{valid_parts}
use Rattle.history.specs.Words.{limit, commands}
use Rattle.history.specs.WordsLaws.{valid_stored_history}
use Rattle.merge.specs.CommonLaws.{none, also, CommonHistory, common_history, common_of_histories}
use Rattle.table.specs.Table.{sites, row_of}
use Rattle.table.specs.TableLaws.{row_empty}
use Rattle.refusal.specs.declared.Refusal.TheVariants.{Split}
use Rattle.refusal.specs.Refusal.{Refused}
use Rattle.frame.specs.declared.Frame.{Frame}
use Rattle.frame.specs.Layout.{first}
use Rattle.frame.specs.Format.{frame_of}
use Rattle.learner.specs.declared.State.{State}
use Rattle.learner.specs.declared.Outcome.{Outcome}
use Rattle.learner.specs.Learner.{fresh, step, vote, arrived}
use Rattle.learner.specs.StepLaws.{Stepped, refuses, accepting}
use Rattle.learner.proofs.StepLaws.{stepped, step_advance}
use Rattle.learner.specs.VoteLaws.{Heard, Entry, kept, entered, with_line, Backing, Learns, as_before, merges}
use Rattle.learner.proofs.VoteLaws.{accepted_heard, heard_line, heard_frame, heard_kind, heard_sender, heard_arrived, entry_is, accepted_entries, accepted_learns, split_is}
use Rattle.learner.specs.Run.{run, outcomes}
use Rattle.learner.proofs.RunLaws.{fresh_sound, run_keeps, contained}
use Rattle.agreement.specs.Calls.{start}
use Rattle.agreement.specs.Agreement.{World, Honest, to_learner, from_acceptor, Premises, holds, CommonExtension, Claim}
use Rattle.agreement.specs.ChainLaws.{VoteSent}
use Rattle.agreement.proofs.ChainLaws.{votes_chained}
use Rattle.agreement.specs.AgreementLaws.{FromSite, empty, voted, Support, Backed, backed, Good, Fine, Trusted}

-- ---- what a learner keeps of an honest site

-- so of two entries of one site, whichever learners keep them and when, one extends the other
comparable : {w : World} {i : ℕ} {g h : List ℕ} → FromSite w i g → FromSite w i h → Extends g h ⊎ Extends h g
comparable {h = h} (empty e) q = inr (rw e (extends_nil h))
comparable {g = g} (voted a p e) (empty f) = inl (rw f (extends_nil g))
comparable {w} {i} (voted a p e) (voted b q f) = rw (← e, ← f) (votes_chained w.roster i p q)

-- ---- histories with a quorum behind them

-- two histories that one honest site supports are compatible
supported_compatible : {w : World} {i : ℕ} {g h : List ℕ} → Support w i g → Support w i h → Compatible g h
supported_compatible {g = g} {h = h} a b = go (comparable a.from_site b.from_site)
  where
    go : Extends a.entry b.entry ⊎ Extends b.entry a.entry → Compatible g h
    go (inl e) = record { common = a.entry; left = a.above; right = extends_trans e b.above }
    go (inr e) = record { common = b.entry; left = extends_trans e a.above; right = b.above }

compatible_sym : {g h : List ℕ} → Compatible g h → Compatible h g
compatible_sym c = record { common = c.common; left = c.right; right = c.left }

good_nil : {w : World} → Good w []
good_nil = record { meets = λ k c. record { common = k; left = extends_nil k; right = extends_refl k } }

module _ {w : World} (p : Premises w) where
  -- two quorums share an honest site, so backed histories are compatible
  backed_compatible : {g h : List ℕ} → Backed w g → Backed w h → Compatible g h
  backed_compatible (backed a m s) (backed b n t) =
      let x = quorums_honest w.roster p.valid a b w.honest m n p.enough in
      let i : Honest w x.0 = record { member = x.1; honest = x.4 } in
      supported_compatible (s x.0 i x.2) (t x.0 i x.3)

  good_backed : {g h : List ℕ} → Good w g → Backed w h → Compatible g h
  good_backed {h = h} a b = a.meets h (λ k c. backed_compatible c b)

  -- the least history that extends a good and a backed one is good
  good_least : {g h n : List ℕ} → Good w g → Backed w h → Least g h n → Good w n
  good_least {h = h} {n = n} a b l = record { meets = meets }
    where
      meets : (k : List ℕ) → ((h : List ℕ) → Backed w h → Compatible h k) → Compatible n k
      meets k c =
          let x = three_compatible (good_backed a b) (a.meets k c) (c h b) in
          record { common = x.common; left = l.least x.common x.first x.second; right = x.third }

  good_compatible : {g h : List ℕ} → Good w g → Good w h → Compatible g h
  good_compatible {h = h} a b = a.meets h (λ k c. compatible_sym (good_backed b c))

-- ---- a learner's state

fresh_fine : {w : World} → Premises w → Fine w fresh
fresh_fine {w} p = record { sound = fresh_sound w.roster p.valid; entries = λ i m. empty (row_empty i); good = good_nil }

module _ {w : World} {s : State} (f : Fine w s) {line : List ℕ} (t : Trusted w line) (a : Heard w.roster line) where
  -- a vote that is heard names its sender, so an honest sender sent it
  vote_sent : (i : ℕ) → Honest w i → (vote line).sender ≡ i → VoteSent w.roster i line start (w.calls i)
  vote_sent i m e =
      let k : (frame_of line).kind ≡ 7 = sym (ap (λ (x : Frame). x.kind) (heard_frame a)) ∙ heard_kind a in
      record {
        sent =
            t i m
            (record {
              frame = heard_line a;
              kind = subst (λ (x : ℕ). from_acceptor x ≡ true) (sym k) refl;
              sender = sym (ap (λ (x : Frame). x.sender) (heard_frame a)) ∙ e;
            });
        vote = k;
      }

  with_entry : (i : ℕ) → Honest w i → FromSite w i (row_of (with_line s line) i)
  with_entry i m =
      let in_table : (vote line).sender < sites = omega (arith, heard_sender a, (valid_figures w.roster f.sound.roster).max_sites) in
      go (entry_is f.sound.sized (vote line).sender (arrived (vote line)) in_table (heard_arrived a).short i)
    where
      go : Entry s.entries (vote line).sender (arrived (vote line)) i → FromSite w i (row_of (with_line s line) i)
      go (kept e) = subst (FromSite w i) (sym e) (f.entries i m)
      go (entered d e) = subst (FromSite w i) (sym e) (voted line (vote_sent i m d) (ap first (sym (heard_frame a))))

  -- so a history that N-f entries then extend is backed
  with_backed : Backing w.roster (with_line s line) (arrived (vote line)) → Backed w (arrived (vote line))
  with_backed q =
      backed (λ i. extends (row_of (with_line s line) i) (arrived (vote line))) q
      (λ i m e.
      record {
        entry = row_of (with_line s line) i;
        from_site = with_entry i m;
        above = extends_sound (row_of (with_line s line) i) (arrived (vote line)) e;
      })

module _ {w : World} (p : Premises w) where
  step_fine : {s : State} → Fine w s → (line : List ℕ) → Trusted w line → Fine w (step w.roster s line).state
  step_fine {s} f line t = go (stepped w.roster s line)
    where
      go : Stepped w.roster s line → Fine w (step w.roster s line).state
      go (refuses e g o) = rw o f
      go (accepting a) =
          record {
            sound = (step_advance f.sound line).sound;
            entries = λ i m. rw (accepted_entries a) (with_entry f t (accepted_heard a) i m);
            good = learned (accepted_learns f.sound a);
          }
        where
          learned : Learns w.roster s line → Good w (commands (step w.roster s line).state.learned)
          learned (as_before e) = rw e f.good
          learned (merges b l) = good_least p f.good (with_backed f t (accepted_heard a) b) l

  -- SPLIT would need a backed history with which what is learned is not compatible
  step_no_split : {s : State} → Fine w s → (line : List ℕ) → Trusted w line → (step w.roster s line).answer ≡ Refused Split → ⊥
  step_no_split f line t e =
      let x = split_is line f.sound e in
      x.apart (good_backed p f.good (with_backed f t x.heard x.backing))

  -- so it goes with each line of a list
  run_fine : {s : State} → Fine w s → (lines : List (List ℕ)) → ((line : List ℕ) → Memᴰ line lines → Trusted w line)
      → Fine w (run w.roster s lines)
  unfolding run
  run_fine f [] t = f
  run_fine {s = s} f (line ∷ lines) t =
      run_fine {s = (step w.roster s line).state} (step_fine f line (t line (Memᴰ.head refl))) lines (λ x m. t x (Memᴰ.tail m))

  run_no_split : {s : State} → Fine w s → (lines : List (List ℕ)) → ((line : List ℕ) → Memᴰ line lines → Trusted w line)
      → (o : Outcome) → Memᴰ o (outcomes w.roster s lines) → o.answer ≡ Refused Split → ⊥
  unfolding outcomes
  run_no_split {s = s} f [] t o x4 n = elim x4 [ ]
  run_no_split f (line ∷ lines) t o (Memᴰ.head e) n =
      step_no_split f line (t line (Memᴰ.head refl)) (sym (ap (λ (x : Outcome). x.answer) e) ∙ n)
  run_no_split {s = s} f (line ∷ lines) t o (Memᴰ.tail m) n =
      run_no_split {s = (step w.roster s line).state} (step_fine f line (t line (Memᴰ.head refl))) lines (λ x k. t x (Memᴰ.tail k)) o m n

-- ---- the claim

mem_take : {A : Type 0} {x : A} (k : ℕ) (l : List A) → Memᴰ x (take k l) → Memᴰ x l
mem_take {A = A} (suc k) [] x4 = elim x4 [ ]
mem_take {A = A} Prim.Native.Nat.zero l x'' = elim x'' [ ]
mem_take (suc k) (y ∷ l) (Memᴰ.head e) = Memᴰ.head e
mem_take (suc k) (y ∷ l) (Memᴰ.tail m) = Memᴰ.tail (mem_take k l m)

common_extension : {g h : List ℕ} → repeated g ≡ false → repeated h ≡ false → Compatible g h → CommonExtension g h
common_extension {g} {h} u v c = go (common_of_histories (also u (also v none)) (pairs (other c no_other) (pairs no_other no_pair)))
  where
    go : CommonHistory (g ∷ h ∷ []) → CommonExtension g h
    go (common_history {n = n} d (and x (and y no_more))) = record { common = n; history = d; left = x; right = y }

module _ {w : World} (p : Premises w) where
  trusted : (j : ℕ) (line : List ℕ) → Memᴰ line (w.learners j) → Trusted w line
  trusted j line m = p.authentic line (to_learner j m)

  -- a learner's state after its first k calls
  state_fine : (j k : ℕ) → Fine w (run w.roster fresh (take k (w.learners j)))
  state_fine j k = run_fine p (fresh_fine p) (take k (w.learners j)) (λ line m. trusted j line (mem_take k (w.learners j) m))

  held_distinct : (j k : ℕ) → repeated (holds w j k) ≡ false
  held_distinct j k =
      let s = run w.roster fresh (take k (w.learners j)) in
      (valid_parts (holds w j k) (valid_stored_history limit s.learned (state_fine j k).sound.learned)).distinct

  held_compatible : (i j k l : ℕ) → Compatible (holds w i k) (holds w j l)
  held_compatible i j k l = good_compatible p (state_fine i k).good (state_fine j l).good

  held_grows : (j k l : ℕ) → k ≤ l → Extends (holds w j l) (holds w j k)
  held_grows j k l q =
      let lines = w.learners j in
      let rest : l ≡ k + (l - k) = omega arith in
      let more : take l lines ≡ take k lines ++ take (l - k) (drop k lines) = ap (λ (n : ℕ). take n lines) rest ∙ take-add k (l - k) lines in
      rw more (run_keeps w.roster (take k lines) (take (l - k) (drop k lines))).learned_grows

pub agreement : Claim
agreement w p =
    record {
      grows = held_grows p;
      never_split = λ j o m e. run_no_split p (fresh_fine p) (w.learners j) (trusted p j) o m e;
      common = λ i j k l. common_extension (held_distinct p i k) (held_distinct p j l) (held_compatible p i j k l);
      order = λ i j k l c d q b m. same_order (held_distinct p i k) q (held_compatible p i j k l) b m;
      contained = λ j k voters h q v. contained w.roster p.valid voters h q (take k (w.learners j)) v;
    }

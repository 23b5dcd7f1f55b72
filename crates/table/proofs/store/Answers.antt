-- `table::store` meets its contract: it returns early exactly where the lists stay, and past that sets the count and pads the part of the words
-- that it lends.
use mathlib.Core.Path.{◌≡◌, sym, ap, ◌∙◌}
use Rattle.std.proofs.Math.Logic.{⊎_elim}
use mathlib.Core.List.{List, ◌++◌, append_assoc}
use Prim.Native.Nat.{ℕ, ◌+◌, ◌-◌, ◌*◌, ◌≤◌}
use native.Mathlib.Omega.{arith}
use lib.ListN.{length, take, drop}
use lib.Seq.{sets, sets-eq, drop-drop}
use Rattle.history.specs.Words.{capacity, padded}
use Rattle.history.specs.WordsLaws.{length_padded}
use Rattle.table.specs.Table.{table_of}
use Rattle.table.specs.TableLaws.{part_length, stored_is, stored_past, stored_long, stored_in_lem, stored_few, stored_short}
use Rattle.table.proofs.store.Goals as goal
use Rattle.table.proofs.store.Goals.{then-counts-lt-SITES-via-then-counts-lt-SITES, then-counts-lt-SITES-via-else-counts-lt-SITES+then-words}

-- a part of the list that was lent, and came back as vs, was stored
part_back : (l vs : List ℕ) (at n : ℕ) → length vs ≡ n → at + n ≤ length l → take at l ++ (vs ++ drop n (drop at l)) ≡ sets l at vs
part_back l vs at n e p =
    rw drop-drop (sym (append_assoc (take at l) vs (drop (at + n) l)) ∙ ap (λ (k : ℕ). take at l ++ vs ++ drop (at + k) l) (sym e) ∙ sym (sets-eq vs l at (rw e p)))

pub returns-then-counts-lt-SITES : goal.returns-then-counts-lt-SITES
returns-then-counts-lt-SITES c = let words = c.args.words.now in
    let counts = c.args.counts.now in
    let site = c.args.site in
    let h = c.args.h.now in
    elim c.then-counts-lt-SITES.branch [
      | then-counts-lt-SITES-via-then-counts-lt-SITES w ↦ sym (stored_few words counts site h w.if-counts-lt-SITES.true)
      | then-counts-lt-SITES-via-else-counts-lt-SITES+then-words w ↦ sym (stored_short words counts site h w.if-words.true)
    ]

pub returns-then-site-ge-SITES : goal.returns-then-site-ge-SITES
returns-then-site-ge-SITES c = let words = c.args.words.now in
    let counts = c.args.counts.now in
    let site = c.args.site in
    let h = c.args.h.now in
    let table = table_of words counts in
    sym
    (stored_in_lem words counts site h c.if-counts-lt-SITES.false c.if-words.false
    ∙ ⊎_elim (λ p. stored_past table site h p) (λ p. stored_long table site h p.1) c.then-site-ge-SITES.either)

pub returns : goal.returns
returns c = let words = c.args.words.now in
    let counts = c.args.counts.now in
    let site = c.args.site in
    let h = c.args.h.now in
    let size : capacity * site + capacity - capacity * site ≡ capacity = omega arith in
    let whole : capacity * site + capacity ≤ length words = omega arith in
    let filled : c.fill.new.dst ≡ padded capacity h =
    c.fill.ensures ∙ ap (λ (n : ℕ). padded n h) (rw size (part_length words (capacity * site) capacity whole)) in
    rw (size, filled, part_back words (padded capacity h) (capacity * site) capacity (length_padded capacity h) whole)
    (sym (stored_in_lem words counts site h c.if-counts-lt-SITES.false c.if-words.false ∙ stored_is (table_of words counts) site h (omega arith) c.if-len-gt-CAPACITY.false))

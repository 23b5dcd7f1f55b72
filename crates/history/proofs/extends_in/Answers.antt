-- `history::extends_in` meets its contract: what is lent becomes a copy of h, and bringing g's commands to its front says whether h extends g.
use mathlib.Core.Path.{ap, ◌∙◌}
use mathlib.Core.List.{List}
use Prim.Native.Nat.{ℕ}
use Rattle.history.specs.History.{extends}
use Rattle.history.specs.Words.{padded}
use Rattle.words.specs.WordsLaws.{padded_whole}
use Rattle.history.proofs.extends_in.Goals as goal

pub returns : goal.returns
returns c = let bring-call = c.bring in
    let given = c.args in
    let fill-call = c.fill in
    let pre-call = c.requires in
    bring-call.ensures.0
    ∙ ap (λ (l : List ℕ). extends l given.g.now)
    (fill-call.ensures ∙ ap (λ (n : ℕ). padded n given.h.now) (pre-call) ∙ padded_whole given.h.now)

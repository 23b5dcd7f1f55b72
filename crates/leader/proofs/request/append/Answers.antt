-- `leader::request::append` meets its contract: a copy of the words is appended to, as far as they have room, and what it begins with then is pending.
use Rattle.std.proofs.Common.{◌≡◌, ℕ, ap, ◌∙◌, length, take, rules}
use Rattle.history.specs.Words.{commands, stored}
use Rattle.history.specs.WordsLaws.{stored_first}
use Rattle.merge.specs.Merge.{appended}
use Rattle.merge.specs.AppendingLaws.{take_appended}
use Rattle.leader.proofs.request.append.Goals as goal

pub returns : goal.returns
returns c =
    let pending = c.args.pending.now in
    let all = appended (commands pending) c.args.h.now in
    let size : length pending.words ≡ 32 = search rules in
    c.set.ensures ∙ ap stored (c.first.ensures ∙ take_appended pending.words pending.count c.args.h.now _ _ c.append-n.ensures.0 c.append-n.ensures.1 ∙ ap (λ (n : ℕ). take n all) size)
    ∙ stored_first all

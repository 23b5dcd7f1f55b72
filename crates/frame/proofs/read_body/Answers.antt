-- `frame::read_body` meets its contract: its tests are those that the contract names, in the same order, and the words are the commands that the line spells, and then 0.
use Rattle.std.proofs.Common.{rules, arith, ◌≡◌, false, sym, ◌∙◌}
use borrow.Author.Tests.{eqb-false}
use Rattle.frame.proofs.Lines.{words_room, wrong_length, no_feed, no_body, body_in}
use Rattle.frame.specs.Code.Leaves.{body_good}
use Rattle.frame.proofs.read_body.Goals.{then-line-end, else-line-end}
use Rattle.frame.proofs.read_body.Goals as goal

pub returns-then-line-end-eq-FEED : goal.returns-then-line-end-eq-FEED
returns-then-line-end-eq-FEED c = body_in _ _ _ c.requires.1 (omega arith) (search rules) c.requires.2 _ (words_room _ _ c.requires.2 c.requires.3) c.read_words.result _ c.read_words.ensures c.requires.3

pub returns-else-line-end-eq-FEED : goal.returns-else-line-end-eq-FEED
returns-else-line-end-eq-FEED c =
    let bad : false ≡ body_good c.args.line.now =
    elim c.if-line-end.branch [
      | then-line-end w ↦ no_feed _ _ _ c.requires.1 w.if-line-end.true (eqb-false _ _ (sym w.value-is ∙ c.if-line-end-eq-FEED.false))
      | else-line-end w ↦ wrong_length _ _ _ c.requires.1 w.if-line-end.false
    ] in
    rw c.if-line-end-eq-FEED.false (no_body bad)

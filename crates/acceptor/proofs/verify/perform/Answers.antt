-- `acceptor::verify::perform` meets its contract: of two histories that do not contradict each other the longer extends the other; one that extends the entry is stored, any other leaves all as it is.
use Rattle.std.proofs.Common.{true, false, length}
use Rattle.std.proofs.lemmas.Bool.{le-leb, lt-leb}
use Rattle.table.specs.Table.{row_of}
use Rattle.content.specs.ContentLaws.{newer_is}
use Rattle.acceptor.specs.Acceptor.{verifying}
use Rattle.acceptor.proofs.verify.perform.Goals as goal

pub returns-then-h-row : goal.returns-then-h-row
unfolding verifying
returns-then-h-row c =
    let entry = row_of c.args.s.now.verified c.args.site in
    let h = c.args.h.now in
    let older = newer_is entry h c.requires.2 false (lt-leb (length entry) (length h) (rw c.row.ensures at c.if-h-row.true)) in
    (rw older, rw older)

pub returns : goal.returns
unfolding verifying
returns c =
    let entry = row_of c.args.s.now.verified c.args.site in
    let h = c.args.h.now in
    let newer = newer_is entry h c.requires.2 true (le-leb (length entry) (length h) (rw c.row.ensures at c.if-h-row.false)) in
    rw newer c.store.ensures

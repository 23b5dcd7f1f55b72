-- `acceptor::verify::store` meets its contract: the entry is stored first, then the sites that verified the same are counted, which decides whether it becomes proven.
use Rattle.std.proofs.Common.{rules, ◌≡◌, ap, ◌∙◌}
use lib.Seq.{take_all}
use Rattle.roster.specs.Sites.{mask_to}
use Rattle.table.specs.declared.Table.{Table}
use Rattle.table.specs.Table.{stored_at}
use Rattle.acceptor.specs.Acceptor.{matches, certificate_of, convinces}
use Rattle.acceptor.proofs.Tests.{blank, stores_only, stores_and_proves}
use Rattle.acceptor.proofs.verify.store.Goals as goal

pub returns-then-not-convinces : goal.returns-then-not-convinces
unfolding certificate_of convinces
returns-then-not-convinces c =
    let s = c.args.s.now in
    let h = c.args.h.now in
    let t = stored_at s.verified c.args.site h in
    let mask : c.certify-mask.result ≡ certificate_of c.args.r t h = c.certify-mask.ensures ∙ ap (λ (t : Table). mask_to c.args.r.n (matches t h)) c.store.ensures in
    rw c.store.ensures (stores_only c.args.r c.args.own s t h c.args.out.now c.certify-mask.result c.convinces.result mask c.convinces.ensures c.if-not-convinces.true)

pub returns : goal.returns
unfolding certificate_of convinces
returns c =
    let s = c.args.s.now in
    let h = c.args.h.now in
    let t = stored_at s.verified c.args.site h in
    let mask : c.certify-mask.result ≡ certificate_of c.args.r t h = c.certify-mask.ensures ∙ ap (λ (t : Table). mask_to c.args.r.n (matches t h)) c.store.ensures in
    let zeros : c.default.result ≡ blank = search rules in
    let handed = rw (zeros, take_all 32 h c.requires.1) at c.send.ensures in
    rw (c.set.ensures, c.store.ensures)
    (stores_and_proves c.args.r c.args.own s t h c.args.out.now c.certify-mask.result c.convinces.result mask c.convinces.ensures c.if-not-convinces.false _ _ handed)

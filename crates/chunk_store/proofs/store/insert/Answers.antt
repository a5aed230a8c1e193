use Rattle.std.proofs.Common.{refl}
use Rattle.chunk_store.proofs.DiskCalls.{none_is, only_reads}
use Rattle.chunk_store.proofs.store.insert.Goals as goal

pub returns-in_err-blob-clause-crash : goal.returns-in_err-blob-clause-crash
returns-in_err-blob-clause-crash g c =
    let d = g.D.Disk in let m = g.met.D.Disk in
    only_reads c.args.digest.now.0 _ (d.content c.args.disk.now) (none_is d.calls d.images d.honest m.told c.args.disk.now)

pub returns-in_err-blob-clause-present : goal.returns-in_err-blob-clause-present
returns-in_err-blob-clause-present g c =
    let d = g.D.Disk in let m = g.met.D.Disk in
    λ honest there. (refl, none_is d.calls d.images d.honest m.told c.args.disk.now)

pub returns-in_err-blob-clause-unchanged : goal.returns-in_err-blob-clause-unchanged
returns-in_err-blob-clause-unchanged g c =
    let d = g.D.Disk in let m = g.met.D.Disk in
    λ _. (λ honest. refl, none_is d.calls d.images d.honest m.told c.args.disk.now)

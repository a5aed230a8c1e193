use Rattle.std.proofs.Common.{◌≡◌, None, sym, subst, rules}
use Rattle.disk_trait.specs.Files.{placed}
use Rattle.store_files.specs.Folder.{HasWholeChunks, chunk_name}
use Rattle.chunk_store.specs.Pieces.{TakesPiece}
use Rattle.chunk_store.proofs.Maps.{takes, whole_without}
use Rattle.chunk_store.proofs.store.remove.Goals as goal

pub returns-clause-taken : goal.returns-clause-taken
returns-clause-taken g c = let d = g.D.Disk in λ honest.
    let removed : d.content c.remove.new.self ≡ placed (d.content c.args.disk.now) (chunk_name c.args.digest.now.0) None = search rules in
    subst (TakesPiece c.args.digest.now.0 (d.content c.args.disk.now)) (sym removed)
    (takes (d.content c.args.disk.now) c.args.digest.now.0 c.of-name.ensures.digest)

pub returns-clause-whole : goal.returns-clause-whole
returns-clause-whole g c = let d = g.D.Disk in λ honest whole.
    let removed : d.content c.remove.new.self ≡ placed (d.content c.args.disk.now) (chunk_name c.args.digest.now.0) None = search rules in
    subst HasWholeChunks (sym removed) (whole_without (d.content c.args.disk.now) (chunk_name c.args.digest.now.0) whole)

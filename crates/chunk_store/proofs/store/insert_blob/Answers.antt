use Rattle.std.proofs.Common.{◌≡◌, ◌<◌, ◌∙◌, None, sym, subst, rules, arith}
use Rattle.std.specs.Prelude.{IsErrOf}
use Rattle.std.specs.FinMap.{get}
use Rattle.std.proofs.lemmas.List.Elements.{All-from_get_or}
use Rattle.disk_trait.specs.declared.disk.DiskError.TheVariants.{NoMemory}
use Rattle.blob_codec.specs.Laws.{AreBytes}
use Rattle.store_files.specs.Folder.{HasWholeChunks, chunk_name}
use Rattle.chunk_store.specs.Pieces.{AddsPiece, with_chunk}
use Rattle.chunk_store.proofs.DiskCalls.{only_reads, reads_then_reads, reads_then_installs}
use Rattle.chunk_store.proofs.Maps.{adds_chunk, whole_with}
use Rattle.chunk_store.proofs.store.insert_blob.Goals as goal

pub returns-in_err-size-clause-crash : goal.returns-in_err-size-clause-crash
returns-in_err-size-clause-crash g c = let d = g.D.Disk in only_reads c.args.digest.now.0 c.args.blob.now (d.content c.args.disk.now) c.size.ensures.crash

pub returns-then-is_some-clause-crash : goal.returns-then-is_some-clause-crash
returns-then-is_some-clause-crash g c = let d = g.D.Disk in only_reads c.args.digest.now.0 c.args.blob.now (d.content c.args.disk.now) c.size.ensures.crash

pub returns-in_err-install-clause-crash : goal.returns-in_err-install-clause-crash
returns-in_err-install-clause-crash g c =
    let d = g.D.Disk in let m = g.met.D.Disk in
    let none : d.honest c.args.disk.now → get (d.content c.args.disk.now) (chunk_name c.args.digest.now.0) ≡ None = search rules in
    reads_then_installs d.calls d.images d.honest m.told c.args.digest.now.0 c.args.blob.now c.as_str-2.result.now (c.as_str-2.ensures.text ∙ c.of-name.ensures.value)
    d.content c.args.disk.now c.size.new.self c.install.new.disk c.size.ensures.serves.kept c.size.ensures.same none c.size.ensures.crash c.install.ensures.crash

pub returns-clause-crash : goal.returns-clause-crash
returns-clause-crash g c =
    let d = g.D.Disk in let m = g.met.D.Disk in
    let none : d.honest c.args.disk.now → get (d.content c.args.disk.now) (chunk_name c.args.digest.now.0) ≡ None = search rules in
    reads_then_installs d.calls d.images d.honest m.told c.args.digest.now.0 c.args.blob.now c.as_str-2.result.now (c.as_str-2.ensures.text ∙ c.of-name.ensures.value)
    d.content c.args.disk.now c.size.new.self c.install.new.disk c.size.ensures.serves.kept c.size.ensures.same none c.size.ensures.crash c.install.ensures.crash

pub returns-in_err-install-clause-unchanged : goal.returns-in_err-install-clause-unchanged
returns-in_err-install-clause-unchanged g c = λ none.
    let want : IsErrOf c.install.result NoMemory = search rules in
    let same = c.install.ensures.unchanged want in
    (λ honest. same.0 (c.size.ensures.serves.kept.0 honest) ∙ c.size.ensures.same honest, reads_then_reads c.size.ensures.crash same.1)

pub returns-clause-added : goal.returns-clause-added
returns-clause-added g c = let d = g.D.Disk in λ honest p text free.
    let stored : d.content c.install.new.disk ≡ with_chunk c.args.digest.now.0 c.args.blob.now (d.content c.args.disk.now) = search rules in
    let are : AreBytes c.args.blob.now = All-from_get_or (λ b. b < 256) c.args.blob.now 0 (λ i within. omega (arith, c.type_inv.blob i)) in
    subst (AddsPiece c.args.digest.now.0 p (d.content c.args.disk.now)) (sym stored)
    (adds_chunk (d.content c.args.disk.now) c.args.digest.now.0 c.of-name.ensures.digest c.args.blob.now p c.requires are text free)

pub returns-clause-whole : goal.returns-clause-whole
returns-clause-whole g c = let d = g.D.Disk in λ honest.
    let stored : d.content c.install.new.disk ≡ with_chunk c.args.digest.now.0 c.args.blob.now (d.content c.args.disk.now) = search rules in
    λ whole. subst HasWholeChunks (sym stored) (whole_with (d.content c.args.disk.now) c.args.digest.now.0 c.of-name.ensures.digest c.args.blob.now c.requires whole)

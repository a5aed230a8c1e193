use Rattle.std.proofs.Common.{List, subst, sym}
use Rattle.disk_trait.specs.Files.{Files}
use Rattle.store_types.specs.declared.names.Digest32.{Digest32}
use Rattle.chunk_store.specs.Listed.{Lists as ListsDigests}
use Rattle.snapshot_files.specs.Scanned.{Lists}
use Rattle.snapshot_files.proofs.Placing.{none_is}
use Rattle.snapshot_files.specs.Leaving.{Cleans, MayClean}
use Rattle.snapshot_files.proofs.Answering.{clean_same, clean_then}
use Rattle.core_opening.specs.Opening.{KeepsChunks}
use Rattle.core_opening.proofs.Inserting.{listed_as_found}
use Rattle.core_opening.proofs.opening.opened_of.Goals as goal

-- ---- what a crash leaves

pub returns-in_err-journal-clause-crash : goal.returns-in_err-journal-clause-crash
returns-in_err-journal-clause-crash g c =
    let d = g.D.Disk in let m = g.met.D.Disk in
    clean_same d c.args.disk.now c.args.disk.now (none_is d.calls d.images d.honest m.told c.args.disk.now)

pub returns-in_err-upkeep-clause-crash : goal.returns-in_err-upkeep-clause-crash
returns-in_err-upkeep-clause-crash g c =
    let d = g.D.Disk in clean_then d c.args.disk.now c.open_files.new.disk c.upkeep_of.new.disk c.open_files.ensures.crash c.upkeep_of.ensures.reads.crash

pub returns-in_err-catalogue-clause-crash : goal.returns-in_err-catalogue-clause-crash
returns-in_err-catalogue-clause-crash g c =
    let d = g.D.Disk in clean_then d c.args.disk.now c.open_files.new.disk c.upkeep_of.new.disk c.open_files.ensures.crash c.upkeep_of.ensures.reads.crash

pub returns-clause-crash : goal.returns-clause-crash
returns-clause-crash g c =
    let d = g.D.Disk in clean_then d c.args.disk.now c.open_files.new.disk c.upkeep_of.new.disk c.open_files.ensures.crash c.upkeep_of.ensures.reads.crash

-- ---- how an honest disk reads

pub returns-in_err-upkeep-clause-want : goal.returns-in_err-upkeep-clause-want
returns-in_err-upkeep-clause-want g c =
    let read : Files = (g.D.Disk).content c.args.disk.now in
    λ honest want.
    let h = c.open_files.ensures.serves.kept.0 honest in
    subst (λ (n : Files). MayClean read read n) (sym (c.upkeep_of.ensures.reads.same h)) (c.in_ok-inventory.ensures.cleaned honest).only

pub returns-in_err-catalogue-clause-want : goal.returns-in_err-catalogue-clause-want
returns-in_err-catalogue-clause-want g c =
    let read : Files = (g.D.Disk).content c.args.disk.now in
    λ honest want.
    let h = c.open_files.ensures.serves.kept.0 honest in
    subst (λ (n : Files). MayClean read read n) (sym (c.upkeep_of.ensures.reads.same h)) (c.in_ok-inventory.ensures.cleaned honest).only

pub returns-clause-cleaned : goal.returns-clause-cleaned
returns-clause-cleaned g c =
    let read : Files = (g.D.Disk).content c.args.disk.now in
    λ honest.
    let h = c.open_files.ensures.serves.kept.0 honest in
    subst (λ (n : Files). Cleans read n) (sym (c.upkeep_of.ensures.reads.same h)) (c.in_ok-inventory.ensures.cleaned honest)

pub returns-clause-catalogue : goal.returns-clause-catalogue
returns-clause-catalogue g c =
    let found = c.in_ok-inventory.inventory.snapshots.items in
    λ honest.
    let h = c.open_files.ensures.serves.kept.0 honest in
    let lists = c.in_ok-inventory.ensures.found honest in
    record {
      found = found;
      lists = subst (λ (n : Files). Lists n found) (sym (c.upkeep_of.ensures.reads.same h)) lists;
      listed = listed_as_found found c.in_ok-catalogue.catalogue.listed lists.rising c.in_ok-catalogue.ensures.listed;
    }

pub returns-clause-book : goal.returns-clause-book
returns-clause-book g c =
    let digests = c.in_ok-inventory.inventory.chunks.items in
    let upkeep = c.in_ok-upkeep.upkeep in
    λ honest.
    let h = c.open_files.ensures.serves.kept.0 honest in
    let same = sym (c.upkeep_of.ensures.reads.same h) in
    record {
      digests = digests;
      lists = subst (λ (n : Files). ListsDigests n digests) same (c.in_ok-inventory.ensures.digests honest);
      keeps = subst (λ (n : Files). KeepsChunks n digests upkeep) same
          (subst (λ (ds : List Digest32). KeepsChunks ((g.D.Disk).content c.open_files.new.disk) ds upkeep) c.deref.ensures.value (c.in_ok-upkeep.ensures.keeps h));
    }

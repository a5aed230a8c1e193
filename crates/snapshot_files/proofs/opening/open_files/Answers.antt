use Rattle.std.proofs.Common.{◌≡◌, ◌∙◌, map, string_bytes, ap, sym, subst}
use Rattle.std.specs.FinMap.{keys}
use Rattle.disk_trait.specs.Files.{Files}
use Rattle.chunk_store.specs.Listed.{Lists as ListsDigests}
use Rattle.snapshot_files.specs.Scanned.{Lists, NamesManifests}
use Rattle.snapshot_files.specs.Leaving.{MayClean}
use Rattle.snapshot_files.proofs.Answering.{clean_same, clean_then, same_clean}
use Rattle.snapshot_files.proofs.Listed.{digests_cleaned, names_cleaned}
use Rattle.snapshot_files.proofs.Names.{all_begin}
use Rattle.snapshot_files.proofs.opening.open_files.Goals as goal

pub clean-requires : goal.clean-requires
clean-requires g c =
    let d = g.D.Disk in
    let read : Files = d.content c.args.disk.now in
    λ honest.
    let was = c.list.ensures.serves.kept.1 honest in
    ap (map string_bytes) c.deref.ensures.value ∙ c.in_ok-names.ensures.names was ∙ all_begin (keys read) ∙ ap (λ (m : Files). keys m) (sym (c.list.ensures.same was))

pub returns-in_err-names-clause-crash : goal.returns-in_err-names-clause-crash
returns-in_err-names-clause-crash g c = let d = g.D.Disk in clean_same d c.args.disk.now c.list.new.self c.list.ensures.crash

pub returns-in_err-clean-clause-crash : goal.returns-in_err-clean-clause-crash
returns-in_err-clean-clause-crash g c =
    let d = g.D.Disk in
    same_clean d c.args.disk.now c.list.new.self c.clean.new.disk c.list.ensures.serves.kept.0 c.list.ensures.same c.list.ensures.crash c.clean.ensures.crash

pub returns-in_err-snapshots-clause-crash : goal.returns-in_err-snapshots-clause-crash
returns-in_err-snapshots-clause-crash g c =
    let d = g.D.Disk in
    clean_then d c.args.disk.now c.clean.new.disk c.scan_named.new.disk
    (same_clean d c.args.disk.now c.list.new.self c.clean.new.disk c.list.ensures.serves.kept.0 c.list.ensures.same c.list.ensures.crash c.clean.ensures.crash)
    c.scan_named.ensures.reads.crash

pub returns-in_err-snapshots-clause-want : goal.returns-in_err-snapshots-clause-want
returns-in_err-snapshots-clause-want g c =
    let d = g.D.Disk in
    let listed : Files = d.content c.list.new.self in
    let now : Files = d.content c.scan_named.new.disk in
    λ honest want.
    let h1 = c.list.ensures.serves.kept.0 honest in
    let h2 = c.clean.ensures.serves.kept.0 h1 in
    subst (λ (m : Files). MayClean m m now) (c.list.ensures.same honest)
    (subst (λ (n : Files). MayClean listed listed n) (sym (c.scan_named.ensures.reads.same h2)) (c.in_ok-clean.ensures.cleaned h1).only)

pub returns-in_err-chunks-clause-crash : goal.returns-in_err-chunks-clause-crash
returns-in_err-chunks-clause-crash g c =
    let d = g.D.Disk in
    clean_then d c.args.disk.now c.clean.new.disk c.scan_named.new.disk
    (same_clean d c.args.disk.now c.list.new.self c.clean.new.disk c.list.ensures.serves.kept.0 c.list.ensures.same c.list.ensures.crash c.clean.ensures.crash)
    c.scan_named.ensures.reads.crash

pub returns-in_err-chunks-clause-want : goal.returns-in_err-chunks-clause-want
returns-in_err-chunks-clause-want g c =
    let d = g.D.Disk in
    let listed : Files = d.content c.list.new.self in
    let now : Files = d.content c.scan_named.new.disk in
    λ honest want.
    let h1 = c.list.ensures.serves.kept.0 honest in
    let h2 = c.clean.ensures.serves.kept.0 h1 in
    subst (λ (m : Files). MayClean m m now) (c.list.ensures.same honest)
    (subst (λ (n : Files). MayClean listed listed n) (sym (c.scan_named.ensures.reads.same h2)) (c.in_ok-clean.ensures.cleaned h1).only)

pub returns-clause-crash : goal.returns-clause-crash
returns-clause-crash g c =
    let d = g.D.Disk in
    clean_then d c.args.disk.now c.clean.new.disk c.scan_named.new.disk
    (same_clean d c.args.disk.now c.list.new.self c.clean.new.disk c.list.ensures.serves.kept.0 c.list.ensures.same c.list.ensures.crash c.clean.ensures.crash)
    c.scan_named.ensures.reads.crash

pub returns-clause-found : goal.returns-clause-found
returns-clause-found g c =
    let d = g.D.Disk in
    let read : Files = d.content c.list.new.self in
    let cleaned : Files = d.content c.clean.new.disk in
    let names = map string_bytes c.deref-2.result.now in
    λ honest.
    let h1 = c.list.ensures.serves.kept.0 honest in
    let h2 = c.clean.ensures.serves.kept.0 h1 in
    let all : names ≡ keys read =
    ap (map string_bytes) c.deref-2.ensures.value ∙ c.in_ok-names.ensures.names honest ∙ all_begin (keys (d.content c.args.disk.now))
    ∙ ap (λ (m : Files). keys m) (sym (c.list.ensures.same honest)) in
    let named : NamesManifests cleaned names =
    subst (NamesManifests cleaned) (sym all) (names_cleaned read cleaned (c.in_ok-clean.ensures.cleaned h1).only) in
    subst (λ (m : Files). Lists m c.in_ok-snapshots.snapshots.items) (sym (c.scan_named.ensures.reads.same h2)) (c.in_ok-snapshots.ensures.found h2 named)

pub returns-clause-digests : goal.returns-clause-digests
returns-clause-digests g c =
    let d = g.D.Disk in
    let read : Files = d.content c.list.new.self in
    let cleaned : Files = d.content c.clean.new.disk in
    let digests = c.in_ok-chunks.chunks.items in
    λ honest.
    let h1 = c.list.ensures.serves.kept.0 honest in
    let h2 = c.clean.ensures.serves.kept.0 h1 in
    let all : map string_bytes c.deref-3.result.now ≡ keys read =
    ap (map string_bytes) c.deref-3.ensures.value ∙ c.in_ok-names.ensures.names honest ∙ all_begin (keys (d.content c.args.disk.now))
    ∙ ap (λ (m : Files). keys m) (sym (c.list.ensures.same honest)) in
    subst (λ (m : Files). ListsDigests m digests) (sym (c.scan_named.ensures.reads.same h2))
    (digests_cleaned read cleaned digests (c.in_ok-clean.ensures.cleaned h1).only (c.in_ok-chunks.ensures.digests read all))

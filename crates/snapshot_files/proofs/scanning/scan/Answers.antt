use Rattle.std.proofs.Common.{◌≡◌, ◌∙◌, IfOk, map, string_bytes, ap, sym, subst, rules}
use Rattle.disk_trait.specs.Files.{Files}
use Rattle.snapshot_files.specs.Scanned.{Lists, NamesManifests, folder_names}
use Rattle.disk_trait.proofs.OnlyReading.{reads_by}
use Rattle.snapshot_files.proofs.Ordered.{names_folders}
use Rattle.snapshot_files.proofs.scanning.scan.Goals as goal

pub returns-clause-reads : goal.returns-clause-reads
returns-clause-reads g c =
    let d = g.D.Disk in
    reads_by d c.args.disk.now c.names_in_folders.new.disk c.scan_named.new.disk _ _ _ c.names_in_folders.ensures.reads c.scan_named.ensures.reads (search rules)

pub returns-clause-found : goal.returns-clause-found
returns-clause-found g c =
    let d = g.D.Disk in
    let now : Files = d.content c.args.disk.now in
    let names = map string_bytes c.deref.result.now in
    λ h.
    let same : d.content c.names_in_folders.new.disk ≡ now = c.names_in_folders.ensures.reads.same h in
    let listed : names ≡ folder_names now = ap (map string_bytes) c.deref.ensures.value ∙ c.in_ok-names.ensures.names h in
    let named : NamesManifests now names = subst (NamesManifests now) (sym listed) (names_folders now) in
    subst (λ (m : Files). IfOk c.scan_named.result (λ all. Lists m all.items)) same
    (c.scan_named.ensures.found ((c.names_in_folders.ensures.reads).serves.kept.0 h) (subst (λ (m : Files). NamesManifests m names) (sym same) named))

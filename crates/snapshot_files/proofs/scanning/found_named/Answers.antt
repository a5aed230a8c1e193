use Rattle.std.proofs.Common.{◌∙◌, ap, sym, rules}
use Rattle.std.specs.Prelude.{option_map}
use Rattle.disk_trait.specs.Files.{Files}
use Rattle.manifest.specs.Views.{manifest_view}
use Rattle.snapshot_files.specs.Scanned.{unreadable_by}
use Rattle.disk_trait.proofs.OnlyReading.{reads_by}
use Rattle.snapshot_files.proofs.FoundLemmas.{found_is, found_none}
use Rattle.snapshot_files.proofs.scanning.found_named.Goals as goal

pub returns-in_err-unreadable-clause-reads : goal.returns-in_err-unreadable-clause-reads
returns-in_err-unreadable-clause-reads g c =
    let d = g.D.Disk in
    reads_by d c.args.disk.now c.listed_at.new.disk c.unreadable_of.new.disk _ _ _ c.listed_at.ensures.reads c.unreadable_of.ensures.reads (search rules)

pub returns-clause-reads : goal.returns-clause-reads
returns-clause-reads g c =
    let d = g.D.Disk in
    reads_by d c.args.disk.now c.listed_at.new.disk c.unreadable_of.new.disk _ _ _ c.listed_at.ensures.reads c.unreadable_of.ensures.reads (search rules)

pub returns-clause-found : goal.returns-clause-found
returns-clause-found g c =
    let d = g.D.Disk in
    let files : Files = d.content c.args.disk.now in
    λ h.
    found_is files c.args.name.now c.in-Some.key (option_map manifest_view c.in-Some-2.manifest) c.in_ok-unreadable.unreadable
    (sym c.in_ok-key.ensures.value ∙ c.in-Some.is)
    (sym (c.in_ok-manifest.ensures.listed h) ∙ ap (option_map (λ listed. option_map manifest_view listed)) c.in-Some-2.is)
    (c.in_ok-unreadable.ensures.unreadable (c.listed_at.ensures.reads.serves.kept.0 h) ∙ ap (λ (m : Files). unreadable_by m c.in-Some.key (option_map manifest_view c.in-Some-2.manifest)) (c.listed_at.ensures.reads.same h))

pub returns-in_default-2-clause-found : goal.returns-in_default-2-clause-found
returns-in_default-2-clause-found g c =
    let d = g.D.Disk in
    λ h.
    found_none (d.content c.args.disk.now) c.args.name.now c.in-Some.key (sym c.in_ok-key.ensures.value ∙ c.in-Some.is)
    (sym (c.in_ok-manifest.ensures.listed h) ∙ ap (option_map (λ listed. option_map manifest_view listed)) c.in_default-2.is)

use Rattle.std.proofs.Common.{◌<◌, ◌+◌, ◌∙◌, List, ℕ, Option, length, map, drop, arith, refl, ap, sym, inl, rules}
use Rattle.disk_trait.specs.Files.{Files}
use Rattle.manifest.specs.declared.facts.FileFact.{FileFact}
use Rattle.manifest.specs.Least.{lesser}
use Rattle.manifest.proofs.Ordered.{lesser-assoc}
use Rattle.manifest.proofs.Uploads.{from_place}
use Rattle.snapshot_files.specs.Scanned as scanned
use Rattle.snapshot_files.specs.Scanned.{missing_name}
use Rattle.disk_trait.proofs.OnlyReading.{reads_none, reads_then, reads_by}
use Rattle.snapshot_files.proofs.scanning.first_missing.Goals as goal

pub loop-file-init : goal.loop-file-init
loop-file-init g c =
    let d = g.D.Disk in
    record {
      reads = reads_none d c.args.disk.now ⊥ (λ h. h);
      first = λ h. refl;
    }

pub returns-in_err-first-clause-reads : goal.returns-in_err-first-clause-reads
returns-in_err-first-clause-reads g c =
    let d = g.D.Disk in
    reads_by d c.args.disk.now c.loop-file.disk c.first_with.new.disk ⊥ _ _ c.loop-file.invariant.reads c.first_with.ensures.reads (search rules)

pub loop-file-preserved : goal.loop-file-preserved
loop-file-preserved g c =
    let d = g.D.Disk in
    let listed = c.args.listed.now in
    let i = c.loop-file.file-index in
    let x = c.file-item.result in
    let lt : i < length listed = omega arith in
    let key = c.args.key.now in
    let now : Files = d.content c.args.disk.now in
    let inv = c.loop-file.invariant in
    let first : Option (List ℕ) = c.loop-file.first in
    let behind : Option (List ℕ) = scanned.first_missing now key (map (λ f. f.name) (drop (i + 1) listed)) in
    let one : Option (List ℕ) = missing_name now key x.name in
    record {
      reads = reads_then d c.args.disk.now c.loop-file.disk c.first_with.new.disk ⊥ _ ⊥ inv.reads c.first_with.ensures.reads inl;
      first = λ h.
          ap (λ (f : Option (List ℕ)). lesser f behind) (c.in_ok-first.ensures.first ((inv.reads).serves.kept.0 h) ∙ ap (λ (m : Files). lesser first (missing_name m key x.name)) (inv.reads.same h))
          ∙ sym (lesser-assoc first one behind)
          ∙ sym (ap (λ (l : List FileFact). lesser first (scanned.first_missing now key (map (λ f. f.name) l))) (from_place listed i x lt c.file-item.is))
          ∙ inv.first h;
    }

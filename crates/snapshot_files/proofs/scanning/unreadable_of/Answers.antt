use Rattle.std.proofs.Common.{◌≡◌, ◌≤◌, ◌∙◌, ℕ, List, Some, None, length, map, arith, rules, sym, ap}
use Rattle.disk_trait.specs.Files.{Files}
use Rattle.manifest.specs.declared.facts.FileFact.{FileFact}
use Rattle.store_files.specs.Folder.{file_path}
use Rattle.snapshot_files.specs.Scanned.{first_missing}
use Rattle.snapshot_files.proofs.Damage.{by_missing}
use Rattle.snapshot_files.proofs.scanning.unreadable_of.Goals as goal

pub returns-in_default-2-clause-unreadable : goal.returns-in_default-2-clause-unreadable
returns-in_default-2-clause-unreadable g c =
    let d = g.D.Disk in
    let now : Files = d.content c.args.disk.now in
    let key = c.args.key.now in
    let few : length c.in-Some.listed.files ≤ 63 = omega (arith, ap length c.as_slice-files.ensures, c.if-files-gt-LISTED_LIMIT.false) in
    λ h.
    by_missing now key c.in-Some.listed c.args.manifest.now None c.in-Some.is few
    (sym c.in_default-2.is ∙ c.in_ok-name.ensures.first h ∙ ap (λ (l : List FileFact). first_missing now key (map (λ f. f.name) l)) c.as_slice-files.ensures)

pub returns-clause-unreadable : goal.returns-clause-unreadable
returns-clause-unreadable g c =
    let d = g.D.Disk in
    let now : Files = d.content c.args.disk.now in
    let key = c.args.key.now in
    let few : length c.in-Some.listed.files ≤ 63 = omega (arith, ap length c.as_slice-files.ensures, c.if-files-gt-LISTED_LIMIT.false) in
    let path : c.into_bytes.result ≡ file_path key c.in-Some-2.name = search rules in
    λ h.
    ap (λ (q : List ℕ). Some q) path
    ∙ by_missing now key c.in-Some.listed c.args.manifest.now (Some c.in-Some-2.name) c.in-Some.is few
    (sym c.in-Some-2.is ∙ c.in_ok-name.ensures.first h ∙ ap (λ (l : List FileFact). first_missing now key (map (λ f. f.name) l)) c.as_slice-files.ensures)

use Rattle.std.proofs.Common.{◌∙◌, Some, ap, sym}
use Rattle.std.specs.List.{find}
use Rattle.std.specs.Str.{bytes_eq}
use Rattle.store_types.specs.FileNames.{manifest_name}
use Rattle.store_files.specs.Archive.{File}
use Rattle.manifest.specs.declared.facts.FileFact.{FileFact}
use Rattle.plain_snapshots.proofs.Telling.{shown_listed, shown_nowhere}
use Rattle.plain_snapshots.proofs.listing.row_shown.Goals as goal

pub returns-in_ok-file_row-in-Some-clause-row : goal.returns-in_ok-file_row-in-Some-clause-row
returns-in_ok-file_row-in-Some-clause-row c =
    let name = ap (λ (f : File). f.name) c.file.view_is in
    let other = sym (c.is_manifest.ensures ∙ ap (λ n. bytes_eq n manifest_name) name) ∙ c.if-is_manifest.false in
    let found = c.in-Some.ensures ∙ ap (λ n. find (λ (x : FileFact). bytes_eq x.name n) c.args.facts.now) name in
    ap (λ r. Some r) c.in_ok-file_row-in-Some.ensures.row ∙ shown_listed c.args.facts.now c.args.file.now c.in-Some.fact.now other found

pub returns-in-None-clause-row : goal.returns-in-None-clause-row
returns-in-None-clause-row c =
    let name = ap (λ (f : File). f.name) c.file.view_is in
    let other = sym (c.is_manifest.ensures ∙ ap (λ n. bytes_eq n manifest_name) name) ∙ c.if-is_manifest.false in
    shown_nowhere c.args.facts.now c.args.file.now other (c.in-None.ensures ∙ ap (λ n. find (λ (x : FileFact). bytes_eq x.name n) c.args.facts.now) name)

use Rattle.std.proofs.Common.{◌≡◌, ◌∙◌, min, map, take, length, arith, ap, sym, List, ℕ}
use Rattle.std.proofs.lemmas.List.{take_min}
use Rattle.std.specs.Option.{option_map}
use Rattle.core_state.specs.declared.kept.StoredFile.{StoredFile}
use Rattle.core_state.specs.Listing.{listing_at}
use Rattle.core_state.proofs.Texts.{unreadable_has_text}
use Rattle.manifest.specs.declared.facts.FileFact.{FileFact}
use Rattle.manifest.specs.Views.{fact_view, manifest_view}
use Rattle.core_admin.specs.declared.file_list.ManifestFile.{ManifestFile}
use Rattle.core_admin.specs.FileRows.{rows_by}
use Rattle.core_admin.proofs.FilesTelling.{read_rows}
use Rattle.core_admin.proofs.file_list.rows_read.Goals as goal

pub returns-in_default-clause-text : goal.returns-in_default-clause-text
returns-in_default-clause-text g c = unreadable_has_text c.into_bytes.result (omega (arith, c.into_bytes.ensures.short))

abbrev names_of : List StoredFile → List (List ℕ)
names_of files = map (λ (f : StoredFile). f.name) files

pub returns-clause-value : goal.returns-clause-value
returns-clause-value g c = let d = g.D.Disk in λ h.
    let m = d.content c.args.disk.now in
    let k = c.args.kept.now in
    let read = c.in-Some.read in
    let there =
    ap (listing_at m) (sym (c.as_str.ensures.text ∙ c.in_ok-path.ensures))
    ∙ sym (c.in_ok-read.ensures.value h)
    ∙ ap (option_map (λ (r : ManifestFile). (r.bytes.items, manifest_view r.listed))) c.in-Some.is in
    let found = c.as_slice-files.result.now in
    let count : c.min.result ≡ min 64 (length found) = omega (arith, c.min.ensures) in
    let files = ap (λ n. take n found) count ∙ take_min 64 found ∙ ap (take 64) c.as_slice-files.ensures in
    let rows =
    c.in_ok-rows.ensures.value
    ∙ ap (λ bytes. rows_by bytes (map fact_view c.as_slice.result.now) (names_of (take c.min.result found))) c.deref.ensures.value
    ∙ ap (λ (listed : List FileFact). rows_by read.bytes.items (map fact_view listed) (names_of (take c.min.result found))) c.as_slice.ensures
    ∙ ap (λ files. rows_by read.bytes.items (map fact_view read.listed.files) (names_of files)) files in
    read_rows m k read.bytes.items (manifest_view read.listed) c.in_ok-rows.rows there rows

use Rattle.std.proofs.Common.{◌≡◌, None, Some, sym, ap, ◌∙◌}
use Rattle.std.specs.Prelude.{option_map}
use Rattle.store_types.specs.FileNames.{manifest_name}
use Rattle.store_files.specs.Archive.{File, file_named, file_text}
use Rattle.store_model.specs.SyncJob.{text_of}
use Rattle.plain_lanes.proofs.uploads.manifest_text.Goals as goal

pub returns-in_ok-text-in-Some : goal.returns-in_ok-text-in-Some
returns-in_ok-text-in-Some c =
    let there : file_named manifest_name c.args.files.now ≡ Some c.in-Some.file.now =
    sym c.file_named.ensures ∙ ap (option_map (λ f. f.now)) c.in-Some.is in
    c.in_ok-text-in-Some.ensures ∙ ap (λ (g : File). file_text g.content) c.file.view_is ∙ ap text_of (sym there)

pub returns-in-None : goal.returns-in-None
returns-in-None c =
    let none : file_named manifest_name c.args.files.now ≡ None = sym c.file_named.ensures ∙ ap (option_map (λ f. f.now)) c.in-None.is in
    c.new.ensures.items ∙ ap text_of (sym none)

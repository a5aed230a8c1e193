use Rattle.std.proofs.Common.{◌∙◌, ap}
use Rattle.std.specs.FinMap.{empty}
use Rattle.store_files.specs.Archive.{Snapshot}
use Rattle.plain_lanes.specs.Uploading.{uploads_by, listed_in, manifest_text_in}
use Rattle.plain_lanes.proofs.UploadLemmas.{all_pushed}
use Rattle.plain_lanes.proofs.uploads.commands_of.Goals as goal

pub returns : goal.returns
returns c =
    let inside = ap (λ (x : Snapshot). x.files) c.snapshot.view_is in
    c.from_vec-2.ensures.items
    ∙ all_pushed c.args.snapshot.now c.in_ok-files.files.items c.in_ok-commands.commands.items c.push.new.self.items c.push-2.new.self.items c.in_ok-from_slice.field-0 c.from_vec.result
    (c.in_ok-files.ensures ∙ ap listed_in (c.deref.ensures.value ∙ inside)) (c.in_ok-commands.ensures ∙ ap (uploads_by empty) c.deref-2.ensures.value)
    c.in_ok-push.ensures.items c.in_ok-push-2.ensures.items c.in_ok-from_slice.ensures
    (c.from_vec.ensures ∙ c.in_ok-manifest_text.ensures ∙ ap manifest_text_in (c.deref-3.ensures.value ∙ inside))

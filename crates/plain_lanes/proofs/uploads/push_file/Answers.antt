use Rattle.std.proofs.Common.{◌++◌, ◌∷◌, [], List, ℕ, sym, ap, ◌∙◌}
use Rattle.store_files.specs.Archive.{Content, File, pieces_of}
use Rattle.wire_commands.specs.declared.command.Command.TheVariants.{Blob}
use Rattle.plain_snapshots.specs.Contents.{shown_content}
use Rattle.plain_lanes.specs.Uploading.{archive_by, file_by, file_commands_by, sent_after}
use Rattle.plain_lanes.proofs.uploads.push_file.Goals as goal

pub returns-in_ok-push_archive-in-Archive-clause-pushes : goal.returns-in_ok-push_archive-in-Archive-clause-pushes
returns-in_ok-push_archive-in-Archive-clause-pushes c =
    let commands = c.args.commands.now.items in
    let sent = c.args.sent.now in
    let inside = c.file.inside in
    c.in_ok-push_archive-in-Archive.ensures.pushes
    ∙ ap (λ n. commands ++ archive_by sent n c.in-Archive.archive) c.as_slice-name.ensures.value
    ∙ ap (λ (x : Content). commands ++ file_commands_by sent inside.name x) (sym (ap shown_content c.in-Archive.is))
    ∙ ap (λ (f : File). commands ++ file_by sent f) c.file.view_is

pub returns-in_ok-push-in-Blob-clause-pushes : goal.returns-in_ok-push-in-Blob-clause-pushes
returns-in_ok-push-in-Blob-clause-pushes c =
    let commands = c.args.commands.now.items in
    let sent = c.args.sent.now in
    let inside = c.file.inside in
    c.in_ok-push-in-Blob.ensures.items
    ∙ ap (λ n. commands ++ Blob n c.from_vec.result ∷ []) (c.in_ok-from_slice-in-Blob.ensures ∙ c.as_slice-name.ensures.value)
    ∙ ap (λ (b : List ℕ). commands ++ Blob inside.name b ∷ []) (c.from_vec.ensures ∙ c.in_ok-text-in-Blob.ensures)
    ∙ ap (λ (x : Content). commands ++ file_commands_by sent inside.name x) (sym (ap shown_content c.in-Blob.is))
    ∙ ap (λ (f : File). commands ++ file_by sent f) c.file.view_is

pub returns-in_ok-push_archive-in-Archive-clause-sent : goal.returns-in_ok-push_archive-in-Archive-clause-sent
returns-in_ok-push_archive-in-Archive-clause-sent c =
    let sent = c.args.sent.now in
    c.in_ok-push_archive-in-Archive.ensures.sent
    ∙ ap (λ (x : Content). sent_after (pieces_of x) sent) (sym (ap shown_content c.in-Archive.is))
    ∙ ap (λ (f : File). sent_after (pieces_of f.content) sent) c.file.view_is

pub returns-in_ok-push-in-Blob-clause-sent : goal.returns-in_ok-push-in-Blob-clause-sent
returns-in_ok-push-in-Blob-clause-sent c =
    let sent = c.args.sent.now in
    ap (λ (x : Content). sent_after (pieces_of x) sent) (sym (ap shown_content c.in-Blob.is))
    ∙ ap (λ (f : File). sent_after (pieces_of f.content) sent) c.file.view_is

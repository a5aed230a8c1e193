use Rattle.std.proofs.Common.{◌≡◌, ◌∷◌, ◌++◌, [], length, ap, ◌∙◌}
use Rattle.store_files.specs.Archive.{Archive}
use Rattle.wire_commands.specs.declared.command.Command.{Command}
use Rattle.store_model.specs.SyncJob.{new_index, entries_from, appends}
use Rattle.plain_lanes.specs.Uploading.{chunks_of, close_of, sent_after}
use Rattle.plain_lanes.proofs.AppendLemmas.{appends_of}
use Rattle.plain_lanes.proofs.UploadLemmas.{archive_pushed}
use Rattle.plain_lanes.proofs.uploads.push_archive.Goals as goal

pub returns-clause-pushes : goal.returns-clause-pushes
returns-clause-pushes c =
    let a = c.args.archive.now in
    let commands = c.args.commands.now.items in
    let one = c.push.new.self.items in
    let two = c.push_chunks.new.commands.items in
    let three = c.push_appends.new.commands.items in
    let entries = c.in_ok-entries.entries.items in
    let pieces = ap (λ (x : Archive). x.pieces) c.archive.view_is in
    let begin : c.in_ok-begins.field-0 ≡ new_index a.layout c.args.name.now = c.in_ok-begins.ensures ∙ ap (λ (x : Archive). new_index x.layout c.args.name.now) c.archive.view_is in
    let chunks = c.in_ok-push_chunks.ensures.pushes ∙ ap (λ ps. one ++ chunks_of c.args.sent.now ps) (c.deref.ensures.value ∙ pieces) in
    let made : entries ≡ entries_from 0 a.pieces = c.in_ok-entries.ensures ∙ ap (entries_from 0) (c.deref-2.ensures.value ∙ pieces) in
    let appended = c.in_ok-push_appends.ensures ∙ ap (λ es. two ++ appends (length es) es) c.deref-3.ensures.value ∙ ap (λ l. two ++ l) (appends_of a.pieces entries made) in
    archive_pushed commands one two three c.push-2.new.self.items (new_index a.layout c.args.name.now) (close_of a) _ _
    (c.in_ok-push.ensures.items ∙ ap (λ (x : Command). commands ++ x ∷ []) begin) chunks appended
    (c.in_ok-push-2.ensures.items ∙ ap (λ (x : Command). three ++ x ∷ []) c.in_ok-closes.ensures)

pub returns-clause-sent : goal.returns-clause-sent
returns-clause-sent c =
    c.in_ok-push_chunks.ensures.sent ∙ ap (λ ps. sent_after ps c.args.sent.now) (c.deref.ensures.value ∙ ap (λ (x : Archive). x.pieces) c.archive.view_is)

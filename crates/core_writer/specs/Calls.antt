-- What the functions under the commands do: to the backup's writer, and to the lane's session.
use Rattle.std.specs.Prelude.{◌≡◌, ℕ, List, map, Result, Vec}
use Rattle.std.specs.declared.alloc.Global.{Global}
use Rattle.blob_codec.specs.Blob.{blob as blob_text}
use Rattle.store_types.specs.declared.append.AppendEntry.{AppendEntry}
use Rattle.store_types.specs.declared.names.Digest32.{Digest32}
use Rattle.store_types.specs.declared.refusal.Refusal.{Refusal}
use Rattle.wire_commands.specs.declared.command.Command.TheVariants as commands
use Rattle.wire_commands.specs.declared.reply.Reply.{Reply}
use Rattle.store_model.specs.ArchiveSteps.{named as named_entry}
use Rattle.store_model.specs.Steps.{outcome}
use Rattle.store_model.specs.WriterCalls as calls
use Rattle.store_model.specs.WriterSteps.{checked_blob}
use Rattle.store_history.specs.History.{data_in}
use Rattle.backup_session.specs.Session.{held, settled}
use Rattle.backup_session.specs.Session as backups
use Rattle.backup_session.specs.Steps as rows
use Rattle.backup_session.specs.Steps.{begun_at}
use Rattle.core_state.specs.declared.kept.Session.{Session}
use Rattle.core_state.specs.declared.kept.Writing.{Writing}
use Rattle.store_stops.specs.declared.stop.Stop.{Stop}
use Rattle.core_state.specs.Changes.{blob_put, index_put}
use Rattle.store_history.specs.Replies.{answers_append, answers_blob, answers_closing}
use Rattle.core_writer.specs.declared.archives.NewIndex.{NewIndex}
use Rattle.core_writer.specs.declared.files.NewFile.{NewFile}
use Rattle.core_writer.specs.Does.{Does, DoesPlainly}
use Rattle.core_writer.specs.NewIndexes.{answers_new, new_command, new_plain, new_rows}
use Rattle.core_writer.specs.Pending.{MakesPending}
use Rattle.core_writer.specs.Stepped.{StepsQuietly}

-- ---- the backup's writer: the step as it is kept, and of each plain writer that is shown

abbrev pub BeginsIndex : backups.Session → backups.Session → NewIndex → List ℕ → ℕ → Result ℕ Stop → Type 0
BeginsIndex old new index name moment result = Does (λ n. n) settled old new result (new_rows index old.writer name moment)

abbrev pub BeginsPlainly : backups.Session → backups.Session → NewIndex → List ℕ → ℕ → Result ℕ Stop → Type 0
BeginsPlainly old new index name moment result = DoesPlainly (λ n. n) settled old new result (λ w. new_plain index w name moment)

abbrev pub AppendsEntries : backups.Session → backups.Session → ℕ → List AppendEntry → Result (Unit {0}) Stop → Type 0
AppendsEntries old new number entries result =
    Does (λ u. u) settled old new result (rows.append old.writer number (map named_entry entries))

abbrev pub AppendsPlainly : backups.Session → backups.Session → ℕ → List AppendEntry → Result (Unit {0}) Stop → Type 0
AppendsPlainly old new number entries result =
    DoesPlainly (λ u. u) settled old new result (λ w. calls.append w number (map named_entry entries))

abbrev pub ClosesIndex : backups.Session → backups.Session → ℕ → ℕ → ℕ → Digest32 → Result (Vec ℕ Global) Stop → Type 0
ClosesIndex old new number count size csum result =
    Does (λ (text : Vec ℕ Global). text.items) (held old.writer) old new result (rows.close_index old.writer number count size csum)

abbrev pub ClosesPlainly : backups.Session → backups.Session → ℕ → ℕ → ℕ → Digest32 → Result (Vec ℕ Global) Stop → Type 0
ClosesPlainly old new number count size csum result =
    DoesPlainly (λ (text : Vec ℕ Global). text.items) (held old.writer) old new result (λ w. calls.close_index w number count size csum)

abbrev pub TakesBlob : backups.Session → backups.Session → List ℕ → List ℕ → Result (Unit {0}) Stop → Type 0
TakesBlob old new name text result =
    Does (λ u. u) (held old.writer) old new result (rows.blob old.writer name text)

abbrev pub TakesPlainly : backups.Session → backups.Session → List ℕ → List ℕ → Result (Unit {0}) Stop → Type 0
TakesPlainly old new name text result =
    (contents : List ℕ) → text ≡ blob_text contents
    → DoesPlainly (λ u. u) (held old.writer) old new result (λ w. calls.put_data w name contents)

-- ---- the lane's session: the plain store's step

abbrev pub BeginsQuietly : Session → Session → ℕ → NewIndex → List ℕ → Result Reply Stop → Type 0
BeginsQuietly old new moment index name result =
    StepsQuietly old new (λ s lane. outcome s lane moment (new_command index name)) (answers_new index) result

abbrev pub AppendsQuietly : Session → Session → ℕ → List AppendEntry → Result Reply Stop → Type 0
AppendsQuietly old new number entries result =
    (moment : ℕ) → StepsQuietly old new (λ s lane. outcome s lane moment (commands.Append number entries)) answers_append result

-- a file is pending then
abbrev pub ClosesPending : Session → Session → ℕ → ℕ → ℕ → Digest32 → Result NewFile Stop → Type 0
ClosesPending old new number count size csum result =
    (moment : ℕ) → MakesPending old new (λ s lane. outcome s lane moment (commands.CloseIndex number count size csum)) answers_closing
    (λ (w : Writing). index_put (begun_at number (w.session).writer) w) result

abbrev pub TakesPending : Session → Session → List ℕ → Result (List ℕ) Refusal → Result NewFile Stop → Type 0
TakesPending old new name checked result =
    MakesPending old new (λ s lane. checked_blob s lane name (data_in checked)) answers_blob (blob_put name checked) result

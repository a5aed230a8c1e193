-- A file of the lane's writer that a command makes pending, before it is put.
use Rattle.std.specs.Prelude.{◌≡◌, ◌+◌, ◌≤◌, ℕ, Bool, true, false, List, Result, Ok, Err, IfOk, IfErr, OnErr, IsSome, IsTrue, length}
use Rattle.std.specs.List.{All, AllByRecursion, Contains}
use Rattle.store_files.specs.Archive.{File, file_text, pieces_of}
use Rattle.store_files.specs.Folder.{file_path}
use Rattle.wire_commands.specs.declared.reply.Reply.{Reply}
use Rattle.wire_commands.specs.declared.reply.Reply.TheVariants as replies
use Rattle.store_model.specs.Stands.{names_content, FitsContent, file_limit}
use Rattle.store_model.specs.Store.{Begun, Store, Outcome, Writer, session, with_session, insert_file}
use Rattle.store_model.specs.Store as model
use Rattle.backup_session.specs.Session as rows
use Rattle.backup_session.specs.Session.{held, kept, settled}
use Rattle.backup_session.specs.Shown.{Shows}
use Rattle.core_state.specs.declared.kept.StoredFile.{StoredFile}
use Rattle.core_state.specs.declared.kept.Session.{Session}
use Rattle.core_state.specs.declared.kept.Session.TheVariants as states
use Rattle.core_state.specs.declared.kept.Writing.{Writing}
use Rattle.store_stops.specs.declared.stop.Stop.{Stop}
use Rattle.store_stops.specs.declared.stop.Stop.TheVariants.{Refused, NoMemory, DiskFailed}
use Rattle.core_state.specs.Changes.{Change, file_put}
use Rattle.core_state.specs.Holds.{IsBegun, has_named, names_differ, IsSound}
use Rattle.core_state.specs.Shown.{shown_session, shown_writer}
use Rattle.snapshot_files.specs.Reads.{StopHasText}
use Rattle.store_stops.specs.Stops.{IfRefused}
use Rattle.core_writer.specs.declared.files.NewFile.{NewFile}
use Rattle.core_writer.specs.Uploaded.{insert_stored}

-- ---- what the session keeps

-- a file of its writer is pending
abbrev pub HasPending : Session → Type 0
HasPending states.Idle = ⊥
HasPending (states.Writer w) = IsSome (w.session).pending
HasPending (states.Reader r) = ⊥

-- it is the writer's from now on
abbrev pub with_pending : StoredFile → Session → Session
with_pending file states.Idle = states.Idle
with_pending file (states.Writer w) = states.Writer (record { session = kept w.session; files = insert_stored file w.files })
with_pending file (states.Reader r) = states.Reader r

-- the writer is as before it
abbrev pub without_pending : Session → Session
without_pending states.Idle = states.Idle
without_pending (states.Writer w) = states.Writer (record w { session = settled (w.session).writer })
without_pending (states.Reader r) = states.Reader r

-- ---- what the plain store has of it

-- with a file more, and these open archives
abbrev pub grown : Writer → File → List Begun → Writer
grown w new begun = record w { files = insert_file new w.files; begun = begun }

-- the new file, and the archives that are open beside it
pub record MayAdd (w : Writer) (new : File) (begun : List Begun) : Type 0 where
  pub named : names_content new.content new.name ≡ true
  pub fits : FitsContent new.content
  pub free : has_named new.name w.files ≡ false
  pub count : length w.files + 1 + length begun ≤ file_limit
  pub pieces : All (Contains w.pool) (pieces_of new.content)
  pub begun_are : AllByRecursion (IsBegun w.pool) begun
  pub free_open : All (λ b. has_named b.name (insert_file new w.files) ≡ false) begun
  pub differ : IsTrue (names_differ begun)

-- the step adds the file to the lane's writer, and the session shows the writer afterwards
pub record AddsFile (s : Store) (lane : ℕ) (found : Writing) (x : rows.Writing) (file : StoredFile) (text : List ℕ) (o : Outcome) : Type 0 where
  pub before : Writer
  pub after : Writer
  pub new : File
  pub begun : List Begun
  pub at : session s lane ≡ model.writer before
  pub shown : shown_writer before ≡ found
  pub may : MayAdd before new begun
  pub same : after ≡ grown before new begun
  pub text_is : text ≡ file_text new.content
  pub shows : Shows x after
  pub named : file.name ≡ new.name
  pub step : o ≡ Ok (with_session s lane (model.writer (grown before new begun)), replies.Done)

-- the file is pending in the session
pub record IsPending (old new : Session) (outcome_at : Store → ℕ → Outcome) (file : StoredFile) (text : List ℕ) : Type 0 where
  pub found : Writing
  pub after : rows.Writing
  pub old_is : old ≡ states.Writer found
  pub new_is : new ≡ states.Writer (record found { session = held (found.session).writer after })
  pub key : after.key ≡ ((found.session).writer).key
  pub path : file.path ≡ file_path ((found.session).writer).key file.name
  pub adds : (s : Store) (lane : ℕ) → IsSound s → old ≡ shown_session s.snapshots (session s lane) → AddsFile s lane found after file text (outcome_at s lane)

abbrev pub IsPendingBy : Session → Session → (Store → ℕ → Outcome) → Result NewFile Stop → Type 0
IsPendingBy old new outcome_at (Ok n) = IsPending old new outcome_at n.file n.text
IsPendingBy old new outcome_at (Err (Refused refusal)) = (s : Store) (lane : ℕ) → IsSound s → old ≡ shown_session s.snapshots (session s lane) → outcome_at s lane ≡ Err refusal
IsPendingBy old new outcome_at (Err NoMemory) = Unit {0}
IsPendingBy old new outcome_at (Err DiskFailed) = ⊥

-- It makes the file pending that the act puts, or is refused as the store's step is. Where it stops the session is as before.
pub record MakesPending (old new : Session) (outcome_at : Store → ℕ → Outcome) (may_be : Reply → Bool) (changes : Writing → Change) (result : Result NewFile Stop) : Type 0 where
  pub text : IfErr result StopHasText
  pub answers : IfErr result (IfRefused (λ refusal. IsTrue (may_be (replies.Refused refusal))))
  pub same : OnErr result (new ≡ old)
  pub change : IfOk result (λ n. (w : Writing) → old ≡ states.Writer w → changes w ≡ file_put n.file.name n.text w)
  pub pending : IsPendingBy old new outcome_at result

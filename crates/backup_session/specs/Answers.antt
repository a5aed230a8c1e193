-- What a call that may be refused, or may want memory, gives and leaves.
use Rattle.std.specs.Prelude.{◌≡◌, ℕ, List, map, length, None, Result, Ok, Err, MatchResult, IsSome, Vec}
use Rattle.std.specs.declared.alloc.Global.{Global}
use Rattle.sha2.specs.Sha256.{sha256}
use Rattle.store_types.specs.declared.names.Digest32.{Digest32}
use Rattle.store_types.specs.declared.piece.Piece.{Piece}
use Rattle.store_stops.specs.Outcomes.{IfAnswered}
use Rattle.store_types.specs.declared.refusal.Refusal.{Refusal}
use Rattle.store_types.specs.declared.refusal.Refusal.TheVariants.{BadName}
use Rattle.store_types.specs.Chain.Refusing.{◌>>=◌, unless}
use Rattle.store_types.specs.FileNames.{is_blob_name}
use Rattle.store_files.specs.Manifest as listing
use Rattle.manifest.specs.declared.facts.Manifest.{Manifest}
use Rattle.manifest.specs.Views.{manifest_view}
use Rattle.store_model.specs.Store.{Writer}
use Rattle.store_model.specs.Uploads.{want_room}
use Rattle.store_model.specs.WriterCalls as calls
use Rattle.store_model.specs.WriterSteps.{with_pool}
use Rattle.backup_session.specs.declared.index.OpenIndex.{OpenIndex}
use Rattle.std.specs.FinMap.{empty}
use Rattle.known_chunks.specs.Lengths.{Lengths, with_lengths}
use Rattle.backup_session.specs.Session.{Pool, Writing, Session, StopsBy, IsPool, length_at, settled}
use Rattle.backup_session.specs.Shown.{Shows, known_of as known_piece}
use Rattle.backup_session.specs.Steps as steps

-- the step answers so, and the call leaves what this makes of the writer afterwards
pub record Leaves {S B : Type 0} (leave : Writing → S) (new : S) (step : Result (Writing × B) Refusal) (answer : B) : Type 0 where
  pub after : Writing
  pub stepped : step ≡ Ok (after, answer)
  pub left : new ≡ leave after

-- The answer is the step's. A refusal, and want of memory, leave all as it was.
abbrev pub Does : {S A B : Type 0} → (A → B) → (Writing → S) → S → S → Result A Refusal → Result (Writing × B) Refusal → Type 0
Does show leave old new result step = MatchResult result (λ a. Leaves leave new step (show a)) (StopsBy old new step)

-- a file is pending exactly at Ok
abbrev pub IsPendingAt : {A E : Type 0} → Session → Result A E → Type 0
IsPendingAt s result = MatchResult result (λ a. IsSome s.pending) (λ stop. s.pending ≡ None)

-- the answer is the manifest, or the refusal
abbrev pub TellsManifest : Result listing.Manifest Refusal → Result Manifest Refusal → Type 0
TellsManifest step told = MatchResult told (λ m. step ≡ Ok (manifest_view m)) (λ refusal. step ≡ Err refusal)

-- so it is where memory is not wanting
abbrev pub GivesManifest : Result listing.Manifest Refusal → Result Manifest Refusal → Type 0
GivesManifest step result = IfAnswered result (TellsManifest step)

-- the answer is the pieces, or the refusal
abbrev pub TellsPieces : Result (List Piece) Refusal → Result (Vec Piece Global) Refusal → Type 0
TellsPieces step told = MatchResult told (λ pieces. step ≡ Ok pieces.items) (λ refusal. step ≡ Err refusal)

-- so it is of the entries of an APPEND to an index, where memory is not wanting
abbrev pub NamesPieces : Pool → OpenIndex → List (Digest32 × ℕ) → Result (Vec Piece Global) Refusal → Type 0
NamesPieces pool index entries result = IfAnswered result (TellsPieces (steps.pieces_for pool index entries))

-- ---- pieces that may be named

abbrev pub NotesPieces : Session → Session → Lengths → Type 0
NotesPieces old new pieces = new ≡ settled (steps.previous old.writer pieces)

abbrev pub NotesPiece : Session → Session → List ℕ → ℕ → Type 0
NotesPiece old new digest len = new ≡ settled (steps.chunk old.writer digest len)

-- what was noted just now is forgotten, and the session is as before it was
abbrev pub ForgetsAgain : Session → Session → List ℕ → Type 0
ForgetsAgain old new digest =
    (before : Writing) → (len : ℕ) → IsPool before.pool → length_at before.pool digest ≡ None → old ≡ settled (steps.chunk before digest len) → new ≡ settled before

-- ---- beside a plain writer

-- a blob of the name may be taken
unfoldable pub takes_blob : List ℕ → Writer → Result (Unit {0}) Refusal
takes_blob name w = do
  _ ← unless BadName (is_blob_name name)
  want_room name w

-- the plain step answers so, and the call leaves what this makes of a session that shows the plain writer afterwards
pub record LeavesShown {B : Type 0} (leave : Writing → Session) (new : Session) (step : Result (Writer × B) Refusal) (answer : B) : Type 0 where
  pub plain : Writer
  pub stepped : step ≡ Ok (plain, answer)
  pub after : Writing
  pub left : new ≡ leave after
  pub shows : Shows after plain

abbrev pub TellsPlainly : {A B : Type 0} → (A → B) → (Writing → Session) → Session → Result (Writer × B) Refusal → Result A Refusal → Type 0
TellsPlainly show leave new step told =
    MatchResult told (λ a. LeavesShown leave new step (show a)) (λ refusal. step ≡ Err refusal)

-- of each plain writer that the session shows, the answer is the plain step's, and what is left shows the writer afterwards
abbrev pub DoesPlainly : {A B : Type 0} → (A → B) → (Writing → Session) → Session → Session → Result A Refusal → (Writer → Result (Writer × B) Refusal) → Type 0
DoesPlainly show leave old new result step =
    (w : Writer) → Shows old.writer w → IfAnswered result (TellsPlainly show leave new (step w))

-- of each plain writer that the session shows: the plain pieces may be named too
abbrev pub ShowsPieces : Session → Session → Lengths → Type 0
ShowsPieces old new pieces =
    (w : Writer) → (shown : List (List ℕ)) → Shows old.writer w → pieces ≡ with_lengths empty (map known_piece shown) → Shows new.writer (with_pool shown w)

abbrev pub ShowsPiece : Session → Session → List ℕ → ℕ → Type 0
ShowsPiece old new digest len = (w : Writer) → (piece : List ℕ) → Shows old.writer w → digest ≡ sha256 piece → len ≡ length piece → Shows new.writer (calls.chunk w piece)

-- A file of the remote that a SYNC reads.
use Rattle.std.specs.Prelude.{◌≡◌, ℕ, List, ◌++◌, Option, Some, None, ⊤, Result, IfOk}
use Rattle.wire_commands.specs.HasText.{IsText}
use Rattle.store_types.specs.FileNames.{manifest_name}
use Rattle.store_model.specs.Load.{read_manifest}
use Rattle.store_history.specs.Pulling as model
use Rattle.store_history.specs.Pulling.{SyncJob, asks}
use Rattle.pull_steps.specs.declared.files.Listing.{Listing}
use Rattle.pull_steps.specs.declared.files.Listing.TheVariants as listings
use Rattle.pull_steps.specs.declared.files.Whole.{Whole}
use Rattle.pull_steps.specs.declared.files.Whole.TheVariants as wholes
use Rattle.pull_steps.specs.declared.stages.FileRead.{FileRead}
use Rattle.pull_steps.specs.declared.stages.ManifestRead.{ManifestRead}
use Rattle.pull_steps.specs.States.{shown_course, shown_index, shown_stock}

-- ---- the manifest

-- the full name of a file that is none has a text
abbrev pub ListingHasText : Listing → Type 0
ListingHasText (listings.Bad path) = IsText path
ListingHasText listing = ⊤

-- what comes behind it, by what its bytes are
abbrev pub behind_manifest : model.Course → Listing → SyncJob
behind_manifest c (listings.Stock stock) = model.next_file c (shown_stock stock)
behind_manifest c (listings.Bad path) = asks (model.rejecting path)

-- it is none
abbrev pub RejectsManifest : model.Course → Listing → Type 0
RejectsManifest c listing = behind_manifest c listing ≡ model.rejects c manifest_name

abbrev pub TellsManifest : {E : Type 0} → model.Course → List ℕ → Result Listing E → Type 0
TellsManifest c bytes result =
    IfOk result (λ listing. behind_manifest c listing ≡ model.manifest_read c bytes (read_manifest bytes))

-- where it is not all of it yet, more is read
abbrev pub behind_manifest_part : model.Course → List ℕ → Option Listing → SyncJob
behind_manifest_part c bytes None = asks (model.reading_manifest c bytes)
behind_manifest_part c bytes (Some listing) = behind_manifest c listing

-- what comes behind a part of so many bytes in all, by the bytes that are kept
abbrev pub TellsManifestPart : ManifestRead → ManifestRead → List ℕ → ℕ → Option Listing → Type 0
TellsManifestPart old new more total listing =
    behind_manifest_part (shown_course old.course) new.bytes.items listing
    ≡ model.manifest_part (shown_course old.course) (old.bytes.items ++ more) total

-- ---- another file

abbrev pub WholeHasText : Whole → Type 0
WholeHasText (wholes.Bad path) = IsText path
WholeHasText whole = ⊤

abbrev pub behind_file : model.Course → model.Stock → List ℕ → List ℕ → Whole → SyncJob
behind_file c s name bytes (wholes.Index index) = asks (model.opening c s (shown_index index))
behind_file c s name bytes wholes.Blob = asks (model.sending_blob c s name bytes)
behind_file c s name bytes (wholes.Bad path) = asks (model.rejecting path)

-- it is none
abbrev pub RejectsFile : model.Course → List ℕ → Whole → Type 0
RejectsFile c name whole =
    (s : model.Stock) (bytes : List ℕ) → behind_file c s name bytes whole ≡ model.rejects c name

-- whatever else was read of the snapshot
abbrev pub TellsFile : {E : Type 0} → model.Course → List ℕ → List ℕ → Result Whole E → Type 0
TellsFile c name bytes result =
    IfOk result (λ whole. (s : model.Stock) → behind_file c s name bytes whole ≡ model.file_read c s name bytes)

abbrev pub behind_part : model.Course → model.Stock → List ℕ → List ℕ → Option Whole → SyncJob
behind_part c s name bytes None = asks (model.reading_file c s name bytes)
behind_part c s name bytes (Some whole) = behind_file c s name bytes whole

-- of the file that is read, and these bytes of it
abbrev pub behind_bytes : FileRead → List ℕ → Option Whole → SyncJob
behind_bytes r bytes whole = behind_part (shown_course r.course) (shown_stock r.stock) r.name bytes whole

abbrev pub TellsPart : FileRead → FileRead → List ℕ → ℕ → Option Whole → Type 0
TellsPart old new more total whole =
    behind_bytes old new.bytes.items whole
    ≡ model.file_part (shown_course old.course) (shown_stock old.stock) old.name (old.bytes.items ++ more) total

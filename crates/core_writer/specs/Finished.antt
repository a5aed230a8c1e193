-- FINISH's tests, by what the core keeps.
use Rattle.std.specs.Prelude.{◌≡◌, ℕ, List, Option, None, option_map, Result, Ok, Err}
use Rattle.std.specs.Borrow.{Bor}
use Rattle.std.specs.List.{find}
use Rattle.std.specs.Str.{bytes_eq}
use Rattle.store_types.specs.declared.refusal.Refusal.{Refusal}
use Rattle.store_types.specs.FileNames.{manifest_name}
use Rattle.store_files.specs.Manifest.{Manifest}
use Rattle.store_model.specs.Manifests.{finish_check}
use Rattle.store_model.specs.Store.{Writer as PlainWriter}
use Rattle.backup_session.specs.Session.{Writing}
use Rattle.backup_session.specs.Shown.{Shows}
use Rattle.core_state.specs.declared.kept.Session.{Session}
use Rattle.core_state.specs.declared.kept.Session.TheVariants.{Idle, Writer, Reader}
use Rattle.core_state.specs.declared.kept.StoredFile.{StoredFile}
use Rattle.store_stops.specs.declared.stop.Stop.{Stop}
use Rattle.store_stops.specs.declared.stop.Stop.TheVariants.{Refused, NoMemory, DiskFailed}
use Rattle.core_state.specs.Changes.{kept_manifest}

-- the manifest among a writer's files
abbrev pub manifest_among : List StoredFile → Option StoredFile
manifest_among files = find (λ f. bytes_eq f.name manifest_name) files

-- the name in the datastore folder of the manifest of the session's writer, and its text
abbrev pub manifest_in : Session → Option (List ℕ × List ℕ)
manifest_in Idle = None
manifest_in (Writer w) = kept_manifest w
manifest_in (Reader r) = None

-- the tests have passed, or the first that refuses did
abbrev pub TestedBy : Result Manifest Refusal → Result (Unit {0}) Stop → Type 0
TestedBy tested (Ok u) = (listing : Manifest) × (tested ≡ Ok listing)
TestedBy tested (Err (Refused refusal)) = tested ≡ Err refusal
TestedBy tested (Err NoMemory) = Unit {0}
TestedBy tested (Err DiskFailed) = Unit {0}

-- so they do of each plain writer that the session's shows
abbrev pub ChecksPlainly : Writing → Result (Unit {0}) Stop → Type 0
ChecksPlainly w result = (v : PlainWriter) → Shows w v → TestedBy (finish_check v) result

-- a file's name and text that are lent, where they are
abbrev pub lent_file : Option (Bor (List ℕ) × Bor (List ℕ)) → Option (List ℕ × List ℕ)
lent_file file = option_map (λ (m : Bor (List ℕ) × Bor (List ℕ)). ((m.0).now, (m.1).now)) file

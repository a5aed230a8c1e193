-- What is read of a disk.
use Rattle.std.specs.Prelude.{◌≡◌, ℕ, Bool, false, is_none, List, [], ◌∷◌, ◌++◌, map, Option, Some, None, option_map, Result, Ok, Err, OnOk, Vec, if◌then◌else◌}
use Rattle.std.specs.declared.alloc.Global.{Global}
use Rattle.std.specs.List.{list_any}
use Rattle.std.specs.FinMap.{get, entries}
use Rattle.std.specs.Str.{bytes_eq}
use Rattle.sha2.specs.Sha256.{sha256}
use Rattle.disk_trait.specs.declared.disk.Disk.{Ghosts}
use Rattle.disk_trait.specs.Files.{Files}
use Rattle.store_types.specs.FileNames.{manifest_name}
use Rattle.blob_codec.specs.Blob.{data_of}
use Rattle.store_files.specs.FixedIndex.{fixed_of}
use Rattle.store_files.specs.DynamicIndex.{dynamic_of, Ended}
use Rattle.store_files.specs.Archive.{Archive, dynamic, fixed}
use Rattle.store_files.specs.Manifest.{Manifest}
use Rattle.store_model.specs.Manifests.{listed_names}
use Rattle.store_model.specs.Load.{Entries, piece_in, empty_archive, fixed_archive, dynamic_archive, key_of_manifest, snapshot_in}

-- what is read at a name
abbrev pub found_at : List ℕ → Option (List ℕ) → List (List ℕ × List ℕ)
found_at name None = []
found_at name (Some bytes) = (name, bytes) ∷ []

-- on an honest disk, Ok adds what is read at the name
abbrev pub AddsRead : {D A E : Type 0} → Ghosts D → D → List ℕ → Entries → Entries → Result A E → Type 0
AddsRead d disk name old new result = d.honest disk → OnOk result (new ≡ old ++ found_at name (get (d.content disk) name))

-- the items of a list, where there is one
abbrev pub HasItems : {A : Type 0} → Option (Vec A Global) → Option (List A) → Type 0
HasItems found items = option_map (λ v. v.items) found ≡ items

-- the names of a snapshot's files: the manifest's, and those that it lists
abbrev pub all_names : Manifest → List (List ℕ)
all_names listed = manifest_name ∷ listed_names listed

-- the data of a blob, where they have this digest
abbrev pub data_of_digest : List ℕ → List ℕ → Option (List ℕ)
data_of_digest bytes digest = elim (data_of bytes) [ Ok p ↦ if bytes_eq (sha256 p) digest then Some p else None | Err cause ↦ None ]

-- the archive whose fixed index these bytes are, or one without pieces
abbrev pub fixed_in : Entries → List ℕ → Archive
fixed_in m bytes = elim (fixed_of bytes) [ Ok x ↦ fixed_archive m x | Err cause ↦ empty_archive (fixed 0 4096) ]

-- the same of a dynamic index
abbrev pub dynamic_in : Entries → List ℕ → Archive
dynamic_in m bytes = elim (dynamic_of bytes) [ Ok x ↦ dynamic_archive m x | Err cause ↦ empty_archive dynamic ]

-- the data of a blob, or none
abbrev pub data_or_nothing : List ℕ → List ℕ
data_or_nothing bytes = elim (data_of bytes) [ Ok p ↦ p | Err cause ↦ [] ]

-- the pieces that a dynamic index's entries name
abbrev pub pieces_of_ends : Entries → List Ended → List (List ℕ)
pieces_of_ends m ends = map (λ e. piece_in m e.digest) ends

-- a manifest whose snapshot is damaged
abbrev pub is_damaged : Entries → List ℕ × List ℕ → Bool
is_damaged m entry = elim (key_of_manifest entry.0) [ None ↦ false | Some key ↦ is_none (snapshot_in m key entry.1) ]

-- a datastore with one
abbrev pub has_damaged : Files → Bool
has_damaged files = list_any (is_damaged (entries files)) (entries files)

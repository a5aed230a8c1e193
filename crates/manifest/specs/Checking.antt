-- A manifest beside what a session uploaded.
use Rattle.std.specs.Prelude.{ℕ, ◌≤◌, Bool, not, ◌&&◌, List, [], ◌∷◌, map, if◌then◌else◌, Option, None, Some}
use Rattle.std.specs.List.{filter, list_any}
use Rattle.std.specs.Borrow.{Bor}
use Rattle.std.specs.Str.{bytes_eq}
use Rattle.store_types.specs.FileNames.{manifest_name}
use Rattle.store_types.specs.Names.{name_lt}
use Rattle.store_types.specs.declared.names.SnapshotKey.{SnapshotKey}
use Rattle.store_files.specs.Manifest.Fields.{Fact}
use Rattle.store_files.specs.Manifest.Mismatch.{Mismatch, fact_named, upload_mismatch, listed_mismatch, unlisted_mismatch, mismatch}
use Rattle.manifest.specs.declared.facts.FileFact.{FileFact}
use Rattle.manifest.specs.declared.facts.Manifest.{Manifest}
use Rattle.manifest.specs.Views.{fact_view}

-- with a file before the first whose name is not less
abbrev pub placed : Fact → List Fact → List Fact
placed f [] = f ∷ []
placed f (g ∷ gs) = if name_lt g.name f.name then g ∷ placed f gs else f ∷ g ∷ gs

-- in byte order of the names; files of one name stay as they stood
abbrev pub in_order : List Fact → List Fact
in_order [] = []
in_order (f ∷ fs) = placed f (in_order fs)

-- the uploads beside the manifest, in byte order
abbrev pub uploaded : List FileFact → List Fact
uploaded uploads = in_order (filter (λ f. not (bytes_eq f.name manifest_name)) (map fact_view uploads))

-- the first mismatch of a manifest and a session of this snapshot with these uploads
abbrev pub first_mismatch : Manifest → SnapshotKey → List FileFact → Option Mismatch
first_mismatch m key uploads = mismatch m.key (map fact_view m.files) key (uploaded uploads)

-- the upload of this name; the manifest is none
abbrev pub upload_of : List FileFact → List ℕ → Option Fact
upload_of uploads name = fact_named name (uploaded uploads)

-- what differs between a listed file and its upload
abbrev pub file_mismatch : FileFact → List FileFact → Option Mismatch
file_mismatch listed uploads = upload_mismatch (fact_view listed) (upload_of uploads listed.name)

-- what differs first of the listed files
abbrev pub files_mismatch : List FileFact → List FileFact → Option Mismatch
files_mismatch listed uploads = listed_mismatch (map fact_view listed) (uploaded uploads)

-- the first upload that is not listed
abbrev pub uploads_mismatch : List FileFact → List FileFact → Option Mismatch
uploads_mismatch listed uploads = unlisted_mismatch (map fact_view listed) (uploaded uploads)

-- whether a name is listed
abbrev pub is_listed : List FileFact → List ℕ → Bool
is_listed listed name = list_any (λ f. bytes_eq f.name name) listed

-- whether an upload of this name is not listed; the manifest is none
abbrev pub is_unlisted : List FileFact → List ℕ → Bool
is_unlisted listed name = not (bytes_eq name manifest_name) && not (is_listed listed name)

-- what differs of a file
abbrev pub of_file : List ℕ → ℕ → Mismatch
of_file name field = record { file = name; field = field }

abbrev pub in_file : FileFact → ℕ → Mismatch
in_file listed field = of_file listed.name field

abbrev pub told_of : Bor (List ℕ) × ℕ → Mismatch
told_of r = of_file r.0.now r.1

-- the fields of type, id and time have no file, those of a file have one
abbrev pub FitsField : Option (List ℕ) → ℕ → Type 0
FitsField None field = (1 ≤ field) × (field ≤ 3)
FitsField (Some name) field = (4 ≤ field) × (field ≤ 7)

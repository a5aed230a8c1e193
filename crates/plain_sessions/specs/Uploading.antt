-- The files of a writer, and the tests of what uploads one.
use Rattle.std.specs.Prelude.{ℕ, Bool, true, not, ◌&&◌, List, [], ◌∷◌, Result, Ok}
use Rattle.store_types.specs.declared.refusal.Refusal.{Refusal}
use Rattle.store_types.specs.declared.refusal.Refusal.TheVariants.{BadName}
use Rattle.store_types.specs.Chain.Refusing.{◌>>=◌, unless}
use Rattle.store_types.specs.FileNames.{is_blob_name}
use Rattle.store_types.specs.Names.{name_lt}
use Rattle.store_files.specs.Archive.{File, blob}
use Rattle.store_model.specs.Store.{Writer}
use Rattle.store_model.specs.Uploads.{want_room}
use Rattle.store_model.specs.WriterSteps.{want_data}

-- no name stands before a lesser one
abbrev pub names_stand : List File → Bool
names_stand [] = true
names_stand (f ∷ []) = true
names_stand (f ∷ g ∷ fs) = not (name_lt g.name f.name) && names_stand (g ∷ fs)

-- the file that a writer uploads
abbrev pub upload_of : Writer → List ℕ → List ℕ → Result File Refusal
upload_of w name bytes = do
  _ ← unless BadName (is_blob_name name)
  _ ← want_room name w
  contents ← want_data bytes
  Ok (record { name = name; content = blob contents })

-- New archives and uploads.
use Rattle.std.proofs.Common.{◌≡◌, ℕ, ◌≤◌, true, false, List, [], length, arith, Ok, Err, refl}
use Rattle.std.specs.Prelude.{pos, replicate}
use mir.Val.{to_z}
use mir.Syntax.{w64}
use Rattle.std.proofs.lemmas.Bool.{or_parts}
use Rattle.std.proofs.lemmas.Int.{ints}
use Rattle.store_types.specs.declared.names.SnapshotKey.{SnapshotKey}
use Rattle.store_types.specs.Times.{last_moment}
use Rattle.store_types.specs.declared.refusal.Refusal.TheVariants.{BadName}
use Rattle.store_types.specs.FileNames.{is_file_name, is_index_name, is_fixed_name, is_dynamic_name, is_blob_name}
use Rattle.store_files.specs.Archive.{Layout, dynamic, fixed, Archive}
use Rattle.store_model.specs.Store.{Begun, Writer}
use Rattle.store_model.specs.Uploads.{want_room}
use Rattle.store_model.specs.WriterCalls.{numbers}
use Rattle.store_model.specs.Archives.{uuid_of, new_archive, want_sizes, want_number, free_number}
use Rattle.plain_sessions.specs.Archiving.{begun_of, fixed_begun_of}
use Rattle.plain_sessions.specs.Uploading.{upload_of}

-- an archive without pieces, by its parts
pub archive_is : (layout : Layout) (key : SnapshotKey) (name : List ℕ) (moment n reserved : ℕ) (uuid zeros : List ℕ) (pieces : List (List ℕ)) → n ≡ moment → n ≤ last_moment
    → uuid ≡ uuid_of key name → zeros ≡ replicate reserved 0 → pieces ≡ []
    → (let a : Archive = record { layout = layout; uuid = uuid; ctime = to_z w64 n; reserved = zeros; pieces = pieces } in a ≡ new_archive layout reserved key name moment)
archive_is layout key name moment n reserved uuid zeros pieces same limit is_uuid are_zeros none =
    let number : to_z w64 n ≡ pos n = omega (arith, ints, limit) in
    rw (number, same, is_uuid, are_zeros, none) refl

-- a name that no file may have
pub no_archive_name : (w : Writer) (name : List ℕ) (moment : ℕ) → is_file_name name ≡ false → begun_of w name moment ≡ Err BadName
no_archive_name w name moment bad =
    let no_dynamic = (or_parts (is_fixed_name name) (is_dynamic_name name) (or_parts (is_index_name name) (is_blob_name name) bad).0).1 in
    rw no_dynamic refl

pub no_blob_name : (w : Writer) (name bytes : List ℕ) → is_file_name name ≡ false → upload_of w name bytes ≡ Err BadName
no_blob_name w name bytes bad = let no_blob = (or_parts (is_index_name name) (is_blob_name name) bad).1 in rw no_blob refl

pub no_fixed_name : (w : Writer) (name : List ℕ) (size cut moment : ℕ) → is_file_name name ≡ false → fixed_begun_of w name size cut moment ≡ Err BadName
no_fixed_name w name size cut moment bad =
    let no_fixed = (or_parts (is_fixed_name name) (is_dynamic_name name) (or_parts (is_index_name name) (is_blob_name name) bad).0).0 in
    rw no_fixed refl

-- the archive that is begun, by its parts
module _ (w : Writer) (name own : List ℕ) (moment number : ℕ) (a : Archive) (room : want_room name w ≡ Ok tt) (few : want_number (length w.begun) ≡ Ok tt)
    (free : number ≡ free_number (numbers w)) (same : own ≡ name) where
  abbrev made : Begun
  made = record { number = number; name = own; archive = a }

  pub begun_is : is_dynamic_name name ≡ true → a ≡ new_archive dynamic 4032 w.key own moment → begun_of w name moment ≡ Ok made
  begun_is good new = rw (good, room, few) (rw (free, new, same) refl)

  pub fixed_begun_is : (size cut : ℕ) → is_fixed_name name ≡ true → want_sizes size cut ≡ Ok tt → a ≡ new_archive (fixed size cut) 4016 w.key own moment → fixed_begun_of w name size cut moment ≡ Ok made
  fixed_begun_is size cut good sizes new = rw (good, room, few, sizes) (rw (free, new, same) refl)

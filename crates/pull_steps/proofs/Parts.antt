-- A file of the remote that a SYNC reads in parts.
use Rattle.std.proofs.Common.{◌≡◌, ◌<◌, ◌≤◌, ℕ, Bool, true, false, List, [], length, Option, None, Some, Result, Ok, Err, refl, sym, ap, ◌∙◌}
use Rattle.std.specs.Prelude.{IfOk, map, nat_le, ◌||◌}
use Rattle.std.proofs.lemmas.Bool.{lt-ltb, lt-leb, le-ltb, le-leb}
use Rattle.store_types.specs.declared.refusal.BadBlob.{BadBlob}
use Rattle.store_types.specs.FileNames.{is_dynamic_name, is_fixed_name, is_index_name, manifest_name}
use Rattle.blob_codec.specs.Blob.{data_of, blob_limit}
use Rattle.store_files.specs.Manifest.{Manifest}
use Rattle.wire_commands.specs.declared.reply.Reply.{Reply}
use Rattle.wire_commands.specs.declared.reply.Reply.TheVariants.{Part, Refused}
use Rattle.store_model.specs.Load.{read_manifest}
use Rattle.store_model.specs.SizeLimits.{size_limit}
use Rattle.store_history.specs.Pulling as model
use Rattle.store_history.specs.Pulling.{asks, blob_read, file_part, file_read, file_told, index_in, index_read, manifest_part, manifest_read, manifest_told, next_file, opening, rejects, sending_blob, stock_of}
use Rattle.pull_steps.specs.declared.course.Course.{Course}
use Rattle.pull_steps.specs.declared.files.Listing.{Listing}
use Rattle.pull_steps.specs.declared.files.Whole.{Whole}
use Rattle.pull_steps.specs.declared.stages.FileRead.{FileRead}
use Rattle.pull_steps.specs.declared.stages.Index.{Index}
use Rattle.pull_steps.specs.declared.stages.ManifestRead.{ManifestRead}
use Rattle.pull_steps.specs.declared.stages.Stock.{Stock}
use Rattle.pull_steps.specs.Files.{RejectsFile, RejectsManifest, TellsFile, TellsManifest, TellsManifestPart, TellsPart, behind_manifest_part, behind_part}
use Rattle.pull_steps.specs.States.{file_of, manifest_of, shown_course, shown_index, shown_stock}
use Rattle.pull_steps.specs.Taken.{ended_by}

-- ---- a manifest

module _ (c : model.Course) (bytes : List ℕ) (total : ℕ) where
  pub manifest_long : blob_limit < total → rejects c manifest_name ≡ manifest_part c bytes total
  unfolding manifest_part
  manifest_long h = rw (lt-ltb blob_limit total h) refl

  module _ (fits : total ≤ blob_limit) where
    pub manifest_more : length bytes < total → asks (model.reading_manifest c bytes) ≡ manifest_part c bytes total
    unfolding manifest_part
    manifest_more h = rw (le-ltb blob_limit total fits, lt-ltb (length bytes) total h) refl

    pub manifest_whole : total ≤ length bytes → manifest_read c bytes (read_manifest bytes) ≡ manifest_part c bytes total
    unfolding manifest_part
    manifest_whole within = rw (le-ltb blob_limit total fits, le-ltb (length bytes) total within) refl

module _ (c : model.Course) (bytes : List ℕ) where
  pub listed_none : None ≡ read_manifest bytes → rejects c manifest_name ≡ manifest_read c bytes (read_manifest bytes)
  unfolding manifest_read
  listed_none is = ap (manifest_read c bytes) is

  module _ (m : Manifest) (is : Some m ≡ read_manifest bytes) where
    many : (few : Bool) → nat_le (length m.files) 63 ≡ few → few ≡ false → rejects c manifest_name ≡ manifest_read c bytes (Some m)
    unfolding manifest_read
    many few test over = rw (test, over) refl

    pub listed_many : 63 < length m.files → rejects c manifest_name ≡ manifest_read c bytes (read_manifest bytes)
    listed_many lt = many (nat_le (length m.files) 63) refl (lt-leb (length m.files) 63 lt) ∙ ap (manifest_read c bytes) is

    few_files : nat_le (length m.files) 63 ≡ true → next_file c (stock_of bytes m) ≡ manifest_read c bytes (Some m)
    unfolding manifest_read
    few_files h = rw h refl

    pub listed_stock : (manifest : List ℕ) (names : List (List ℕ)) (sent : List (List ℕ × ℕ)) → length m.files ≤ 63 → manifest ≡ bytes → names ≡ map (λ f. f.name) m.files → sent ≡ []
        → next_file c (record { manifest = manifest; names = names; sent = sent }) ≡ manifest_read c bytes (read_manifest bytes)
    listed_stock manifest names sent few told named none =
        let stock : List ℕ → List (List ℕ) → List (List ℕ × ℕ) → model.Stock = λ b n s. record { manifest = b; names = n; sent = s } in
        ap (λ b. next_file c (stock b names sent)) told ∙ ap (λ n. next_file c (stock bytes n sent)) named
        ∙ ap (λ s. next_file c (stock bytes (map (λ f. f.name) m.files) s)) none ∙ few_files (le-leb (length m.files) 63 few) ∙ ap (manifest_read c bytes) is

-- ---- another file

module _ (c : model.Course) (s : model.Stock) (name bytes : List ℕ) where
  module _ (total : ℕ) where
    pub file_long : size_limit name < total → rejects c name ≡ file_part c s name bytes total
    unfolding file_part
    file_long h = rw (lt-ltb (size_limit name) total h) refl

    module _ (fits : total ≤ size_limit name) where
      pub file_more : length bytes < total → asks (model.reading_file c s name bytes) ≡ file_part c s name bytes total
      unfolding file_part
      file_more h = rw (le-ltb (size_limit name) total fits, lt-ltb (length bytes) total h) refl

      pub file_whole : total ≤ length bytes → file_read c s name bytes ≡ file_part c s name bytes total
      unfolding file_part
      file_whole within = rw (le-ltb (size_limit name) total fits, le-ltb (length bytes) total within) refl

  by_kind : (fixed dynamic : Bool) → is_fixed_name name ≡ fixed → is_dynamic_name name ≡ dynamic → (index : Bool) → is_index_name name ≡ index → model.is_index name ≡ index
  by_kind true dynamic f d index is = rw f refl ∙ sym (ap (λ b. b || is_dynamic_name name) f) ∙ is
  by_kind false dynamic f d index is = rw f refl ∙ sym (ap (λ b. b || is_dynamic_name name) f) ∙ is

  kind_is : (index : Bool) → is_index_name name ≡ index → model.is_index name ≡ index
  kind_is index is = by_kind (is_fixed_name name) (is_dynamic_name name) refl refl index is

  module _ (kind : is_index_name name ≡ true) where
    index_file : index_read c s name (index_in name bytes) ≡ file_read c s name bytes
    unfolding file_read
    index_file = rw (kind_is true kind) refl

    pub index_some : (x : Index) → Some (shown_index x) ≡ index_in name bytes → asks (opening c s (shown_index x)) ≡ file_read c s name bytes
    unfolding index_read
    index_some x is = ap (index_read c s name) is ∙ index_file

    pub index_none : None ≡ index_in name bytes → rejects c name ≡ file_read c s name bytes
    unfolding index_read
    index_none is = ap (index_read c s name) is ∙ index_file

  module _ (kind : is_index_name name ≡ false) where
    blob_file : blob_read c s name bytes ≡ file_read c s name bytes
    unfolding file_read
    blob_file = rw (kind_is false kind) refl

    pub blob_some : (contents : List ℕ) → data_of bytes ≡ Ok contents → asks (sending_blob c s name bytes) ≡ file_read c s name bytes
    unfolding blob_read
    blob_some contents is =
        let read : asks (sending_blob c s name bytes) ≡ blob_read c s name bytes = rw (is, blob_read) refl in
        read ∙ blob_file

    pub blob_none : (cause : BadBlob) → data_of bytes ≡ Err cause → rejects c name ≡ file_read c s name bytes
    unfolding blob_read
    blob_none cause is =
        let read : rejects c name ≡ blob_read c s name bytes = rw (is, blob_read) refl in
        read ∙ blob_file

-- ---- a file that is none

pub rejected_manifest : {E : Type 0} (c : model.Course) (bytes : List ℕ) (r : Result Listing E) → IfOk r (RejectsManifest c)
    → rejects c manifest_name ≡ manifest_read c bytes (read_manifest bytes) → TellsManifest c bytes r
rejected_manifest c bytes (Ok listing) h is = h ∙ is
rejected_manifest c bytes (Err e) h is = tt

pub rejected_file : {E : Type 0} (c : model.Course) (name bytes : List ℕ) (r : Result Whole E) → IfOk r (RejectsFile c name)
    → ((s : model.Stock) → rejects c name ≡ file_read c s name bytes) → TellsFile c name bytes r
rejected_file c name bytes (Ok whole) h is = λ s. h s bytes ∙ is s
rejected_file c name bytes (Err e) h is = tt

-- ---- a reply that is no part

pub manifest_ended : (r : ManifestRead) (reply : Reply) → ((total : ℕ) (bytes : List ℕ) → reply ≡ Part total bytes → ⊥) → ended_by reply ≡ model.take (manifest_of r) reply
unfolding model.take manifest_told
manifest_ended r (Part total bytes) other = absurd (other total bytes refl)
manifest_ended r (Refused refusal) other = refl
manifest_ended r reply other = refl

pub file_ended : (r : FileRead) (reply : Reply) → ((total : ℕ) (bytes : List ℕ) → reply ≡ Part total bytes → ⊥) → ended_by reply ≡ model.take (file_of r) reply
unfolding model.take file_told
file_ended r (Part total bytes) other = absurd (other total bytes refl)
file_ended r (Refused refusal) other = refl
file_ended r reply other = refl

-- ---- a part was read

pub manifest_taken : (r after : ManifestRead) (more : List ℕ) (total : ℕ) (listing : Option Listing) → after.course ≡ r.course → TellsManifestPart r after more total listing
    → behind_manifest_part (shown_course after.course) after.bytes.items listing ≡ model.take (manifest_of r) (Part total more)
unfolding model.take manifest_told
manifest_taken r after more total listing course told = ap (λ (x : Course). behind_manifest_part (shown_course x) after.bytes.items listing) course ∙ told

pub manifest_same : (r after : ManifestRead) → after.course ≡ r.course → after.bytes.items ≡ r.bytes.items → asks (manifest_of after) ≡ asks (manifest_of r)
manifest_same r after course bytes =
    ap (λ (x : Course). asks (model.reading_manifest (shown_course x) after.bytes.items)) course ∙ ap (λ b. asks (model.reading_manifest (shown_course r.course) b)) bytes

module _ (r after : FileRead) (course : after.course ≡ r.course) (stock : after.stock ≡ r.stock) (name : after.name ≡ r.name) where
  pub file_taken : (more : List ℕ) (total : ℕ) (whole : Option Whole) → TellsPart r after more total whole
      → behind_part (shown_course after.course) (shown_stock after.stock) after.name after.bytes.items whole ≡ model.take (file_of r) (Part total more)
  unfolding model.take file_told
  file_taken more total whole told =
      ap (λ (x : Course). behind_part (shown_course x) (shown_stock after.stock) after.name after.bytes.items whole) course
      ∙ ap (λ (x : Stock). behind_part (shown_course r.course) (shown_stock x) after.name after.bytes.items whole) stock
      ∙ ap (λ n. behind_part (shown_course r.course) (shown_stock r.stock) n after.bytes.items whole) name ∙ told

  pub file_same : after.bytes.items ≡ r.bytes.items → asks (file_of after) ≡ asks (file_of r)
  file_same bytes =
      ap (λ (x : Course). asks (model.reading_file (shown_course x) (shown_stock after.stock) after.name after.bytes.items)) course
      ∙ ap (λ (x : Stock). asks (model.reading_file (shown_course r.course) (shown_stock x) after.name after.bytes.items)) stock
      ∙ ap (λ n. asks (model.reading_file (shown_course r.course) (shown_stock r.stock) n after.bytes.items)) name
      ∙ ap (λ b. asks (model.reading_file (shown_course r.course) (shown_stock r.stock) r.name b)) bytes

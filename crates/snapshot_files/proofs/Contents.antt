-- What is read of a snapshot's file is what the file holds.
use Rattle.std.proofs.Common.{◌≡◌, ℕ, ◌+◌, Bool, true, false, map, length, List, [], ◌∷◌, ◌++◌, if◌then◌else◌, Option, Some, None, Result, Ok, Err, IsTrue, refl, sym, ap, ap₂, ◌∙◌}
use Rattle.std.specs.FinMap.{get, entries, get-entries}
use Rattle.std.specs.List.{All, flat_map}
use Rattle.std.specs.Str.{bytes_eq}
use Rattle.std.proofs.lemmas.List.Elements.{All-nil, All-cons, All-head, All-tail}
use Rattle.std.proofs.lemmas.Slice.Eq.{bytes_eq-Decides}
use Rattle.sha2.specs.Sha256.{sha256}
use Rattle.store_types.specs.declared.refusal.BadBlob.{BadBlob}
use Rattle.store_types.specs.FileNames.{is_fixed_name, is_dynamic_name, is_blob_name}
use Rattle.blob_codec.specs.Blob.{blob as blob_of, data_of}
use Rattle.blob_codec.proofs.RoundTrips.{data_of-blob}
use Rattle.fixed_index.proofs.Spelling.{fixed_of-fixed_text}
use Rattle.dynamic_index.proofs.Spelling.{dynamic_of-dynamic_text}
use Rattle.store_files.specs.declared.causes.IndexFault.{IndexFault}
use Rattle.store_files.specs.FixedIndex.{FixedIndex, fixed_of}
use Rattle.store_files.specs.DynamicIndex.{DynamicIndex, Ended, dynamic_of}
use Rattle.store_files.specs.Archive.{Layout, dynamic, fixed, Archive, Content, archive, blob, ends_from, fixed_of_archive, dynamic_of_archive, text_by, archive_text, file_text, pieces_of}
use Rattle.store_files.specs.Folder.{Files, IsPiece, chunk_name}
use Rattle.store_model.specs.Load.{Entries, bytes_at, piece_in, empty_archive, fixed_archive, dynamic_archive, content_in}
use Rattle.store_model.specs.Stands.{FitsLayout, FitsContent, names_content}
use Rattle.snapshot_files.proofs.Archives.{dynamic_no_fixed, blob_no_fixed, blob_no_dynamic}

pub bytes_there : (m : Files) (q v : List ℕ) → get m q ≡ Some v → bytes_at (entries m) q ≡ Some v
bytes_there m q v e = sym (get-entries m q) ∙ e

-- ---- pieces

-- its blob is there
abbrev pub IsThere : Files → List ℕ → Type 0
IsThere m p = get m (chunk_name (sha256 p)) ≡ Some (blob_of p)

abbrev piece_by : List ℕ → Result (List ℕ) BadBlob → List ℕ
piece_by digest r = elim r [ Ok p ↦ if bytes_eq (sha256 p) digest then p else [] | Err cause ↦ [] ]

abbrev piece_from : List ℕ → Option (List ℕ) → List ℕ
piece_from digest o = elim o [ None ↦ [] | Some bytes ↦ piece_by digest (data_of bytes) ]

piece_read : (m : Files) (p : List ℕ) → IsPiece p → IsThere m p → piece_in (entries m) (sha256 p) ≡ p
unfolding piece_in
piece_read m p is there =
    ap (piece_from (sha256 p)) (bytes_there m (chunk_name (sha256 p)) (blob_of p) there)
    ∙ ap (piece_by (sha256 p)) (data_of-blob p is.2 is.1)
    ∙ ap (λ (b : Bool). if b then p else []) ((bytes_eq-Decides (sha256 p) (sha256 p)).1 refl)

module _ (m : Files) where
  -- by the digests of a fixed index
  digests_read : (ps : List (List ℕ)) → All IsPiece ps → All (IsThere m) ps → map (piece_in (entries m)) (map sha256 ps) ≡ ps
  digests_read [] are there = refl
  digests_read (p ∷ ps) are there =
      ap₂ (λ (q : List ℕ) (qs : List (List ℕ)). q ∷ qs) (piece_read m p (All-head IsPiece p ps are) (All-head (IsThere m) p ps there))
      (digests_read ps (All-tail IsPiece p ps are) (All-tail (IsThere m) p ps there))

  -- by the entries of a dynamic one
  ends_read : (start : ℕ) (ps : List (List ℕ)) → All IsPiece ps → All (IsThere m) ps → map (λ (e : Ended). piece_in (entries m) e.digest) (ends_from start ps) ≡ ps
  ends_read start [] are there = refl
  ends_read start (p ∷ ps) are there =
      ap₂ (λ (q : List ℕ) (qs : List (List ℕ)). q ∷ qs) (piece_read m p (All-head IsPiece p ps are) (All-head (IsThere m) p ps there))
      (ends_read (start + length p) ps (All-tail IsPiece p ps are) (All-tail (IsThere m) p ps there))

-- ---- one file

abbrev fixed_by : Entries → Result FixedIndex IndexFault → Content
fixed_by m r = elim r [ Ok x ↦ archive (fixed_archive m x) | Err cause ↦ archive (empty_archive (fixed 0 4096)) ]

abbrev dynamic_by : Entries → Result DynamicIndex IndexFault → Content
dynamic_by m r = elim r [ Ok x ↦ archive (dynamic_archive m x) | Err cause ↦ archive (empty_archive dynamic) ]

abbrev blob_by : Result (List ℕ) BadBlob → Content
blob_by r = elim r [ Ok contents ↦ blob contents | Err cause ↦ blob [] ]

-- by the kind of its name
abbrev content_by : Entries → List ℕ → Bool → Bool → Content
content_by m bytes is_fixed is_dynamic =
    if is_fixed then fixed_by m (fixed_of bytes)
    else (if is_dynamic then dynamic_by m (dynamic_of bytes)
    else blob_by (data_of bytes))

abbrev with_pieces : Archive → Layout → List (List ℕ) → Archive
with_pieces a layout pieces = record { layout = layout; uuid = a.uuid; ctime = a.ctime; reserved = a.reserved; pieces = pieces }

same_archive : (a : Archive) (layout : Layout) (pieces : List (List ℕ)) → a.layout ≡ layout → pieces ≡ a.pieces → with_pieces a layout pieces ≡ a
same_archive a layout pieces is same = ap₂ (λ (l : Layout) (ps : List (List ℕ)). with_pieces a l ps) (sym is) same

archive_by : (m : Files) (name : List ℕ) (a : Archive) (layout : Layout) → a.layout ≡ layout
    → IsTrue (elim layout [ dynamic ↦ is_dynamic_name name | fixed size chunk_size ↦ is_fixed_name name ])
    → FitsLayout layout a → All IsPiece a.pieces → All (IsThere m) a.pieces → content_in (entries m) name (text_by layout a) ≡ archive a
unfolding content_in
archive_by m name a dynamic is named fits are there =
    ap (λ (b : Bool). content_by (entries m) (text_by dynamic a) b (is_dynamic_name name)) (dynamic_no_fixed name named)
    ∙ ap (λ (b : Bool). content_by (entries m) (text_by dynamic a) false b) named
    ∙ ap (dynamic_by (entries m)) (dynamic_of-dynamic_text (dynamic_of_archive a) fits)
    ∙ ap (λ (x : Archive). archive x) (same_archive a dynamic (map (λ (e : Ended). piece_in (entries m) e.digest) (ends_from 0 a.pieces)) is (ends_read m 0 a.pieces are there))
archive_by m name a (fixed size cut) is named fits are there =
    ap (λ (b : Bool). content_by (entries m) (text_by (fixed size cut) a) b (is_dynamic_name name)) named
    ∙ ap (fixed_by (entries m)) (fixed_of-fixed_text (fixed_of_archive a size cut) fits.0)
    ∙ ap (λ (x : Archive). archive x) (same_archive a (fixed size cut) (map (piece_in (entries m)) (map sha256 a.pieces)) is (digests_read m a.pieces are there))

blob_read : (m : Files) (name bytes : List ℕ) → is_blob_name name ≡ true → FitsContent (blob bytes) → content_in (entries m) name (blob_of bytes) ≡ blob bytes
unfolding content_in
blob_read m name bytes named fits =
    ap (λ (b : Bool). content_by (entries m) (blob_of bytes) b (is_dynamic_name name)) (blob_no_fixed name named)
    ∙ ap (λ (b : Bool). content_by (entries m) (blob_of bytes) false b) (blob_no_dynamic name named)
    ∙ ap blob_by (data_of-blob bytes fits.1 fits.0)

pub content_read : (m : Files) (name : List ℕ) (c : Content) → IsTrue (names_content c name) → FitsContent c → All (IsThere m) (pieces_of c) → content_in (entries m) name (file_text c) ≡ c
unfolding file_text archive_text
content_read m name (archive a) named fits there = archive_by m name a a.layout refl named fits.0 fits.1 there
content_read m name (blob bytes) named fits there = blob_read m name bytes named fits

-- ---- the pieces of each file

front : {A : Type 0} (P : A → Type 0) (xs ys : List A) → All P (xs ++ ys) → All P xs
front P [] ys all = All-nil P
front P (x ∷ xs) ys all = All-cons P x xs (All-head P x (xs ++ ys) all) (front P xs ys (All-tail P x (xs ++ ys) all))

back : {A : Type 0} (P : A → Type 0) (xs ys : List A) → All P (xs ++ ys) → All P ys
back P [] ys all = all
back P (x ∷ xs) ys all = back P xs ys (All-tail P x (xs ++ ys) all)

pub all_inside : {A B : Type 0} (P : B → Type 0) (f : A → List B) (xs : List A) → All P (flat_map f xs) → All (λ x. All P (f x)) xs
all_inside P f [] all = All-nil (λ x. All P (f x))
all_inside P f (x ∷ xs) all = All-cons (λ y. All P (f y)) x xs (front P (f x) (flat_map f xs) all) (all_inside P f xs (back P (f x) (flat_map f xs) all))

-- No file of a snapshot is longer than one of its kind may be.
use Rattle.std.proofs.Common.{◌≡◌, ℕ, ◌≤◌, Bool, true, false, List, length, Some, None, Ok, Err, Result, refl, sym, subst, arith, if◌then◌else◌, IsTrue}
use Rattle.store_types.specs.FileNames.{is_fixed_name, is_dynamic_name}
use Rattle.blob_codec.specs.Blob.{blob_limit}
use Rattle.blob_codec.specs.Blob as blobs
use Rattle.store_files.specs.declared.causes.IndexFault.{IndexFault}
use Rattle.store_files.specs.FixedIndex.{FixedIndex, fixed_of}
use Rattle.store_files.specs.DynamicIndex.{DynamicIndex, dynamic_of}
use Rattle.store_files.specs.Archive.{Content, archive, blob, file_text}
use Rattle.fixed_index.proofs.Reading.{fixed_of-ok}
use Rattle.dynamic_index.proofs.Reading.{dynamic_of-ok}
use Rattle.store_model.specs.SizeLimits.{fixed_limit, dynamic_limit, size_limit}
use Rattle.store_model.specs.Stands.{FitsContent, names_content}
use Rattle.store_history.specs.Pulling.{Index, fixed_as, dynamic_as, index_in, is_index}
use Rattle.store_history.proofs.Indexes.{archive_read, blob_apart}

-- ---- what is an index

fixed_short : (bytes : List ℕ) (x : FixedIndex) → fixed_of bytes ≡ Ok x → length bytes ≤ fixed_limit
fixed_short bytes x is = let all = (fixed_of-ok bytes x is).1 in omega (arith, all.long, all.whole, all.limit)

dynamic_short : (bytes : List ℕ) (x : DynamicIndex) → dynamic_of bytes ≡ Ok x → length bytes ≤ dynamic_limit
dynamic_short bytes x is = let all = (dynamic_of-ok bytes x is).1 in omega (arith, all.long, all.whole, all.limit)

-- by its name
index_short : (name bytes : List ℕ) (i : Index) → is_index name ≡ true → index_in name bytes ≡ Some i → length bytes ≤ size_limit name
unfolding index_in
index_short name bytes i named is = by_name (is_fixed_name name) (is_dynamic_name name) named is
  where
    fixed_read : (r : Result FixedIndex IndexFault) → fixed_of bytes ≡ r → elim r [ Ok x ↦ Some (fixed_as name x) | Err cause ↦ None ] ≡ Some i → length bytes ≤ fixed_limit
    fixed_read (Ok x) reads is = fixed_short bytes x reads
    fixed_read (Err cause) reads is = absurd (let h : None ≡ Some i = is in cc)

    dynamic_read : (r : Result DynamicIndex IndexFault) → dynamic_of bytes ≡ r → elim r [ Ok x ↦ Some (dynamic_as name x) | Err cause ↦ None ] ≡ Some i → length bytes ≤ dynamic_limit
    dynamic_read (Ok x) reads is = dynamic_short bytes x reads
    dynamic_read (Err cause) reads is = absurd (let h : None ≡ Some i = is in cc)

    by_name : (f d : Bool) → (if f then true else d) ≡ true
        → (if f then elim (fixed_of bytes) [ Ok x ↦ Some (fixed_as name x) | Err cause ↦ None ] else elim (dynamic_of bytes) [ Ok x ↦ Some (dynamic_as name x) | Err cause ↦ None ]) ≡ Some i
        → length bytes ≤ (if f then fixed_limit else if d then dynamic_limit else blob_limit)
    by_name true d named is = fixed_read (fixed_of bytes) refl is
    by_name false true named is = dynamic_read (dynamic_of bytes) refl is
    by_name false false named is = absurd (let h : false ≡ true = named in cc)

-- ---- a file of a snapshot

other_limit : (name : List ℕ) → is_index name ≡ false → size_limit name ≡ blob_limit
other_limit name other = by_name (is_fixed_name name) (is_dynamic_name name) other
  where
    by_name : (f d : Bool) → (if f then true else d) ≡ false → (if f then fixed_limit else if d then dynamic_limit else blob_limit) ≡ blob_limit
    by_name true d other = absurd (let h : true ≡ false = other in cc)
    by_name false true other = absurd (let h : true ≡ false = other in cc)
    by_name false false other = refl

pub blob_short : (contents : List ℕ) → blobs.FitsBlob contents → length (blobs.blob contents) ≤ blob_limit
unfolding blobs.blob
blob_short contents fits = omega (arith, fits)

pub file_short : (name : List ℕ) (content : Content) → IsTrue (names_content content name) → FitsContent content → length (file_text content) ≤ size_limit name
unfolding file_text
file_short name (archive a) named fits = let is = archive_read name a named fits in index_short name (file_text (archive a)) is.0 is.1 is.2
file_short name (blob contents) named fits = subst (λ n. length (blobs.blob contents) ≤ n) (sym (other_limit name (blob_apart name named))) (blob_short contents fits.0)

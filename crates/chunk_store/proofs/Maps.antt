-- What is put and removed, of the map from digests to pieces.
use Rattle.std.proofs.Common.{◌≡◌, ◌≢◌, inl, inr, ℕ, List, Bool, true, false, cond, if◌then◌else◌, Option, Some, None, Ok, is_some, refl, sym, ap, subst, ◌∙◌}
use Rattle.std.specs.Result.{result_ok}
use Rattle.std.specs.Str.{bytes_eq}
use Rattle.std.specs.FinMap.{get}
use Rattle.std.proofs.lemmas.Slice.Eq.{bytes_eq-Decides}
use Rattle.sha2.specs.Sha256.{sha256}
use Rattle.disk_trait.specs.Files.{Files, placed}
use Rattle.disk_trait.specs.Laws.{by_name, other_name, get_placed, placed_same, placed_other}
use Rattle.file_install.specs.Install.{temporary, installed}
use Rattle.file_install.proofs.InstallLaws.{installed_name, installed_other}
use Rattle.blob_codec.specs.Blob.{blob}
use Rattle.blob_codec.specs.Laws.{AreBytes}
use Rattle.store_types.specs.declared.names.SnapshotKey.{SnapshotKey}
use Rattle.store_files.specs.Folder.{IsPiece, IsDigest, HasWholeChunks, chunk_name, file_path}
use Rattle.chunk_store.specs.Pieces.{IsChunk, IsFree, IsHeld, AddsPiece, TakesPiece, found_in, piece_at, with_chunk}
use Rattle.chunk_store.proofs.Names.{same_digest, chunk_not_temporary, file_not_chunk, file_not_staged}
use Rattle.chunk_store.proofs.Blobs.{piece_in_blob, same_data, data_are_bytes}

-- where the same stands under a digest, the same piece does
pub same_piece : (m n : Files) (d : List ℕ) → get n (chunk_name d) ≡ get m (chunk_name d) → piece_at n d ≡ piece_at m d
unfolding piece_at
same_piece m n d e = ap (λ o. result_ok (found_in d o)) e

pub piece_there : (files : Files) (d bytes p : List ℕ) → get files (chunk_name d) ≡ Some bytes → found_in d (Some bytes) ≡ Ok p → piece_at files d ≡ Some p
unfolding piece_at
piece_there files d bytes p e is = ap (λ o. result_ok (found_in d o)) e ∙ ap result_ok is

pub no_piece : (files : Files) (d : List ℕ) → get files (chunk_name d) ≡ None → piece_at files d ≡ None
unfolding piece_at
no_piece files d e = ap (λ o. result_ok (found_in d o)) e

-- ---- what is put

module _ (files : Files) (digest bytes : List ℕ) where
  pub with_absent : get files (chunk_name digest) ≡ None → with_chunk digest bytes files ≡ installed files (chunk_name digest) bytes
  with_absent e = ap (λ o. if is_some o then files else installed files (chunk_name digest) bytes) e

  pub with_present : (there : List ℕ) → get files (chunk_name digest) ≡ Some there → with_chunk digest bytes files ≡ files
  with_present there e = ap (λ o. if is_some o then files else installed files (chunk_name digest) bytes) e

  -- all other names stay
  pub with_other : (q : List ℕ) → q ≢ chunk_name digest → q ≢ temporary (chunk_name digest) → get (with_chunk digest bytes files) q ≡ get files q
  with_other q ne not_temporary = by_case (get files (chunk_name digest)) refl
    where
      by_case : (o : Option (List ℕ)) → get files (chunk_name digest) ≡ o → get (with_chunk digest bytes files) q ≡ get files q
      by_case None e = ap (λ m. get m q) (with_absent e) ∙ installed_other files (chunk_name digest) bytes q ne not_temporary
      by_case (Some there) e = ap (λ m. get m q) (with_present there e)

  -- so do the other chunks
  pub with_other_chunk : (d : List ℕ) → chunk_name d ≢ chunk_name digest → get (with_chunk digest bytes files) (chunk_name d) ≡ get files (chunk_name d)
  with_other_chunk d ne = with_other (chunk_name d) ne (chunk_not_temporary d digest)

  -- a chunk that is there stays
  pub with_kept : (d there : List ℕ) → get files (chunk_name d) ≡ Some there → get (with_chunk digest bytes files) (chunk_name d) ≡ Some there
  with_kept d there at = by_case (get files (chunk_name digest)) refl
    where
      no_some : None ≡ Some there → ⊥
      no_some e = cc

      by_case : (o : Option (List ℕ)) → get files (chunk_name digest) ≡ o → get (with_chunk digest bytes files) (chunk_name d) ≡ Some there
      by_case None e = with_other_chunk d (λ same. no_some (sym e ∙ ap (get files) (sym same) ∙ at)) ∙ at
      by_case (Some found) e = ap (λ m. get m (chunk_name d)) (with_present found e) ∙ at

  -- the files of snapshots stay
  pub with_file : (key : SnapshotKey) (name : List ℕ) → get (with_chunk digest bytes files) (file_path key name) ≡ get files (file_path key name)
  with_file key name = with_other (file_path key name) (file_not_chunk key name digest) (file_not_staged key name digest)

-- the same of each digest but one, and this of that one
by_digest : (digest : List ℕ) (at : List ℕ → Option (List ℕ)) (value : Option (List ℕ)) (d : List ℕ) → (d ≡ digest → at d ≡ value) → (other : Option (List ℕ)) → (d ≢ digest → at d ≡ other) → at d ≡ (if bytes_eq d digest then value else other)
by_digest digest at value d here other there =
    by_name d digest (at d ≡ (if bytes_eq d digest then value else other))
    (λ e. here e ∙ ap (λ t. if t then value else other) (sym ((bytes_eq-Decides d digest).1 e)))
    (λ ne. there ne ∙ ap (λ t. if t then value else other) (sym (other_name d digest ne)))

not_none : (p : List ℕ) → None ≡ Some p → ⊥
not_none p e = cc

module _ (files : Files) (digest : List ℕ) (is : IsDigest digest) where
  apart : (d : List ℕ) → IsDigest d → d ≢ digest → chunk_name d ≢ chunk_name digest
  apart d other ne e = ne (same_digest d digest other is e)

  pub adds : (bytes p : List ℕ) → bytes ≡ blob p → AreBytes p → IsPiece p → sha256 p ≡ digest → IsFree digest p files → AddsPiece digest p files (with_chunk digest bytes files)
  adds bytes p text are piece named free d other =
      by_digest digest (piece_at (with_chunk digest bytes files)) (Some p) d
      (λ e. subst (λ x. piece_at (with_chunk digest bytes files) x ≡ Some p) (sym e) (here (get files (chunk_name digest)) refl free))
      (piece_at files d) (λ ne. same_piece files (with_chunk digest bytes files) d (with_other_chunk files digest bytes d (apart d other ne)))
    where
      here : (o : Option (List ℕ)) → get files (chunk_name digest) ≡ o → IsFree digest p files → piece_at (with_chunk digest bytes files) digest ≡ Some p
      here None e free =
          piece_there (with_chunk digest bytes files) digest bytes p
          (ap (λ m. get m (chunk_name digest)) (with_absent files digest bytes e) ∙ installed_name files (chunk_name digest) bytes)
          (piece_in_blob digest bytes p text are piece named)
      here (Some there) e (inl none) = absurd (not_none there (sym none ∙ e))
      here (Some there) e (inr had) = ap (λ m. piece_at m digest) (with_present files digest bytes there e) ∙ had

  pub adds_chunk : (bytes p : List ℕ) → IsChunk digest bytes → AreBytes bytes → bytes ≡ blob p → IsFree digest p files → AddsPiece digest p files (with_chunk digest bytes files)
  adds_chunk bytes p chunk are text free =
      let same : chunk.0 ≡ p = same_data chunk.0 p (sym chunk.2 ∙ text) in
      adds bytes p text (data_are_bytes p (subst AreBytes text are)) (subst IsPiece same chunk.1) (subst (λ x. sha256 x ≡ digest) same chunk.3) free

  pub takes : TakesPiece digest files (placed files (chunk_name digest) None)
  takes d other =
      by_digest digest (piece_at (placed files (chunk_name digest) None)) None d
      (λ e. subst (λ x. piece_at (placed files (chunk_name digest) None) x ≡ None) (sym e)
      (no_piece (placed files (chunk_name digest) None) digest (placed_same files (chunk_name digest) None)))
      (piece_at files d) (λ ne. same_piece files (placed files (chunk_name digest) None) d (placed_other files (chunk_name digest) None (chunk_name d) (apart d other ne)))

  pub whole_with : (bytes : List ℕ) → IsChunk digest bytes → HasWholeChunks files → HasWholeChunks (with_chunk digest bytes files)
  whole_with bytes chunk whole d found other there = by_name d digest (IsChunk d found) here (λ ne. whole d found other (sym (with_other_chunk files digest bytes d (apart d other ne)) ∙ there))
    where
      same_bytes : (a b : List ℕ) → Some a ≡ Some b → a ≡ b
      same_bytes a b e = cc

      put_here : (o : Option (List ℕ)) → get files (chunk_name digest) ≡ o → get (with_chunk digest bytes files) (chunk_name digest) ≡ Some found → IsChunk digest found
      put_here None e at =
          subst (IsChunk digest)
          (same_bytes bytes found (sym (ap (λ m. get m (chunk_name digest)) (with_absent files digest bytes e) ∙ installed_name files (chunk_name digest) bytes) ∙ at)) chunk
      put_here (Some was) e at = whole digest found is (sym (ap (λ m. get m (chunk_name digest)) (with_present files digest bytes was e)) ∙ at)

      here : d ≡ digest → IsChunk d found
      here e = subst (λ x. IsChunk x found) (sym e) (put_here (get files (chunk_name digest)) refl (subst (λ x. get (with_chunk digest bytes files) (chunk_name x) ≡ Some found) e there))

-- what is left where something was removed was there
left : (t : Bool) (o : Option (List ℕ)) (bytes : List ℕ) → cond t None o ≡ Some bytes → o ≡ Some bytes
left true o bytes e = cc
left false o bytes e = e

pub whole_without : (files : Files) (name : List ℕ) → HasWholeChunks files → HasWholeChunks (placed files name None)
whole_without files name whole d found is there =
    whole d found is (left (bytes_eq (chunk_name d) name) (get files (chunk_name d)) found (sym (get_placed files name None (chunk_name d)) ∙ there))

-- ---- on a disk with whole chunks, where no two pieces have one digest

pub is_free : (files : Files) (digest p : List ℕ) → HasWholeChunks files → IsDigest digest → ((q : List ℕ) → IsPiece q → sha256 q ≡ digest → q ≡ p) → AreBytes p → IsFree digest p files
is_free files digest p whole is only are = by_case (get files (chunk_name digest)) refl
  where
    by_case : (o : Option (List ℕ)) → get files (chunk_name digest) ≡ o → IsFree digest p files
    by_case None e = inl e
    by_case (Some bytes) e =
        let w = whole digest bytes is e in
        let same = only w.0 w.1 w.3 in
        inr (piece_there files digest bytes p e
        (piece_in_blob digest bytes p (w.2 ∙ ap blob same) are (subst IsPiece same w.1) (subst (λ x. sha256 x ≡ digest) same w.3)))

-- a piece whose blob stands under its digest is found there
pub found_held : (files : Files) (p : List ℕ) → get files (chunk_name (sha256 p)) ≡ Some (blob p) → AreBytes p → IsPiece p → piece_at files (sha256 p) ≡ Some p
found_held files p e are is = piece_there files (sha256 p) (blob p) p e (piece_in_blob (sha256 p) (blob p) p refl are is refl)

-- what stands under a held piece's digest is its blob
pub held_blob : (files : Files) (digest text p : List ℕ) → get files (chunk_name digest) ≡ Some text → IsHeld files p → sha256 p ≡ digest → text ≡ blob p
held_blob files digest text p there held named = texts text (blob p) (sym there ∙ ap (λ d. get files (chunk_name d)) (sym named) ∙ held.0)
  where
    texts : (a b : List ℕ) → Some a ≡ Some b → a ≡ b
    texts a b e = cc

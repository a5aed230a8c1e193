-- The pieces of the archives that a reader downloaded, archive by archive.
use Rattle.std.proofs.Common.{◌≡◌, ℕ, suc, ◌+◌, ◌-◌, ◌<◌, ◌≤◌, Bool, true, false, Ok, Err, List, ◌∷◌, length, get_or, take, drop, drop-cons, add-one, Some, None, refl, sym, ap, ◌∙◌, arith}
use Rattle.std.specs.List.{concat, find, flat_map}
use Rattle.std.specs.Option.{option_or}
use Rattle.std.proofs.lemmas.List.Folds.{find-append}
use Rattle.std.proofs.lemmas.Option.{slice_get_read, slice_get_past}
use Rattle.blob_codec.specs.Blob.{blob, data_limit, blob_limit}
use Rattle.store_types.specs.declared.refusal.Refusal.{Refusal}
use Rattle.store_types.specs.declared.refusal.Refusal.TheVariants.{NotAllowed, BadRange}
use Rattle.store_files.specs.Archive.{File}
use Rattle.store_model.specs.Store.{Reader}
use Rattle.store_model.specs.ReaderSteps.{is_noted, pieces_at, want_range, range_of}
use Rattle.plain_sessions.specs.Reading.{entry_blob}

-- ---- the blob of a piece

pub blob_short : (bytes piece text : List ℕ) → length piece ≤ data_limit → text ≡ blob piece → bytes ≡ text → length bytes ≤ blob_limit
unfolding blob
blob_short bytes piece text few is same = let size = ap length (same ∙ is) in omega (arith, size, few)

-- ---- archive by archive

module _ {A : Type 0} (p : A → Bool) (f : List ℕ → List A) (names : List (List ℕ)) where
  from_there : (i : ℕ) (name : List ℕ) → i < length names → name ≡ get_or names i name
      → find p (flat_map f (drop i names)) ≡ option_or (find p (f name)) (find p (flat_map f (drop (i + 1) names)))
  from_there i name below is =
      ap (λ ns. find p (flat_map f ns)) (drop-cons names i name below ∙ ap (λ n. n ∷ drop (suc i) names) (sym is) ∙ ap (λ k. name ∷ drop k names) (sym (add-one i)))
      ∙ find-append p (f name) (flat_map f (drop (i + 1) names))

  -- the archive has it
  pub found_there : (i : ℕ) (name : List ℕ) (x : A) → i < length names → name ≡ get_or names i name → find p (f name) ≡ Some x → find p (flat_map f (drop i names)) ≡ Some x
  found_there i name x below is h = from_there i name below is ∙ ap (λ o. option_or o (find p (flat_map f (drop (i + 1) names)))) h

  -- or those behind it are asked
  pub asked_on : (i : ℕ) (name : List ℕ) → i < length names → name ≡ get_or names i name → find p (f name) ≡ None → find p (flat_map f (drop i names)) ≡ find p (flat_map f (drop (i + 1) names))
  asked_on i name below is h = from_there i name below is ∙ ap (λ o. option_or o (find p (flat_map f (drop (i + 1) names)))) h

-- ---- ranges

module _ (files : List File) (r : Reader) (name : List ℕ) (offset count : ℕ) where
  pub range_not_noted : is_noted r name ≡ false → range_of files r name offset count ≡ Err NotAllowed
  unfolding range_of
  range_not_noted h = rw h refl

  module _ (noted : is_noted r name ≡ true) where
    pub range_refused : (q : Refusal) → want_range (length (concat (pieces_at files name))) offset count ≡ Err q → range_of files r name offset count ≡ Err q
    unfolding range_of
    range_refused q h = rw (noted, h) refl

    pub range_goes : want_range (length (concat (pieces_at files name))) offset count ≡ Ok tt → range_of files r name offset count ≡ Ok (take count (drop offset (concat (pieces_at files name))))
    unfolding range_of
    range_goes h = rw (noted, h) refl

-- ---- an entry of an index

module _ (pieces : List (List ℕ)) (entry : ℕ) where
  pub entry_beyond : length pieces ≤ entry → entry_blob pieces entry ≡ Err (BadRange (length pieces))
  entry_beyond h = rw (slice_get_past pieces entry h) refl

  pub entry_there : (piece bytes : List ℕ) → entry < length pieces → piece ≡ get_or pieces entry piece → bytes ≡ blob piece → entry_blob pieces entry ≡ Ok bytes
  entry_there piece bytes h is text = rw (slice_get_read pieces (length pieces) entry piece refl h is, text) refl

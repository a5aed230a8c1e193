-- What is read of a chunk's file, and what is told of one that is not read.
use Rattle.std.proofs.Common.{◌≡◌, ◌<◌, ◌≤◌, ◌+◌, ℕ, List, Bool, true, false, length, if◌then◌else◌, option_map, Option, Some, None, Result, Ok, Err, IsOk, IfErr, MatchResult, refl, sym, ap, subst, ◌∙◌, arith, length-drop}
use Rattle.std.specs.Prelude.{nat_lt}
use Rattle.std.specs.FinMap.{get}
use Rattle.std.proofs.lemmas.Bool.{ltb-true, lt-ltb, le-ltb}
use Rattle.sha2.specs.Sha256.{sha256}
use Rattle.disk_trait.specs.Files.{Files}
use Rattle.blob_codec.specs.Blob.{blob, data_of, blob_limit}
use Rattle.blob_codec.proofs.Reading.{HasParts-from_data_of}
use Rattle.store_types.specs.declared.names.Digest32.{Digest32}
use Rattle.store_types.specs.declared.refusal.BadBlob.{BadBlob}
use Rattle.store_types.specs.declared.refusal.ChunkFault.{ChunkFault}
use Rattle.store_types.specs.declared.refusal.ChunkFault.TheVariants.{Nothing, NotABlob}
use Rattle.store_files.specs.Folder.{chunk_name}
use Rattle.chunk_store.specs.Faults.{IsDamageAsked, IsNotDamaged, bytes_in}
use Rattle.chunk_store.specs.Pieces.{IsHeld, by_data, found_at, found_in, piece_in}
use Rattle.chunk_store.specs.declared.chunk.LoadFault.{LoadFault}
use Rattle.chunk_store.specs.declared.chunk.LoadFault.TheVariants.{Damaged, Failed, NoMemory}
use Rattle.chunk_store.proofs.Blobs.{data_is}

blob_length : (p : List ℕ) → length (blob p) ≡ 12 + length p
unfolding blob
blob_length p = omega arith

-- a file that is too long holds no blob
too_long : (digest bytes : List ℕ) → nat_lt blob_limit (length bytes) ≡ true → piece_in digest bytes ≡ Err NotABlob
too_long digest bytes long = by_case (data_of bytes) refl
  where
    by_case : (r : Result (List ℕ) BadBlob) → data_of bytes ≡ r → piece_in digest bytes ≡ Err NotABlob
    by_case (Ok p) is =
        let fits = (HasParts-from_data_of bytes p is).fits in
        let rest = ap length (data_is bytes p is) in
        absurd (omega (arith, fits, rest, length-drop 12 bytes, ltb-true blob_limit (length bytes) long))
    by_case (Err cause) is = ap (by_data digest) is

-- what is read stands there
pub bytes_there : (o : Option (List ℕ)) (bytes : List ℕ) → bytes_in o ≡ Ok bytes → o ≡ Some bytes
unfolding bytes_in
bytes_there None bytes is = cc
bytes_there (Some text) bytes is = by_case (nat_lt blob_limit (length text)) is
  where
    by_case : (t : Bool) → (if t then Err NotABlob else Ok text) ≡ Ok bytes → Some text ≡ Some bytes
    by_case true is = cc
    by_case false is = cc

-- what is not read holds no piece, for this cause
pub fault_there : (digest : List ℕ) (o : Option (List ℕ)) (fault : ChunkFault) → bytes_in o ≡ Err fault → found_in digest o ≡ Err fault
unfolding bytes_in
fault_there digest None fault is = cc
fault_there digest (Some text) fault is = by_case (nat_lt blob_limit (length text)) refl is
  where
    by_case : (t : Bool) → nat_lt blob_limit (length text) ≡ t → (if t then Err NotABlob else Ok text) ≡ Err fault → piece_in digest text ≡ Err fault
    by_case true e is = too_long digest text e ∙ is
    by_case false e is = cc

-- by the size that is told
pub bytes_none : (o : Option (List ℕ)) → None ≡ option_map (λ t. length t) o → bytes_in o ≡ Err Nothing
unfolding bytes_in
bytes_none None is = refl
bytes_none (Some text) is = cc

pub bytes_long : (o : Option (List ℕ)) (size : ℕ) → Some size ≡ option_map (λ t. length t) o → blob_limit < size → bytes_in o ≡ Err NotABlob
unfolding bytes_in
bytes_long None size is long = cc
bytes_long (Some text) size is long =
    let same : size ≡ length text = cc in
    ap (λ t. if t then Err NotABlob else Ok text) (lt-ltb blob_limit (length text) (omega (arith, same, long)))

pub bytes_read : (o : Option (List ℕ)) (text : List ℕ) → o ≡ Some text → length text ≤ blob_limit → bytes_in o ≡ Ok text
unfolding bytes_in
bytes_read o text is fits =
    ap bytes_in is ∙ ap (λ t. if t then Err NotABlob else Ok text) (le-ltb blob_limit (length text) fits)

pub bytes_fit : (o : Option (List ℕ)) (size : ℕ) → Some size ≡ option_map (λ t. length t) o → size ≤ blob_limit → IsOk (bytes_in o)
unfolding bytes_in
bytes_fit None size is fits = cc
bytes_fit (Some text) size is fits =
    let same : size ≡ length text = cc in
    subst IsOk (sym (ap (λ t. if t then Err NotABlob else Ok text) (le-ltb blob_limit (length text) (omega (arith, same, fits))))) refl

-- ---- a file that is not read

module _ (files : Files) (digest : Digest32) where
  abbrev NotRead : LoadFault → Type 0
  NotRead e = (asked : Digest32) (found : ChunkFault) → e ≡ Damaged asked found → bytes_in (get files (chunk_name digest.0)) ≡ Err found

  -- what is told of it is what stands there
  pub tells_fault : {A : Type 0} (e : LoadFault) (result : Result A LoadFault) → result ≡ Err e → IsDamageAsked digest e → NotRead e
      → IfErr result (λ fault. (asked : Digest32) (found : ChunkFault) → fault ≡ Damaged asked found → (asked ≡ digest) × (found_at files digest.0 ≡ Err found))
  tells_fault e (Ok x) is asks tells = tt
  tells_fault e (Err fault) is asks tells = λ asked found named.
      let same : e ≡ Damaged asked found = cc in
      (asks asked found same, fault_there digest.0 (get files (chunk_name digest.0)) found (tells asked found same))

  -- and it is no held piece's
  pub held_fault : (p : List ℕ) (e : LoadFault) (result : Result (List ℕ) LoadFault) → result ≡ Err e → IsHeld files p → sha256 p ≡ digest.0 → NotRead e
      → MatchResult result (λ chunk. chunk ≡ p) IsNotDamaged
  held_fault p e (Ok x) is held named tells = cc
  held_fault p e (Err (Damaged asked found)) is held named tells =
      let there : get files (chunk_name digest.0) ≡ Some (blob p) = ap (λ x. get files (chunk_name x)) (sym named) ∙ held.0 in
      let fits : length (blob p) ≤ blob_limit = omega (arith, blob_length p, held.1.1) in
      absurd (not_both (sym (bytes_read (get files (chunk_name digest.0)) (blob p) there fits) ∙ tells asked found cc))
    where
      not_both : {A E : Type 0} {x : A} {e : E} → ◌≡◌ {A = Result A E} (Ok x) (Err e) → ⊥
      not_both e = cc
  held_fault p e (Err Failed) is held named tells = tt
  held_fault p e (Err NoMemory) is held named tells = tt

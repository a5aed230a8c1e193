-- The last letter of a temporary name is that of no other file's.
use Rattle.std.proofs.Common.{◌≡◌, ◌≢◌, ◌<◌, ◌-◌, ℕ, true, List, [], ◌∷◌, ◌++◌, length, take, drop, append_assoc, refl, sym, ap, ◌∙◌, arith}
use Rattle.std.specs.Prelude.{codes, nat_eq}
use Rattle.std.specs.Cmp.Lexicographic.{same_text}
use Rattle.std.proofs.lemmas.List.{take-append-drop}
use Rattle.std.specs.List.{ends_with}
use Rattle.std.proofs.lemmas.Bool.{and_parts}
use Rattle.std.proofs.lemmas.List.Elements.{All-cons, All-head, All-tail}
use Rattle.hex.specs.Hex.{encode_lower}
use Rattle.file_install.specs.Install.{temporary}
use Rattle.chunk_store.proofs.Names.{AreSmall, digits_small}
use Rattle.store_types.specs.declared.names.SnapshotKey.{SnapshotKey}
use Rattle.store_types.specs.FileNames.{is_id, is_fixed_name, is_dynamic_name, has_ending, fixed_ending, dynamic_ending, blob_ending, manifest_name}
use Rattle.store_types.specs.Names.{key_text}
use Rattle.store_files.specs.Archive.{Layout, dynamic, fixed, Content, archive, blob}
use Rattle.store_files.specs.Folder.{file_path, manifest_path, chunk_name}
use Rattle.store_model.specs.Stands.{names_content}
use Rattle.snapshot_files.proofs.Slashes.{path_is}

abbrev pub last : List ℕ → ℕ
last [] = 0
last (x ∷ []) = x
last (x ∷ y ∷ xs) = last (y ∷ xs)

pub last_behind : (xs : List ℕ) (y : ℕ) (ys : List ℕ) → last (xs ++ y ∷ ys) ≡ last (y ∷ ys)
last_behind [] y ys = refl
last_behind (x ∷ []) y ys = refl
last_behind (x ∷ z ∷ xs) y ys = last_behind (z ∷ xs) y ys

pub last_temporary : (name : List ℕ) → last (temporary name) ≡ 112
last_temporary name = last_behind name 46 (codes "tmp")

-- ---- a chunk's name

last_small : (xs : List ℕ) → AreSmall xs → last xs < 103
last_small [] are = omega arith
last_small (x ∷ []) are = All-head (λ b. b < 103) x [] are
last_small (x ∷ y ∷ xs) are = last_small (y ∷ xs) (All-tail (λ b. b < 103) x (y ∷ xs) are)

last_chunk : (digest : List ℕ) → last (chunk_name digest) < 103
last_chunk digest =
    let digits = encode_lower digest in
    let front : List ℕ = codes ".chunks/" ++ take 4 digits in
    let small = last_small (47 ∷ digits) (All-cons (λ b. b < 103) 47 digits (omega arith) (digits_small digest)) in
    let is : last (chunk_name digest) ≡ last (47 ∷ digits) = ap last (append_assoc front (codes "/") digits) ∙ last_behind front 47 digits in
    omega (arith, small, is)

pub chunk_not_temporary : (digest name : List ℕ) → chunk_name digest ≢ temporary name
chunk_not_temporary digest name e =
    let is : last (chunk_name digest) ≡ 112 = ap last e ∙ last_temporary name in
    let small = last_chunk digest in
    omega (arith, is, small)

-- ---- a snapshot's file

ends_so : (name ending : List ℕ) → ends_with nat_eq name ending ≡ true → name ≡ take (length name - length ending) name ++ ending
ends_so name ending e =
    let at : ℕ = length name - length ending in
    let same : ending ≡ drop at name = same_text ending (drop at name) (sym e) in
    sym (take-append-drop at name) ∙ ap (λ (l : List ℕ). take at name ++ l) (sym same)

last_path : (key : SnapshotKey) (front : List ℕ) (x : ℕ) (rest : List ℕ) → last (file_path key (front ++ x ∷ rest)) ≡ last (x ∷ rest)
last_path key front x rest =
    ap last (path_is key (front ++ x ∷ rest) ∙ sym (append_assoc (key_text key) (47 ∷ front) (x ∷ rest))) ∙ last_behind (key_text key ++ 47 ∷ front) x rest

with_ending : (key : SnapshotKey) (name : List ℕ) (x : ℕ) (rest other : List ℕ) → has_ending (x ∷ rest) name ≡ true → (last (x ∷ rest) ≡ 112 → ⊥) → file_path key name ≢ temporary other
with_ending key name x rest other has apart e =
    let front : List ℕ = take (length name - length (x ∷ rest)) name in
    let is : name ≡ front ++ x ∷ rest = ends_so name (x ∷ rest) (and_parts (ends_with nat_eq name (x ∷ rest)) _ has).0 in
    apart (sym (last_path key front x rest) ∙ sym (ap (λ (n : List ℕ). last (file_path key n)) is) ∙ ap last e ∙ last_temporary other)

pub manifest_not_temporary : (key : SnapshotKey) (other : List ℕ) → manifest_path key ≢ temporary other
manifest_not_temporary key other = with_ending key manifest_name 46 (codes "blob") other refl (λ e. omega (arith, e))

by_layout : (layout : Layout) (key : SnapshotKey) (name other : List ℕ) → elim layout [ dynamic ↦ is_dynamic_name name | fixed size chunk_size ↦ is_fixed_name name ] ≡ true → file_path key name ≢ temporary other
by_layout dynamic key name other h = with_ending key name 46 (codes "didx") other (and_parts (is_id name) (has_ending dynamic_ending name) h).1 (λ e. omega (arith, e))
by_layout (fixed size chunk_size) key name other h = with_ending key name 46 (codes "fidx") other (and_parts (is_id name) (has_ending fixed_ending name) h).1 (λ e. omega (arith, e))

-- no file of a snapshot has a temporary name
pub stored_not_temporary : (c : Content) (key : SnapshotKey) (name other : List ℕ) → names_content c name ≡ true → file_path key name ≢ temporary other
stored_not_temporary (blob bytes) key name other h = with_ending key name 46 (codes "blob") other (and_parts (is_id name) (has_ending blob_ending name) h).1 (λ e. omega (arith, e))
stored_not_temporary (archive a) key name other h = by_layout a.layout key name other h

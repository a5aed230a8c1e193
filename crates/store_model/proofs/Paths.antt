-- Names of different files differ.
use Rattle.std.proofs.Common.{◌≡◌, ◌≢◌, ℕ, true, get_or, append_assoc, List, [], ◌∷◌, ◌++◌, refl, sym, ap, ◌∙◌, arith}
use Rattle.std.proofs.lemmas.Bool.{and_parts}
use Rattle.store_types.specs.declared.names.Kind.{Kind}
use Rattle.store_types.specs.declared.names.Kind.TheVariants.{Ct, Host, Vm}
use Rattle.store_types.specs.declared.names.SnapshotKey.{SnapshotKey}
use Rattle.store_types.specs.FileNames.{is_id, is_fixed_name, is_dynamic_name, is_blob_name, has_ending, fixed_ending, dynamic_ending, blob_ending, manifest_name}
use Rattle.store_types.specs.Times.{time_text}
use Rattle.store_types.specs.Names.{IsKey, kind_text, group_text, key_text, parts}
use Rattle.store_types.proofs.KeyTexts.{no_slash, first_part, last_part, id_no_slash, time_no_slash}
use Rattle.store_types.proofs.KeyLaws.{key_texts}
use Rattle.store_files.specs.Archive.{Layout, dynamic, fixed, Content, archive, blob}
use Rattle.store_files.specs.Folder.{file_path}
use Rattle.store_model.specs.Stands.{names_content}
use Rattle.store_files.specs.Folder.{chunk_name}

kind_no_slash : (k : Kind) → no_slash (kind_text k) ≡ true
kind_no_slash Ct = refl
kind_no_slash Host = refl
kind_no_slash Vm = refl

from_kind : (k : SnapshotKey) (name : List ℕ) → file_path k name ≡ kind_text k.kind ++ 47 ∷ (k.id ++ 47 ∷ (time_text k.time ++ 47 ∷ name))
unfolding key_text group_text
from_kind k name = simp append_assoc refl

path_parts : (k : SnapshotKey) (name : List ℕ) → IsKey k → no_slash name ≡ true → parts (file_path k name) ≡ kind_text k.kind ∷ k.id ∷ time_text k.time ∷ name ∷ []
path_parts k name key plain =
    ap parts (from_kind k name) ∙ first_part (kind_text k.kind) (k.id ++ 47 ∷ (time_text k.time ++ 47 ∷ name)) (kind_no_slash k.kind)
    ∙ ap (λ ps. kind_text k.kind ∷ ps) (first_part k.id (time_text k.time ++ 47 ∷ name) (id_no_slash k.id key.0))
    ∙ ap (λ ps. kind_text k.kind ∷ k.id ∷ ps) (first_part (time_text k.time) name (time_no_slash k.time))
    ∙ ap (λ ps. kind_text k.kind ∷ k.id ∷ time_text k.time ∷ ps) (last_part name plain)

same_texts : (a b : SnapshotKey) → kind_text a.kind ≡ kind_text b.kind → a.id ≡ b.id → time_text a.time ≡ time_text b.time → key_text a ≡ key_text b
unfolding key_text group_text
same_texts a b kind id time = cc

-- equal names have equal keys and file names
pub same_path : (a b : SnapshotKey) (n m : List ℕ) → IsKey a → IsKey b → no_slash n ≡ true → no_slash m ≡ true → file_path a n ≡ file_path b m → (a ≡ b) × (n ≡ m)
same_path a b n m key_a key_b plain_n plain_m e =
    let four = sym (path_parts a n key_a plain_n) ∙ ap parts e ∙ path_parts b m key_b plain_m in
    let kind : kind_text a.kind ≡ kind_text b.kind = cc in
    let id : a.id ≡ b.id = cc in
    let time : time_text a.time ≡ time_text b.time = cc in
    let name : n ≡ m = cc in
    (key_texts a b key_a key_b (same_texts a b kind id time), name)

-- ---- names of files

pub blob_plain : (name : List ℕ) → is_blob_name name ≡ true → no_slash name ≡ true
blob_plain name h = id_no_slash name (and_parts (is_id name) (has_ending blob_ending name) h).0

by_layout : (layout : Layout) (name : List ℕ) → elim layout [ dynamic ↦ is_dynamic_name name | fixed size chunk_size ↦ is_fixed_name name ] ≡ true → no_slash name ≡ true
by_layout dynamic name h = id_no_slash name (and_parts (is_id name) (has_ending dynamic_ending name) h).0
by_layout (fixed size chunk_size) name h = id_no_slash name (and_parts (is_id name) (has_ending fixed_ending name) h).0

pub content_plain : (c : Content) (name : List ℕ) → names_content c name ≡ true → no_slash name ≡ true
content_plain (blob bytes) name h = blob_plain name h
content_plain (archive a) name h = by_layout a.layout name h

pub manifest_plain : no_slash manifest_name ≡ true
manifest_plain = refl

-- ---- names of chunks

kind_head : (k : Kind) (rest : List ℕ) → get_or (kind_text k ++ rest) 0 0 ≡ 46 → ⊥
kind_head Ct rest e = omega (arith, e)
kind_head Host rest e = omega (arith, e)
kind_head Vm rest e = omega (arith, e)

-- a chunk's name begins with a dot, and a snapshot's with its kind
pub chunk_apart : (digest : List ℕ) (key : SnapshotKey) (name : List ℕ) → chunk_name digest ≢ file_path key name
chunk_apart digest key name e =
    kind_head key.kind _ (sym (ap (λ q. get_or q 0 0) (e ∙ from_kind key name)))

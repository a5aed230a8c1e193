-- The files in their order, and what is kept of the manifest.
use Rattle.std.proofs.Common.{◌≡◌, ℕ, zero, suc, Bool, true, false, cond, List, [], ◌∷◌, map, Some, None, refl, sym, ap, ◌∙◌}
use Rattle.std.specs.Prelude.{Option, IsOk, IsTrue}
use Rattle.std.specs.Option.{option_map}
use Rattle.std.specs.List.{list_any, insert, remove, position_or_len}
use Rattle.std.specs.Str.{bytes_eq}
use Rattle.std.proofs.lemmas.Slice.Eq.{bytes_eq-Decides}
use Rattle.store_types.specs.FileNames.{manifest_name, is_fixed_name, is_dynamic_name}
use Rattle.store_types.specs.Names.{name_lt}
use Rattle.blob_codec.specs.Blob as blobs
use Rattle.blob_codec.specs.Blob.{data_of}
use Rattle.store_files.specs.Archive.{Layout, dynamic, fixed, Archive, archive, blob, File, file_text}
use Rattle.store_model.specs.Stands.{names_content}
use Rattle.store_model.specs.Store.{insert_file}
use Rattle.store_model.proofs.FileInsertions.{is_free, file_named-insert_other, file_named-insert_new}
use Rattle.manifest.specs.declared.facts.FileFact.{FileFact}
use Rattle.manifest.proofs.Ordered.{not_less, not_back}
use Rattle.backup_session.specs.Kept.{HoldsBlob, NoneBefore, Ascends}
use Rattle.backup_session.specs.Steps.{insert_fact, manifest_with}
use Rattle.backup_session.specs.Shown.{shown_file, manifest_text}
use Rattle.backup_session.proofs.Places.{insert_at}

-- the test for a file with a greater name
abbrev pub is_after : FileFact → FileFact → Bool
is_after new f = name_lt new.name f.name

pub insert_fact-is : (new : FileFact) (fs : List FileFact) → insert fs (position_or_len (is_after new) fs) new ≡ insert_fact new fs
insert_fact-is new fs = insert_at (is_after new) new (insert_fact new) refl (λ f gs. refl) fs

-- ---- in byte order

less_before : (m n : List ℕ) (fs : List FileFact) → name_lt n m ≡ false → NoneBefore n fs → NoneBefore m fs
less_before m n [] e h = tt
less_before m n (f ∷ fs) e h = (not_less m n f.name e h.0, less_before m n fs e h.1)

before-insert : (name : List ℕ) (new : FileFact) (fs : List FileFact) → name_lt new.name name ≡ false → NoneBefore name fs → NoneBefore name (insert_fact new fs)
before-insert name new [] e h = (e, tt)
before-insert name new (f ∷ fs) e h = by_test (name_lt new.name f.name) (before-insert name new fs e h.1)
  where
    by_test : (b : Bool) → NoneBefore name (insert_fact new fs) → NoneBefore name (cond b (new ∷ f ∷ fs) (f ∷ insert_fact new fs))
    by_test true rest = (e, h)
    by_test false rest = (h.0, rest)

pub ascends-insert : (new : FileFact) (fs : List FileFact) → Ascends fs → Ascends (insert_fact new fs)
ascends-insert new [] h = (tt, tt)
ascends-insert new (f ∷ fs) h = by_test (name_lt new.name f.name) refl (ascends-insert new fs h.1)
  where
    by_test : (b : Bool) → name_lt new.name f.name ≡ b → Ascends (insert_fact new fs) → Ascends (cond b (new ∷ f ∷ fs) (f ∷ insert_fact new fs))
    by_test true e rest =
        let back = not_back new.name f.name e in
        ((back, less_before new.name f.name fs back h.0), h)
    by_test false e rest = (before-insert f.name new fs e h.0, rest)

before-remove : (name : List ℕ) (fs : List FileFact) (i : ℕ) → NoneBefore name fs → NoneBefore name (remove fs i)
before-remove name [] zero h = tt
before-remove name [] (suc i) h = tt
before-remove name (f ∷ fs) zero h = h.1
before-remove name (f ∷ fs) (suc i) h = (h.0, before-remove name fs i h.1)

pub ascends-remove : (fs : List FileFact) (i : ℕ) → Ascends fs → Ascends (remove fs i)
ascends-remove [] zero h = tt
ascends-remove [] (suc i) h = tt
ascends-remove (f ∷ fs) zero h = h.1
ascends-remove (f ∷ fs) (suc i) h = (before-remove f.name fs i h.0, ascends-remove fs i h.1)

pub kept_blob : (b : Bool) (text : List ℕ) → IsOk (data_of text) → HoldsBlob (cond b (Some text) None)
kept_blob true text h = h
kept_blob false text h = tt

-- ---- what is shown of a plain writer's files

pub shown-insert : (new : File) (fs : List File) → map shown_file (insert_file new fs) ≡ insert_fact (shown_file new) (map shown_file fs)
shown-insert new [] = refl
shown-insert new (f ∷ fs) = by_test (name_lt new.name f.name) (shown-insert new fs)
  where
    by_test : (b : Bool) → map shown_file (insert_file new fs) ≡ insert_fact (shown_file new) (map shown_file fs)
        → map shown_file (cond b (new ∷ f ∷ fs) (f ∷ insert_file new fs)) ≡ cond b (shown_file new ∷ shown_file f ∷ map shown_file fs) (shown_file f ∷ insert_fact (shown_file new) (map shown_file fs))
    by_test true e = refl
    by_test false e = ap (λ (l : List FileFact). shown_file f ∷ l) e

abbrev text_of : Option File → Option (List ℕ)
text_of o = option_map (λ f. file_text f.content) o

-- a file of another name
pub manifest-other : (new : File) (fs : List File) → bytes_eq new.name manifest_name ≡ false → manifest_text (insert_file new fs) ≡ manifest_text fs
manifest-other new fs e = ap text_of (file_named-insert_other manifest_name new fs e)

-- no index is the manifest
no_kind : (kind : List ℕ → Bool) → kind manifest_name ≡ false → (name : List ℕ) → kind name ≡ true → bytes_eq name manifest_name ≡ false
no_kind kind other name named = by_test (bytes_eq name manifest_name) refl
  where
    by_test : (b : Bool) → bytes_eq name manifest_name ≡ b → b ≡ false
    by_test true e =
        let clash : false ≡ true = sym other ∙ sym (ap kind ((bytes_eq-Decides name manifest_name).0 e)) ∙ named in sym clash
    by_test false e = refl

pub no_index : (layout : Layout) (a : Archive) (name : List ℕ) → IsTrue (names_content (archive (record a { layout = layout })) name) → bytes_eq name manifest_name ≡ false
no_index dynamic a name named = no_kind is_dynamic_name refl name named
no_index (fixed size cut) a name named = no_kind is_fixed_name refl name named

abbrev new_blob : List ℕ → List ℕ → File
new_blob name contents = record { name = name; content = blob contents }

blob_text : (contents : List ℕ) → file_text (blob contents) ≡ blobs.blob contents
unfolding file_text
blob_text contents = refl

-- a blob
pub manifest-blob : (name contents text : List ℕ) (fs : List File) → text ≡ blobs.blob contents → is_free name fs
    → manifest_with name text (manifest_text fs) ≡ manifest_text (insert_file (new_blob name contents) fs)
manifest-blob name contents text fs is free = by_test (bytes_eq name manifest_name) refl
  where
    by_test : (b : Bool) → bytes_eq name manifest_name ≡ b → cond b (Some text) (manifest_text fs) ≡ manifest_text (insert_file (new_blob name contents) fs)
    by_test true e =
        let free2 : is_free manifest_name fs = ap (λ q. list_any (λ f. bytes_eq f.name q) fs) (sym ((bytes_eq-Decides name manifest_name).0 e)) ∙ free in
        ap (λ t. Some t) (is ∙ sym (blob_text contents)) ∙ sym (ap text_of (file_named-insert_new manifest_name (new_blob name contents) fs e free2))
    by_test false e = sym (ap text_of (file_named-insert_other manifest_name (new_blob name contents) fs e))

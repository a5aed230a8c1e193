-- What a DOWNLOAD reads whole, and what it notes.
use Rattle.std.proofs.Common.{◌≡◌, ◌-◌, ℕ, nat_lt, drop, Bool, true, false, cond, if◌then◌else◌, ◌&&◌, ◌||◌, List, [], ◌∷◌, ◌++◌, map, length, Some, None, Result, Ok, Err, OnOk, OnErr, refl, sym, ap, ◌∙◌}
use Rattle.std.proofs.lemmas.Bool.{and_parts}
use Rattle.std.proofs.lemmas.Slice.Eq.{bytes_eq-Decides}
use Rattle.std.specs.List.{list_any}
use Rattle.std.specs.Str.{bytes_eq}
use Rattle.store_types.specs.FileNames.{is_id, is_fixed_name, is_dynamic_name, is_blob_name, has_ending, fixed_ending, dynamic_ending, blob_ending}
use Rattle.store_files.specs.Archive.{Archive, Content, archive, blob, File, Snapshot}
use Rattle.store_model.specs.Store as model
use Rattle.store_model.specs.Store.{reader}
use Rattle.store_model.specs.ReaderSteps.{is_noted, note}
use Rattle.store_model.specs.Stands.{names_content}
use Rattle.restore_reader.specs.Session.{Reading}
use Rattle.restore_reader.specs.Shown.{shown, shown_noted}
use Rattle.restore_reader.specs.Steps.{is_downloaded}
use Rattle.paged_indexes.specs.declared.kinds.IndexKind.{IndexKind}
use Rattle.paged_indexes.specs.declared.kinds.IndexKind.TheVariants.{Fixed, Dynamic}
use Rattle.snapshot_files.specs.Indexes.{kind_named, layout_kind}
use Rattle.snapshot_files.proofs.Archives.{layout_named}
use Rattle.store_types.specs.declared.names.SnapshotKey.{SnapshotKey}
use Rattle.paged_indexes.specs.declared.index.IndexPages.{IndexPages}
use Rattle.restore_reader.specs.declared.index.Table.{Table}
use Rattle.core_state.specs.Named.{is_named}
use Rattle.core_state.specs.Shown.{files_named, shown_session, shown_reader}
use Rattle.core_state.specs.declared.kept.Session.{Session}
use Rattle.core_state.specs.declared.kept.Session.TheVariants.{Idle, Writer, Reader}
use Rattle.core_reader.specs.Asked.{whole_for, noting}

-- ---- endings

true_false : true ≡ false → ⊥
true_false e = cc

not_both : (a b t : List ℕ) → bytes_eq b a ≡ false → bytes_eq a t ≡ true → bytes_eq b t ≡ false
not_both a b t other e = ap (bytes_eq b) (sym ((bytes_eq-Decides a t).0 e)) ∙ other

and_none : (a b c : Bool) → b ≡ false → (a && (b && c)) ≡ false
and_none true b c e = ap (λ x. x && c) e
and_none false b c e = refl

-- the last five bytes
abbrev last_five : List ℕ → List ℕ
last_five name = drop (length name - 5) name

blob_whole : (name : List ℕ) → is_blob_name name ≡ true → kind_named name ≡ None
blob_whole name h =
    let ending = (and_parts (is_id name) (has_ending blob_ending name) h).1 in
    let five : bytes_eq blob_ending (last_five name) ≡ true = (and_parts (bytes_eq blob_ending (last_five name)) (nat_lt 5 (length name)) ending).0 in
    let no_fixed : is_fixed_name name ≡ false = and_none (is_id name) (bytes_eq fixed_ending (last_five name)) (nat_lt 5 (length name)) (not_both blob_ending fixed_ending (last_five name) refl five) in
    let no_dynamic : is_dynamic_name name ≡ false = and_none (is_id name) (bytes_eq dynamic_ending (last_five name)) (nat_lt 5 (length name)) (not_both blob_ending dynamic_ending (last_five name) refl five) in
    ap (λ b. if b then Some Fixed else (if is_dynamic_name name then Some Dynamic else None)) no_fixed
    ∙ ap (λ b. if b then Some Dynamic else None) no_dynamic

-- ---- which files are read whole

none_whole : (b : IndexKind) → None ≡ Some b → ⊥
none_whole b e = cc

some_whole : (a b : IndexKind) → Some a ≡ Some b → a ≡ b
some_whole a b e = cc

any_noted : (key : SnapshotKey) (files : List File) (name : List ℕ) (names : List (List ℕ)) → list_any (λ x. bytes_eq name x.name) (map (shown_noted key files) names) ≡ list_any (bytes_eq name) names
any_noted key files name [] = refl
any_noted key files name (n ∷ ns) = ap (λ b. bytes_eq name n || b) (any_noted key files name ns)

-- nothing is noted where the file isn't read whole
pub note_none : (ss : List Snapshot) (r : model.Reader) (name : List ℕ) (c : Content) → names_content c name ≡ true → whole_for (shown_reader ss r) name ≡ None → note name c r ≡ r
note_none ss r name (blob bytes) kind whole = refl
note_none ss r name (archive a) kind whole =
    by_test (is_noted r name) (ap (λ b. if b then None else kind_named name) (sym (any_noted r.key (files_named r.key ss) name r.noted)) ∙ whole)
  where
    by_test : (b : Bool) → (if b then None else kind_named name) ≡ None → cond b r (record r { noted = r.noted ++ name ∷ [] }) ≡ r
    by_test true e = refl
    by_test false e = absurd (none_whole (layout_kind a.layout) (sym e ∙ layout_named a name kind))

-- what is read whole is an archive of that layout
pub whole_archive : (ss : List Snapshot) (r : model.Reader) (name : List ℕ) (c : Content) (of_kind : IndexKind) → names_content c name ≡ true → whole_for (shown_reader ss r) name ≡ Some of_kind
    → (a : Archive) × (c ≡ archive a) × (of_kind ≡ layout_kind a.layout)
whole_archive ss r name c of_kind kind whole = by_content c kind (by_test (is_downloaded (shown_reader ss r) name) whole)
  where
    by_test : (b : Bool) → (if b then None else kind_named name) ≡ Some of_kind → kind_named name ≡ Some of_kind
    by_test true e = absurd (none_whole of_kind e)
    by_test false e = e

    by_content : (c : Content) → names_content c name ≡ true → kind_named name ≡ Some of_kind → (a : Archive) × (c ≡ archive a) × (of_kind ≡ layout_kind a.layout)
    by_content (blob bytes) kind e = absurd (none_whole of_kind (sym (blob_whole name kind) ∙ e))
    by_content (archive a) kind e = (a, refl, some_whole of_kind (layout_kind a.layout) (sym e ∙ layout_named a name kind))

-- ---- noting

pub note_key : (name : List ℕ) (c : Content) (r : model.Reader) → (note name c r).key ≡ r.key
note_key name (blob bytes) r = refl
note_key name (archive a) r = by_test (is_noted r name)
  where
    by_test : (b : Bool) → (λ (x : model.Reader). x.key) (cond b r (record r { noted = r.noted ++ name ∷ [] })) ≡ r.key
    by_test true = refl
    by_test false = refl

pub readings_same : (r q : Reading) → Reader r ≡ Reader q → r ≡ q
readings_same r q e = cc

-- the reader that noted it, as it is kept
pub shown_note : (ss : List Snapshot) (r : model.Reader) (name : List ℕ) (a : Archive) (new : Reading) → new ≡ shown (files_named r.key ss) (note name (archive a) r)
    → Reader new ≡ shown_session ss (reader (note name (archive a) r))
shown_note ss r name a new is =
    ap (λ x. Reader x) (is ∙ ap (λ k. shown (files_named k ss) (note name (archive a) r)) (sym (note_key name (archive a) r)))

-- ---- sessions stay named

is_named-noting : (name : List ℕ) (table : Table) (pages : IndexPages) (x : Session) → is_named (noting name table pages x) ≡ is_named x
is_named-noting name table pages Idle = refl
is_named-noting name table pages (Writer w) = refl
is_named-noting name table pages (Reader r) = refl

pub named_after : {E : Type 0} (result : Result (Unit {0}) E) (old new : Session) (name : List ℕ) (table : Table) (pages : IndexPages) → OnOk result (new ≡ noting name table pages old) → OnErr result (new ≡ old)
    → is_named old ≡ true → is_named new ≡ true
named_after (Ok u) old new name table pages ok err h = ap is_named ok ∙ is_named-noting name table pages old ∙ h
named_after (Err e) old new name table pages ok err h = ap is_named err ∙ h

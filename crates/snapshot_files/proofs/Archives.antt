-- The index of an archive that fits is read as the archive's pieces.
use Rattle.std.proofs.Common.{◌≡◌, ℕ, suc, ◌+◌, ◌-◌, ◌≤◌, Bool, true, false, ◌&&◌, nat_lt, drop, IsTrue, List, [], ◌∷◌, ◌++◌, length, map, Option, Some, None, if◌then◌else◌, Ok, refl, sym, ap, ap₂, ◌∙◌, arith}
use Rattle.std.specs.Prelude.{◌==◌}
use Rattle.std.specs.List.{AllByRecursion}
use Rattle.std.specs.FinMap.{get}
use Rattle.std.proofs.lemmas.Bool.{and_parts, eqb-true, ltb-true, leb-true}
use Rattle.std.specs.Str.{bytes_eq}
use Rattle.std.proofs.lemmas.Slice.Eq.{bytes_eq-Decides}
use Rattle.sha2.specs.Sha256.{sha256}
use Rattle.store_types.specs.FileNames.{is_id, has_ending, fixed_ending, dynamic_ending, blob_ending, is_fixed_name, is_dynamic_name, is_blob_name}
use Rattle.disk_trait.specs.Files.{Files}
use Rattle.store_types.specs.Chain.Refusing.{◌>>=◌}
use Rattle.store_files.specs.FixedIndex.{piece_len}
use Rattle.store_files.specs.DynamicIndex.{Ended, steps_fit}
use Rattle.store_files.specs.Archive.{Layout, dynamic, fixed, Archive, archive, ends_from, fixed_of_archive, dynamic_of_archive, text_by, archive_text}
use Rattle.store_model.specs.Stands.{fills_size, FitsLayout, FitsContent, names_content}
use Rattle.fixed_index.proofs.Spelling.{fixed_of-fixed_text}
use Rattle.dynamic_index.proofs.Spelling.{dynamic_of-dynamic_text}
use Rattle.dynamic_index.specs.Pieces.{last_end}
use Rattle.snapshot_files.specs.Parts.{part_from}
use Rattle.paged_indexes.specs.Fixed.{fixed_ends_from}
use Rattle.paged_indexes.specs.declared.kinds.IndexKind.{IndexKind}
use Rattle.paged_indexes.specs.declared.kinds.IndexKind.TheVariants.{Fixed, Dynamic}
use Rattle.paged_indexes.specs.Index.{entries_in}
use Rattle.snapshot_files.specs.Indexes.{index_at, kind_named, kind_of_index, layout_kind, lengths_from}
use Rattle.snapshot_files.proofs.Indexed.{fixed_read, dynamic_read, index_with, at_text}

-- pieces that fill the size end where a fixed index says
ends_fill : (size cut start : ℕ) (ps : List (List ℕ)) → IsTrue (fills_size size cut start ps) → fixed_ends_from size cut start (map sha256 ps) ≡ ends_from start ps
ends_fill size cut start [] fills = refl
ends_fill size cut start (p ∷ ps) fills =
    let both = and_parts (length p == piece_len size cut start) (fills_size size cut (start + length p) ps) fills in
    let len : length p ≡ piece_len size cut start = eqb-true _ _ both.0 in
    let end = start + length p in
    let same : start + piece_len size cut start ≡ end = ap (λ n. start + n) (sym len) in
    ap (λ n. record { end = n; digest = sha256 p } ∷ fixed_ends_from size cut n (map sha256 ps)) same
    ∙ ap (λ (es : List Ended). record { end = end; digest = sha256 p } ∷ es) (ends_fill size cut end ps both.1)

read_by : (layout : Layout) (a : Archive) → FitsLayout layout a → entries_in (layout_kind layout) (text_by layout a) ≡ Some (ends_from 0 a.pieces)
read_by dynamic a fits = dynamic_read (text_by dynamic a) (dynamic_of_archive a) (dynamic_of-dynamic_text (dynamic_of_archive a) fits)
read_by (fixed size cut) a fits =
    fixed_read (text_by (fixed size cut) a) (fixed_of_archive a size cut) (fixed_of-fixed_text (fixed_of_archive a size cut) fits.0)
    ∙ ap Some (ends_fill size cut 0 a.pieces fits.1)

-- the entries are the archive's
pub archive_read : (a : Archive) → FitsContent (archive a) → entries_in (layout_kind a.layout) (archive_text a) ≡ Some (ends_from 0 a.pieces)
unfolding archive_text
archive_read a fits = read_by a.layout a fits.0

-- and what is told of its file is a part of its text with these entries, or the refusal of the offset
pub archive_at : (content : Files) (path : List ℕ) (offset : ℕ) (a : Archive) → FitsContent (archive a) → get content path ≡ Some (archive_text a) →
    index_at content path (layout_kind a.layout) offset ≡ (part_from (archive_text a) offset >>= λ part. Ok (record { part = part; entries = ends_from 0 a.pieces }))
archive_at content path offset a fits there =
    let kind = layout_kind a.layout in
    at_text content path kind offset (archive_text a) there
    ∙ index_with path kind (archive_text a) offset (Some (ends_from 0 a.pieces)) (archive_read a fits)

-- ---- names

not_both : (a b t : List ℕ) → bytes_eq b a ≡ false → bytes_eq a t ≡ true → bytes_eq b t ≡ false
not_both a b t other e = ap (bytes_eq b) (sym ((bytes_eq-Decides a t).0 e)) ∙ other

and_none : (a b c : Bool) → b ≡ false → (a && (b && c)) ≡ false
and_none true b c e = ap (λ x. x && c) e
and_none false b c e = refl

-- a name that ends so ends not so too
pub dynamic_no_fixed : (name : List ℕ) → is_dynamic_name name ≡ true → is_fixed_name name ≡ false
dynamic_no_fixed name h =
    let last = drop (length name - 5) name in
    let ending = (and_parts (is_id name) (has_ending dynamic_ending name) h).1 in
    let five : bytes_eq dynamic_ending last ≡ true = (and_parts (bytes_eq dynamic_ending last) (nat_lt 5 (length name)) ending).0 in
    and_none (is_id name) (bytes_eq fixed_ending last) (nat_lt 5 (length name)) (not_both dynamic_ending fixed_ending last refl five)

pub blob_no_fixed : (name : List ℕ) → is_blob_name name ≡ true → is_fixed_name name ≡ false
blob_no_fixed name h =
    let last = drop (length name - 5) name in
    let ending = (and_parts (is_id name) (has_ending blob_ending name) h).1 in
    let five : bytes_eq blob_ending last ≡ true = (and_parts (bytes_eq blob_ending last) (nat_lt 5 (length name)) ending).0 in
    and_none (is_id name) (bytes_eq fixed_ending last) (nat_lt 5 (length name)) (not_both blob_ending fixed_ending last refl five)

pub blob_no_dynamic : (name : List ℕ) → is_blob_name name ≡ true → is_dynamic_name name ≡ false
blob_no_dynamic name h =
    let last = drop (length name - 5) name in
    let ending = (and_parts (is_id name) (has_ending blob_ending name) h).1 in
    let five : bytes_eq blob_ending last ≡ true = (and_parts (bytes_eq blob_ending last) (nat_lt 5 (length name)) ending).0 in
    and_none (is_id name) (bytes_eq dynamic_ending last) (nat_lt 5 (length name)) (not_both blob_ending dynamic_ending last refl five)

abbrev by_endings : Bool → Bool → Option IndexKind
by_endings is_fixed is_dynamic = if is_fixed then Some Fixed else (if is_dynamic then Some Dynamic else None)

named_by : (layout : Layout) (name : List ℕ) → IsTrue (elim layout [ dynamic ↦ is_dynamic_name name | fixed size chunk_size ↦ is_fixed_name name ]) →
    kind_named name ≡ Some (layout_kind layout)
named_by dynamic name h = ap₂ by_endings (dynamic_no_fixed name h) h
named_by (fixed size cut) name h = ap (λ b. by_endings b (is_dynamic_name name)) h

-- an archive's file name has the ending of its layout
pub layout_named : (a : Archive) (name : List ℕ) → IsTrue (names_content (archive a) name) → kind_named name ≡ Some (layout_kind a.layout)
layout_named a name h = named_by a.layout name h

abbrev by_ending : Bool → IndexKind
by_ending is_fixed = if is_fixed then Fixed else Dynamic

index_by : (layout : Layout) (name : List ℕ) → IsTrue (elim layout [ dynamic ↦ is_dynamic_name name | fixed size chunk_size ↦ is_fixed_name name ]) →
    kind_of_index name ≡ layout_kind layout
index_by dynamic name h = ap by_ending (dynamic_no_fixed name h)
index_by (fixed size cut) name h = ap by_ending h

pub layout_index : (a : Archive) (name : List ℕ) → IsTrue (names_content (archive a) name) → kind_of_index name ≡ layout_kind a.layout
layout_index a name h = index_by a.layout name h

-- ---- lengths

-- of the archive's pieces
pub lengths_of_pieces : (start : ℕ) (ps : List (List ℕ)) → lengths_from start (ends_from start ps) ≡ map (λ p. (sha256 p, length p)) ps
lengths_of_pieces start [] = refl
lengths_of_pieces start (p ∷ ps) =
    let len : start + length p - start ≡ length p = omega arith in
    ap₂ (λ n (ks : List (List ℕ × ℕ)). (sha256 p, n) ∷ ks) len (lengths_of_pieces (start + length p) ps)

-- each is that of a piece
pub lengths_fit : (start : ℕ) (es : List Ended) → IsTrue (steps_fit start es) → AllByRecursion (λ k. (1 ≤ k.1) × (k.1 ≤ 16_777_216)) (lengths_from start es)
lengths_fit start [] fit = tt
lengths_fit start (e ∷ es) fit =
    let parts = and_parts _ (steps_fit e.end es) fit in
    let step = and_parts _ _ parts.0 in
    let above = ltb-true start e.end step.0 in
    let below = leb-true e.end (start + 16_777_216) step.1 in
    ((omega (arith, above), omega (arith, below)), lengths_fit e.end es parts.1)

pub length-lengths : (start : ℕ) (es : List Ended) → length (lengths_from start es) ≡ length es
length-lengths start [] = refl
length-lengths start (e ∷ es) = ap suc (length-lengths e.end es)

-- one more
pub lengths_push : (start : ℕ) (es : List Ended) (e : Ended) → lengths_from start (es ++ e ∷ []) ≡ lengths_from start es ++ (e.digest, e.end - last_end start es) ∷ []
lengths_push start [] e = refl
lengths_push start (x ∷ es) e = ap (λ (ks : List (List ℕ × ℕ)). (x.digest, x.end - start) ∷ ks) (lengths_push x.end es e)

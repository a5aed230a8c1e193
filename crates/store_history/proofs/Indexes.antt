-- An index that is read from an archive's file tells what `weave` sends of the archive.
use Rattle.std.proofs.Common.{◌≡◌, ℕ, ℤ, ◌+◌, ◌-◌, ◌≤◌, Bool, true, false, List, [], ◌∷◌, map, length, min, Some, None, Result, Ok, Err, ◌&&◌, nat_lt, drop, refl, sym, ap, subst, ◌∙◌, arith, ◌==◌, if◌then◌else◌, IsTrue}
use Rattle.std.specs.List.{All, concat}
use Rattle.std.specs.Str.{bytes_eq}
use Rattle.std.proofs.lemmas.Slice.Eq.{bytes_eq-Decides}
use Rattle.std.proofs.lemmas.Bool.{and_parts, eqb-true}
use Rattle.std.proofs.lemmas.List.{length-append}
use Rattle.std.proofs.lemmas.List.Elements.{All-head, All-tail}
use Rattle.sha2.specs.Sha256.{sha256}
use Rattle.store_types.specs.FileNames.{is_id, has_ending, fixed_ending, dynamic_ending, blob_ending, is_fixed_name, is_dynamic_name, is_blob_name}
use Rattle.store_files.specs.declared.causes.IndexFault.{IndexFault}
use Rattle.store_files.specs.FixedIndex.{piece_len}
use Rattle.store_files.specs.FixedIndex as fixed_index
use Rattle.store_files.specs.DynamicIndex as dynamic_index
use Rattle.store_files.specs.Archive.{Layout, dynamic, fixed, Archive, archive, ends_from, fixed_of_archive, dynamic_of_archive, file_text, archive_text, size_of, csum_of}
use Rattle.store_files.specs.Folder.{IsPiece}
use Rattle.fixed_index.proofs.Spelling.{fixed_of-fixed_text}
use Rattle.dynamic_index.proofs.Spelling.{dynamic_of-dynamic_text}
use Rattle.store_model.specs.Stands.{fills_size, FitsContent, names_content}
use Rattle.store_model.specs.SyncJob.{entries_from}
use Rattle.store_model.specs.VerifyJob.{last_end}
use Rattle.store_history.specs.Pulling.{Index, fixed_entries, dynamic_entries, fixed_as, dynamic_as, fixed_in, dynamic_in, index_in, is_index}

-- what the index tells of its archive
pub record IsIndexOf (i : Index) (name : List ℕ) (a : Archive) : Type 0 where
  pub named : i.name ≡ name
  pub layout : i.layout ≡ a.layout
  pub entries : i.entries ≡ entries_from 0 a.pieces
  pub size : i.size ≡ size_of (archive a)
  pub ends : i.size ≡ length (concat a.pieces)
  pub csum : i.csum ≡ csum_of (archive a)

-- ---- names

not_both : (a b t : List ℕ) → bytes_eq b a ≡ false → bytes_eq a t ≡ true → bytes_eq b t ≡ false
not_both a b t other e = ap (bytes_eq b) (sym ((bytes_eq-Decides a t).0 e)) ∙ other

and_none : (a b c : Bool) → b ≡ false → (a && (b && c)) ≡ false
and_none true b c e = ap (λ x. x && c) e
and_none false b c e = refl

-- a name that ends so ends not so too
dynamic_no_fixed : (name : List ℕ) → is_dynamic_name name ≡ true → is_fixed_name name ≡ false
dynamic_no_fixed name h =
    let last = drop (length name - 5) name in
    let ending = (and_parts (is_id name) (has_ending dynamic_ending name) h).1 in
    let five : bytes_eq dynamic_ending last ≡ true = (and_parts (bytes_eq dynamic_ending last) (nat_lt 5 (length name)) ending).0 in
    and_none (is_id name) (bytes_eq fixed_ending last) (nat_lt 5 (length name)) (not_both dynamic_ending fixed_ending last refl five)

blob_no_index : (name other : List ℕ) → bytes_eq other blob_ending ≡ false → is_blob_name name ≡ true
    → (is_id name && (bytes_eq other (drop (length name - 5) name) && nat_lt 5 (length name))) ≡ false
blob_no_index name other apart h =
    let last = drop (length name - 5) name in
    let ending = (and_parts (is_id name) (has_ending blob_ending name) h).1 in
    let same : bytes_eq blob_ending last ≡ true = (and_parts (bytes_eq blob_ending last) (nat_lt 5 (length name)) ending).0 in
    and_none (is_id name) (bytes_eq other last) (nat_lt 5 (length name)) (not_both blob_ending other last apart same)

-- ---- a dynamic one

dynamic_from : (start : ℕ) (ps : List (List ℕ)) → dynamic_entries start (ends_from start ps) ≡ entries_from start ps
dynamic_from start [] = refl
dynamic_from start (p ∷ ps) = ap (λ es. record { digest = record { 0 = sha256 p }; offset = start } ∷ es) (dynamic_from (start + length p) ps)

last_from : (start : ℕ) (p : List ℕ) (ps : List (List ℕ)) → last_end (ends_from start (p ∷ ps)) ≡ start + length (concat (p ∷ ps))
last_from start p [] = let len = length-append p (concat []) in omega (arith, len)
last_from start p (q ∷ qs) =
    last_from (start + length p) q qs ∙ (let len = length-append p (concat (q ∷ qs)) in omega (arith, len))

last_is : (ps : List (List ℕ)) → last_end (ends_from 0 ps) ≡ length (concat ps)
last_is [] = refl
last_is (p ∷ ps) = let h = last_from 0 p ps in omega (arith, h)

-- ---- a fixed one

module _ (size cut : ℕ) where
  -- a piece before another is as long as the chunk size
  pub whole : (end : ℕ) (p q : List ℕ) (qs : List (List ℕ)) → fills_size size cut end (p ∷ q ∷ qs) ≡ true → 1 ≤ length q → length p ≡ cut
  whole end p q qs fills one =
      let first = and_parts (length p == piece_len size cut end) (fills_size size cut (end + length p) (q ∷ qs)) fills in
      let second = and_parts (length q == piece_len size cut (end + length p)) (fills_size size cut (end + length p + length q) qs) first.1 in
      let p_len : length p ≡ min cut (size - end) = eqb-true (length p) (piece_len size cut end) first.0 in
      let q_len : length q ≡ min cut (size - (end + length p)) = eqb-true (length q) (piece_len size cut (end + length p)) second.0 in
      omega (arith, p_len, q_len, one)

  -- the last ends at the size
  filled : (end : ℕ) (ps : List (List ℕ)) → fills_size size cut end ps ≡ true → size ≡ end + length (concat ps)
  filled end [] fills = let is = eqb-true end size fills in omega (arith, is)
  filled end (p ∷ ps) fills =
      let rest = filled (end + length p) ps (and_parts (length p == piece_len size cut end) (fills_size size cut (end + length p) ps) fills).1 in
      let len = length-append p (concat ps) in
      omega (arith, rest, len)

  fixed_from : (end : ℕ) (ps : List (List ℕ)) → fills_size size cut end ps ≡ true → All IsPiece ps
      → fixed_entries cut end (map sha256 ps) ≡ entries_from end ps
  fixed_from end [] fills pieces = refl
  fixed_from end (p ∷ []) fills pieces = refl
  fixed_from end (p ∷ q ∷ qs) fills pieces =
      let len = whole end p q qs fills (All-head IsPiece q qs (All-tail IsPiece p (q ∷ qs) pieces)).0 in
      let rest = and_parts (length p == piece_len size cut end) (fills_size size cut (end + length p) (q ∷ qs)) fills in
      ap (λ n. record { digest = record { 0 = sha256 p }; offset = end } ∷ fixed_entries cut (end + n) (map sha256 (q ∷ qs))) (sym len)
      ∙ ap (λ es. record { digest = record { 0 = sha256 p }; offset = end } ∷ es) (fixed_from (end + length p) (q ∷ qs) rest.1 (All-tail IsPiece p (q ∷ qs) pieces))

-- ---- by the layout

-- the index of an archive's file, of this name
abbrev pub Indexes : List ℕ → Archive → Type 0
Indexes name a = (i : Index) × (is_index name ≡ true) × (index_in name (file_text (archive a)) ≡ Some i) × IsIndexOf i name a

module _ (name uuid reserved : List ℕ) (ctime : ℤ) (pieces : List (List ℕ)) where
  abbrev made : Layout → Archive
  made layout = record { layout = layout; uuid = uuid; ctime = ctime; reserved = reserved; pieces = pieces }

  dynamic_read : is_fixed_name name ≡ false → is_dynamic_name name ≡ true → FitsContent (archive (made dynamic)) → Indexes name (made dynamic)
  unfolding index_in file_text archive_text
  dynamic_read apart named fits =
      let x = dynamic_of_archive (made dynamic) in (
        dynamic_as name x,
        ap (λ b. if b then true else is_dynamic_name name) apart ∙ named,
        ap (λ b. if b then fixed_in name (dynamic_index.dynamic_text x) else dynamic_in name (dynamic_index.dynamic_text x)) apart
            ∙ ap (λ (y : Result dynamic_index.DynamicIndex IndexFault). elim y [ Ok d ↦ Some (dynamic_as name d) | Err cause ↦ None ]) (dynamic_of-dynamic_text x fits.0),
        record {
          named = refl;
          layout = refl;
          entries = dynamic_from 0 pieces;
          size = last_is pieces;
          ends = last_is pieces;
          csum = refl;
        },
      )

  fixed_read : (size cut : ℕ) → is_fixed_name name ≡ true → FitsContent (archive (made (fixed size cut))) → Indexes name (made (fixed size cut))
  unfolding index_in file_text archive_text
  fixed_read size cut named fits =
      let x = fixed_of_archive (made (fixed size cut)) size cut in (
        fixed_as name x,
        ap (λ b. if b then true else is_dynamic_name name) named,
        ap (λ b. if b then fixed_in name (fixed_index.fixed_text x) else dynamic_in name (fixed_index.fixed_text x)) named
            ∙ ap (λ (y : Result fixed_index.FixedIndex IndexFault). elim y [ Ok d ↦ Some (fixed_as name d) | Err cause ↦ None ]) (fixed_of-fixed_text x (fits.0).0),
        record {
          named = refl;
          layout = refl;
          entries = fixed_from size cut 0 pieces (fits.0).1 fits.1;
          size = refl;
          ends = let h = filled size cut 0 pieces (fits.0).1 in omega (arith, h);
          csum = refl;
        },
      )

-- of an archive with a name of its kind
pub archive_read : (name : List ℕ) (a : Archive) → IsTrue (names_content (archive a) name) → FitsContent (archive a) → Indexes name a
archive_read name a named fits = by_layout a.layout refl
  where
    same_archive : {layout : Layout} → a.layout ≡ layout
        → a ≡ (let x : Archive = record { layout = layout; uuid = a.uuid; ctime = a.ctime; reserved = a.reserved; pieces = a.pieces } in x)
    same_archive is = ap (λ (l : Layout). (let x : Archive = record { layout = l; uuid = a.uuid; ctime = a.ctime; reserved = a.reserved; pieces = a.pieces } in x)) is

    by_layout : (layout : Layout) → a.layout ≡ layout → Indexes name a
    by_layout dynamic is =
        let h : is_dynamic_name name ≡ true = subst (λ l. IsTrue (elim l [ dynamic ↦ is_dynamic_name name | fixed size chunk_size ↦ is_fixed_name name ])) is named in
        subst (Indexes name) (sym (same_archive is))
        (dynamic_read name a.uuid a.reserved a.ctime a.pieces (dynamic_no_fixed name h) h (subst (λ x. FitsContent (archive x)) (same_archive is) fits))
    by_layout (fixed size cut) is =
        let h : is_fixed_name name ≡ true = subst (λ l. IsTrue (elim l [ dynamic ↦ is_dynamic_name name | fixed size chunk_size ↦ is_fixed_name name ])) is named in
        subst (Indexes name) (sym (same_archive is))
        (fixed_read name a.uuid a.reserved a.ctime a.pieces size cut h (subst (λ x. FitsContent (archive x)) (same_archive is) fits))

-- and a blob's name is none of an index
pub blob_apart : (name : List ℕ) → is_blob_name name ≡ true → is_index name ≡ false
blob_apart name h =
    ap (λ b. if b then true else is_dynamic_name name) (blob_no_index name fixed_ending refl h) ∙ blob_no_index name dynamic_ending refl h

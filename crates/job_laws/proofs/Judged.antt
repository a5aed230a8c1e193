-- What a VERIFY makes of each file of a snapshot that the store may hold.
use Rattle.std.proofs.Common.{◌≡◌, ◌≤◌, ℕ, zero, suc, ℤ, ◌+◌, ◌<◌, Bool, true, false, List, [], ◌∷◌, map, filter, length, not, cond, Option, Some, None, is_none, Ok, Err, Result, refl, sym, ap, ap₂, subst, ◌∙◌, arith, slice_index_or, ◌&&◌, ◌||◌, ◌==◌, if◌then◌else◌, nat_lt, ◌-◌, drop, IsTrue, eq-eqb}
use Rattle.std.specs.List.{All, Contains, concat}
use Rattle.std.specs.Option.{option_or}
use Rattle.std.specs.Str.{bytes_eq}
use Rattle.std.proofs.lemmas.Bool.{and_parts, eqb-true}
use Rattle.std.proofs.lemmas.List.{length-append, length-map}
use Rattle.std.proofs.lemmas.List.Elements.{All-contains, All-contains_itself, All-filter, All-head, All-nil, All-tail, All-weaker}
use Rattle.std.proofs.lemmas.Slice.Eq.{bytes_eq-Decides}
use Rattle.std.proofs.Math.ListN.{get_or-map}
use Rattle.sha2.specs.Sha256.{sha256}
use Rattle.store_types.specs.declared.names.Digest32.{Digest32}
use Rattle.store_types.specs.declared.refusal.BadBlob.{BadBlob}
use Rattle.store_types.specs.FileNames.{is_id, has_ending, fixed_ending, dynamic_ending, is_fixed_name, is_dynamic_name, is_blob_name, is_index_name, is_file_name, manifest_name}
use Rattle.store_types.specs.Names.{key_text}
use Rattle.blob_codec.specs.Blob as blobs
use Rattle.blob_codec.proofs.RoundTrips.{data_of-blob}
use Rattle.store_files.specs.declared.causes.IndexFault.{IndexFault}
use Rattle.store_files.specs.FixedIndex as fixed_index
use Rattle.store_files.specs.FixedIndex.{piece_len}
use Rattle.store_files.specs.DynamicIndex as dynamic_index
use Rattle.store_files.specs.Archive.{Layout, dynamic, fixed, Archive, Content, archive, blob, File, Snapshot, ends_from, fixed_of_archive, dynamic_of_archive, archive_text, file_text, file_named, digest_of, pieces_of, size_of, csum_of}
use Rattle.store_files.specs.Folder.{IsPiece}
use Rattle.store_files.specs.Manifest.{Manifest, manifest_of}
use Rattle.store_files.specs.Manifest.Fields.{Fact}
use Rattle.store_files.specs.Manifest.Mismatch.{Mismatch, fact_named, fact_mismatch}
use Rattle.fixed_index.proofs.Spelling.{fixed_of-fixed_text}
use Rattle.dynamic_index.proofs.Spelling.{dynamic_of-dynamic_text}
use Rattle.wire_commands.specs.declared.rows.FileRow.{FileRow}
use Rattle.wire_commands.specs.declared.rows.FileFault.{FileFault}
use Rattle.wire_commands.specs.declared.rows.FileFault.TheVariants.{Differs, Unreadable}
use Rattle.store_model.specs.AdminSteps.{fact_shown, facts_in}
use Rattle.store_model.specs.Manifests.{blob_data, data_in, fact_of, listed_names}
use Rattle.store_model.specs.Stands.{fills_size, FitsContent, IsSnapshot, names_content}
use Rattle.store_types.specs.declared.piece.Piece.{Piece}
use Rattle.store_model.specs.SizeLimits.{size_limit}
use Rattle.store_model.specs.VerifyJob.{Judged, without_entries, compared, fixed_pieces, fixed_judged, dynamic_pieces, dynamic_judged, blob_judged, last_end, manifest_fault, judged}
use Rattle.store_history.proofs.Found.{each_file}
use Rattle.store_history.proofs.Indexes.{blob_apart, whole}
use Rattle.store_history.proofs.SizeLimits.{file_short}
use Rattle.job_laws.specs.Verifies.{is_as_listed, is_listed, names_snapshot}

-- ---- lists

pub true_false : true ≡ false → ⊥
true_false h = cc

none_some : {X : Type 0} (x : X) → None ≡ Some x → ⊥
none_some x h = cc

contains_later : {X : Type 0} (x y : X) (xs : List X) → Contains (x ∷ xs) y → (x ≡ y → ⊥) → Contains xs y
contains_later x y xs h other = by_place h.0 h.1 h.2
  where
    by_place : (i : ℕ) → i < length (x ∷ xs) → slice_index_or (x ∷ xs) i y ≡ y → Contains xs y
    by_place zero lt is = absurd (other is)
    by_place (suc i) lt is = (i, omega (arith, lt), is)

contains_map : {X Y : Type 0} (f : X → Y) (xs : List X) (x : X) → Contains xs x → Contains (map f xs) (f x)
contains_map f xs x h = (h.0, subst (λ n. h.0 < n) (sym (length-map xs f)) h.1, get_or-map f xs h.0 x ∙ ap f h.2)

contains_filtered : {X : Type 0} (p : X → Bool) (xs : List X) (x : X) → Contains (filter p xs) x → Contains xs x
contains_filtered p xs x h = All-contains (Contains xs) (filter p xs) x (All-filter p (Contains xs) xs (All-contains_itself xs)) h

-- ---- names

not_both : (a b t : List ℕ) → bytes_eq b a ≡ false → bytes_eq a t ≡ true → bytes_eq b t ≡ false
not_both a b t other e = ap (bytes_eq b) (sym ((bytes_eq-Decides a t).0 e)) ∙ other

and_none : (a b c : Bool) → b ≡ false → (a && (b && c)) ≡ false
and_none true b c e = ap (λ x. x && c) e
and_none false b c e = refl

-- a name that ends so ends not so too
dynamic_no_fixed : (name : List ℕ) → is_dynamic_name name ≡ true → is_fixed_name name ≡ false
dynamic_no_fixed name h =
    let last = drop (length name - 5) name in
    let ending = (and_parts (is_id name) (has_ending dynamic_ending name) h).1 in
    let five : bytes_eq dynamic_ending last ≡ true = (and_parts (bytes_eq dynamic_ending last) (nat_lt 5 (length name)) ending).0 in
    and_none (is_id name) (bytes_eq fixed_ending last) (nat_lt 5 (length name)) (not_both dynamic_ending fixed_ending last refl five)

neither : (a b : Bool) → (if a then true else b) ≡ false → (a ≡ false) × (b ≡ false)
neither true b h = absurd (true_false h)
neither false b h = (refl, h)

either : (a b : Bool) → b ≡ true → (a || b) ≡ true
either true b h = refl
either false b h = h

-- ---- the bytes and the pieces of an archive

fills_whole : (size cut end : ℕ) (ps : List (List ℕ)) → fills_size size cut end ps ≡ true → end + length (concat ps) ≡ size
fills_whole size cut end [] fills = let e = eqb-true end size fills in omega (arith, e)
fills_whole size cut end (p ∷ ps) fills =
    let both = and_parts (length p == piece_len size cut end) (fills_size size cut (end + length p) ps) fills in
    let rest = fills_whole size cut (end + length p) ps both.1 in
    let len = length-append p (concat ps) in
    omega (arith, rest, len)

last_from : (start : ℕ) (p : List ℕ) (ps : List (List ℕ)) → last_end (ends_from start (p ∷ ps)) ≡ start + length (concat (p ∷ ps))
last_from start p [] = let len = length-append p (concat []) in omega (arith, len)
last_from start p (q ∷ qs) =
    last_from (start + length p) q qs ∙ (let len = length-append p (concat (q ∷ qs)) in omega (arith, len))

last_is : (ps : List (List ℕ)) → last_end (ends_from 0 ps) ≡ length (concat ps)
last_is [] = refl
last_is (p ∷ ps) = let h = last_from 0 p ps in omega (arith, h)

-- as an index names it
abbrev pub named_piece : List ℕ → Piece
named_piece p = record { digest = digest_of p; length = length p }

dynamic_named : (start : ℕ) (ps : List (List ℕ)) → dynamic_pieces start (ends_from start ps) ≡ map named_piece ps
dynamic_named start [] = refl
dynamic_named start (p ∷ ps) =
    ap₂ (λ (n : ℕ) (qs : List Piece). (let q : Piece = record { digest = digest_of p; length = n } in q) ∷ qs) (let e : start + length p - start ≡ length p = omega arith in e) (dynamic_named (start + length p) ps)

fixed_named : (size cut end : ℕ) (ps : List (List ℕ)) → fills_size size cut end ps ≡ true → All IsPiece ps → fixed_pieces size cut end (map sha256 ps) ≡ map named_piece ps
fixed_named size cut end [] fills are = refl
fixed_named size cut end (p ∷ []) fills are =
    let both = and_parts (length p == piece_len size cut end) (fills_size size cut (end + length p) []) fills in
    ap (λ n. (let q : Piece = record { digest = digest_of p; length = n } in q) ∷ []) (sym (eqb-true (length p) (piece_len size cut end) both.0))
fixed_named size cut end (p ∷ q ∷ ps) fills are =
    let both = and_parts (length p == piece_len size cut end) (fills_size size cut (end + length p) (q ∷ ps)) fills in
    let rest = All-tail IsPiece p (q ∷ ps) are in
    let cut_is = whole size cut end p q ps fills (All-head IsPiece q ps rest).0 in
    ap (λ n. (let y : Piece = record { digest = digest_of p; length = n } in y) ∷ fixed_pieces size cut (end + cut) (map sha256 (q ∷ ps))) (sym (eqb-true (length p) (piece_len size cut end) both.0))
    ∙ ap (λ n. named_piece p ∷ fixed_pieces size cut (end + n) (map sha256 (q ∷ ps))) (sym cut_is)
    ∙ ap (λ qs. named_piece p ∷ qs) (fixed_named size cut (end + length p) (q ∷ ps) both.1 rest)

-- ---- what a file of its kind is judged

abbrev pub row : List ℕ → ℕ → Digest32 → FileRow
row name size csum = record { file = name; size = size; csum = csum }

abbrev file : List ℕ → Content → File
file name content = record { name = name; content = content }

abbrev pub fact : List ℕ → ℕ → Digest32 → Fact
fact name size csum = record { name = name; size = size; csum = csum }

abbrev pub with_pieces : Option FileFault → Content → Judged
with_pieces fault c = record { fault = fault; bytes = length (concat (pieces_of c)); entries = map named_piece (pieces_of c) }

module _ (text name : List ℕ) (size : ℕ) (csum : Digest32) where
  abbrev r : FileRow
  r = row name size csum

  abbrev as_compared : Content → Option FileFault
  as_compared c = compared r (size_of c) (csum_of c).0

  module _ (uuid reserved : List ℕ) (ctime : ℤ) (pieces : List (List ℕ)) where
    abbrev made : Layout → Archive
    made layout = record { layout = layout; uuid = uuid; ctime = ctime; reserved = reserved; pieces = pieces }

    judged_dynamic : is_fixed_name name ≡ false → is_dynamic_name name ≡ true → FitsContent (archive (made dynamic))
        → judged text r (file_text (archive (made dynamic))) ≡ with_pieces (as_compared (archive (made dynamic))) (archive (made dynamic))
    unfolding judged dynamic_judged file_text archive_text
    judged_dynamic apart named fits =
        let x = dynamic_of_archive (made dynamic) in
        let t = dynamic_index.dynamic_text x in
        ap (λ b. if b then fixed_judged r t else (if is_dynamic_name name then dynamic_judged r t else blob_judged text r t)) apart
        ∙ ap (λ b. if b then dynamic_judged r t else blob_judged text r t) named
        ∙ ap (λ (y : Result dynamic_index.DynamicIndex IndexFault). elim y as (λ z. Judged) [
          | Err cause ↦ without_entries (Some Unreadable)
          | Ok d ↦ record { fault = compared r (last_end d.entries) (dynamic_index.csum_of d); bytes = last_end d.entries; entries = dynamic_pieces 0 d.entries }
        ]) (dynamic_of-dynamic_text x fits.0)
        ∙ ap₂ (λ (n : ℕ) (es : List Piece). (let j : Judged = record { fault = compared r n (dynamic_index.csum_of x); bytes = n; entries = es } in j)) (last_is pieces) (dynamic_named 0 pieces)

    judged_fixed : (size_is cut : ℕ) → is_fixed_name name ≡ true → FitsContent (archive (made (fixed size_is cut)))
        → judged text r (file_text (archive (made (fixed size_is cut)))) ≡ with_pieces (as_compared (archive (made (fixed size_is cut)))) (archive (made (fixed size_is cut)))
    unfolding judged fixed_judged file_text archive_text
    judged_fixed size_is cut named fits =
        let x = fixed_of_archive (made (fixed size_is cut)) size_is cut in
        let t = fixed_index.fixed_text x in
        let bytes : size_is ≡ length (concat pieces) = (let h = fills_whole size_is cut 0 pieces (fits.0).1 in omega (arith, h)) in
        ap (λ b. if b then fixed_judged r t else (if is_dynamic_name name then dynamic_judged r t else blob_judged text r t)) named
        ∙ ap (λ (y : Result fixed_index.FixedIndex IndexFault). elim y as (λ z. Judged) [
          | Err cause ↦ without_entries (Some Unreadable)
          | Ok d ↦ record { fault = compared r d.size (fixed_index.csum_of d); bytes = d.size; entries = fixed_pieces d.size d.chunk_size 0 d.digests }
        ]) (fixed_of-fixed_text x (fits.0).0)
        ∙ ap₂ (λ (n : ℕ) (es : List Piece). (let j : Judged = record { fault = compared r size_is (fixed_index.csum_of x); bytes = n; entries = es } in j)) bytes (fixed_named size_is cut 0 pieces (fits.0).1 fits.1)

  abbrev IsJudged : Archive → Type 0
  IsJudged b = judged text r (file_text (archive b)) ≡ with_pieces (as_compared (archive b)) (archive b)

  judged_archive : (a : Archive) → IsTrue (names_content (archive a) name) → FitsContent (archive a)
      → judged text r (file_text (archive a)) ≡ with_pieces (as_compared (archive a)) (archive a)
  judged_archive a named fits = by_layout a.layout refl
    where
      same_archive : {layout : Layout} → a.layout ≡ layout → a ≡ made a.uuid a.reserved a.ctime a.pieces layout
      same_archive is = ap (made a.uuid a.reserved a.ctime a.pieces) is

      by_layout : (layout : Layout) → a.layout ≡ layout → IsJudged a
      by_layout dynamic is =
          let h : is_dynamic_name name ≡ true = subst (λ l. IsTrue (elim l [ dynamic ↦ is_dynamic_name name | fixed size chunk_size ↦ is_fixed_name name ])) is named in
          subst IsJudged (sym (same_archive is))
          (judged_dynamic a.uuid a.reserved a.ctime a.pieces (dynamic_no_fixed name h) h (subst (λ x. FitsContent (archive x)) (same_archive is) fits))
      by_layout (fixed whole cut) is =
          let h : is_fixed_name name ≡ true = subst (λ l. IsTrue (elim l [ dynamic ↦ is_dynamic_name name | fixed size chunk_size ↦ is_fixed_name name ])) is named in
          subst IsJudged (sym (same_archive is))
          (judged_fixed a.uuid a.reserved a.ctime a.pieces whole cut h (subst (λ x. FitsContent (archive x)) (same_archive is) fits))

  judged_blob : (bytes : List ℕ) → is_blob_name name ≡ true → FitsContent (blob bytes)
      → judged text r (file_text (blob bytes))
      ≡ without_entries (option_or (as_compared (blob bytes)) (if bytes_eq name manifest_name then manifest_fault text bytes else None))
  unfolding judged blob_judged file_text
  judged_blob bytes named fits =
      let t = blobs.blob bytes in
      let apart = neither (is_fixed_name name) (is_dynamic_name name) (blob_apart name named) in
      ap (λ b. if b then fixed_judged r t else (if is_dynamic_name name then dynamic_judged r t else blob_judged text r t)) apart.0
      ∙ ap (λ b. if b then dynamic_judged r t else blob_judged text r t) apart.1
      ∙ ap (λ (y : Result (List ℕ) BadBlob). without_entries (option_or (as_compared (blob bytes)) (elim y as (λ z. Option FileFault) [
        | Err cause ↦ Some Unreadable
        | Ok contents ↦ if bytes_eq name manifest_name then manifest_fault text contents else None
      ]))) (data_of-blob bytes fits.1 fits.0)

-- ---- against what is listed

abbrev pub fault_shown : Bool → Option FileFault
fault_shown listed = if listed then None else Some Differs

compared_listed : (listed : Fact) (f : File)
    → compared (row listed.name listed.size listed.csum) (size_of f.content) (csum_of f.content).0 ≡ fault_shown (is_none (fact_mismatch listed (fact_of f)))
compared_listed listed f = by_tests (listed.size == size_of f.content) (bytes_eq (listed.csum).0 (csum_of f.content).0)
  where
    by_tests : (b c : Bool) → (if b && c then None else Some Differs) ≡ fault_shown (is_none (
        if not b then Some (let m : Mismatch = record { file = listed.name; field = 6 } in m) else
        if not c then Some (let m : Mismatch = record { file = listed.name; field = 7 } in m) else
        None))
    by_tests true true = refl
    by_tests true false = refl
    by_tests false true = refl
    by_tests false false = refl

compared_itself : (name : List ℕ) (size : ℕ) (csum : Digest32) → compared (row name size csum) size csum.0 ≡ None
compared_itself name size csum =
    ap (λ b. if b && bytes_eq csum.0 csum.0 then None else Some Differs) (eq-eqb size size refl)
    ∙ ap (λ b. if b then None else Some Differs) ((bytes_eq-Decides csum.0 csum.0).1 refl)

named_fact : (name : List ℕ) (ts : List Fact) → Contains (map (λ (t : Fact). t.name) ts) name
    → (size : ℕ) × (csum : Digest32) × (fact_named name ts ≡ Some (fact name size csum))
named_fact name [] h = absurd (omega (arith, h.1))
named_fact name (t ∷ ts) h = by_test (bytes_eq t.name name) refl (named_fact name ts)
  where
    by_test : (b : Bool) → bytes_eq t.name name ≡ b
        → (Contains (map (λ (u : Fact). u.name) ts) name → (size : ℕ) × (csum : Digest32) × (fact_named name ts ≡ Some (fact name size csum)))
        → (size : ℕ) × (csum : Digest32) × (cond b (Some t) (fact_named name ts) ≡ Some (fact name size csum))
    by_test true is go = (t.size, t.csum, ap (λ n. Some (fact n t.size t.csum)) ((bytes_eq-Decides t.name name).0 is))
    by_test false is go =
        go (contains_later t.name name (map (λ (u : Fact). u.name) ts) h (λ same. true_false (sym ((bytes_eq-Decides t.name name).1 same) ∙ is)))

-- ---- each file of a snapshot

-- how FILES lists it, and what it is judged against that
pub record Shows (x : Snapshot) (f : File) : Type 0 where
  pub found : file_named f.name x.files ≡ Some f
  pub named : is_file_name f.name ≡ true
  pub size : ℕ
  pub csum : Digest32
  pub shown : fact_shown (facts_in x.files) f ≡ Some (fact f.name size csum)
  pub told : judged (key_text x.key) (row f.name size csum) (file_text f.content) ≡ with_pieces (fault_shown (is_as_listed x f)) f.content
  pub pieces : All (λ p. IsPiece p × (is_index_name f.name ≡ true)) (pieces_of f.content)
  pub short : length (file_text f.content) ≤ size_limit f.name

module _ (x : Snapshot) (fits : IsSnapshot x) where
  abbrev bytes : List ℕ
  bytes = (fits.manifest).0

  abbrev m : Manifest
  m = (fits.manifest).1

  facts_are : facts_in x.files ≡ m.files
  facts_are =
      ap (λ (o : Option (List ℕ)). elim o [
        | None ↦ []
        | Some b ↦ elim (manifest_of b) [ Ok m ↦ m.files | Err cause ↦ [] ]
      ]) (fits.manifest).2
      ∙ ap (λ (r : Result Manifest ℕ). elim r [ Ok m ↦ m.files | Err cause ↦ [] ]) (fits.manifest).3

  names_is : names_snapshot x ≡ bytes_eq (key_text m.key) (key_text x.key)
  names_is =
      ap (λ (o : Option (List ℕ)). elim o [
        | None ↦ false
        | Some b ↦ elim (manifest_of b) [ Ok m ↦ bytes_eq (key_text m.key) (key_text x.key) | Err cause ↦ false ]
      ]) (fits.manifest).2
      ∙ ap (λ (r : Result Manifest ℕ). elim r [ Ok m ↦ bytes_eq (key_text m.key) (key_text x.key) | Err cause ↦ false ]) (fits.manifest).3

  manifest_fault_is : manifest_fault (key_text x.key) bytes ≡ fault_shown (names_snapshot x)
  manifest_fault_is =
      ap (λ (r : Result Manifest ℕ). elim r as (λ z. Option FileFault) [
        | Err cause ↦ Some Unreadable
        | Ok m ↦ if bytes_eq (key_text m.key) (key_text x.key) then None else Some Differs
      ]) (fits.manifest).3
      ∙ ap fault_shown (sym names_is)

  module _ (f : File) (there : Contains x.files f) where
    pub found : file_named f.name x.files ≡ Some f
    found = All-contains (λ (g : File). file_named g.name x.files ≡ Some g) x.files f (each_file x.files fits.names) there

    named_as : IsTrue (names_content f.content f.name)
    named_as = All-contains (λ (g : File). IsTrue (names_content g.content g.name)) x.files f fits.kinds there

    content_fits : FitsContent f.content
    content_fits = All-contains (λ (g : File). FitsContent g.content) x.files f fits.contents there

    -- the manifest's name has the manifest
    its_data : bytes_eq f.name manifest_name ≡ true → blob_data f.content ≡ Some bytes
    its_data is = sym (ap data_in (ap (λ n. file_named n x.files) (sym ((bytes_eq-Decides f.name manifest_name).0 is)) ∙ found)) ∙ (fits.manifest).2

    -- another is listed
    pub its_fact : bytes_eq f.name manifest_name ≡ false
        → (size : ℕ) × (csum : Digest32) × (fact_named f.name (facts_in x.files) ≡ Some (fact f.name size csum))
    its_fact is =
        let among : Contains (manifest_name ∷ listed_names m) f.name = ((fits.manifest).5 f.name).0 (contains_map (λ (g : File). g.name) x.files f there) in
        let listed : Contains (listed_names m) f.name =
        contains_later manifest_name f.name (listed_names m) among (λ same. true_false (sym ((bytes_eq-Decides f.name manifest_name).1 (sym same)) ∙ is)) in
        let fact_there = named_fact f.name m.files (contains_filtered (λ name. not (bytes_eq name manifest_name)) (map (λ (t : Fact). t.name) m.files) f.name listed) in
        (fact_there.0, fact_there.1, ap (fact_named f.name) facts_are ∙ fact_there.2)

    shown_listed : (size : ℕ) (csum : Digest32) → bytes_eq f.name manifest_name ≡ false → fact_named f.name (facts_in x.files) ≡ Some (fact f.name size csum)
        → fact_shown (facts_in x.files) f ≡ Some (fact f.name size csum)
    shown_listed size csum is listed = ap (λ b. if b then Some (fact_of f) else fact_named f.name (facts_in x.files)) is ∙ listed

    fault_listed : (size : ℕ) (csum : Digest32) → bytes_eq f.name manifest_name ≡ false → fact_named f.name (facts_in x.files) ≡ Some (fact f.name size csum)
        → compared (row f.name size csum) (size_of f.content) (csum_of f.content).0 ≡ fault_shown (is_as_listed x f)
    fault_listed size csum is listed =
        compared_listed (fact f.name size csum) f
        ∙ ap fault_shown (
        sym (ap (λ (o : Option Fact). elim o [ None ↦ false | Some t ↦ is_none (fact_mismatch t (fact_of f)) ]) listed)
        ∙ sym (ap (λ b. if b then names_snapshot x else is_listed (facts_in x.files) f) is)
        )

  archive_shows : (name : List ℕ) (a : Archive) → Contains x.files (file name (archive a)) → Shows x (file name (archive a))
  archive_shows name a there =
      let f = file name (archive a) in
      let other : bytes_eq name manifest_name ≡ false = no_manifest (bytes_eq name manifest_name) refl in
      let listed = its_fact f there other in
      record {
        found = found f there;
        named = ap (λ b. b || is_blob_name name) indexed;
        size = listed.0;
        csum = listed.1;
        shown = shown_listed f there listed.0 listed.1 other listed.2;
        told = judged_archive (key_text x.key) name listed.0 listed.1 a (named_as f there) (content_fits f there)
            ∙ ap (λ fault. with_pieces fault (archive a)) (fault_listed f there listed.0 listed.1 other listed.2);
        pieces = All-weaker IsPiece (λ p. IsPiece p × (is_index_name name ≡ true)) (λ p h. (h, indexed)) a.pieces (content_fits f there).1;
        short = file_short name (archive a) (named_as f there) (content_fits f there);
      }
    where
      no_manifest : (b : Bool) → bytes_eq name manifest_name ≡ b → bytes_eq name manifest_name ≡ false
      no_manifest true is = absurd (none_some bytes (its_data (file name (archive a)) there is))
      no_manifest false is = is

      by_layout : (l : Layout) → IsTrue (elim l [ dynamic ↦ is_dynamic_name name | fixed size chunk_size ↦ is_fixed_name name ]) → is_index_name name ≡ true
      by_layout dynamic h = either (is_fixed_name name) (is_dynamic_name name) h
      by_layout (fixed size cut) h = ap (λ b. b || is_dynamic_name name) h

      indexed : is_index_name name ≡ true
      indexed = by_layout a.layout (named_as (file name (archive a)) there)

  blob_shows : (name held : List ℕ) → Contains x.files (file name (blob held)) → Shows x (file name (blob held))
  blob_shows name held there = by_name (bytes_eq name manifest_name) refl
    where
      judged_as : (size : ℕ) (csum : Digest32) → judged (key_text x.key) (row name size csum) (file_text (blob held))
          ≡ without_entries (option_or (compared (row name size csum) (size_of (blob held)) (csum_of (blob held)).0) (if bytes_eq name manifest_name then manifest_fault (key_text x.key) held else None))
      judged_as size csum = judged_blob (key_text x.key) name size csum held (named_as (file name (blob held)) there) (content_fits (file name (blob held)) there)

      first_fault : (o : Option FileFault) → option_or o None ≡ o
      first_fault None = refl
      first_fault (Some fault) = refl

      by_name : (b : Bool) → bytes_eq name manifest_name ≡ b → Shows x (file name (blob held))
      by_name true is =
          let same : held ≡ bytes = (let h = its_data (file name (blob held)) there is in cc) in
          record {
            found = found (file name (blob held)) there;
            named = either (is_index_name name) (is_blob_name name) (named_as (file name (blob held)) there);
            size = size_of (blob held);
            csum = csum_of (blob held);
            shown = ap (λ b. if b then Some (fact_of (file name (blob held))) else fact_named name (facts_in x.files)) is;
            told = judged_as (size_of (blob held)) (csum_of (blob held))
                ∙ ap (λ o. without_entries (option_or o (if bytes_eq name manifest_name then manifest_fault (key_text x.key) held else None))) (compared_itself name (size_of (blob held)) (csum_of (blob held)))
                ∙ ap (λ b. without_entries (if b then manifest_fault (key_text x.key) held else None)) is
                ∙ ap (λ d. without_entries (manifest_fault (key_text x.key) d)) same
                ∙ ap without_entries (manifest_fault_is ∙ ap fault_shown (sym (ap (λ b. if b then names_snapshot x else is_listed (facts_in x.files) (file name (blob held))) is)));
            pieces = All-nil (λ p. IsPiece p × (is_index_name name ≡ true));
            short = file_short name (blob held) (named_as (file name (blob held)) there) (content_fits (file name (blob held)) there);
          }
      by_name false is =
          let listed = its_fact (file name (blob held)) there is in
          record {
            found = found (file name (blob held)) there;
            named = either (is_index_name name) (is_blob_name name) (named_as (file name (blob held)) there);
            size = listed.0;
            csum = listed.1;
            shown = shown_listed (file name (blob held)) there listed.0 listed.1 is listed.2;
            told = judged_as listed.0 listed.1
                ∙ ap (λ b. without_entries (option_or (compared (row name listed.0 listed.1) (size_of (blob held)) (csum_of (blob held)).0) (if b then manifest_fault (key_text x.key) held else None))) is
                ∙ ap without_entries (first_fault (compared (row name listed.0 listed.1) (size_of (blob held)) (csum_of (blob held)).0) ∙ fault_listed (file name (blob held)) there listed.0 listed.1 is listed.2);
            pieces = All-nil (λ p. IsPiece p × (is_index_name name ≡ true));
            short = file_short name (blob held) (named_as (file name (blob held)) there) (content_fits (file name (blob held)) there);
          }

  pub each_shows : All (Shows x) x.files
  each_shows = All-weaker (Contains x.files) (Shows x) by_content x.files (All-contains_itself x.files)
    where
      by_content : (f : File) → Contains x.files f → Shows x f
      by_content f there = by_kind f.content refl
        where
          by_kind : (c : Content) → f.content ≡ c → Shows x f
          by_kind (archive a) is =
              let same : f ≡ file f.name (archive a) = ap (file f.name) is in
              subst (Shows x) (sym same) (archive_shows f.name a (subst (Contains x.files) same there))
          by_kind (blob held) is =
              let same : f ≡ file f.name (blob held) = ap (file f.name) is in
              subst (Shows x) (sym same) (blob_shows f.name held (subst (Contains x.files) same there))

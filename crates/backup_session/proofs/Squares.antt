-- Each step answers for a session as for the plain writer that it shows.
use Rattle.std.proofs.Common.{◌≡◌, ℕ, suc, ◌+◌, ◌-◌, ◌*◌, ◌^◌, ◌<◌, Bool, true, false, cond, ◌||◌, ◌&&◌, min, List, [], ◌∷◌, ◌++◌, map, length, Some, None, Ok, Err, refl, sym, ap, ap₂, subst, ◌∙◌, arith}
use Rattle.std.specs.Prelude.{◌==◌, Option, Result, nat_lt, not}
use Rattle.std.specs.Option.{option_map}
use Rattle.std.specs.List.{AllByRecursion, concat, find, list_any}
use Rattle.std.specs.Str.{bytes_eq}
use Rattle.std.proofs.lemmas.Bool.{eqb-true}
use Rattle.std.proofs.lemmas.List.{length-append, map-append}
use Rattle.sha2.specs.Sha256.{sha256}
use Rattle.store_types.specs.declared.names.Digest32.{Digest32}
use Rattle.store_types.specs.declared.names.SnapshotKey.{SnapshotKey}
use Rattle.store_types.specs.declared.piece.Piece.{Piece}
use Rattle.store_types.specs.declared.refusal.Refusal.{Refusal}
use Rattle.store_types.specs.declared.refusal.Refusal.TheVariants.{BadName, NoFile, Exists, TooMany}
use Rattle.store_types.specs.Chain.Refusing.{◌>>=◌, unless, or_else}
use Rattle.store_types.specs.FileNames.{is_fixed_name, is_dynamic_name, is_blob_name}
use Rattle.blob_codec.specs.Blob as blobs
use Rattle.store_files.specs.Archive.{Layout, dynamic, fixed, Archive, archive, blob, File, content_of, ends_from, archive_text, text_by, size_by, csum_by, piece_with}
use Rattle.store_files.specs.DynamicIndex.{Ended}
use Rattle.store_model.specs.Store.{Begun, Writer, insert_file}
use Rattle.store_model.specs.Uploads as uploads
use Rattle.store_model.specs.Archives.{new_archive, want_sizes, want_number, free_number, change_first, without_first, want_entries, fits_layout, pieces_named, want_facts}
use Rattle.store_model.specs.WriterCalls as plain
use Rattle.store_model.proofs.FileInsertions.{is_free}
use Rattle.store_model.proofs.PiecesNamed.{pieces_named-alike}
use Rattle.manifest.specs.declared.facts.FileFact.{FileFact}
use Rattle.dynamic_index.specs.Pieces.{last_end}
use Rattle.dynamic_index.specs.Writing.{ends_behind}
use Rattle.dynamic_index.specs.Writing as dynamic_indexes
use Rattle.fixed_index.specs.Writing as fixed_indexes
use Rattle.backup_session.specs.declared.index.OpenIndex.{OpenIndex}
use Rattle.backup_session.specs.declared.index.OpenIndex.TheVariants.{Dynamic, Fixed}
use Rattle.backup_session.specs.Indexes.{layout_of, count_of, end_of, size_of, csum_of, text_of, with_pieces, index_by}
use Rattle.backup_session.specs.Session.{Open, Writing}
use Rattle.backup_session.specs.Steps as steps
use Rattle.backup_session.specs.Answers.{takes_blob}
use Rattle.backup_session.specs.Shown.{piece_of, pool_of, shown_begun, shown_file, manifest_text, fits_from, IsOpen, shown}
use Rattle.backup_session.proofs.Places.{find-map, change_first-map, without_first-map}
use Rattle.backup_session.proofs.Pools.{known_in-pool}
use Rattle.backup_session.proofs.FileLemmas.{shown-insert, manifest-other, no_index, manifest-blob}
use Rattle.backup_session.proofs.Naming.{FitsAt, named_fits}
use Rattle.backup_session.proofs.StateSteps.{sizes_fit}
use Rattle.backup_session.proofs.Plainly.{Agrees}

-- ---- lists

any-map : {A B : Type 0} (f : A → B) (p : B → Bool) (xs : List A) → list_any p (map f xs) ≡ list_any (λ x. p (f x)) xs
any-map f p [] = refl
any-map f p (x ∷ xs) = ap (λ b. p (f x) || b) (any-map f p xs)

len-map : {A B : Type 0} (f : A → B) (xs : List A) → length (map f xs) ≡ length xs
len-map f [] = refl
len-map f (x ∷ xs) = ap suc (len-map f xs)

numbers_same : (begun : List Begun) → steps.numbers (map shown_begun begun) ≡ map (λ b. b.number) begun
numbers_same [] = refl
numbers_same (b ∷ bs) = ap (λ (l : List ℕ). b.number ∷ l) (numbers_same bs)

all_found : (p : Begun → Bool) (xs : List Begun) (b : Begun) → AllByRecursion IsOpen xs → find p xs ≡ Some b → IsOpen b
all_found p [] b all is = cc
all_found p (x ∷ xs) b all is = by_test (p x) is (λ e. all_found p xs b all.1 e)
  where
    by_test : (t : Bool) → cond t (Some x) (find p xs) ≡ Some b → (find p xs ≡ Some b → IsOpen b) → IsOpen b
    by_test true e go = let same : x ≡ b = cc in subst IsOpen same all.0
    by_test false e go = go e

all_more : (xs : List Begun) (b : Begun) → AllByRecursion IsOpen xs → IsOpen b → AllByRecursion IsOpen (xs ++ b ∷ [])
all_more [] b all is = (is, tt)
all_more (x ∷ xs) b all is = (all.0, all_more xs b all.1 is)

all_changed : (p : Begun → Bool) (g : Begun → Begun) (xs : List Begun) (b : Begun) → AllByRecursion IsOpen xs → find p xs ≡ Some b → IsOpen (g b) → AllByRecursion IsOpen (change_first p g xs)
all_changed p g [] b all is after = tt
all_changed p g (x ∷ xs) b all is after = by_test (p x) is (λ e. all_changed p g xs b all.1 e after)
  where
    by_test : (t : Bool) → cond t (Some x) (find p xs) ≡ Some b → (find p xs ≡ Some b → AllByRecursion IsOpen (change_first p g xs)) → AllByRecursion IsOpen (cond t (g x ∷ xs) (x ∷ change_first p g xs))
    by_test true e go = let same : x ≡ b = cc in (subst (λ y. IsOpen (g y)) (sym same) after, all.1)
    by_test false e go = (all.0, go e)

all_without : (p : Begun → Bool) (xs : List Begun) → AllByRecursion IsOpen xs → AllByRecursion IsOpen (without_first p xs)
all_without p [] all = tt
all_without p (x ∷ xs) all = by_test (p x) (all_without p xs all.1)
  where
    by_test : (t : Bool) → AllByRecursion IsOpen (without_first p xs) → AllByRecursion IsOpen (cond t xs (x ∷ without_first p xs))
    by_test true rest = all.1
    by_test false rest = (all.0, rest)

-- ---- names

has_same : (name : List ℕ) (w : Writer) → steps.has_file name (map shown_file w.files) (map shown_begun w.begun) ≡ uploads.has_file name w
has_same name w = ap₂ (λ a b. a || b) (any-map shown_file (λ f. bytes_eq f.name name) w.files) (any-map shown_begun (λ b. bytes_eq b.name name) w.begun)

room_same : (name : List ℕ) (w : Writer) → steps.want_room name (map shown_file w.files) (map shown_begun w.begun) ≡ uploads.want_room name w
room_same name w =
    ap₂ (λ there n. unless Exists (not there) >>= λ _. unless (TooMany 64) (nat_lt n 64)) (has_same name w)
    (ap₂ (λ a b. a + b) (len-map shown_file w.files) (len-map shown_begun w.begun))

-- ---- NEW_FIXED and NEW_DYNAMIC

new_begun : Writer → List ℕ → Archive → Begun
new_begun w name a = record { number = free_number (plain.numbers w); name = name; archive = a }

begins_alike : (w : Writer) (name : List ℕ) (a : Archive) (x : OpenIndex) → x ≡ index_by a.layout a → steps.begin (shown w) name x ≡ shown (plain.begin w name a)
unfolding new_begun shown
begins_alike w name a x e =
    ap (λ l. record (shown w) { begun = map shown_begun w.begun ++ l })
    (ap₂ (λ n y. record { number = n; name = name; index = y } ∷ []) (ap free_number (numbers_same w.begun)) e)
    ∙ ap (λ l. record (shown w) { begun = l }) (sym (map-append shown_begun w.begun (new_begun w name a ∷ [])))

begun_so : (w : Writer) (name : List ℕ) (a : Archive) (x : OpenIndex) → x ≡ index_by a.layout a → AllByRecursion IsOpen w.begun → IsOpen (new_begun w name a)
    → Agrees (Ok (steps.begin (shown w) name x, free_number (steps.numbers (map shown_begun w.begun)))) (Ok (plain.begin w name a, free_number (plain.numbers w)))
unfolding new_begun
begun_so w name a x e all is =
    (ap₂ (λ v n. Ok (v, n)) (begins_alike w name a x e) (ap free_number (numbers_same w.begun)), all_more w.begun (new_begun w name a) all is)

new_dynamic_index : (key : SnapshotKey) (name : List ℕ) (moment : ℕ) → steps.dynamic_at key name moment ≡ index_by dynamic (new_archive dynamic 4032 key name moment)
unfolding dynamic_indexes.reserved
new_dynamic_index key name moment = refl

new_fixed_index : (key : SnapshotKey) (name : List ℕ) (size cut moment : ℕ)
    → steps.fixed_at key name size cut moment ≡ index_by (fixed size cut) (new_archive (fixed size cut) 4016 key name moment)
unfolding fixed_indexes.reserved
new_fixed_index key name size cut moment = refl

pub new_dynamic-agrees : (name : List ℕ) (moment : ℕ) (w : Writer) → AllByRecursion IsOpen w.begun → Agrees (steps.new_dynamic (shown w) name moment) (plain.new_dynamic w name moment)
unfolding steps.new_dynamic plain.new_dynamic new_begun shown
new_dynamic-agrees name moment w all =
    subst (λ s. Agrees s (plain.new_dynamic w name moment)) (sym tests_same)
    (by_name (is_dynamic_name name) refl (uploads.want_room name w) (want_number (length w.begun)))
  where
    made : Archive
    made = new_archive dynamic 4032 w.key name moment

    here : Writing × ℕ
    here = (steps.begin_dynamic (shown w) name moment, free_number (steps.numbers (map shown_begun w.begun)))

    there : Writer × ℕ
    there = (plain.begin w name made, free_number (plain.numbers w))

    tests_same : steps.new_dynamic (shown w) name moment
        ≡ ((unless BadName (is_dynamic_name name) >>= λ _. uploads.want_room name w >>= λ _. want_number (length w.begun)) >>= λ _. Ok here)
    tests_same =
        ap₂ (λ room n. (unless BadName (is_dynamic_name name) >>= λ _. room >>= λ _. want_number n) >>= λ _. Ok here) (room_same name w) (len-map shown_begun w.begun)

    by_name : (b : Bool) → is_dynamic_name name ≡ b → (room number : Result (Unit {0}) Refusal)
        → Agrees ((unless BadName b >>= λ _. room >>= λ _. number) >>= λ _. Ok here) (unless BadName b >>= λ _. room >>= λ _. number >>= λ _. Ok there)
    by_name false e room number = refl
    by_name true e (Err r) number = refl
    by_name true e (Ok u) (Err r) = refl
    by_name true e (Ok u) (Ok v) =
        begun_so w name made (steps.dynamic_at w.key name moment) (new_dynamic_index w.key name moment) all (record { name = e; sizes = tt; pieces = refl })

pub new_fixed-agrees : (name : List ℕ) (size cut moment : ℕ) → size < 2 ^ 64 → (w : Writer) → AllByRecursion IsOpen w.begun
    → Agrees (steps.new_fixed (shown w) name size cut moment) (plain.new_fixed w name size cut moment)
unfolding steps.new_fixed plain.new_fixed new_begun shown
new_fixed-agrees name size cut moment small w all =
    subst (λ s. Agrees s (plain.new_fixed w name size cut moment)) (sym tests_same)
    (by_name (is_fixed_name name) refl (uploads.want_room name w) (want_number (length w.begun)) (want_sizes size cut) refl)
  where
    made : Archive
    made = new_archive (fixed size cut) 4016 w.key name moment

    here : Writing × ℕ
    here = (steps.begin_fixed (shown w) name size cut moment, free_number (steps.numbers (map shown_begun w.begun)))

    there : Writer × ℕ
    there = (plain.begin w name made, free_number (plain.numbers w))

    tests_same : steps.new_fixed (shown w) name size cut moment
        ≡ ((unless BadName (is_fixed_name name) >>= λ _. uploads.want_room name w >>= λ _. want_number (length w.begun) >>= λ _. want_sizes size cut) >>= λ _. Ok here)
    tests_same =
        ap₂ (λ room n. (unless BadName (is_fixed_name name) >>= λ _. room >>= λ _. want_number n >>= λ _. want_sizes size cut) >>= λ _. Ok here)
        (room_same name w) (len-map shown_begun w.begun)

    by_name : (b : Bool) → is_fixed_name name ≡ b → (room number sizes : Result (Unit {0}) Refusal) → want_sizes size cut ≡ sizes
        → Agrees ((unless BadName b >>= λ _. room >>= λ _. number >>= λ _. sizes) >>= λ _. Ok here) (unless BadName b >>= λ _. room >>= λ _. number >>= λ _. sizes >>= λ _. Ok there)
    by_name false e room number sizes f = refl
    by_name true e (Err r) number sizes f = refl
    by_name true e (Ok u) (Err r) sizes f = refl
    by_name true e (Ok u) (Ok v) (Err r) f = refl
    by_name true e (Ok u) (Ok v) (Ok x) f =
        begun_so w name made (steps.fixed_at w.key name size cut moment) (new_fixed_index w.key name size cut moment) all
        (record { name = e; sizes = (sizes_fit size cut x f, small); pieces = refl })

-- ---- ends

ends_same : (start : ℕ) (ps : List (List ℕ)) → ends_from start ps ≡ ends_behind start (map piece_of ps)
ends_same start [] = refl
ends_same start (p ∷ ps) = ap (λ (es : List Ended). record { end = start + length p; digest = sha256 p } ∷ es) (ends_same (start + length p) ps)

ends_append : (start : ℕ) (ps qs : List (List ℕ)) → ends_from start (ps ++ qs) ≡ ends_from start ps ++ ends_from (last_end start (ends_from start ps)) qs
ends_append start [] qs = refl
ends_append start (p ∷ ps) qs = ap (λ (es : List Ended). record { end = start + length p; digest = sha256 p } ∷ es) (ends_append (start + length p) ps qs)

ends_count : (start : ℕ) (ps : List (List ℕ)) → length (ends_from start ps) ≡ length ps
ends_count start [] = refl
ends_count start (p ∷ ps) = omega (arith, ends_count (start + length p) ps)

last_same : (start : ℕ) (ps : List (List ℕ)) → last_end start (ends_from start ps) ≡ start + length (concat ps)
last_same start [] = omega arith
last_same start (p ∷ ps) = omega (arith, last_same (start + length p) ps, length-append p (concat ps))

digests_same : (ps : List (List ℕ)) → map sha256 ps ≡ fixed_indexes.piece_digests (map piece_of ps)
digests_same [] = refl
digests_same (p ∷ ps) = ap (λ (ds : List (List ℕ)). sha256 p ∷ ds) (digests_same ps)

both : (a b : Bool) → (a && b) ≡ true → (a ≡ true) × (b ≡ true)
both true b h = (refl, h)
both false b h = cc

and_true : (a b : Bool) → a ≡ true → b ≡ true → (a && b) ≡ true
and_true true b e f = f
and_true false b e f = cc

next_end : (size cut n : ℕ) → min size (n * cut) + min cut (size - min size (n * cut)) ≡ min size ((n + 1) * cut)
next_end size cut n = omega arith

joins : (a b c d e : ℕ) → a + b ≡ c → e ≡ b + d → c + d ≡ a + e
joins a b c d e f g = omega (arith, f, g)

-- where the pieces of a fixed archive end, behind so many
fixed_ends : (size cut n : ℕ) (ps : List (List ℕ)) → fits_from (fixed size cut) (min size (n * cut)) ps ≡ true
    → min size ((n + length ps) * cut) ≡ min size (n * cut) + length (concat ps)
fixed_ends size cut n [] fits = let none : n + 0 ≡ n = omega arith in let same = ap (λ k. min size (k * cut)) none in omega (arith, same)
fixed_ends size cut n (p ∷ ps) fits =
    let here = both (length p == min cut (size - min size (n * cut))) (fits_from (fixed size cut) (min size (n * cut) + length p) ps) fits in
    let exact : length p ≡ min cut (size - min size (n * cut)) = eqb-true (length p) (min cut (size - min size (n * cut))) here.0 in
    let ends : min size (n * cut) + length p ≡ min size ((n + 1) * cut) = ap (λ k. min size (n * cut) + k) exact ∙ next_end size cut n in
    let rest = fixed_ends size cut (n + 1) ps (subst (λ k. fits_from (fixed size cut) k ps ≡ true) ends here.1) in
    let more : n + suc (length ps) ≡ n + 1 + length ps = omega arith in
    ap (λ k. min size (k * cut)) more ∙ rest
    ∙ joins (min size (n * cut)) (length p) (min size ((n + 1) * cut)) (length (concat ps)) (length (p ++ concat ps)) ends (length-append p (concat ps))

-- ---- what an index shows of its archive, by the layout

module _ (a : Archive) where
  layout_same : (layout : Layout) → layout_of (index_by layout a) ≡ layout
  layout_same dynamic = refl
  layout_same (fixed size cut) = refl

  count_same : (layout : Layout) → count_of (index_by layout a) ≡ length a.pieces
  count_same dynamic = ends_count 0 a.pieces
  count_same (fixed size cut) = len-map sha256 a.pieces

  end_same : (layout : Layout) → fits_from layout 0 a.pieces ≡ true → end_of (index_by layout a) ≡ length (content_of a)
  end_same dynamic fits = omega (arith, last_same 0 a.pieces)
  end_same (fixed size cut) fits =
      let start : 0 ≡ min size (0 * cut) = omega arith in
      let ends = fixed_ends size cut 0 a.pieces (subst (λ k. fits_from (fixed size cut) k a.pieces ≡ true) start fits) in
      let count : length (map sha256 a.pieces) ≡ 0 + length a.pieces = omega (arith, len-map sha256 a.pieces) in
      ap (λ k. min size (k * cut)) count ∙ ends ∙ (let total : min size (0 * cut) + length (concat a.pieces) ≡ length (concat a.pieces) = omega (arith, start) in total)

  archive_size : (layout : Layout) → size_of (index_by layout a) ≡ size_by layout a
  archive_size dynamic = omega (arith, last_same 0 a.pieces)
  archive_size (fixed size cut) = refl

  csum_same : (layout : Layout) → csum_of (index_by layout a) ≡ csum_by layout a
  csum_same dynamic = refl
  csum_same (fixed size cut) = refl

  text_same : (layout : Layout) → text_of (index_by layout a) ≡ text_by layout a
  text_same dynamic = refl
  text_same (fixed size cut) = refl

  grown_same : (layout : Layout) (ps : List (List ℕ)) → index_by layout (record a { pieces = a.pieces ++ ps }) ≡ with_pieces (map piece_of ps) (index_by layout a)
  grown_same dynamic ps =
      ap (λ es. Dynamic (record { uuid = a.uuid; ctime = a.ctime; reserved = a.reserved; entries = es }))
      (ends_append 0 a.pieces ps ∙ ap (λ es. ends_from 0 a.pieces ++ es) (ends_same (last_end 0 (ends_from 0 a.pieces)) ps))
  grown_same (fixed size cut) ps =
      ap (λ ds. Fixed (record { uuid = a.uuid; ctime = a.ctime; reserved = a.reserved; size = size; chunk_size = cut; digests = ds }))
      (map-append sha256 a.pieces ps ∙ ap (λ ds. map sha256 a.pieces ++ ds) (digests_same ps))

grows_alike : (ps : List (List ℕ)) (b : Begun) → shown_begun (plain.with_pieces ps b) ≡ steps.grown (map piece_of ps) (shown_begun b)
grows_alike ps b =
    let a = b.archive in
    ap (λ x. record { number = b.number; name = b.name; index = x }) (grown_same a a.layout ps)

-- ---- pieces that fit

fits_all : (layout : Layout) (end : ℕ) (ps : List (List ℕ)) → FitsAt (λ p. length p) layout end ps → fits_from layout end ps ≡ true
fits_all layout end [] fits = refl
fits_all layout end (p ∷ ps) fits = and_true (fits_layout layout end (length p)) (fits_from layout (end + length p) ps) fits.0 (fits_all layout (end + length p) ps fits.1)

fits_append : (layout : Layout) (end : ℕ) (ps qs : List (List ℕ)) → fits_from layout end ps ≡ true → FitsAt (λ p. length p) layout (end + length (concat ps)) qs → fits_from layout end (ps ++ qs) ≡ true
fits_append layout end [] qs fits more =
    let same : end + 0 ≡ end = omega arith in fits_all layout end qs (subst (λ n. FitsAt (λ p. length p) layout n qs) same more)
fits_append layout end (p ∷ ps) qs fits more =
    let here = both (fits_layout layout end (length p)) (fits_from layout (end + length p) ps) fits in
    let same : end + length (p ++ concat ps) ≡ end + length p + length (concat ps) = omega (arith, length-append p (concat ps)) in
    and_true (fits_layout layout end (length p)) (fits_from layout (end + length p) (ps ++ qs)) here.0
    (fits_append layout (end + length p) ps qs here.1 (subst (λ n. FitsAt (λ q. length q) layout n qs) same more))

-- ---- APPEND

begun_alike : (number : ℕ) (w : Writer) → steps.begun_at number (shown w) ≡ option_map shown_begun (plain.begun_at number w)
unfolding shown
begun_alike number w = find-map shown_begun (steps.has_number number) w.begun

pieces_alike : (w : Writer) (b : Begun) (entries : List (Digest32 × ℕ)) → IsOpen b
    → steps.pieces_for (pool_of w.pool) (index_by (b.archive).layout b.archive) entries
    ≡ (want_entries (length (b.archive).pieces) (length entries) >>= λ _.
    (pieces_named (λ digest. piece_with digest w.pool) (λ p. length p) (b.archive).layout 0 (length (content_of b.archive)) entries >>= λ ps. Ok (map piece_of ps)))
unfolding steps.pieces_for
pieces_alike w b entries is =
    let a = b.archive in
    let named = λ (layout : Layout) (end : ℕ). pieces_named (steps.known_in (pool_of w.pool)) (λ p. p.length) layout 0 end entries in
    ap₂ (λ n end. want_entries n (length entries) >>= λ _. named (layout_of (index_by a.layout a)) end) (count_same a a.layout) (end_same a a.layout is.pieces)
    ∙ ap (λ layout. want_entries (length a.pieces) (length entries) >>= λ _. named layout (length (content_of a))) (layout_same a a.layout)
    ∙ ap (λ r. want_entries (length a.pieces) (length entries) >>= λ _. r)
    (pieces_named-alike piece_of (λ digest. piece_with digest w.pool) (λ p. length p) (steps.known_in (pool_of w.pool)) (λ p. p.length) (λ p. refl) (known_in-pool w.pool) a.layout 0 (length (content_of a)) entries)

still_open : (b : Begun) (ps : List (List ℕ)) → IsOpen b → FitsAt (λ p. length p) (b.archive).layout (length (content_of b.archive)) ps → IsOpen (plain.with_pieces ps b)
still_open b ps is fits =
    let a = b.archive in
    let same : length (content_of a) ≡ 0 + length (concat a.pieces) = omega arith in
    record {
      name = is.name;
      sizes = is.sizes;
      pieces = fits_append a.layout 0 a.pieces ps is.pieces (subst (λ n. FitsAt (λ p. length p) a.layout n ps) same fits);
    }

pub append-agrees : (number : ℕ) (entries : List (Digest32 × ℕ)) (w : Writer) → AllByRecursion IsOpen w.begun → Agrees (steps.append (shown w) number entries) (plain.append w number entries)
unfolding steps.append plain.append shown
append-agrees number entries w all =
    subst (λ o. Agrees (or_else NoFile o >>= here) (plain.append w number entries)) (sym (begun_alike number w)) (by_begun (plain.begun_at number w) refl)
  where
    grown_here : List Piece → Writing × Unit {0}
    grown_here known = (record (shown w) { begun = change_first (steps.has_number number) (steps.grown known) (map shown_begun w.begun) }, tt)

    grown_there : List (List ℕ) → Writer × Unit {0}
    grown_there pieces = (record w { begun = change_first (plain.has_number number) (plain.with_pieces pieces) w.begun }, tt)

    here : Open → Result (Writing × Unit {0}) Refusal
    here b = steps.pieces_for (pool_of w.pool) b.index entries >>= λ known. Ok (grown_here known)

    named : Begun → Result (List (List ℕ)) Refusal
    named b = pieces_named (λ digest. piece_with digest w.pool) (λ p. length p) (b.archive).layout 0 (length (content_of b.archive)) entries

    by_pieces : (b : Begun) → plain.begun_at number w ≡ Some b → IsOpen b → (fit : Result (Unit {0}) Refusal) (pieces : Result (List (List ℕ)) Refusal) → named b ≡ pieces
        → Agrees ((fit >>= λ _. (pieces >>= λ ps. Ok (map piece_of ps))) >>= λ known. Ok (grown_here known)) (fit >>= λ _. pieces >>= λ ps. Ok (grown_there ps))
    by_pieces b found is (Err r) pieces e = refl
    by_pieces b found is (Ok u) (Err r) e = refl
    by_pieces b found is (Ok u) (Ok ps) e =
        let fits = named_fits (λ digest. piece_with digest w.pool) (λ p. length p) (b.archive).layout 0 (length (content_of b.archive)) entries ps e in (
          ap (λ l. Ok (record (shown w) { begun = l }, tt))
              (sym (change_first-map shown_begun (steps.has_number number) (plain.with_pieces ps) (steps.grown (map piece_of ps)) (grows_alike ps) w.begun)),
          all_changed (plain.has_number number) (plain.with_pieces ps) w.begun b all found (still_open b ps is fits),
        )

    by_begun : (o : Option Begun) → plain.begun_at number w ≡ o
        → Agrees (or_else NoFile (option_map shown_begun o) >>= here)
        (or_else NoFile o >>= λ b. want_entries (length (b.archive).pieces) (length entries) >>= λ _. named b >>= λ ps. Ok (grown_there ps))
    by_begun None e = refl
    by_begun (Some b) e =
        let is = all_found (plain.has_number number) w.begun b all e in
        subst (λ r. Agrees (r >>= λ known. Ok (grown_here known)) (want_entries (length (b.archive).pieces) (length entries) >>= λ _. named b >>= λ ps. Ok (grown_there ps)))
        (sym (pieces_alike w b entries is))
        (by_pieces b e is (want_entries (length (b.archive).pieces) (length entries)) (named b) refl)

-- ---- CLOSE_INDEX

closes_alike : (b : Begun) (count size : ℕ) (csum : Digest32) → IsOpen b
    → steps.want_close (index_by (b.archive).layout b.archive) count size csum
    ≡ want_facts (b.archive).layout (length (b.archive).pieces) (length (content_of b.archive)) (csum_by (b.archive).layout b.archive) count size csum
closes_alike b count size csum is =
    let a = b.archive in
    let x = index_by a.layout a in
    ap₂ (λ n end. want_facts (layout_of x) n end (csum_of x) count size csum) (count_same a a.layout) (end_same a a.layout is.pieces)
    ∙ ap₂ (λ layout found. want_facts layout (length a.pieces) (length (content_of a)) found count size csum) (layout_same a a.layout) (csum_same a a.layout)

file_of : Begun → File
file_of b = record { name = b.name; content = archive b.archive }

fact_alike : (b : Begun) → steps.fact_of (shown_begun b) ≡ shown_file (file_of b)
unfolding file_of
fact_alike b =
    let a = b.archive in
    let fact : ℕ → Digest32 → FileFact = λ size csum. record { name = b.name; size = size; csum = csum } in
    ap₂ fact (archive_size a a.layout) (csum_same a a.layout)

text_alike : (b : Begun) → text_of (index_by (b.archive).layout b.archive) ≡ archive_text b.archive
unfolding archive_text
text_alike b = text_same b.archive (b.archive).layout

left_plainly : Writer → ℕ → Begun → Writer
left_plainly w number b = record w { begun = without_first (plain.has_number number) w.begun; files = insert_file (file_of b) w.files }

leaves_alike : (number : ℕ) (w : Writer) (b : Begun) → IsOpen b
    → record (shown w) { begun = without_first (steps.has_number number) (map shown_begun w.begun); files = steps.insert_fact (steps.fact_of (shown_begun b)) (map shown_file w.files) }
    ≡ shown (left_plainly w number b)
unfolding left_plainly file_of shown
leaves_alike number w b is =
    let made : List Open → List FileFact → Option (List ℕ) → Writing = λ begun files manifest. record (shown w) { begun = begun; files = files; manifest = manifest } in
    ap₂ (λ begun files. made begun files (manifest_text w.files)) (sym (without_first-map shown_begun (steps.has_number number) w.begun))
    (ap (λ f. steps.insert_fact f (map shown_file w.files)) (fact_alike b) ∙ sym (shown-insert (file_of b) w.files))
    ∙ ap (λ m. made (map shown_begun (without_first (plain.has_number number) w.begun)) (map shown_file (insert_file (file_of b) w.files)) m)
    (sym (manifest-other (file_of b) w.files (no_index (b.archive).layout b.archive b.name is.name)))

pub close_index-agrees : (number count size : ℕ) (csum : Digest32) (w : Writer) → AllByRecursion IsOpen w.begun
    → Agrees (steps.close_index (shown w) number count size csum) (plain.close_index w number count size csum)
unfolding steps.close_index plain.close_index left_plainly file_of shown
close_index-agrees number count size csum w all =
    subst (λ o. Agrees (or_else NoFile o >>= here) (plain.close_index w number count size csum)) (sym (begun_alike number w)) (by_begun (plain.begun_at number w) refl)
  where
    left_here : Open → Writing
    left_here b = record (shown w) { begun = without_first (steps.has_number number) (map shown_begun w.begun); files = steps.insert_fact (steps.fact_of b) (map shown_file w.files) }

    here : Open → Result (Writing × List ℕ) Refusal
    here b = steps.want_close b.index count size csum >>= λ _. Ok (left_here b, text_of b.index)

    by_facts : (b : Begun) → IsOpen b → (facts : Result (Unit {0}) Refusal)
        → Agrees (facts >>= λ _. Ok (left_here (shown_begun b), text_of (index_by (b.archive).layout b.archive))) (facts >>= λ _. Ok (left_plainly w number b, archive_text b.archive))
    by_facts b is (Err r) = refl
    by_facts b is (Ok u) =
        (ap₂ (λ v text. Ok (v, text)) (leaves_alike number w b is) (text_alike b), all_without (plain.has_number number) w.begun all)

    by_begun : (o : Option Begun) → plain.begun_at number w ≡ o
        → Agrees (or_else NoFile (option_map shown_begun o) >>= here)
        (or_else NoFile o >>= λ b. want_facts (b.archive).layout (length (b.archive).pieces) (length (content_of b.archive)) (csum_by (b.archive).layout b.archive) count size csum
        >>= λ _. Ok (left_plainly w number b, archive_text b.archive))
    by_begun None e = refl
    by_begun (Some b) e =
        let is = all_found (plain.has_number number) w.begun b all e in
        let facts = want_facts (b.archive).layout (length (b.archive).pieces) (length (content_of b.archive)) (csum_by (b.archive).layout b.archive) count size csum in
        subst (λ r. Agrees (r >>= λ _. Ok (left_here (shown_begun b), text_of (index_by (b.archive).layout b.archive))) (facts >>= λ _. Ok (left_plainly w number b, archive_text b.archive)))
        (sym (closes_alike b count size csum is)) (by_facts b is facts)

-- ---- BLOB

put_plainly : Writer → List ℕ → List ℕ → Writer
put_plainly w name contents = record w { files = insert_file (record { name = name; content = blob contents }) w.files }

puts_alike : (w : Writer) (name contents text : List ℕ) → text ≡ blobs.blob contents → is_free name w.files
    → record (shown w) { files = steps.insert_fact (steps.blob_fact name text) (map shown_file w.files); manifest = steps.manifest_with name text (manifest_text w.files) }
    ≡ shown (put_plainly w name contents)
unfolding put_plainly shown
puts_alike w name contents text is free =
    let made : List FileFact → Option (List ℕ) → Writing = λ files manifest. record (shown w) { files = files; manifest = manifest } in
    ap₂ made
    (ap (λ t. steps.insert_fact (steps.blob_fact name t) (map shown_file w.files)) is ∙ sym (shown-insert (record { name = name; content = blob contents }) w.files))
    (manifest-blob name contents text w.files is free)

free_of : (name : List ℕ) (w : Writer) (u : Unit {0}) → uploads.want_room name w ≡ Ok u → is_free name w.files
free_of name w u is = by_files (list_any (λ f. bytes_eq f.name name) w.files) refl is
  where
    by_files : (b : Bool) → list_any (λ f. bytes_eq f.name name) w.files ≡ b
        → (unless Exists (not (b || list_any (λ x. bytes_eq x.name name) w.begun)) >>= λ _. unless (TooMany 64) (nat_lt (length w.files + length w.begun) 64)) ≡ Ok u
        → b ≡ false
    by_files true e room = cc
    by_files false e room = refl

pub blob-agrees : (name contents text : List ℕ) → text ≡ blobs.blob contents → (w : Writer) → AllByRecursion IsOpen w.begun
    → Agrees (steps.blob (shown w) name text) (plain.put_data w name contents)
unfolding steps.blob plain.put_data put_plainly shown
blob-agrees name contents text is w all =
    subst (λ room. Agrees ((unless BadName (is_blob_name name) >>= λ _. room) >>= λ _. Ok here) (plain.put_data w name contents)) (sym (room_same name w))
    (by_name (is_blob_name name) (uploads.want_room name w) (λ u e. free_of name w u e))
  where
    here : Writing × Unit {0}
    here = (record (shown w) { files = steps.insert_fact (steps.blob_fact name text) (map shown_file w.files); manifest = steps.manifest_with name text (manifest_text w.files) }, tt)

    by_name : (b : Bool) (room : Result (Unit {0}) Refusal) → ((u : Unit {0}) → room ≡ Ok u → is_free name w.files)
        → Agrees ((unless BadName b >>= λ _. room) >>= λ _. Ok here) (unless BadName b >>= λ _. room >>= λ _. Ok (put_plainly w name contents, tt))
    by_name false room free = refl
    by_name true (Err r) free = refl
    by_name true (Ok u) free = (ap (λ v. Ok (v, tt)) (puts_alike w name contents text is (free u refl)), all)

-- whether a blob of the name may be taken
pub takes-agrees : (name : List ℕ) (w : Writer) → steps.want_blob name (shown w) ≡ takes_blob name w
unfolding shown takes_blob
takes-agrees name w = ap (λ room. unless BadName (is_blob_name name) >>= λ _. room) (room_same name w)

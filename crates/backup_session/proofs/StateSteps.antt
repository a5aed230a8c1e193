-- The steps of a session, where their tests answer so.
use Rattle.std.proofs.Common.{◌≡◌, ℕ, ◌+◌, ◌≤◌, ◌<◌, Bool, true, false, ◌||◌, List, [], ◌∷◌, length, get_or, Some, None, Ok, Err, refl, sym, ap, ap₂, subst, ◌∙◌, arith}
use Rattle.std.specs.Prelude.{◌==◌, Option, Result, MatchResult, IfOk, nat_lt, nat_le, not}
use Rattle.std.specs.Option.{option_map}
use Rattle.std.specs.List.{find, list_any, AllByRecursion}
use Rattle.std.specs.Str.{bytes_eq}
use Rattle.std.proofs.lemmas.Bool.{leb-true, ltb-true, eqb-true}
use Rattle.std.proofs.lemmas.List.{length-map}
use Rattle.store_types.specs.declared.names.Digest32.{Digest32}
use Rattle.store_types.specs.declared.piece.Piece.{Piece}
use Rattle.store_stops.specs.Outcomes.{IfAnswered}
use Rattle.store_types.specs.declared.refusal.Refusal.{Refusal}
use Rattle.store_types.specs.declared.refusal.Refusal.TheVariants.{BadName, NoFile, Exists, WrongSize, TooMany}
use Rattle.store_types.specs.FileNames.{is_fixed_name, is_dynamic_name}
use Rattle.store_types.specs.Chain.Refusing.{◌>>=◌, unless, or_else}
use Rattle.store_files.specs.Archive.{Layout, fixed}
use Rattle.store_files.specs.Cells.{entry_limit}
use Rattle.store_files.specs.FixedIndex.{is_chunk_size, piece_count, piece_len}
use Rattle.store_model.specs.Archives.{want_sizes, want_entries, pieces_named, change_first, without_first, free_number}
use Rattle.manifest.specs.declared.facts.FileFact.{FileFact}
use Rattle.fixed_index.specs.Writing.{FitsSizes, FitsFrom}
use Rattle.fixed_index.specs.Writing.{end_of as fixed_end_of}
use Rattle.backup_session.specs.declared.index.OpenIndex.{OpenIndex}
use Rattle.backup_session.specs.declared.index.OpenIndex.TheVariants.{Dynamic, Fixed}
use Rattle.backup_session.specs.declared.state.Begun.{Begun}
use Rattle.backup_session.specs.Indexes.{layout_of, count_of, end_of, text_of, FitsPieces}
use Rattle.backup_session.specs.Session.{Pool, length_at, Open, Writing}
use Rattle.backup_session.specs.Steps as steps
use Rattle.backup_session.specs.Kept.{open_of, opens_of, HasLengths}
use Rattle.backup_session.proofs.Naming.{FitsAt, named_found, named_fits}
use Rattle.backup_session.proofs.Numbers.{name_open}
use Rattle.backup_session.proofs.Pools.{piece_at}
use Rattle.backup_session.proofs.Places.{First, first_found, find-map}

-- ---- room

pub room_is : (name : List ℕ) (files : List FileFact) (begun : List Begun) → steps.want_room name files (opens_of begun)
    ≡ (unless Exists (not (list_any (λ f. bytes_eq f.name name) files || list_any (λ b. bytes_eq b.name name) begun)) >>= λ _. unless (TooMany 64) (nat_lt (length files + length begun) 64))
room_is name files begun =
    ap₂ (λ t n. unless Exists (not (list_any (λ f. bytes_eq f.name name) files || t)) >>= λ _. unless (TooMany 64) (nat_lt (length files + n) 64))
    (name_open name begun) (length-map begun open_of)

pub room_by : (name : List ℕ) (files : List FileFact) (begun : List Begun) (there room : Bool)
    → (list_any (λ f. bytes_eq f.name name) files || list_any (λ b. bytes_eq b.name name) begun) ≡ there → nat_lt (length files + length begun) 64 ≡ room
    → steps.want_room name files (opens_of begun) ≡ (unless Exists (not there) >>= λ _. unless (TooMany 64) room)
room_by name files begun there room e f = room_is name files begun ∙ ap₂ (λ t r. unless Exists (not t) >>= λ _. unless (TooMany 64) r) e f

-- ---- the open index of a number

pub no_number : (number : ℕ) (begun : List Begun) → find (λ b. b.number == number) begun ≡ None → find (steps.has_number number) (opens_of begun) ≡ None
no_number number begun none = find-map open_of (steps.has_number number) begun ∙ ap (option_map open_of) none

pub number_at : (number : ℕ) (begun : List Begun) (place : ℕ) (b : Begun) → First (λ x. x.number == number) begun place → get_or begun place b ≡ b
    → find (steps.has_number number) (opens_of begun) ≡ Some (open_of b)
number_at number begun place b first is =
    find-map open_of (steps.has_number number) begun ∙ ap (option_map open_of) (first_found b first) ∙ ap (λ x. Some (open_of x)) is

-- ---- APPEND

pub append_by : (w : Writing) (number : ℕ) (es : List (Digest32 × ℕ)) (o : Option Open) → find (steps.has_number number) w.begun ≡ o
    → steps.append w number es ≡ (or_else NoFile o >>= λ b. steps.pieces_for w.pool b.index es >>= λ known. Ok (record w { begun = change_first (steps.has_number number) (steps.grown known) w.begun }, tt))
unfolding steps.append
append_by w number es o e =
    ap (λ x. or_else NoFile x >>= λ b. steps.pieces_for w.pool b.index es >>= λ known. Ok (record w { begun = change_first (steps.has_number number) (steps.grown known) w.begun }, tt)) e

pub append_refused : (w : Writing) (number : ℕ) (es : List (Digest32 × ℕ)) (b : Open) (r : Refusal) → find (steps.has_number number) w.begun ≡ Some b
    → steps.pieces_for w.pool b.index es ≡ Err r → steps.append w number es ≡ Err r
append_refused w number es b r e f =
    append_by w number es (Some b) e ∙ ap (λ x. x >>= λ known. Ok (record w { begun = change_first (steps.has_number number) (steps.grown known) w.begun }, tt)) f

pub append_done : (w : Writing) (number : ℕ) (es : List (Digest32 × ℕ)) (b : Open) (known : List Piece) → find (steps.has_number number) w.begun ≡ Some b
    → steps.pieces_for w.pool b.index es ≡ Ok known
    → steps.append w number es ≡ Ok (record w { begun = change_first (steps.has_number number) (steps.grown known) w.begun }, tt)
append_done w number es b known e f =
    append_by w number es (Some b) e ∙ ap (λ x. x >>= λ ks. Ok (record w { begun = change_first (steps.has_number number) (steps.grown ks) w.begun }, tt)) f

pub for_refused : (pool : Pool) (x : OpenIndex) (es : List (Digest32 × ℕ)) (r : Refusal) → want_entries (count_of x) (length es) ≡ Err r → steps.pieces_for pool x es ≡ Err r
unfolding steps.pieces_for
for_refused pool x es r e = ap (λ t. t >>= λ _. pieces_named (steps.known_in pool) (λ p. p.length) (layout_of x) 0 (end_of x) es) e

pub for_passed : (pool : Pool) (x : OpenIndex) (es : List (Digest32 × ℕ)) (u : Unit {0}) (layout : Layout) (start : ℕ) → want_entries (count_of x) (length es) ≡ Ok u
    → layout ≡ layout_of x → start ≡ end_of x → pieces_named (steps.known_in pool) (λ p. p.length) layout 0 start es ≡ steps.pieces_for pool x es
unfolding steps.pieces_for
for_passed pool x es u layout start e cut at =
    ap₂ (λ l n. pieces_named (steps.known_in pool) (λ p. p.length) l 0 n es) cut at
    ∙ sym (ap (λ t. t >>= λ _. pieces_named (steps.known_in pool) (λ p. p.length) (layout_of x) 0 (end_of x) es) e)

pub entries_room : (pieces es : ℕ) (u : Unit {0}) → want_entries pieces es ≡ Ok u → pieces + es ≤ entry_limit
entries_room pieces es u is = by_tests (nat_le es 4096) (nat_le (pieces + es) entry_limit) refl is
  where
    by_tests : (a b : Bool) → nat_le (pieces + es) entry_limit ≡ b → (unless (TooMany 4096) a >>= λ _. unless (TooMany entry_limit) b) ≡ Ok u → pieces + es ≤ entry_limit
    by_tests false b e go = cc
    by_tests true false e go = cc
    by_tests true true e go = leb-true (pieces + es) entry_limit e

-- pieces that a fixed archive takes
abbrev IsLong : Piece → Type 0
IsLong p = (1 ≤ p.length) × (p.length ≤ 16_777_216)

fits_fixed : (size cut end : ℕ) (ps : List Piece) → FitsAt (λ p. p.length) (fixed size cut) end ps → AllByRecursion IsLong ps → FitsFrom size cut end ps
fits_fixed size cut end [] fits all = tt
fits_fixed size cut end (p ∷ ps) fits all =
    let exact : p.length ≡ piece_len size cut end = eqb-true p.length (piece_len size cut end) fits.0 in
    let some : 1 ≤ p.length = (all.0).0 in (
      omega (arith, exact, some),
      exact,
      fits_fixed size cut (end + p.length) ps fits.1 all.1,
    )

fits_index : (x : OpenIndex) (ps : List Piece) → count_of x + length ps ≤ entry_limit → FitsAt (λ p. p.length) (layout_of x) (end_of x) ps → AllByRecursion IsLong ps → FitsPieces x ps
fits_index (Dynamic x) ps room fits all = record { room = room; lengths = all }
fits_index (Fixed x) ps room fits all = fits_fixed x.size x.chunk_size (fixed_end_of x) ps fits all

pub fits_told : {V : Type 0} (items : V → List Piece) (pool : Pool) (x : OpenIndex) (es : List (Digest32 × ℕ)) (layout : Layout) (start : ℕ) → HasLengths pool
    → count_of x + length es ≤ entry_limit → layout ≡ layout_of x → start ≡ end_of x → (result : Result V Refusal)
    → IfAnswered result (λ told. MatchResult told (λ v. pieces_named (steps.known_in pool) (λ p. p.length) layout 0 start es ≡ Ok (items v)) (λ r. pieces_named (steps.known_in pool) (λ p. p.length) layout 0 start es ≡ Err r))
    → IfOk result (λ v. FitsPieces x (items v))
fits_told items pool x es layout start has room cut at (Err e) is = tt
fits_told items pool x es layout start has room cut at (Ok v) is =
    let found = named_found (steps.known_in pool) (λ p. p.length) layout IsLong in_range 0 start es (items v) is in
    let fits = named_fits (steps.known_in pool) (λ p. p.length) layout 0 start es (items v) is in
    let there : FitsAt (λ p. p.length) (layout_of x) (end_of x) (items v) =
    subst (λ l. FitsAt (λ p. p.length) l (end_of x) (items v)) cut (subst (λ n. FitsAt (λ p. p.length) layout n (items v)) at fits) in
    fits_index x (items v) (omega (arith, room, found.0)) there found.1
  where
    by_length : (d : Digest32) (p : Piece) (o : Option ℕ) → length_at pool d.0 ≡ o → option_map (piece_at d) o ≡ Some p → IsLong p
    by_length d p None e f = cc
    by_length d p (Some n) e f =
        let same : piece_at d n ≡ p = cc in
        subst IsLong same (has d.0 n e)

    in_range : (d : Digest32) (p : Piece) → steps.known_in pool d ≡ Some p → IsLong p
    in_range d p f = by_length d p (length_at pool d.0) refl f

-- ---- CLOSE_INDEX

left : Writing → ℕ → Open → Writing
left w number b = record w { begun = without_first (steps.has_number number) w.begun; files = steps.insert_fact (steps.fact_of b) w.files }

close_by : (w : Writing) (number count size : ℕ) (csum : Digest32) (o : Option Open) → find (steps.has_number number) w.begun ≡ o
    → steps.close_index w number count size csum ≡ (or_else NoFile o >>= λ b. steps.want_close b.index count size csum >>= λ _. Ok (left w number b, text_of b.index))
unfolding steps.close_index left
close_by w number count size csum o e =
    ap (λ x. or_else NoFile x >>= λ b. steps.want_close b.index count size csum >>= λ _. Ok (left w number b, text_of b.index)) e

pub close_none : (w : Writing) (number count size : ℕ) (csum : Digest32) → find (steps.has_number number) w.begun ≡ None → steps.close_index w number count size csum ≡ Err NoFile
close_none w number count size csum e = close_by w number count size csum None e

pub close_refused : (w : Writing) (number count size : ℕ) (csum : Digest32) (b : Open) (r : Refusal) → find (steps.has_number number) w.begun ≡ Some b
    → steps.want_close b.index count size csum ≡ Err r → steps.close_index w number count size csum ≡ Err r
close_refused w number count size csum b r e f =
    close_by w number count size csum (Some b) e ∙ ap (λ x. x >>= λ _. Ok (left w number b, text_of b.index)) f

pub close_done : (w : Writing) (number count size : ℕ) (csum : Digest32) (b : Open) → find (steps.has_number number) w.begun ≡ Some b
    → steps.want_close b.index count size csum ≡ Ok tt
    → steps.close_index w number count size csum
    ≡ Ok (record w { begun = without_first (steps.has_number number) w.begun; files = steps.insert_fact (steps.fact_of b) w.files }, text_of b.index)
unfolding left
close_done w number count size csum b e f =
    close_by w number count size csum (Some b) e ∙ ap (λ x. x >>= λ _. Ok (left w number b, text_of b.index)) f

-- ---- NEW_FIXED, NEW_DYNAMIC and BLOB

module _ (w : Writing) (name : List ℕ) (size cut moment : ℕ) where
  pub fixed_refused : (r : Refusal) → steps.want_fixed name size cut w ≡ Err r → steps.new_fixed w name size cut moment ≡ Err r
  unfolding steps.new_fixed
  fixed_refused r e = ap (λ x. x >>= λ _. Ok (steps.begin_fixed w name size cut moment, free_number (steps.numbers w.begun))) e

  pub fixed_done : (u : Unit {0}) → steps.want_fixed name size cut w ≡ Ok u
      → steps.new_fixed w name size cut moment ≡ Ok (steps.begin_fixed w name size cut moment, free_number (steps.numbers w.begun))
  unfolding steps.new_fixed
  fixed_done u e = ap (λ x. x >>= λ _. Ok (steps.begin_fixed w name size cut moment, free_number (steps.numbers w.begun))) e

pub sizes_fit : (size cut : ℕ) (u : Unit {0}) → want_sizes size cut ≡ Ok u → FitsSizes size cut
sizes_fit size cut u is = by_tests (is_chunk_size cut) (nat_le (piece_count size cut) entry_limit) refl refl is
  where
    by_tests : (a b : Bool) → is_chunk_size cut ≡ a → nat_le (piece_count size cut) entry_limit ≡ b → (unless (WrongSize 0 cut) a >>= λ _. unless (TooMany entry_limit) b) ≡ Ok u → FitsSizes size cut
    by_tests false b e f go = cc
    by_tests true false e f go = cc
    by_tests true true e f go = record { chunk_size = e; limit = leb-true (piece_count size cut) entry_limit f }

pub fixed_passed : (w : Writing) (name : List ℕ) (size cut : ℕ) (u : Unit {0}) → steps.want_fixed name size cut w ≡ Ok u → (length w.begun < 16) × FitsSizes size cut
fixed_passed w name size cut u is =
    by_tests (unless BadName (is_fixed_name name)) (steps.want_room name w.files w.begun) (nat_lt (length w.begun) 16) (want_sizes size cut) refl refl is
  where
    by_tests : (a b : Result (Unit {0}) Refusal) (d : Bool) (f : Result (Unit {0}) Refusal) → nat_lt (length w.begun) 16 ≡ d → want_sizes size cut ≡ f
        → (a >>= λ _. b >>= λ _. unless (TooMany 16) d >>= λ _. f) ≡ Ok u → (length w.begun < 16) × FitsSizes size cut
    by_tests (Err r) b d f e g go = cc
    by_tests (Ok x) (Err r) d f e g go = cc
    by_tests (Ok x) (Ok y) false f e g go = cc
    by_tests (Ok x) (Ok y) true (Err r) e g go = cc
    by_tests (Ok x) (Ok y) true (Ok v) e g go = (ltb-true (length w.begun) 16 e, sizes_fit size cut v g)

pub new_refused : (w : Writing) (name : List ℕ) (moment : ℕ) (r : Refusal) → steps.want_dynamic name w ≡ Err r → steps.new_dynamic w name moment ≡ Err r
unfolding steps.new_dynamic
new_refused w name moment r e = ap (λ x. x >>= λ _. Ok (steps.begin_dynamic w name moment, free_number (steps.numbers w.begun))) e

pub new_done : (w : Writing) (name : List ℕ) (moment : ℕ) (u : Unit {0}) → steps.want_dynamic name w ≡ Ok u
    → steps.new_dynamic w name moment ≡ Ok (steps.begin_dynamic w name moment, free_number (steps.numbers w.begun))
unfolding steps.new_dynamic
new_done w name moment u e = ap (λ x. x >>= λ _. Ok (steps.begin_dynamic w name moment, free_number (steps.numbers w.begun))) e

pub number_left : (w : Writing) (name : List ℕ) (u : Unit {0}) → steps.want_dynamic name w ≡ Ok u → length w.begun < 16
number_left w name u is = by_tests (unless BadName (is_dynamic_name name)) (steps.want_room name w.files w.begun) (nat_lt (length w.begun) 16) refl is
  where
    by_tests : (a b : Result (Unit {0}) Refusal) (d : Bool) → nat_lt (length w.begun) 16 ≡ d → (a >>= λ _. b >>= λ _. unless (TooMany 16) d) ≡ Ok u → length w.begun < 16
    by_tests (Err r) b d e go = cc
    by_tests (Ok x) (Err r) d e go = cc
    by_tests (Ok x) (Ok y) false e go = cc
    by_tests (Ok x) (Ok y) true e go = ltb-true (length w.begun) 16 e

pub blob_refused : (w : Writing) (name text : List ℕ) (r : Refusal) → steps.want_blob name w ≡ Err r → steps.blob w name text ≡ Err r
unfolding steps.blob
blob_refused w name text r e =
    ap (λ x. x >>= λ _. Ok (record w { files = steps.insert_fact (steps.blob_fact name text) w.files; manifest = steps.manifest_with name text w.manifest }, tt)) e

pub blob_done : (w : Writing) (name text : List ℕ) (u : Unit {0}) → steps.want_blob name w ≡ Ok u
    → steps.blob w name text ≡ Ok (record w { files = steps.insert_fact (steps.blob_fact name text) w.files; manifest = steps.manifest_with name text w.manifest }, tt)
unfolding steps.blob
blob_done w name text u e =
    ap (λ x. x >>= λ _. Ok (record w { files = steps.insert_fact (steps.blob_fact name text) w.files; manifest = steps.manifest_with name text w.manifest }, tt)) e

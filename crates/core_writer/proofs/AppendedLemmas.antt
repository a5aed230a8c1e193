-- A writer that has appended pieces to an open archive is sound, and its files are there.
use Rattle.std.proofs.Common.{◌≡◌, ℕ, ◌+◌, ◌≤◌, Bool, true, false, not, ◌||◌, ◌&&◌, cond, length, Option, Some, None, List, [], ◌∷◌, Result, Ok, Err, nat_le, ◌==◌, refl, sym, ap, ap₂, subst, ◌∙◌, arith}
use Rattle.std.proofs.lemmas.Bool.{and_from, leb-true}
use Rattle.std.proofs.lemmas.List.{length-append}
use Rattle.std.proofs.lemmas.List.Elements.{All-nil, All-cons, All-head, All-tail, All-append, All-contains, All-from_recursion, recursion_from_All, Contains-append_right}
use Rattle.std.specs.List.{All, Contains, list_any, find}
use Rattle.std.specs.Str.{bytes_eq}
use Rattle.sha2.specs.Sha256.{sha256}
use Rattle.disk_trait.specs.Files.{Files}
use Rattle.store_types.specs.declared.names.Digest32.{Digest32}
use Rattle.store_types.specs.declared.refusal.Refusal.{Refusal}
use Rattle.store_types.specs.declared.refusal.Refusal.TheVariants.{NoFile, TooMany, WrongSize, UnknownChunk, BadOffset}
use Rattle.store_types.specs.Chain.Refusing.{◌>>=◌, unless, or_else}
use Rattle.store_files.specs.Cells.{entry_limit}
use Rattle.store_files.specs.Archive.{Layout, content_of, piece_with}
use Rattle.store_model.specs.Store.{Begun, Store, Writer}
use Rattle.store_model.specs.Archives.{change_first, want_entries, fits_layout, piece_named, pieces_named}
use Rattle.store_model.specs.WriterCalls as calls
use Rattle.backup_session.specs.Shown.{fits_from}
use Rattle.core_state.specs.Holds.{IsBegun, has_named, names_differ, IsWriter, HasUploads}
use Rattle.core_writer.proofs.FixedPieces.{fits_more}

-- ---- the first that passes a test

module _ {A : Type 0} where
  some_same : (x y : A) → Some x ≡ Some y → x ≡ y
  some_same x y e = cc

  found_in : (test : A → Bool) (xs : List A) (b : A) → find test xs ≡ Some b → Contains xs b
  found_in test [] b e = cc
  found_in test (x ∷ xs) b e = by_test (test x) e (λ later. found_in test xs b later)
    where
      by_test : (t : Bool) → cond t (Some x) (find test xs) ≡ Some b → (find test xs ≡ Some b → Contains xs b) → Contains (x ∷ xs) b
      by_test true e go = (0, omega arith, some_same x b e)
      by_test false e go = Contains-append_right (x ∷ []) xs b (go e)

  all_changed : (P : A → Type 0) (test : A → Bool) (change : A → A) (xs : List A) (b : A) → find test xs ≡ Some b → P (change b) → All P xs → All P (change_first test change xs)
  all_changed P test change [] b e is all = all
  all_changed P test change (x ∷ xs) b e is all = by_test (test x) e (λ later. all_changed P test change xs b later is (All-tail P x xs all))
    where
      by_test : (t : Bool) → cond t (Some x) (find test xs) ≡ Some b → (find test xs ≡ Some b → All P (change_first test change xs)) → All P (cond t (change x ∷ xs) (x ∷ change_first test change xs))
      by_test true e go = All-cons P (change x) xs (subst (λ y. P (change y)) (sym (some_same x b e)) is) (All-tail P x xs all)
      by_test false e go = All-cons P x (change_first test change xs) (All-head P x xs all) (go e)

-- ---- the open archives keep their names

module _ (test : Begun → Bool) (pieces : List (List ℕ)) where
  abbrev grown : List Begun → List Begun
  grown bs = change_first test (calls.with_pieces pieces) bs

  length-grown : (bs : List Begun) → length (grown bs) ≡ length bs
  length-grown [] = refl
  length-grown (b ∷ bs) = by_test (test b) (length-grown bs)
    where
      by_test : (t : Bool) → length (grown bs) ≡ length bs → length (cond t (calls.with_pieces pieces b ∷ bs) (b ∷ grown bs)) ≡ length (b ∷ bs)
      by_test true rest = omega arith
      by_test false rest = omega (arith, rest)

  named-grown : (q : List ℕ) (bs : List Begun) → list_any (λ c. bytes_eq c.name q) (grown bs) ≡ list_any (λ c. bytes_eq c.name q) bs
  named-grown q [] = refl
  named-grown q (b ∷ bs) = by_test (test b) (named-grown q bs)
    where
      by_test : (t : Bool) → list_any (λ c. bytes_eq c.name q) (grown bs) ≡ list_any (λ c. bytes_eq c.name q) bs
          → list_any (λ c. bytes_eq c.name q) (cond t (calls.with_pieces pieces b ∷ bs) (b ∷ grown bs)) ≡ list_any (λ c. bytes_eq c.name q) (b ∷ bs)
      by_test true rest = refl
      by_test false rest = ap (λ t. bytes_eq b.name q || t) rest

  differ-grown : (bs : List Begun) → names_differ (grown bs) ≡ names_differ bs
  differ-grown [] = refl
  differ-grown (b ∷ bs) = by_test (test b) (named-grown b.name bs) (differ-grown bs)
    where
      by_test : (t : Bool) → list_any (λ c. bytes_eq c.name b.name) (grown bs) ≡ list_any (λ c. bytes_eq c.name b.name) bs → names_differ (grown bs) ≡ names_differ bs
          → names_differ (cond t (calls.with_pieces pieces b ∷ bs) (b ∷ grown bs)) ≡ names_differ (b ∷ bs)
      by_test true named rest = refl
      by_test false named rest = ap₂ (λ x y. not x && y) named rest

-- ---- the pieces that are named

piece_in : (pool : List (List ℕ)) (layout : Layout) (place end : ℕ) (entry : Digest32 × ℕ) (p : List ℕ)
    → piece_named (λ digest. piece_with digest pool) (λ p. length p) layout place end entry ≡ Ok p → Contains pool p
unfolding piece_named
piece_in pool layout place end entry p is = by_found (piece_with entry.0 pool) refl is
  where
    ok_same : (x y : List ℕ) → ◌≡◌ {A = Result (List ℕ) Refusal} (Ok x) (Ok y) → x ≡ y
    ok_same x y e = cc

    by_tests : (q : List ℕ) (a b : Bool) → Contains pool q → (unless (BadOffset place end) a >>= λ _. unless (WrongSize place (length q)) b >>= λ _. Ok q) ≡ Ok p → Contains pool p
    by_tests q false b c e = cc
    by_tests q true false c e = cc
    by_tests q true true c e = subst (Contains pool) (ok_same q p e) c

    by_found : (o : Option (List ℕ)) → piece_with entry.0 pool ≡ o
        → (or_else (UnknownChunk place) o >>= λ q. unless (BadOffset place end) (entry.1 == end) >>= λ _. unless (WrongSize place (length q)) (fits_layout layout end (length q)) >>= λ _. Ok q) ≡ Ok p
        → Contains pool p
    by_found None f e = cc
    by_found (Some q) f e = by_tests q (entry.1 == end) (fits_layout layout end (length q)) (found_in (λ x. bytes_eq (sha256 x) (entry.0).0) pool q f) e

fits_in : (pool : List (List ℕ)) (layout : Layout) (place end : ℕ) (entry : Digest32 × ℕ) (p : List ℕ)
    → piece_named (λ digest. piece_with digest pool) (λ p. length p) layout place end entry ≡ Ok p → fits_layout layout end (length p) ≡ true
unfolding piece_named
fits_in pool layout place end entry p is = by_found (piece_with entry.0 pool) is
  where
    ok_same : (x y : List ℕ) → ◌≡◌ {A = Result (List ℕ) Refusal} (Ok x) (Ok y) → x ≡ y
    ok_same x y e = cc

    by_tests : (q : List ℕ) (a b : Bool) → fits_layout layout end (length q) ≡ b → (unless (BadOffset place end) a >>= λ _. unless (WrongSize place (length q)) b >>= λ _. Ok q) ≡ Ok p → fits_layout layout end (length p) ≡ true
    by_tests q false b f e = cc
    by_tests q true false f e = cc
    by_tests q true true f e = ap (λ (x : List ℕ). fits_layout layout end (length x)) (sym (ok_same q p e)) ∙ f

    by_found : (o : Option (List ℕ))
        → (or_else (UnknownChunk place) o >>= λ q. unless (BadOffset place end) (entry.1 == end) >>= λ _. unless (WrongSize place (length q)) (fits_layout layout end (length q)) >>= λ _. Ok q) ≡ Ok p
        → fits_layout layout end (length p) ≡ true
    by_found None e = cc
    by_found (Some q) e = by_tests q (entry.1 == end) (fits_layout layout end (length q)) refl e

-- from the end reached so far on, each has a length that the layout takes
fit_in : (pool : List (List ℕ)) (layout : Layout) (place end : ℕ) (entries : List (Digest32 × ℕ)) (ps : List (List ℕ))
    → pieces_named (λ digest. piece_with digest pool) (λ p. length p) layout place end entries ≡ Ok ps → fits_from layout end ps ≡ true
unfolding pieces_named
fit_in pool layout place end [] ps is = let same : [] ≡ ps = cc in subst (λ (l : List (List ℕ)). fits_from layout end l ≡ true) same refl
fit_in pool layout place end (entry ∷ entries) ps is =
    by_piece (piece_named (λ digest. piece_with digest pool) (λ p. length p) layout place end entry) refl is (λ n qs. fit_in pool layout (place + 1) n entries qs)
  where
    by_rest : (p : List ℕ) (r : Result (List (List ℕ)) Refusal) → fits_layout layout end (length p) ≡ true → ((qs : List (List ℕ)) → r ≡ Ok qs → fits_from layout (end + length p) qs ≡ true)
        → (r >>= λ others. Ok (p ∷ others)) ≡ Ok ps → fits_from layout end ps ≡ true
    by_rest p (Err e) f rest is = cc
    by_rest p (Ok qs) f rest is =
        let same : p ∷ qs ≡ ps = cc in
        subst (λ (l : List (List ℕ)). fits_from layout end l ≡ true) same (and_from (fits_layout layout end (length p)) (fits_from layout (end + length p) qs) f (rest qs refl))

    by_piece : (r : Result (List ℕ) Refusal) → piece_named (λ digest. piece_with digest pool) (λ p. length p) layout place end entry ≡ r
        → (r >>= λ p. pieces_named (λ digest. piece_with digest pool) (λ p. length p) layout (place + 1) (end + length p) entries >>= λ others. Ok (p ∷ others)) ≡ Ok ps
        → ((n : ℕ) (qs : List (List ℕ)) → pieces_named (λ digest. piece_with digest pool) (λ p. length p) layout (place + 1) n entries ≡ Ok qs → fits_from layout n qs ≡ true)
        → fits_from layout end ps ≡ true
    by_piece (Err e) f is rest = cc
    by_piece (Ok p) f is rest =
        by_rest p (pieces_named (λ digest. piece_with digest pool) (λ p. length p) layout (place + 1) (end + length p) entries) (fits_in pool layout place end entry p f) (rest (end + length p)) is

-- they are in the pool, and there is one for each entry
pieces_in : (pool : List (List ℕ)) (layout : Layout) (place end : ℕ) (entries : List (Digest32 × ℕ)) (ps : List (List ℕ))
    → pieces_named (λ digest. piece_with digest pool) (λ p. length p) layout place end entries ≡ Ok ps → All (Contains pool) ps × (length ps ≡ length entries)
unfolding pieces_named
pieces_in pool layout place end [] ps is =
    let same : [] ≡ ps = cc in
    (subst (All (Contains pool)) same (All-nil (Contains pool)), ap (λ (l : List (List ℕ)). length l) (sym same))
pieces_in pool layout place end (entry ∷ entries) ps is =
    by_piece (piece_named (λ digest. piece_with digest pool) (λ p. length p) layout place end entry) refl is (λ n qs. pieces_in pool layout (place + 1) n entries qs)
  where
    by_rest : (p : List ℕ) (r : Result (List (List ℕ)) Refusal) → Contains pool p → ((qs : List (List ℕ)) → r ≡ Ok qs → All (Contains pool) qs × (length qs ≡ length entries))
        → (r >>= λ others. Ok (p ∷ others)) ≡ Ok ps → All (Contains pool) ps × (length ps ≡ length (entry ∷ entries))
    by_rest p (Err e) c rest is = cc
    by_rest p (Ok qs) c rest is =
        let same : p ∷ qs ≡ ps = cc in
        let others = rest qs refl in
        (subst (All (Contains pool)) same (All-cons (Contains pool) p qs c others.0), omega (arith, ap (λ (l : List (List ℕ)). length l) same, others.1))

    by_piece : (r : Result (List ℕ) Refusal) → piece_named (λ digest. piece_with digest pool) (λ p. length p) layout place end entry ≡ r
        → (r >>= λ p. pieces_named (λ digest. piece_with digest pool) (λ p. length p) layout (place + 1) (end + length p) entries >>= λ others. Ok (p ∷ others)) ≡ Ok ps
        → ((n : ℕ) (qs : List (List ℕ)) → pieces_named (λ digest. piece_with digest pool) (λ p. length p) layout (place + 1) n entries ≡ Ok qs → All (Contains pool) qs × (length qs ≡ length entries))
        → All (Contains pool) ps × (length ps ≡ length (entry ∷ entries))
    by_piece (Err e) f is rest = cc
    by_piece (Ok p) f is rest =
        by_rest p (pieces_named (λ digest. piece_with digest pool) (λ p. length p) layout (place + 1) (end + length p) entries) (piece_in pool layout place end entry p f) (rest (end + length p)) is

-- ---- what APPEND gives

-- an open archive has these pieces of the pool behind its own
pub record HasGrown (number : ℕ) (w v : Writer) : Type 0 where
  pub archive : Begun
  pub pieces : List (List ℕ)
  pub found : calls.begun_at number w ≡ Some archive
  pub room : length (archive.archive).pieces + length pieces ≤ entry_limit
  pub sent : All (Contains w.pool) pieces
  pub fits : fits_from ((archive.archive).layout) (length (content_of archive.archive)) pieces ≡ true
  pub same : v ≡ record w { begun = change_first (calls.has_number number) (calls.with_pieces pieces) w.begun }

module _ (number : ℕ) (entries : List (Digest32 × ℕ)) (w v : Writer) where
  abbrev named_by : Begun → Result (List (List ℕ)) Refusal
  named_by b = pieces_named (λ digest. piece_with digest w.pool) (λ p. length p) (b.archive).layout 0 (length (content_of b.archive)) entries

  abbrev left : List (List ℕ) → Result (Writer × Unit {0}) Refusal
  left pieces = Ok (record w { begun = change_first (calls.has_number number) (calls.with_pieces pieces) w.begun }, tt)

  left_same : (x y : Writer) → ◌≡◌ {A = Result (Writer × Unit {0}) Refusal} (Ok (x, tt)) (Ok (y, tt)) → y ≡ x
  left_same x y e = let pairs : ◌≡◌ {A = Writer × Unit {0}} (x, tt) (y, tt) = cc in ap (λ p. p.0) (sym pairs)

  by_pieces : (b : Begun) (r : Result (List (List ℕ)) Refusal) → calls.begun_at number w ≡ Some b → length (b.archive).pieces + length entries ≤ entry_limit → named_by b ≡ r
      → (r >>= λ pieces. left pieces) ≡ Ok (v, tt) → HasGrown number w v
  by_pieces b (Err e) at room f is = cc
  by_pieces b (Ok pieces) at room f is =
      let named = pieces_in w.pool (b.archive).layout 0 (length (content_of b.archive)) entries pieces f in
      record {
        archive = b;
        pieces = pieces;
        found = at;
        room = omega (arith, room, named.1);
        sent = named.0;
        fits = fit_in w.pool (b.archive).layout 0 (length (content_of b.archive)) entries pieces f;
        same = left_same _ v is;
      }

  by_room : (b : Begun) (a c : Bool) → calls.begun_at number w ≡ Some b → nat_le (length (b.archive).pieces + length entries) entry_limit ≡ c
      → ((unless (TooMany 4096) a >>= λ _. unless (TooMany entry_limit) c) >>= λ _. named_by b >>= λ pieces. left pieces) ≡ Ok (v, tt) → HasGrown number w v
  by_room b false c at f is = cc
  by_room b true false at f is = cc
  by_room b true true at f is = by_pieces b (named_by b) at (leb-true (length (b.archive).pieces + length entries) entry_limit f) refl is

  by_begun : (o : Option Begun) → calls.begun_at number w ≡ o
      → (or_else NoFile o >>= λ b. want_entries (length (b.archive).pieces) (length entries) >>= λ _. named_by b >>= λ pieces. left pieces) ≡ Ok (v, tt) → HasGrown number w v
  by_begun None at is = cc
  by_begun (Some b) at is = by_room b (nat_le (length entries) 4096) (nat_le (length (b.archive).pieces + length entries) entry_limit) at refl is

  pub has_grown : calls.append w number entries ≡ Ok (v, tt) → HasGrown number w v
  unfolding calls.append
  has_grown is = by_begun (calls.begun_at number w) refl is

-- ---- the archive grows

begun_grown : (pool : List (List ℕ)) (b : Begun) (more : List (List ℕ)) → All (Contains pool) more → length (b.archive).pieces + length more ≤ entry_limit
    → fits_from (b.archive).layout (length (content_of b.archive)) more ≡ true → IsBegun pool b → IsBegun pool (calls.with_pieces more b)
begun_grown pool b more sent room fits h =
    let a = b.archive in
    let end : length (content_of a) ≡ 0 + length (content_of a) = omega arith in
    record {
      is_open = record {
        name = (h.is_open).name;
        sizes = (h.is_open).sizes;
        pieces = fits_more a.layout 0 a.pieces more (h.is_open).pieces (subst (λ n. fits_from a.layout n more ≡ true) end fits);
      };
      uuid = h.uuid;
      ctime = h.ctime;
      reserved = h.reserved;
      limit = omega (arith, room, length-append a.pieces more);
      pieces = All-append (Contains pool) a.pieces more h.pieces sent;
    }

-- ---- soundness

pub is_writer_appended : (s : Store) (number : ℕ) (w v : Writer) → HasGrown number w v → IsWriter s.snapshots w → IsWriter s.snapshots v
is_writer_appended s number w v is h =
    let test = calls.has_number number in
    let more = is.pieces in
    let change = calls.with_pieces more in
    let all : All (IsBegun w.pool) w.begun = All-from_recursion (IsBegun w.pool) w.begun h.begun in
    let there : Contains w.begun is.archive = found_in test w.begun is.archive is.found in
    let one : IsBegun w.pool (change is.archive) = begun_grown w.pool is.archive more is.sent is.room is.fits (All-contains (IsBegun w.pool) w.begun is.archive all there) in
    let new : IsWriter s.snapshots (record w { begun = change_first test change w.begun }) = record {
      key = h.key;
      newer = h.newer;
      room = h.room;
      names = h.names;
      kinds = h.kinds;
      contents = h.contents;
      count = omega (arith, h.count, length-grown test more w.begun);
      pool = h.pool;
      begun = recursion_from_All (IsBegun w.pool) (change_first test change w.begun) (all_changed (IsBegun w.pool) test change w.begun is.archive is.found one all);
      pooled = h.pooled;
      free = all_changed (λ (b : Begun). has_named b.name w.files ≡ false) test change w.begun is.archive is.found
          (All-contains (λ (b : Begun). has_named b.name w.files ≡ false) w.begun is.archive h.free there) h.free;
      differ = differ-grown test more w.begun ∙ h.differ;
    } in
    subst (IsWriter s.snapshots) (sym is.same) new

pub has_uploads_appended : (m : Files) (number : ℕ) (w v : Writer) → HasGrown number w v → HasUploads m w → HasUploads m v
has_uploads_appended m number w v is h =
    let new : HasUploads m (record w { begun = change_first (calls.has_number number) (calls.with_pieces is.pieces) w.begun }) = record { files = h.files; pool = h.pool } in
    subst (HasUploads m) (sym is.same) new

-- How long pieces are, and what is kept of them.
use Rattle.std.proofs.Common.{◌≡◌, ℕ, zero, suc, ◌+◌, ◌*◌, ◌/◌, ◌^◌, ◌<◌, ◌≤◌, ◌-◌, false, List, [], ◌∷◌, ◌++◌, length, slice_index_or, map, refl, sym, ap, ◌∙◌, arith, append_assoc, append-nil, length-append, zero-add, lit<}
use Rattle.std.proofs.Math.Nat.{mod-lt, div-lt_iff_lt-mul}
use Rattle.std.specs.List.{All, AllByRecursion, concat, flat_map, range_with_len}
use Rattle.std.proofs.lemmas.List.Elements.{All-cons, All-nil}
use Rattle.std.proofs.lemmas.List.{map-append, get_or-map}
use Rattle.std.proofs.lemmas.List.FromFn.{map-range_with_len_more, get_or-map-range_with_len}
use Rattle.std.proofs.lemmas.Bool.Decides.{nat_tests}
use Rattle.sha2.specs.Sha256.{sha256}
use Rattle.sha2.proofs.Facts256.{length-sha256}
use Rattle.store_types.specs.declared.append.AppendEntry.{AppendEntry}
use Rattle.store_types.specs.declared.piece.Piece.{Piece}
use Rattle.store_files.specs.Archive.{ends_from}
use Rattle.store_files.specs.DynamicIndex.{entry_text}
use Rattle.dynamic_index.specs.Pieces.{last_end}
use Rattle.dynamic_index.specs.Writing.{ends_behind}
use Rattle.wire_commands.specs.HasText.{FitsEntry}
use Rattle.generator.specs.Pieces.{after, bytes_after, piece, seed_of, piece_at, pieces, is_sent}
use Rattle.generator.specs.Archives.{fact_of, facts, begins_from, entries_from, AreLengths, size_of, csum_of}

pub after-lt : (x : ℕ) → after x < 2 ^ 64
unfolding after
after-lt x = mod-lt (x * 6364136223846793005 + 1442695040888963407) (lit< tt)

length-bytes_after : (n x : ℕ) → length (bytes_after n x) ≡ n
unfolding bytes_after
length-bytes_after zero x = refl
length-bytes_after (suc n) x = let e = length-bytes_after n (after x) in omega (arith, e)

-- ---- the bytes of a piece, one after another

pub begins : (seed x size : ℕ) → x ≡ after seed → size ≡ 1024 + x / 2 ^ 52 → bytes_after size x ≡ piece seed
unfolding piece
begins seed x size first len = ap (λ n. bytes_after n x) len ∙ ap (λ y. bytes_after (1024 + y / 2 ^ 52) y) first

one_byte : (n m x y : ℕ) → n ≡ suc m → y ≡ after x → bytes_after n x ≡ (y / 2 ^ 56) ∷ bytes_after m y
unfolding bytes_after
one_byte n m x y len next = ap (λ k. bytes_after k x) len ∙ ap (λ z. (z / 2 ^ 56) ∷ bytes_after m z) (sym next)

pub goes_on : (bytes : List ℕ) (n m x y : ℕ) → n ≡ suc m → y ≡ after x → bytes ++ bytes_after n x ≡ (bytes ++ (y / 2 ^ 56) ∷ []) ++ bytes_after m y
goes_on bytes n m x y len next =
    ap (λ t. bytes ++ t) (one_byte n m x y len next) ∙ sym (append_assoc bytes ((y / 2 ^ 56) ∷ []) (bytes_after m y))

pub ended : (bytes : List ℕ) (n x : ℕ) → n ≡ 0 → bytes ++ bytes_after n x ≡ bytes
unfolding bytes_after
ended bytes n x none = ap (λ m. bytes ++ bytes_after m x) none ∙ append-nil bytes

-- ---- a piece has 1,024 to 5,119 bytes

pub record FitsPiece (p : List ℕ) : Type 0 where
  pub least : 1024 ≤ length p
  pub most : length p ≤ 5119

pub piece_fits : (seed : ℕ) → FitsPiece (piece seed)
unfolding piece
piece_fits seed =
    let len = length-bytes_after (1024 + after seed / 2 ^ 52) (after seed) in
    let few = div-lt_iff_lt-mul {k = 2 ^ 52} {x = after seed} {y = 4096} (lit< tt) in
    let small : after seed / 2 ^ 52 < 4096 = few.1 (after-lt seed) in
    record { least = omega (arith, len); most = omega (arith, len, small) }

-- ---- the pieces of a snapshot

some_fit : (k j n from : ℕ) → AllByRecursion FitsPiece (map (piece_at k j) (range_with_len from n))
some_fit k j zero from = tt
some_fit k j (suc n) from = (piece_fits _, some_fit k j n (from + 1))

pub all_fit : (k j : ℕ) → AllByRecursion FitsPiece (pieces k j)
unfolding pieces
all_fit k j = some_fit k j 64 0

pub length-pieces : (k j : ℕ) → length (pieces k j) ≡ 64
unfolding pieces
length-pieces k j = refl

pub size_small : (ps : List (List ℕ)) → AllByRecursion FitsPiece ps → length (concat ps) ≤ 5119 * length ps
size_small [] h = omega arith
size_small (p ∷ ps) h = let rest = size_small ps h.1 in omega (arith, h.0.most, rest, length-append p (concat ps))

-- ---- by what is kept of each

pub lengths_fit : (ps : List (List ℕ)) → AllByRecursion FitsPiece ps → AreLengths (map fact_of ps)
lengths_fit [] h = tt
lengths_fit (p ∷ ps) h = ((omega (arith, h.0.least), omega (arith, h.0.most)), lengths_fit ps h.1)

pub entries-from : (start : ℕ) (ps : List (List ℕ)) → entries_from start (map fact_of ps) ≡ begins_from start ps
entries-from start [] = refl
entries-from start (p ∷ ps) = ap (λ (es : List AppendEntry). record { digest = record { 0 = sha256 p }; offset = start } ∷ es) (entries-from (start + length p) ps)

pub ends-behind : (start : ℕ) (ps : List (List ℕ)) → ends_behind start (map fact_of ps) ≡ ends_from start ps
ends-behind start [] = refl
ends-behind start (p ∷ ps) = ap (λ es. record { end = start + length p; digest = sha256 p } ∷ es) (ends-behind (start + length p) ps)

pub last-end : (start : ℕ) (ps : List (List ℕ)) → last_end start (ends_from start ps) ≡ start + length (concat ps)
last-end start [] = omega arith
last-end start (p ∷ ps) = let e = last-end (start + length p) ps in omega (arith, e, length-append p (concat ps))

-- ---- the entries of an APPEND have a text

pub length-begins : (start : ℕ) (ps : List (List ℕ)) → length (begins_from start ps) ≡ length ps
length-begins start [] = refl
length-begins start (p ∷ ps) = let e = length-begins (start + length p) ps in omega (arith, e)

pub entries_fit : (start : ℕ) (ps : List (List ℕ)) → start + length (concat ps) < 2 ^ 64 → All FitsEntry (begins_from start ps)
entries_fit start [] h = All-nil FitsEntry
entries_fit start (p ∷ ps) h =
    All-cons FitsEntry _ (begins_from (start + length p) ps) (length-sha256 p, omega (arith, length-append p (concat ps)))
    (entries_fit (start + length p) ps (omega (arith, length-append p (concat ps))))

-- ---- one piece after another

abbrev pub first_facts : ℕ → ℕ → ℕ → List Piece
first_facts k j n = map fact_of (map (piece_at k j) (range_with_len 0 n))

pub facts_more : (k j n : ℕ) → first_facts k j (n + 1) ≡ first_facts k j n ++ fact_of (piece_at k j n) ∷ []
facts_more k j n =
    ap (map fact_of) (map-range_with_len_more (piece_at k j) 0 n n (omega arith))
    ∙ map-append fact_of (map (piece_at k j) (range_with_len 0 n)) (piece_at k j n ∷ [])

pub facts_are : (k j : ℕ) → first_facts k j 64 ≡ facts k j
unfolding pieces
facts_are k j = refl

-- a piece that is not sent is not of the first snapshot, and it is that of the one before
pub record IsKept (k j i : ℕ) : Type 0 where
  pub later : 0 < j
  pub same : seed_of k (j - 1) i ≡ seed_of k j i

pub not_sent : (k j i : ℕ) → is_sent j i ≡ false → IsKept k j i
not_sent k j i h = record {
  later = grind (arith, nat_tests);
  same = grind (arith, nat_tests);
}

pub fact_at : (k j i : ℕ) (d : Piece) → i < 64 → slice_index_or (facts k j) i d ≡ fact_of (piece_at k j i)
unfolding pieces
fact_at k j i d h =
    get_or-map fact_of (map (piece_at k j) (range_with_len 0 64)) i [] d h ∙ ap fact_of (get_or-map-range_with_len (piece_at k j) 0 64 i i [] h (omega arith))

pub length-facts : (k j : ℕ) → length (facts k j) ≡ 64
unfolding pieces
length-facts k j = refl

-- ---- what the index of a snapshot's pieces tells

pub size_is : (k j : ℕ) (made : List Piece) → made ≡ facts k j → last_end 0 (ends_behind 0 made) ≡ size_of (pieces k j)
size_is k j made are =
    ap (λ (fs : List Piece). last_end 0 (ends_behind 0 fs)) are ∙ ap (last_end 0) (ends-behind 0 (pieces k j)) ∙ last-end 0 (pieces k j) ∙ zero-add (size_of (pieces k j))

pub csum_is : (k j : ℕ) (made : List Piece) → made ≡ facts k j → sha256 (flat_map entry_text (ends_behind 0 made)) ≡ (csum_of (pieces k j)).0
csum_is k j made are =
    ap (λ (fs : List Piece). sha256 (flat_map entry_text (ends_behind 0 fs))) are ∙ ap (λ es. sha256 (flat_map entry_text es)) (ends-behind 0 (pieces k j))

pub kept_fact : (k j i : ℕ) (before : List Piece) (d : Piece) → IsKept k j i → i < 64 → before ≡ facts k (j - 1) → slice_index_or before i d ≡ fact_of (piece_at k j i)
kept_fact k j i before d kept h are =
    ap (λ (fs : List Piece). slice_index_or fs i d) are ∙ fact_at k (j - 1) i d h ∙ ap (λ s. fact_of (piece s)) kept.same

-- Bytes and the entries that they are cut into.
use Rattle.std.proofs.Common.{◌≡◌, ℕ, zero, suc, ◌+◌, ◌-◌, ◌*◌, ◌/◌, ◌%◌, ◌<◌, ◌≤◌, List, [], ◌∷◌, ◌++◌, length, map, take, drop, get_or, slice_range, refl, sym, ap, ap₂, ◌∙◌, arith}
use Rattle.std.specs.Int.{w64, from_le_bytes}
use Rattle.std.specs.List.{flat_map}
use Rattle.std.proofs.lemmas.Nat.{le_bytes_8}
use Rattle.std.proofs.lemmas.List.{drop-drop, drop-take, take-take, take-append-drop, length-drop, length-take-le, length-map, get_or-map}
use Rattle.store_files.specs.Cells.{first_cells, cells}
use Rattle.store_files.specs.DynamicIndex.{Ended, entry_text, entry_of, fields_of}
use Rattle.dynamic_index.specs.Pieces.{entry_at}

-- each byte is one
abbrev pub AreBytes : List ℕ → Type 0
AreBytes bytes = (i : ℕ) → get_or bytes i 0 < 256

small_front : (n : ℕ) (bytes : List ℕ) → AreBytes bytes → AreBytes (take n bytes)
small_front zero bytes small i = omega arith
small_front (suc n) [] small i = omega arith
small_front (suc n) (b ∷ bytes) small zero = small 0
small_front (suc n) (b ∷ bytes) small (suc i) = small_front n bytes (λ j. small (suc j)) i

small_rest : (k : ℕ) (bytes : List ℕ) → AreBytes bytes → AreBytes (drop k bytes)
small_rest zero bytes small i = small i
small_rest (suc k) [] small i = omega arith
small_rest (suc k) (b ∷ bytes) small i = small_rest k bytes (λ j. small (suc j)) i

pub small_part : (bytes : List ℕ) (at end : ℕ) → AreBytes bytes → AreBytes (slice_range bytes at end)
small_part bytes at end small = small_front (end - at) (drop at bytes) (small_rest at bytes small)

-- ---- cells

length-first_cells : (size n : ℕ) (bytes : List ℕ) → length (first_cells size n bytes) ≡ n
unfolding first_cells
length-first_cells size zero bytes = refl
length-first_cells size (suc n) bytes = ap suc (length-first_cells size n (drop size bytes))

get_or-first_cells : (size n : ℕ) (bytes : List ℕ) (i : ℕ) → i < n → get_or (first_cells size n bytes) i [] ≡ take size (drop (i * size) bytes)
unfolding first_cells
get_or-first_cells size zero bytes i below = absurd (omega arith)
get_or-first_cells size (suc n) bytes zero below = let start : 0 ≡ 0 * size = omega arith in ap (λ k. take size (drop k bytes)) start
get_or-first_cells size (suc n) bytes (suc i) below =
    let at : size + i * size ≡ suc i * size = omega arith in
    get_or-first_cells size n (drop size bytes) i (omega arith)
    ∙ ap (take size) (drop-drop (i * size) size bytes) ∙ ap (λ k. take size (drop k bytes)) at

-- ---- the entries of an index

-- the text of what a cell spells is the cell
text-entry_of : (cell : List ℕ) → 8 ≤ length cell → AreBytes cell → entry_text (entry_of cell) ≡ cell
text-entry_of cell long small =
    ap (λ front. front ++ drop 8 cell) (le_bytes_8 (take 8 cell) (from_le_bytes w64 (take 8 cell)) (length-take-le 8 cell long) (small_front 8 cell small) refl)
    ∙ take-append-drop 8 cell

texts_joined : (n : ℕ) (bytes : List ℕ) → length bytes ≡ n * 40 → AreBytes bytes → flat_map entry_text (map entry_of (first_cells 40 n bytes)) ≡ bytes
unfolding first_cells
texts_joined zero [] is small = refl
texts_joined zero (b ∷ bytes) is small = absurd (omega arith)
texts_joined (suc n) bytes is small =
    let cell = length-take-le 40 bytes (omega arith) in
    ap₂ (λ a b. a ++ b) (text-entry_of (take 40 bytes) (omega (arith, cell)) (small_front 40 bytes small))
    (texts_joined n (drop 40 bytes) (omega (arith, length-drop 40 bytes)) (small_rest 40 bytes small))
    ∙ take-append-drop 40 bytes

-- how many there are
pub count_is : (bytes : List ℕ) → (length bytes - 4096) / 40 ≡ length (fields_of bytes).entries
count_is bytes =
    sym (length-map (cells 40 (drop 4096 bytes)) entry_of ∙ length-first_cells 40 _ (drop 4096 bytes) ∙ ap (λ n. n / 40) (length-drop 4096 bytes))

-- all of them, one after another
pub entries_joined : (bytes : List ℕ) → (length bytes - 4096) % 40 ≡ 0 → AreBytes bytes → flat_map entry_text (fields_of bytes).entries ≡ drop 4096 bytes
entries_joined bytes whole small =
    let rest = length-drop 4096 bytes in
    let whole_rest : length (drop 4096 bytes) % 40 ≡ 0 = ap (λ n. n % 40) rest ∙ whole in
    texts_joined _ (drop 4096 bytes) (omega arith) (small_rest 4096 bytes small)

-- the one at a place
pub entry_is : (bytes : List ℕ) (i : ℕ) → i < length (fields_of bytes).entries →
    entry_at (fields_of bytes) i ≡ entry_of (take 40 (drop (4096 + 40 * i) bytes))
entry_is bytes i below =
    let n = length (drop 4096 bytes) / 40 in
    let count = length-first_cells 40 n (drop 4096 bytes) in
    let mapped = length-map (cells 40 (drop 4096 bytes)) entry_of in
    let at : 4096 + i * 40 ≡ 4096 + 40 * i = omega arith in
    get_or-map entry_of (cells 40 (drop 4096 bytes)) i [] _ (omega (arith, mapped))
    ∙ ap entry_of (get_or-first_cells 40 n (drop 4096 bytes) i (omega (arith, count, mapped))
    ∙ ap (take 40) (drop-drop (i * 40) 4096 bytes) ∙ ap (λ k. take 40 (drop k bytes)) at)

-- its end and its digest, by where they stand
pub end_is : (bytes : List ℕ) (i : ℕ) → i < length (fields_of bytes).entries →
    from_le_bytes w64 (slice_range bytes (4096 + 40 * i) (4096 + 40 * i + 8)) ≡ (entry_at (fields_of bytes) i).end
end_is bytes i below =
    let at = 4096 + 40 * i in
    let width : at + 8 - at ≡ 8 = omega arith in
    ap (from_le_bytes w64) (ap (λ n. take n (drop at bytes)) width ∙ sym (take-take 8 40 (drop at bytes) (omega arith)))
    ∙ sym (ap (λ (e : Ended). e.end) (entry_is bytes i below))

pub digest_is : (bytes : List ℕ) (i : ℕ) → i < length (fields_of bytes).entries →
    slice_range bytes (4096 + 40 * i + 8) (4096 + 40 * i + 8 + 32) ≡ (entry_at (fields_of bytes) i).digest
digest_is bytes i below =
    let at = 4096 + 40 * i in
    let width : at + 8 + 32 - (at + 8) ≡ 32 = omega arith in
    ap (λ n. take n (drop (at + 8) bytes)) width
    ∙ sym (drop-take 8 32 (drop at bytes) ∙ ap (take 32) (drop-drop 8 at bytes))
    ∙ sym (ap (λ (e : Ended). e.digest) (entry_is bytes i below))

-- Bytes of whole entries are those entries' texts, one after another.
use Rattle.std.proofs.Common.{◌≡◌, ℕ, zero, suc, ◌*◌, ◌/◌, ◌≤◌, List, [], ◌∷◌, ◌++◌, length, map, take, drop, refl, ap, ap₂, ◌∙◌, arith}
use Rattle.std.specs.Int.{w64, from_le_bytes}
use Rattle.std.specs.List.{concat, flat_map}
use Rattle.std.proofs.lemmas.Nat.{le_bytes_8}
use Rattle.std.proofs.lemmas.List.{take-append-drop, length-drop, length-take-le}
use Rattle.store_files.specs.Cells.{first_cells, cells}
use Rattle.store_files.specs.DynamicIndex.{entry_text, entry_of}
use Rattle.index_pages.specs.Opening.{AreBytes}
use Rattle.paged_indexes.specs.Steps.{entries_of}

small_front : (n : ℕ) (bytes : List ℕ) → AreBytes bytes → AreBytes (take n bytes)
small_front zero bytes small i = omega arith
small_front (suc n) [] small i = omega arith
small_front (suc n) (b ∷ bytes) small zero = small 0
small_front (suc n) (b ∷ bytes) small (suc i) = small_front n bytes (λ j. small (suc j)) i

small_rest : (k : ℕ) (bytes : List ℕ) → AreBytes bytes → AreBytes (drop k bytes)
small_rest zero bytes small i = small i
small_rest (suc k) [] small i = omega arith
small_rest (suc k) (b ∷ bytes) small i = small_rest k bytes (λ j. small (suc j)) i

-- the text of what a cell spells is the cell
text-entry_of : (cell : List ℕ) → 8 ≤ length cell → AreBytes cell → entry_text (entry_of cell) ≡ cell
text-entry_of cell long small =
    ap (λ front. front ++ drop 8 cell) (le_bytes_8 (take 8 cell) (from_le_bytes w64 (take 8 cell)) (length-take-le 8 cell long) (small_front 8 cell small) refl)
    ∙ take-append-drop 8 cell

texts_joined : (n : ℕ) (bytes : List ℕ) → length bytes ≡ n * 40 → AreBytes bytes → flat_map entry_text (map entry_of (first_cells 40 n bytes)) ≡ bytes
unfolding first_cells
texts_joined zero [] is small = refl
texts_joined zero (b ∷ bytes) is small = absurd (omega arith)
texts_joined (suc n) bytes is small =
    let cell = length-take-le 40 bytes (omega arith) in
    ap₂ (λ a b. a ++ b) (text-entry_of (take 40 bytes) (omega (arith, cell)) (small_front 40 bytes small))
    (texts_joined n (drop 40 bytes) (omega (arith, length-drop 40 bytes)) (small_rest 40 bytes small))
    ∙ take-append-drop 40 bytes

pub entries_joined : (count : ℕ) (body : List ℕ) → length body ≡ count * 40 → AreBytes body → flat_map entry_text (entries_of body) ≡ body
entries_joined count body len small =
    let n : length body / 40 ≡ count = omega (arith, len) in
    ap (λ k. flat_map entry_text (map entry_of (first_cells 40 k body))) n ∙ texts_joined count body len small

concat-first_cells : (size n : ℕ) (bytes : List ℕ) → length bytes ≡ n * size → concat (first_cells size n bytes) ≡ bytes
unfolding first_cells
concat-first_cells size zero [] is = refl
concat-first_cells size zero (b ∷ bytes) is = absurd (omega arith)
concat-first_cells size (suc n) bytes is =
    ap (λ rest. take size bytes ++ rest) (concat-first_cells size n (drop size bytes) (omega (arith, length-drop size bytes)))
    ∙ take-append-drop size bytes

pub digests_joined : (count : ℕ) (body : List ℕ) → length body ≡ count * 32 → concat (cells 32 body) ≡ body
digests_joined count body len =
    let n : length body / 32 ≡ count = omega (arith, len) in
    ap (λ k. concat (first_cells 32 k body)) n ∙ concat-first_cells 32 count body len

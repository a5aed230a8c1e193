-- Bytes and the cells that they are cut into.
use Rattle.std.proofs.Common.{◌≡◌, ℕ, zero, suc, ◌+◌, ◌-◌, ◌*◌, ◌/◌, ◌%◌, ◌<◌, Bool, true, ◌&&◌, eqb, List, [], ◌∷◌, ◌++◌, length, take, drop, get_or, slice_range, refl, sym, ap, ap₂, ◌∙◌, arith}
use Rattle.std.specs.List.{concat}
use Rattle.std.proofs.lemmas.List.{drop-drop, take-append-drop, length-drop, take_all}
use Rattle.store_files.specs.Cells.{first_cells, cells}

pub length-first_cells : (size n : ℕ) (bytes : List ℕ) → length (first_cells size n bytes) ≡ n
unfolding first_cells
length-first_cells size zero bytes = refl
length-first_cells size (suc n) bytes = ap suc (length-first_cells size n (drop size bytes))

pub get_or-first_cells : (size n : ℕ) (bytes : List ℕ) (i : ℕ) → i < n → get_or (first_cells size n bytes) i [] ≡ take size (drop (i * size) bytes)
unfolding first_cells
get_or-first_cells size zero bytes i below = absurd (omega arith)
get_or-first_cells size (suc n) bytes zero below = let start : 0 ≡ 0 * size = omega arith in ap (λ k. take size (drop k bytes)) start
get_or-first_cells size (suc n) bytes (suc i) below =
    let at : size + i * size ≡ suc i * size = omega arith in
    get_or-first_cells size n (drop size bytes) i (omega arith)
    ∙ ap (take size) (drop-drop (i * size) size bytes) ∙ ap (λ k. take size (drop k bytes)) at

pub concat-first_cells : (size n : ℕ) (bytes : List ℕ) → length bytes ≡ n * size → concat (first_cells size n bytes) ≡ bytes
unfolding first_cells
concat-first_cells size zero [] is = refl
concat-first_cells size zero (b ∷ bytes) is = absurd (omega arith)
concat-first_cells size (suc n) bytes is =
    ap (λ rest. take size bytes ++ rest) (concat-first_cells size n (drop size bytes) (omega (arith, length-drop size bytes)))
    ∙ take-append-drop size bytes

-- ---- the digests of an index

-- how many there are
pub count_is : (bytes : List ℕ) → (length bytes - 4096) / 32 ≡ length (cells 32 (drop 4096 bytes))
count_is bytes = sym (length-first_cells 32 _ (drop 4096 bytes) ∙ ap (λ n. n / 32) (length-drop 4096 bytes))

-- all of them, one after another
pub joined_cells : (bytes : List ℕ) → (length bytes - 4096) % 32 ≡ 0 → concat (cells 32 (drop 4096 bytes)) ≡ take (length bytes - 4096) (drop 4096 bytes)
joined_cells bytes whole =
    let rest = length-drop 4096 bytes in
    let whole_rest : length (drop 4096 bytes) % 32 ≡ 0 = ap (λ n. n % 32) rest ∙ whole in
    concat-first_cells 32 _ (drop 4096 bytes) (omega arith) ∙ sym (take_all _ (drop 4096 bytes) (omega (arith, rest)))

-- the one at a place
pub cell_at : (bytes : List ℕ) (i : ℕ) → i < length (cells 32 (drop 4096 bytes)) →
    slice_range bytes (4096 + 32 * i) (4096 + 32 * i + 32) ≡ get_or (cells 32 (drop 4096 bytes)) i []
cell_at bytes i below =
    let count = length-first_cells 32 (length (drop 4096 bytes) / 32) (drop 4096 bytes) in
    let width : 4096 + 32 * i + 32 - (4096 + 32 * i) ≡ 32 = omega arith in
    let at : 4096 + 32 * i ≡ 4096 + i * 32 = omega arith in
    ap (λ n. take n (drop (4096 + 32 * i) bytes)) width
    ∙ ap (λ k. take 32 (drop k bytes)) at
    ∙ ap (take 32) (sym (drop-drop (i * 32) 4096 bytes))
    ∙ sym (get_or-first_cells 32 (length (drop 4096 bytes) / 32) (drop 4096 bytes) i (omega (arith, count)))

-- the test of an index's sizes, where the chunk size is allowed
pub sizes_agree : (allowed : Bool) (n m found wanted : ℕ) → allowed ≡ true → n ≡ m → found ≡ wanted → eqb n found ≡ (allowed && eqb m wanted)
sizes_agree allowed n m found wanted is counts pieces =
    ap₂ eqb counts pieces ∙ sym (ap (λ b. b && eqb m wanted) is)

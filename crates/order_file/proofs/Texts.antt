-- Entries and their texts.
use Rattle.std.proofs.Common.{◌≡◌, ℕ, zero, suc, ◌+◌, ◌*◌, ◌/◌, ◌%◌, ◌^◌, ◌<◌, ◌≤◌, List, [], ◌∷◌, ◌++◌, length, map, take, drop, get_or, All, refl, sym, ap, ap₂, subst, ◌∙◌, append_assoc, arith}
use Rattle.std.specs.Prelude.{codes}
use Rattle.std.specs.Int.{w32, w64, to_le_bytes, from_le_bytes}
use Rattle.std.specs.List.{flat_map}
use Rattle.std.proofs.Math.Seq.{take-append_seam, drop-append_seam}
use Rattle.std.proofs.lemmas.Nat.{le_bytes_4, le_bytes_8, from_le_bytes-to_le_bytes_4, from_le_bytes-to_le_bytes_8}
use Rattle.std.proofs.lemmas.List.{length-append, length-drop, length-take-le, take-append-drop, drop-drop}
use Rattle.std.proofs.lemmas.List.Elements.{All-head, All-tail}
use Rattle.store_types.specs.declared.order.Entry.{Entry}
use Rattle.store_files.specs.Cells.{first_cells}
use Rattle.store_files.specs.Order.{entry_text, order_text, entry_of}
use Rattle.order_file.specs.Progress.{entries_at}

pub length-entry_text : (e : Entry) → length (entry_text e) ≡ 13
length-entry_text e = refl

pub length-texts : (es : List Entry) → length (flat_map entry_text es) ≡ length es * 13
length-texts [] = refl
length-texts (e ∷ es) = omega (arith, length-texts es, length-entry_text e, length-append (entry_text e) (flat_map entry_text es))

pub length-order_text : (es : List Entry) → length (order_text es) ≡ 8 + length es * 13
unfolding order_text
length-order_text es = omega (arith, length-texts es, length-append (codes "PBSORDER") (flat_map entry_text es))

-- ---- entries, one by one

pub entries_more : (bytes : List ℕ) → 13 ≤ length bytes → entries_at bytes ≡ entry_of (take 13 bytes) ∷ entries_at (drop 13 bytes)
unfolding first_cells
entries_more bytes long =
    let count : length bytes / 13 ≡ suc (length (drop 13 bytes) / 13) = omega (arith, length-drop 13 bytes) in
    ap (λ n. map entry_of (first_cells 13 n bytes)) count

pub entries_none : (bytes : List ℕ) → length bytes < 13 → entries_at bytes ≡ []
unfolding first_cells
entries_none bytes short =
    let count : length bytes / 13 ≡ 0 = omega arith in
    ap (λ n. map entry_of (first_cells 13 n bytes)) count

-- ---- an entry from its text

front : (n : ℕ) (a rest : List ℕ) → length a ≡ n → take n (a ++ rest) ≡ a
front n a rest is = subst (λ k. take k (a ++ rest) ≡ a) is (take-append_seam a rest)

seam : (n : ℕ) (a rest : List ℕ) → length a ≡ n → drop n (a ++ rest) ≡ rest
seam n a rest is = subst (λ j. drop j (a ++ rest) ≡ rest) is (drop-append_seam a rest)

-- what a text needs to be read again
pub record HasText (e : Entry) : Type 0 where
  pub lane : e.lane < 2 ^ 32
  pub moment : e.moment < 2 ^ 64

entry_of-text : (e : Entry) → HasText e → entry_of (entry_text e) ≡ e
entry_of-text e has =
    let lane = from_le_bytes-to_le_bytes_4 e.lane has.lane in
    let moment = from_le_bytes-to_le_bytes_8 e.moment has.moment in
    λ i. record { lane = lane i; moment = moment i; kind = e.kind }

first_entries : (es : List Entry) → All HasText es → map entry_of (first_cells 13 (length es) (flat_map entry_text es)) ≡ es
unfolding first_cells
first_entries [] are = refl
first_entries (e ∷ es) are =
    let head = All-head HasText e es are in
    let rest = first_entries es (All-tail HasText e es are) in
    ap₂ (λ c cs. c ∷ cs) (ap entry_of (front 13 (entry_text e) (flat_map entry_text es) refl) ∙ entry_of-text e head)
    (ap (λ b. map entry_of (first_cells 13 (length es) b)) (seam 13 (entry_text e) (flat_map entry_text es) refl) ∙ rest)

entries_again : (es : List Entry) → All HasText es → entries_at (flat_map entry_text es) ≡ es
entries_again es are =
    let count : length (flat_map entry_text es) / 13 ≡ length es = omega (arith, length-texts es) in
    ap (λ n. map entry_of (first_cells 13 n (flat_map entry_text es))) count ∙ first_entries es are

pub order_again : (es : List Entry) → All HasText es → entries_at (drop 8 (order_text es)) ≡ es
unfolding order_text
order_again es are =
    ap entries_at (seam 8 (codes "PBSORDER") (flat_map entry_text es) refl) ∙ entries_again es are

-- ---- the text of what was read

abbrev pub AreSmall : List ℕ → Type 0
AreSmall bytes = (i : ℕ) → get_or bytes i 0 < 256

small_front : (n : ℕ) (bytes : List ℕ) (i : ℕ) → AreSmall bytes → get_or (take n bytes) i 0 < 256
small_front zero bytes i small = omega arith
small_front (suc n) [] i small = omega arith
small_front (suc n) (b ∷ bytes) zero small = small 0
small_front (suc n) (b ∷ bytes) (suc i) small = small_front n bytes i (λ j. small (suc j))

pub small_rest : (k : ℕ) (bytes : List ℕ) → AreSmall bytes → AreSmall (drop k bytes)
small_rest zero bytes small i = small i
small_rest (suc k) [] small i = omega arith
small_rest (suc k) (b ∷ bytes) small i = small_rest k bytes (λ j. small (suc j)) i

one_at : (bytes : List ℕ) → length bytes ≡ 1 → get_or bytes 0 0 ∷ [] ≡ bytes
one_at (b ∷ []) is = refl
one_at [] is = absurd (omega arith)
one_at (b ∷ c ∷ bytes) is = absurd (omega arith)

index_at : (k : ℕ) (bytes : List ℕ) → get_or bytes k 0 ≡ get_or (drop k bytes) 0 0
index_at zero bytes = refl
index_at (suc k) [] = refl
index_at (suc k) (b ∷ bytes) = index_at k bytes

-- a cell is a lane, a moment and a kind
in_parts : (cell : List ℕ) → (take 4 cell ++ take 8 (drop 4 cell)) ++ drop 12 cell ≡ cell
in_parts cell =
    append_assoc (take 4 cell) (take 8 (drop 4 cell)) (drop 12 cell)
    ∙ ap (λ z. take 4 cell ++ (take 8 (drop 4 cell) ++ z)) (sym (drop-drop 8 4 cell))
    ∙ ap (λ z. take 4 cell ++ z) (take-append-drop 8 (drop 4 cell)) ∙ take-append-drop 4 cell

entry_text-of : (cell : List ℕ) → length cell ≡ 13 → AreSmall cell → entry_text (entry_of cell) ≡ cell
entry_text-of cell is small =
    let lane : to_le_bytes w32 (from_le_bytes w32 (take 4 cell)) ≡ take 4 cell =
    le_bytes_4 (take 4 cell) _ (length-take-le 4 cell (omega arith)) (λ i. small_front 4 cell i small) refl in
    let moment : to_le_bytes w64 (from_le_bytes w64 (take 8 (drop 4 cell))) ≡ take 8 (drop 4 cell) =
    le_bytes_8 (take 8 (drop 4 cell)) _ (length-take-le 8 (drop 4 cell) (omega (arith, length-drop 4 cell)))
    (λ i. small_front 8 (drop 4 cell) i (small_rest 4 cell small)) refl in
    let kind : get_or cell 12 0 ∷ [] ≡ drop 12 cell =
    ap (λ b. b ∷ []) (index_at 12 cell) ∙ one_at (drop 12 cell) (omega (arith, length-drop 12 cell)) in
    (λ i. lane i ++ moment i ++ kind i) ∙ in_parts cell

texts_of : (n : ℕ) (bytes : List ℕ) → length bytes ≡ n * 13 → AreSmall bytes →
    flat_map entry_text (map entry_of (first_cells 13 n bytes)) ≡ bytes
unfolding first_cells
texts_of zero [] is small = refl
texts_of zero (b ∷ bytes) is small = absurd (omega arith)
texts_of (suc n) bytes is small =
    let first = entry_text-of (take 13 bytes) (length-take-le 13 bytes (omega arith)) (λ i. small_front 13 bytes i small) in
    let others = texts_of n (drop 13 bytes) (omega (arith, length-drop 13 bytes)) (small_rest 13 bytes small) in
    ap₂ (λ a b. a ++ b) first others ∙ take-append-drop 13 bytes

pub texts_again : (bytes : List ℕ) → length bytes % 13 ≡ 0 → AreSmall bytes → flat_map entry_text (entries_at bytes) ≡ bytes
texts_again bytes whole small = texts_of (length bytes / 13) bytes (omega arith) small

-- Writing and reading are inverse to each other.
use Rattle.std.proofs.Common.{◌≡◌, ℕ, ◌+◌, ◌-◌, ◌*◌, ◌/◌, ◌%◌, ◌^◌, ◌<◌, ◌≤◌, IsTrue, List, [], ◌∷◌, ◌++◌, length, map, take, drop, All, Ok, None, refl, sym, ap, ap₂, ◌∙◌, append_assoc, arith, eq-eqb}
use Rattle.std.specs.Int.{w64, to_le_bytes, from_le_bytes, cast_signed, cast_unsigned}
use Rattle.std.specs.List.{flat_map}
use Rattle.std.specs.Prelude.{ℤ}
use mir.ValLaws.{of_z_fits}
use Rattle.std.proofs.lemmas.Int.{to_z-of_z, of_z-to_z}
use Rattle.std.proofs.lemmas.Bool.{le-ltb}
use Rattle.std.proofs.lemmas.Nat.{le_bytes_8, from_le_bytes-to_le_bytes_8}
use Rattle.std.proofs.lemmas.List.{length-append, length-drop, length-take-le, length-replicate}
use Rattle.std.proofs.lemmas.List.Elements.{All-nil, All-cons, All-head, All-tail, All-push}
use Rattle.std.proofs.lemmas.Slice.Eq.{bytes_eq-Decides}
use Rattle.sha2.proofs.Facts256.{length-sha256}
use Rattle.store_files.specs.Cells.{first_cells, cells, entry_limit}
use Rattle.store_files.specs.DynamicIndex.{Ended, DynamicIndex, FitsDynamic, magic, steps_fit, csum_of, entry_text, entry_of, fields_of, dynamic_text, dynamic_of}
use Rattle.dynamic_index.specs.Pieces.{last_end}
use Rattle.dynamic_index.specs.Viewing.{fault_of, IsIndex}
use Rattle.dynamic_index.specs.Writing.{reserved, IsBegun, FitsPiece}
use Rattle.dynamic_index.proofs.Steps.{first_fits, rest_fit, step_bounds, steps_fit-push}
use Rattle.dynamic_index.proofs.Cells.{AreBytes, small_part, entries_joined}
use Rattle.dynamic_index.proofs.Faults.{outcome, same_fault, dynamic_of-fault}
use Rattle.dynamic_index.proofs.TextParts.{laid, HasLengths, HasLayout, laid_out, parts_joined, front, seam}

-- ---- entries from their texts

-- what a text needs to be read again
abbrev HasText : Ended → Type 0
HasText e = (e.end < 2 ^ 64) × (length e.digest ≡ 32)

length-texts : (es : List Ended) → All HasText es → length (flat_map entry_text es) ≡ length es * 40
length-texts [] are = refl
length-texts (e ∷ es) are =
    let head = All-head HasText e es are in
    let rest = length-texts es (All-tail HasText e es are) in
    omega (arith, head.1, rest, length-append (to_le_bytes w64 e.end) e.digest, length-append (entry_text e) (flat_map entry_text es))

entry_of-text : (e : Ended) → HasText e → entry_of (entry_text e) ≡ e
entry_of-text e has =
    let end = ap (from_le_bytes w64) (front 8 (to_le_bytes w64 e.end) e.digest refl) ∙ from_le_bytes-to_le_bytes_8 e.end has.0 in
    let digest = seam 8 (to_le_bytes w64 e.end) e.digest refl in
    λ i. record { end = end i; digest = digest i }

first_entries : (es : List Ended) → All HasText es → map entry_of (first_cells 40 (length es) (flat_map entry_text es)) ≡ es
unfolding first_cells
first_entries [] are = refl
first_entries (e ∷ es) are =
    let head = All-head HasText e es are in
    let len : length (entry_text e) ≡ 40 = omega (arith, head.1, length-append (to_le_bytes w64 e.end) e.digest) in
    let rest = first_entries es (All-tail HasText e es are) in
    ap₂ (λ c cs. c ∷ cs) (ap entry_of (front 40 (entry_text e) (flat_map entry_text es) len) ∙ entry_of-text e head)
    (ap (λ b. map entry_of (first_cells 40 (length es) b)) (seam 40 (entry_text e) (flat_map entry_text es) len) ∙ rest)

entries_again : (es : List Ended) → All HasText es → map entry_of (cells 40 (flat_map entry_text es)) ≡ es
entries_again es are =
    let count : length (flat_map entry_text es) / 40 ≡ length es = omega (arith, length-texts es are) in
    ap (λ n. map entry_of (first_cells 40 n (flat_map entry_text es))) count ∙ first_entries es are

-- ends whose steps are in range are small
have_texts : (start : ℕ) (es : List Ended) → IsTrue (steps_fit start es) → All (λ e. length e.digest ≡ 32) es →
    start + length es * 16_777_216 < 2 ^ 64 → All HasText es
have_texts start [] fit are small = All-nil HasText
have_texts start (e ∷ es) fit are small =
    let bounds = step_bounds start e.end (first_fits start e es fit) in
    All-cons HasText e es (omega (arith, bounds), All-head (λ x. length x.digest ≡ 32) e es are)
    (have_texts e.end es (rest_fit start e es fit) (All-tail (λ x. length x.digest ≡ 32) e es are) (omega (arith, bounds)))

-- ---- what is written is read again

module _ (text : List ℕ) (x : DynamicIndex) (ct : List ℕ) (fits : FitsDynamic x) (are : All HasText x.entries)
    (lay : HasLayout text magic x.uuid ct (csum_of x) x.reserved (flat_map entry_text x.entries))
    (ctime : cast_signed w64 (from_le_bytes w64 ct) ≡ x.ctime) where
  fields_are : fields_of text ≡ x
  fields_are =
      let times = ap (λ b. cast_signed w64 (from_le_bytes w64 b)) lay.ctime ∙ ctime in
      let entries = ap (λ b. map entry_of (cells 40 b)) lay.entries ∙ entries_again x.entries are in
      λ i. record { uuid = lay.uuid i; ctime = times i; reserved = lay.reserved i; entries = entries i }

  no_fault : fault_of text ≡ None
  unfolding fault_of
  no_fault =
      let len = length-texts x.entries are in
      let long : 4096 ≤ length text = omega (arith, lay.len) in
      let whole : (length text - 4096) % 40 ≡ 0 = omega (arith, lay.len, len) in
      let few : (length text - 4096) / 40 ≤ entry_limit = omega (arith, lay.len, len, fits.limit) in
      sym (same_fault (le-ltb _ _ long) ((bytes_eq-Decides _ _).1 lay.magic) (eq-eqb _ _ whole) (le-ltb _ _ few)
      (ap (λ (y : DynamicIndex). steps_fit 0 y.entries) fields_are ∙ fits.steps)
      ((bytes_eq-Decides _ _).1 (lay.csum ∙ ap csum_of (sym fields_are))))

  read_again : dynamic_of text ≡ Ok x
  read_again = dynamic_of-fault text ∙ ap (outcome (fields_of text)) no_fault ∙ ap Ok fields_are

text_is : (x : DynamicIndex) → dynamic_text x ≡ laid magic x.uuid (to_le_bytes w64 (cast_unsigned w64 x.ctime)) (csum_of x)
    x.reserved (flat_map entry_text x.entries)
unfolding dynamic_text
text_is x = simp append_assoc refl

pub dynamic_of-dynamic_text : (x : DynamicIndex) → FitsDynamic x → dynamic_of (dynamic_text x) ≡ Ok x
dynamic_of-dynamic_text x fits =
    let lengths : HasLengths magic x.uuid (to_le_bytes w64 (cast_unsigned w64 x.ctime)) (csum_of x) x.reserved =
    record { magic = refl; uuid = fits.uuid; ctime = refl; csum = length-sha256 (flat_map entry_text x.entries); reserved = fits.reserved } in
    let lay = laid_out _ _ _ _ _ (flat_map entry_text x.entries) lengths in
    let number = of_z_fits w64 x.ctime fits.ctime in
    ap dynamic_of (text_is x)
    ∙ read_again _ x _ fits (have_texts 0 x.entries fits.steps fits.digests (omega (arith, fits.limit))) lay
    (ap (cast_signed w64) (from_le_bytes-to_le_bytes_8 (cast_unsigned w64 x.ctime) (omega (arith, number))) ∙ to_z-of_z w64 x.ctime fits.ctime)

-- ---- and what is read was written so

pub small_number : (bs : List ℕ) → AreBytes bs → from_le_bytes w64 bs < 2 ^ 64
small_number bs small = omega (arith, small 0, small 1, small 2, small 3, small 4, small 5, small 6, small 7)

pub dynamic_text-fields : (text : List ℕ) → AreBytes text → IsIndex text → text ≡ dynamic_text (fields_of text)
dynamic_text-fields text small is =
    let x = fields_of text in
    let times = small_part text 24 32 small in
    let long : length (take 8 (drop 24 text)) ≡ 8 = length-take-le 8 (drop 24 text) (omega (arith, is.long, length-drop 24 text)) in
    let ctime : take 8 (drop 24 text) ≡ to_le_bytes w64 (cast_unsigned w64 x.ctime) =
    sym (le_bytes_8 (take 8 (drop 24 text)) (cast_unsigned w64 x.ctime) long times
    (of_z-to_z w64 (from_le_bytes w64 (take 8 (drop 24 text))) (small_number (take 8 (drop 24 text)) times))) in
    let entries = sym (entries_joined text is.whole small) in
    parts_joined text
    ∙ (λ i. laid (is.magic i) x.uuid (ctime i) (is.csum i) x.reserved (entries i))
    ∙ sym (text_is x)

-- ---- what a writer has

length-reserved : length reserved ≡ 4032
unfolding reserved
length-reserved = length-replicate {A = ℕ} 4032 0

pub fits_dynamic : (uuid : List ℕ) (ctime : ℤ) (entries : List Ended) → IsBegun uuid ctime entries →
    FitsDynamic (record { uuid = uuid; ctime = ctime; reserved = reserved; entries = entries })
fits_dynamic uuid ctime entries is = record {
  uuid = is.uuid_len;
  ctime = is.ctime_fits;
  reserved = length-reserved;
  steps = is.steps;
  limit = is.limit;
  digests = is.digest_len;
}

-- and one more piece
pub begun_more : (uuid : List ℕ) (ctime : ℤ) (entries : List Ended) (start len : ℕ) (digest : List ℕ) → IsBegun uuid ctime entries →
    start ≡ last_end 0 entries → FitsPiece (record { uuid = uuid; ctime = ctime; reserved = reserved; entries = entries }) len → length digest ≡ 32 →
    IsBegun uuid ctime (entries ++ record { end = start + len; digest = digest } ∷ [])
begun_more uuid ctime entries start len digest is begins fits long =
    let more = length-append entries (record { end = start + len; digest = digest } ∷ []) in
    record {
      uuid_len = is.uuid_len;
      ctime_fits = is.ctime_fits;
      steps = steps_fit-push 0 entries (record { end = start + len; digest = digest }) is.steps (omega (arith, begins, fits.not_empty)) (omega (arith, begins, fits.limit));
      limit = omega (arith, more, fits.room);
      digest_len = All-push (λ e. length e.digest ≡ 32) entries (record { end = start + len; digest = digest }) is.digest_len long;
    }

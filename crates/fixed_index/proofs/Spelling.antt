-- Writing and reading are inverse to each other.
use Rattle.std.proofs.Common.{◌≡◌, ℕ, ◌+◌, ◌-◌, ◌*◌, ◌/◌, ◌%◌, ◌^◌, ◌<◌, ◌≤◌, Bool, true, ◌&&◌, List, [], ◌∷◌, length, take, drop, get_or, All, Ok, None, refl, sym, ap, ap₂, ◌∙◌, append_assoc, arith, eq-eqb}
use Rattle.std.specs.Int.{w64, to_le_bytes, from_le_bytes, cast_signed, cast_unsigned}
use Rattle.std.specs.List.{concat}
use Rattle.std.specs.Prelude.{ℤ, min}
use mir.ValLaws.{of_z_fits}
use Rattle.std.proofs.lemmas.Int.{to_z-of_z, of_z-to_z}
use Rattle.std.proofs.lemmas.Bool.{le-ltb}
use Rattle.std.proofs.lemmas.Nat.{le_bytes_8, from_le_bytes-to_le_bytes_8}
use Rattle.std.proofs.lemmas.List.{length-append, length-drop, length-take-le, length-replicate}
use Rattle.std.proofs.lemmas.List.Elements.{All-head, All-tail}
use Rattle.std.proofs.lemmas.Slice.Eq.{bytes_eq-Decides}
use Rattle.sha2.proofs.Facts256.{length-sha256}
use Rattle.store_files.specs.Cells.{first_cells, cells, entry_limit}
use Rattle.store_files.specs.FixedIndex.{FixedIndex, FitsFixed, magic, has_sizes, csum_of, fields_of, fixed_text, fixed_of}
use Rattle.fixed_index.specs.Viewing.{fault_of, IsIndex}
use Rattle.fixed_index.specs.Writing.{reserved, IsBegun}
use Rattle.fixed_index.proofs.Cutting.{chunk_size_bounds, all_there}
use Rattle.fixed_index.proofs.Cells.{concat-first_cells}
use Rattle.fixed_index.proofs.Faults.{outcome, same_fault, fixed_of-fault}
use Rattle.fixed_index.proofs.TextParts.{laid, HasLengths, HasLayout, laid_out, parts_joined, small_part, front, seam}

abbrev AreDigests : List (List ℕ) → Type 0
AreDigests = All (λ d. length d ≡ 32)

length-concat : (ds : List (List ℕ)) → AreDigests ds → length (concat ds) ≡ length ds * 32
length-concat [] are = refl
length-concat (d ∷ ds) are =
    let head = All-head (λ e. length e ≡ 32) d ds are in
    let rest = length-concat ds (All-tail (λ e. length e ≡ 32) d ds are) in
    omega (arith, head, rest, length-append d (concat ds))

first_cells-concat : (ds : List (List ℕ)) → AreDigests ds → first_cells 32 (length ds) (concat ds) ≡ ds
unfolding first_cells
first_cells-concat [] are = refl
first_cells-concat (d ∷ ds) are =
    let head = All-head (λ e. length e ≡ 32) d ds are in
    let rest = first_cells-concat ds (All-tail (λ e. length e ≡ 32) d ds are) in
    ap₂ (λ c cs. c ∷ cs) (front 32 d (concat ds) head) (ap (first_cells 32 (length ds)) (seam 32 d (concat ds) head) ∙ rest)

cells-concat : (ds : List (List ℕ)) → AreDigests ds → cells 32 (concat ds) ≡ ds
cells-concat ds are =
    let count : length (concat ds) / 32 ≡ length ds = omega (arith, length-concat ds are) in
    ap (λ n. first_cells 32 n (concat ds)) count ∙ first_cells-concat ds are

both : (a b : Bool) → a ≡ true → b ≡ true → (a && b) ≡ true
both a b p q = ap₂ (λ x y. x && y) p q

-- ---- what is written is read again

module _ (text : List ℕ) (x : FixedIndex) (ct sz ck : List ℕ) (fits : FitsFixed x)
    (lay : HasLayout text magic x.uuid ct (csum_of x) sz ck x.reserved (concat x.digests))
    (ctime : cast_signed w64 (from_le_bytes w64 ct) ≡ x.ctime) (size : from_le_bytes w64 sz ≡ x.size)
    (chunk_size : from_le_bytes w64 ck ≡ x.chunk_size) where
  fields_are : fields_of text ≡ x
  fields_are =
      let times = ap (λ b. cast_signed w64 (from_le_bytes w64 b)) lay.ctime ∙ ctime in
      let sizes = ap (from_le_bytes w64) lay.size ∙ size in
      let cuts = ap (from_le_bytes w64) lay.chunk_size ∙ chunk_size in
      let digests = ap (cells 32) lay.digests ∙ cells-concat x.digests fits.digests in
      λ i. record { uuid = lay.uuid i; ctime = times i; reserved = lay.reserved i; size = sizes i; chunk_size = cuts i; digests = digests i }

  no_fault : fault_of text ≡ None
  unfolding fault_of
  no_fault =
      let len = length-concat x.digests fits.digests in
      let long : 4096 ≤ length text = omega (arith, lay.len) in
      let whole : (length text - 4096) % 32 ≡ 0 = omega (arith, lay.len, len) in
      let few : (length text - 4096) / 32 ≤ entry_limit = omega (arith, lay.len, len, fits.limit) in
      sym (same_fault (le-ltb _ _ long) ((bytes_eq-Decides _ _).1 lay.magic) (eq-eqb _ _ whole) (le-ltb _ _ few)
      (ap has_sizes fields_are ∙ both _ _ fits.chunk_size (eq-eqb _ _ fits.count))
      ((bytes_eq-Decides _ _).1 (lay.csum ∙ ap csum_of (sym fields_are))))

  read_again : fixed_of text ≡ Ok x
  read_again = fixed_of-fault text ∙ ap (outcome (fields_of text)) no_fault ∙ ap Ok fields_are

text_is : (x : FixedIndex) → fixed_text x ≡ laid magic x.uuid (to_le_bytes w64 (cast_unsigned w64 x.ctime)) (csum_of x)
    (to_le_bytes w64 x.size) (to_le_bytes w64 x.chunk_size) x.reserved (concat x.digests)
unfolding fixed_text
text_is x = simp append_assoc refl

pub fixed_of-fixed_text : (x : FixedIndex) → FitsFixed x → fixed_of (fixed_text x) ≡ Ok x
fixed_of-fixed_text x fits =
    let bounds = chunk_size_bounds x.chunk_size fits.chunk_size in
    let lengths : HasLengths magic x.uuid (to_le_bytes w64 (cast_unsigned w64 x.ctime)) (csum_of x) (to_le_bytes w64 x.size) (to_le_bytes w64 x.chunk_size) x.reserved =
    record { magic = refl; uuid = fits.uuid; ctime = refl; csum = length-sha256 (concat x.digests); size = refl; chunk_size = refl; reserved = fits.reserved } in
    let lay = laid_out _ _ _ _ _ _ _ (concat x.digests) lengths in
    let number = of_z_fits w64 x.ctime fits.ctime in
    ap fixed_of (text_is x)
    ∙ read_again _ x _ _ _ fits lay
    (ap (cast_signed w64) (from_le_bytes-to_le_bytes_8 (cast_unsigned w64 x.ctime) (omega (arith, number))) ∙ to_z-of_z w64 x.ctime fits.ctime)
    (from_le_bytes-to_le_bytes_8 x.size fits.size)
    (from_le_bytes-to_le_bytes_8 x.chunk_size (omega (arith, bounds)))

-- ---- and what is read was written so

pub small_number : (bs : List ℕ) → ((i : ℕ) → get_or bs i 0 < 256) → from_le_bytes w64 bs < 2 ^ 64
small_number bs small = omega (arith, small 0, small 1, small 2, small 3, small 4, small 5, small 6, small 7)

eight_long : (text : List ℕ) (at : ℕ) → at + 8 ≤ length text → length (take 8 (drop at text)) ≡ 8
eight_long text at long = length-take-le 8 (drop at text) (omega (arith, length-drop at text))

pub fixed_text-fields : (text : List ℕ) → ((i : ℕ) → get_or text i 0 < 256) → IsIndex text → text ≡ fixed_text (fields_of text)
fixed_text-fields text small is =
    let x = fields_of text in
    let long = is.long in
    let times = small_part text 24 32 small in
    let ctime : take 8 (drop 24 text) ≡ to_le_bytes w64 (cast_unsigned w64 x.ctime) =
    sym (le_bytes_8 (take 8 (drop 24 text)) (cast_unsigned w64 x.ctime) (eight_long text 24 (omega (arith, long))) times
    (of_z-to_z w64 (from_le_bytes w64 (take 8 (drop 24 text))) (small_number (take 8 (drop 24 text)) times))) in
    let size : take 8 (drop 64 text) ≡ to_le_bytes w64 x.size =
    sym (le_bytes_8 (take 8 (drop 64 text)) x.size (eight_long text 64 (omega (arith, long))) (small_part text 64 72 small) refl) in
    let chunk_size : take 8 (drop 72 text) ≡ to_le_bytes w64 x.chunk_size =
    sym (le_bytes_8 (take 8 (drop 72 text)) x.chunk_size (eight_long text 72 (omega (arith, long))) (small_part text 72 80 small) refl) in
    let rest = length-drop 4096 text in
    let digests : drop 4096 text ≡ concat x.digests =
    sym (concat-first_cells 32 (length (drop 4096 text) / 32) (drop 4096 text) (omega (arith, rest, is.whole))) in
    parts_joined text
    ∙ (λ i. laid (is.magic i) x.uuid (ctime i) (is.csum i) (size i) (chunk_size i) x.reserved (digests i))
    ∙ sym (text_is x)

-- ---- what a writer has once the pieces reach the size

length-reserved : length reserved ≡ 4016
unfolding reserved
length-reserved = length-replicate {A = ℕ} 4016 0

pub fits_fixed : (uuid : List ℕ) (ctime : ℤ) (size cut : ℕ) (digests : List (List ℕ)) → IsBegun uuid ctime size cut digests →
    min size (length digests * cut) ≡ size →
    FitsFixed (record { uuid = uuid; ctime = ctime; reserved = reserved; size = size; chunk_size = cut; digests = digests })
fits_fixed uuid ctime size cut digests is reached =
    let bounds = chunk_size_bounds cut is.sizes.chunk_size in
    let all = all_there size cut (length digests) (omega (arith, bounds)) reached in
    let begun = is.count in
    let limit = is.sizes.limit in
    record {
      uuid = is.uuid_len;
      ctime = is.ctime_fits;
      reserved = length-reserved;
      chunk_size = is.sizes.chunk_size;
      count = omega arith;
      limit = omega arith;
      size = is.size_fits;
      digests = is.digest_len;
    }

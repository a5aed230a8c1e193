-- An opening by pages of either kind, behind the tests that go by its front and its length.
use Rattle.std.proofs.Common.{◌≡◌, ℕ, ◌+◌, ◌-◌, ◌*◌, ◌/◌, Bool, true, false, not, ◌&&◌, cond, List, length, take, drop, slice_range, Some, Result, Ok, Err, inl, refl, sym, ap, ap₂, ◌∙◌, arith}
use Rattle.std.specs.Prelude.{◌==◌}
use Rattle.std.specs.Int.{w64, from_le_bytes}
use Rattle.std.specs.Str.{bytes_eq}
use Rattle.std.proofs.lemmas.List.{length-drop}
use Rattle.sha2.specs.Sha256.{sha256}
use Rattle.store_files.specs.declared.causes.IndexFault.{IndexFault}
use Rattle.store_files.specs.declared.causes.IndexFault.TheVariants.{Sizes, Csum}
use Rattle.store_files.specs.DynamicIndex.{DynamicIndex, dynamic_of, steps_fit}
use Rattle.store_files.specs.DynamicIndex as dynamic
use Rattle.store_files.specs.FixedIndex.{FixedIndex, fixed_of, is_chunk_size, piece_count}
use Rattle.store_files.specs.FixedIndex as fixed
use Rattle.index_pages.specs.declared.fault.PageFault.{PageFault}
use Rattle.index_pages.specs.declared.fault.PageFault.TheVariants.{Missing, BadIndex, Changed, Failed, NoMemory}
use Rattle.index_pages.specs.declared.opening.Body.{Body}
use Rattle.index_pages.specs.declared.opening.Opening.{Opening}
use Rattle.index_pages.specs.Gives.{Gives}
use Rattle.index_pages.specs.Opening.{IsBody, TakesThe, opened_by, told_by}
use Rattle.index_pages.specs.Paged.{Paged, page_count, paged}
use Rattle.index_pages.proofs.Cutting.{length-cells}
use Rattle.index_pages.proofs.Opened.{IsReadBy, front_part, pages_are}
use Rattle.paged_indexes.specs.declared.reading.DynamicBody.{DynamicBody}
use Rattle.paged_indexes.specs.Dynamic.{DynamicPaged, dynamic_paged}
use Rattle.paged_indexes.specs.Fixed.{FixedPaged, fixed_paged, sizes_agree}
use Rattle.paged_indexes.specs.Reading.{BodyIs, FixedBodyIs, IsDynamicBody}
use Rattle.paged_indexes.specs.Steps.{page_ends}
use Rattle.paged_indexes.proofs.Cells.{counted}
use Rattle.paged_indexes.proofs.Entries.{count_is}
use Rattle.paged_indexes.proofs.Joined.{digests_joined, entries_joined}

-- the two last tests
abbrev last_tests : {X : Type 0} → Bool → Bool → X → Result X IndexFault
last_tests sized summed x = cond (not sized) (Err Sizes) (cond summed (Ok x) (Err Csum))

told_sized : {X P : Type 0} (kept : P) (x : X) (sized summed same : Bool) → sized ≡ true → summed ≡ same
    → told_by kept (last_tests sized summed x) ≡ cond same (Ok kept) (Err (BadIndex Csum))
told_sized kept x sized summed true is e = ap₂ (λ z u. told_by kept (last_tests z u x)) is e
told_sized kept x sized summed false is e = ap₂ (λ z u. told_by kept (last_tests z u x)) is e

told_bad : {X P : Type 0} (kept : P) (x : X) (sized summed : Bool) → sized ≡ false → told_by kept (last_tests sized summed x) ≡ Err (BadIndex Sizes)
told_bad kept x sized summed is = ap (λ z. told_by kept (last_tests z summed x)) is

-- the csum of the front is the text's
csum_of_front : (text front : List ℕ) → front ≡ take 80 text → slice_range front 32 64 ≡ slice_range text 32 64
csum_of_front text front is = front_part text front 32 32 16 is refl

-- ---- a dynamic index

abbrev pub dynamic_rest : List ℕ → Result DynamicIndex IndexFault
dynamic_rest text = dynamic.checked (slice_range text 32 64) (dynamic.fields_of text)

pub dynamic_by : IsReadBy dynamic.magic 40 dynamic_of dynamic_rest
unfolding dynamic_of
dynamic_by text = refl

-- what stands behind the header
body_len : (width count : ℕ) (text : List ℕ) → length text ≡ 4096 + count * width → length (drop 4096 text) ≡ count * width
body_len width count text long = omega (arith, long, length-drop 4096 text)

-- its steps are out of range
bad_steps : (keep : List ℕ → DynamicPaged) (text : List ℕ) → dynamic_of text ≡ dynamic_rest text → steps_fit 0 (dynamic.fields_of text).entries ≡ false
    → opened_by dynamic_of keep (Some text) ≡ Err (BadIndex Sizes)
bad_steps keep text by steps =
    let x = dynamic.fields_of text in
    ap (told_by (keep text)) by
    ∙ told_bad (keep text) x (steps_fit 0 x.entries) (bytes_eq (slice_range text 32 64) (dynamic.csum_of x)) steps

pub no_body : {A : Type 0} (f : A → DynamicPaged) (keep : List ℕ → DynamicPaged) (text : List ℕ) (count : ℕ) (fault : PageFault)
    → dynamic_of text ≡ dynamic_rest text → BodyIs (drop 4096 text) count (Err fault) → Gives f (Err fault) (opened_by dynamic_of keep (Some text))
no_body f keep text count Missing by b = bad_steps keep text by b.steps ∙ ap Err (sym b.cause)
no_body f keep text count (BadIndex cause) by b = bad_steps keep text by b.steps ∙ ap Err (sym b.cause)
no_body f keep text count (Changed i) by b = bad_steps keep text by b.steps ∙ ap Err (sym b.cause)
no_body f keep text count Failed by b = tt
no_body f keep text count NoMemory by b = tt

dynamic_csum : (text front : List ℕ) (count : ℕ) (b : DynamicBody) → front ≡ take 80 text → length text ≡ 4096 + count * 40 → IsDynamicBody (drop 4096 text) count b
    → bytes_eq (slice_range text 32 64) (dynamic.csum_of (dynamic.fields_of text)) ≡ bytes_eq (slice_range front 32 64) b.body.csum
dynamic_csum text front count b front_is long is =
    let sum = ap sha256 (entries_joined count (drop 4096 text) (body_len 40 count text long) (is.read).small) ∙ sym (is.read).csum in
    ap₂ (λ a c. bytes_eq a c) (sym (csum_of_front text front front_is)) sum

pub summed : (keep : List ℕ → DynamicPaged) (text front : List ℕ) (count : ℕ) (b : DynamicBody) (same : Bool) → front ≡ take 80 text → length text ≡ 4096 + count * 40
    → dynamic_of text ≡ dynamic_rest text → IsDynamicBody (drop 4096 text) count b → bytes_eq (slice_range front 32 64) b.body.csum ≡ same
    → opened_by dynamic_of keep (Some text) ≡ cond same (Ok (keep text)) (Err (BadIndex Csum))
summed keep text front count b same front_is long by is e =
    let x = dynamic.fields_of text in
    ap (told_by (keep text)) by
    ∙ told_sized (keep text) x (steps_fit 0 x.entries) (bytes_eq (slice_range text 32 64) (dynamic.csum_of x)) same is.steps
    (dynamic_csum text front count b front_is long is ∙ e)

-- what is kept is the text's
pub paged_is : (name text : List ℕ) (count : ℕ) (b : DynamicBody) (p : Paged)
    → p ≡ record { name = name; width = 40; count = count; sums = (b.body).sums.items } → (length text - 4096) / 40 ≡ count → IsDynamicBody (drop 4096 text) count b
    → ◌≡◌ {A = DynamicPaged} (record { pages = p; ends = b.ends.items }) (dynamic_paged name text)
paged_is name text count b p e counts is =
    let all : count ≡ length (dynamic.fields_of text).entries = sym counts ∙ count_is text in
    ap₂ (λ (q : Paged) (es : List ℕ). record { pages = q; ends = es }) (e ∙ pages_are name text 40 count b.body counts is.read)
    (is.ends ∙ ap (λ n. page_ends (page_count n) (dynamic.fields_of text).entries) all)

-- ---- a fixed index

abbrev pub fixed_rest : List ℕ → Result FixedIndex IndexFault
fixed_rest text = fixed.checked (slice_range text 32 64) (fixed.fields_of text)

pub fixed_by : IsReadBy fixed.magic 32 fixed_of fixed_rest
unfolding fixed_of
fixed_by text = refl

-- the numbers in the front are the text's
pub size_is : (text front : List ℕ) → front ≡ take 80 text → from_le_bytes w64 (slice_range front 64 72) ≡ (fixed.fields_of text).size
size_is text front is = ap (from_le_bytes w64) (front_part text front 64 8 8 is refl)

pub chunk_size_is : (text front : List ℕ) → front ≡ take 80 text → from_le_bytes w64 (slice_range front 72 80) ≡ (fixed.fields_of text).chunk_size
chunk_size_is text front is = ap (from_le_bytes w64) (front_part text front 72 8 0 is refl)

pub fixed_count : (text : List ℕ) (count : ℕ) → length text ≡ 4096 + count * 32 → length (fixed.fields_of text).digests ≡ count
fixed_count text count long =
    let body = drop 4096 text in
    length-cells 32 (length body / 32) body ∙ counted 32 count (length body) (inl refl) (body_len 32 count text long)

pub sizes_are : (text : List ℕ) (size chunk_size count : ℕ) → size ≡ (fixed.fields_of text).size → chunk_size ≡ (fixed.fields_of text).chunk_size
    → length text ≡ 4096 + count * 32 → fixed.has_sizes (fixed.fields_of text) ≡ sizes_agree size chunk_size count
sizes_are text size chunk_size count s c long =
    let x = fixed.fields_of text in
    ap (λ n. is_chunk_size x.chunk_size && (n == piece_count x.size x.chunk_size)) (fixed_count text count long)
    ∙ ap₂ (λ a b. sizes_agree a b count) (sym s) (sym c)

pub bad_sizes : (keep : List ℕ → FixedPaged) (text : List ℕ) → fixed_of text ≡ fixed_rest text → fixed.has_sizes (fixed.fields_of text) ≡ false
    → opened_by fixed_of keep (Some text) ≡ Err (BadIndex Sizes)
bad_sizes keep text by sizes =
    let x = fixed.fields_of text in
    ap (told_by (keep text)) by
    ∙ told_bad (keep text) x (fixed.has_sizes x) (bytes_eq (slice_range text 32 64) (fixed.csum_of x)) sizes

fixed_csum : (text front : List ℕ) (count : ℕ) (b : Body) → front ≡ take 80 text → length text ≡ 4096 + count * 32 → IsBody 32 count (drop 4096 text) b
    → bytes_eq (slice_range text 32 64) (fixed.csum_of (fixed.fields_of text)) ≡ bytes_eq (slice_range front 32 64) b.csum
fixed_csum text front count b front_is long is =
    let sum = ap sha256 (digests_joined count (drop 4096 text) (body_len 32 count text long)) ∙ sym is.csum in
    ap₂ (λ a c. bytes_eq a c) (sym (csum_of_front text front front_is)) sum

pub fixed_summed : (keep : List ℕ → FixedPaged) (text front : List ℕ) (count : ℕ) (b : Body) (same : Bool) → front ≡ take 80 text → length text ≡ 4096 + count * 32
    → fixed_of text ≡ fixed_rest text → fixed.has_sizes (fixed.fields_of text) ≡ true → IsBody 32 count (drop 4096 text) b → bytes_eq (slice_range front 32 64) b.csum ≡ same
    → opened_by fixed_of keep (Some text) ≡ cond same (Ok (keep text)) (Err (BadIndex Csum))
fixed_summed keep text front count b same front_is long by sizes is e =
    let x = fixed.fields_of text in
    ap (told_by (keep text)) by
    ∙ told_sized (keep text) x (fixed.has_sizes x) (bytes_eq (slice_range text 32 64) (fixed.csum_of x)) same sizes
    (fixed_csum text front count b front_is long is ∙ e)

pub fixed_stopped : (body : List ℕ) (count i : ℕ) (old new : Opening) (page : List ℕ) (fault : PageFault)
    → TakesThe 32 count i body old new page (Err fault) → FixedBodyIs body count (Err fault)
fixed_stopped body count i old new page Missing h = h
fixed_stopped body count i old new page (BadIndex cause) h = h
fixed_stopped body count i old new page (Changed j) h = h
fixed_stopped body count i old new page Failed h = tt
fixed_stopped body count i old new page NoMemory h = tt

pub no_fixed_body : {A : Type 0} (f : A → FixedPaged) (body : List ℕ) (count : ℕ) (fault : PageFault) (w : Result FixedPaged PageFault)
    → FixedBodyIs body count (Err fault) → Gives f (Err fault) w
no_fixed_body f body count Missing w b = absurd b
no_fixed_body f body count (BadIndex cause) w b = absurd b
no_fixed_body f body count (Changed i) w b = absurd b
no_fixed_body f body count Failed w b = tt
no_fixed_body f body count NoMemory w b = tt

pub fixed_paged_is : (name text : List ℕ) (size chunk_size count : ℕ) (b : Body) (p : Paged)
    → p ≡ record { name = name; width = 32; count = count; sums = b.sums.items } → (length text - 4096) / 32 ≡ count → IsBody 32 count (drop 4096 text) b
    → size ≡ (fixed.fields_of text).size → chunk_size ≡ (fixed.fields_of text).chunk_size
    → ◌≡◌ {A = FixedPaged} (record { pages = p; size = size; chunk_size = chunk_size }) (fixed_paged name text)
fixed_paged_is name text size chunk_size count b p e counts is s c =
    ap (λ (q : Paged). record { pages = q; size = size; chunk_size = chunk_size }) (e ∙ pages_are name text 32 count b counts is)
    ∙ ap₂ (λ (n k : ℕ). record { pages = paged 32 name text; size = n; chunk_size = k }) s c

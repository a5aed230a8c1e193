-- The piece at an offset, by the pages' ends and one page.
use Rattle.std.proofs.Common.{◌≡◌, ℕ, zero, suc, ◌+◌, ◌-◌, ◌*◌, ◌/◌, ◌<◌, ◌≤◌, Bool, true, false, ◌&&◌, not, cond, inl, inr, List, [], ◌∷◌, length, take, drop, get_or, nat_lt, nat_le, Option, Some, None, Result, Ok, refl, sym, ap, ap₂, subst, ◌∙◌, arith}
use Rattle.std.specs.Prelude.{◌↔◌, ◌==◌, IsNone, IfSome, IsTrue, MatchResult, bit_and}
use Rattle.std.specs.List.{position_or_len}
use Rattle.std.proofs.lemmas.Bool.{and_parts, ltb-true, ltb-false, leb-true, eqb-true, cases_lt}
use Rattle.std.proofs.lemmas.List.{get_or-take, get_or-drop, get_or_push, length-append, length-drop, length-take, take-take, take_all}
use Rattle.std.proofs.lemmas.List.Sums.{fails_before_first, passes_at_first}
use Rattle.std.proofs.Math.ListN.{get_or-append}
use Rattle.std.proofs.Math.Seq.{take-add}
use Rattle.std.proofs.Math.Nat.{div-lt_iff_lt-mul, div-mul-le_self}
use Rattle.store_files.specs.DynamicIndex.{DynamicIndex, Ended, steps_fit}
use Rattle.store_files.specs.FixedIndex.{FixedIndex, has_sizes, is_chunk_size, piece_count}
use Rattle.dynamic_index.specs.Pieces.{HoldsOffset, last_end, size_of, start_of, stop_of}
use Rattle.dynamic_index.proofs.Reading.{dynamic_of-fits}
use Rattle.fixed_index.proofs.Reading.{fixed_of-ok, fixed_of-fits}
use Rattle.index_pages.specs.declared.fault.PageFault.{PageFault}
use Rattle.index_pages.specs.Paged.{page_count, paged}
use Rattle.index_pages.proofs.Filled.{by_bool}
use Rattle.paged_indexes.specs.Dynamic.{chunk_by, chunk_in, dynamic_paged, place_in, size_by}
use Rattle.paged_indexes.specs.Fixed.{chunk_in as fixed_chunk_in, fixed_paged}
use Rattle.paged_indexes.specs.Laws.{DynamicChunksAreFound, FixedChunksAreFound, HoldsByte, page}
use Rattle.paged_indexes.specs.Steps.{ended_before, entries_of, is_step, page_ends, page_with}
use Rattle.paged_indexes.proofs.Standing.{dynamic_pages_are, dynamic_sized, dynamic_stays}
use Rattle.paged_indexes.proofs.Stepping.{last_end-append}

-- ---- where pages end

pub length-page_ends : (n : ℕ) (es : List Ended) → length (page_ends n es) ≡ n
unfolding page_ends
length-page_ends zero es = refl
length-page_ends (suc n) es =
    let more = length-append (page_ends n es) (last_end 0 (take (suc n * 1024) es) ∷ []) in
    let before = length-page_ends n es in
    omega (arith, more, before)

pub page_end_at : (n : ℕ) (es : List Ended) (i d : ℕ) → i < n → get_or (page_ends n es) i d ≡ last_end 0 (take (suc i * 1024) es)
unfolding page_ends
page_end_at zero es i d below = absurd (omega arith)
page_end_at (suc n) es i d below =
    let end = last_end 0 (take (suc n * 1024) es) in
    let long = length-page_ends n es in
    elim (cases_lt i n) [
      | inl less ↦ get_or-append (page_ends n es) (end ∷ []) d i (omega (arith, less, long)) ∙ page_end_at n es i d less
      | inr more ↦
          let same : n ≡ i = omega (arith, more, below) in
          get_or_push (page_ends n es) end d i (omega (arith, long, same)) ∙ ap (λ k. last_end 0 (take (suc k * 1024) es)) same
    ]

no_entries : (es : List Ended) → length es ≡ 0 → last_end 0 es ≡ 0
no_entries [] e = refl
no_entries (x ∷ es) e = absurd (omega (arith, e))

-- the last one ends where the archive does
size_is : (n : ℕ) (es : List Ended) → n ≡ page_count (length es) → size_by (page_ends n es) ≡ last_end 0 es
unfolding page_ends
size_is zero es e = sym (no_entries es (omega (arith, e)))
size_is (suc n) es e =
    let ends = page_ends (suc n) es in
    let at : length ends - 1 ≡ n = omega (arith, length-page_ends (suc n) es) in
    ap (λ i. get_or ends i 0) at ∙ page_end_at (suc n) es n 0 (omega arith) ∙ ap (last_end 0) (take_all (suc n * 1024) es (omega (arith, e)))

-- ---- they rise

abbrev Fits : ℕ → List Ended → Type 0
Fits start es = IsTrue (steps_fit start es)

first_rises : (start : ℕ) (e : Ended) (es : List Ended) → Fits start (e ∷ es) → start < e.end
first_rises start e es fit = ltb-true start e.end (and_parts (nat_lt start e.end) (nat_le e.end (start + 16_777_216)) (and_parts (is_step start e.end) (steps_fit e.end es) fit).0).0

rest_fits : (start : ℕ) (e : Ended) (es : List Ended) → Fits start (e ∷ es) → Fits e.end es
rest_fits start e es fit = (and_parts (is_step start e.end) (steps_fit e.end es) fit).1

all_rise : (start : ℕ) (es : List Ended) → Fits start es → start ≤ last_end start es
all_rise start [] fit = omega arith
all_rise start (e ∷ es) fit = omega (arith, first_rises start e es fit, all_rise e.end es (rest_fits start e es fit))

front_rises : (start m : ℕ) (es : List Ended) → Fits start es → last_end start (take m es) ≤ last_end start es
front_rises start zero es fit = all_rise start es fit
front_rises start (suc m) [] fit = omega arith
front_rises start (suc m) (e ∷ es) fit = front_rises e.end m es (rest_fits start e es fit)

-- ---- the first piece that ends behind an offset

record Found (start offset : ℕ) (es : List Ended) (j : ℕ) : Type 0 where
  place : j < length es
  starts : last_end start (take j es) ≤ offset
  stops : (d : Ended) → offset < (get_or es j d).end

found_in : (start offset : ℕ) (es : List Ended) → start ≤ offset → offset < last_end start es → Found start offset es (ended_before offset es)
found_in start offset [] from to = absurd (omega arith)
found_in start offset (e ∷ es) from to =
    let behind = ended_before offset es in
    by_bool (nat_lt offset e.end) (Found start offset (e ∷ es) (ended_before offset (e ∷ es)))
    (λ t.
    let here : 0 ≡ ended_before offset (e ∷ es) = sym (ap (λ b. cond (not b) (1 + behind) 0) t) in
    subst (Found start offset (e ∷ es)) here (record { place = omega arith; starts = from; stops = λ d. ltb-true offset e.end t }))
    (λ f.
    let next = found_in e.end offset es (ltb-false offset e.end f) to in
    let at : suc behind ≡ ended_before offset (e ∷ es) = (let one : suc behind ≡ 1 + behind = omega arith in one) ∙ sym (ap (λ b. cond (not b) (1 + behind) 0) f) in
    subst (Found start offset (e ∷ es)) at (record { place = omega (arith, next.place); starts = next.starts; stops = next.stops }))

-- so in the page that has it
holds : (x : DynamicIndex) (offset k j : ℕ) (from to : ℕ) → from ≡ last_end 0 (take (k * 1024) x.entries) → from ≤ offset
    → to ≡ last_end 0 (take (suc k * 1024) x.entries) → offset < to → j ≡ ended_before offset (take 1024 (drop (k * 1024) x.entries))
    → HoldsOffset x offset (k * 1024 + j)
holds x offset k j from to from_is low to_is high j_is =
    let es = x.entries in
    let g = take 1024 (drop (k * 1024) es) in
    let at : k * 1024 + 1024 ≡ suc k * 1024 = omega arith in
    let whole : last_end from g ≡ to =
    ap (λ n. last_end n g) from_is ∙ sym (last_end-append 0 (take (k * 1024) es) g)
    ∙ ap (last_end 0) (sym (take-add (k * 1024) 1024 es) ∙ ap (λ n. take n es) at) ∙ sym to_is in
    let found = subst (Found from offset g) (sym j_is) (found_in from offset g low (omega (arith, whole, high))) in
    let len = length-take 1024 (drop (k * 1024) es) in
    let rest = length-drop (k * 1024) es in
    let few : j ≤ 1024 = omega (arith, found.place, len) in
    let start : start_of x (k * 1024 + j) ≡ last_end from (take j g) =
    ap (last_end 0) (take-add (k * 1024) j es) ∙ last_end-append 0 (take (k * 1024) es) (take j (drop (k * 1024) es))
    ∙ ap₂ (λ n xs. last_end n xs) (sym from_is) (sym (take-take j 1024 (drop (k * 1024) es) few)) in
    let none : Ended = record { end = 0; digest = [] } in
    let stop : stop_of x (k * 1024 + j) ≡ (get_or g j none).end =
    ap (λ (e : Ended). e.end) (sym (get_or-take 1024 (drop (k * 1024) es) j none (omega (arith, found.place, len)) ∙ get_or-drop (k * 1024) es j none)) in
    record {
      place = omega (arith, found.place, len, rest);
      starts = omega (arith, start, found.starts);
      stops = omega (arith, stop, found.stops none);
    }

-- ---- the piece by its page

abbrev Answers : DynamicIndex → ℕ → Result (Option ℕ) PageFault → Type 0
Answers x offset r = MatchResult r (λ found. (IsNone found ↔ (size_of x ≤ offset)) × IfSome found (HoldsOffset x offset)) (λ fault. ⊥)

none_there : (x : DynamicIndex) (offset : ℕ) → size_of x ≤ offset → Answers x offset (Ok None)
none_there x offset past = ((λ h. past, λ h. refl), tt)

some_there : (x : DynamicIndex) (offset i : ℕ) → offset < size_of x → HoldsOffset x offset i → Answers x offset (Ok (Some i))
some_there x offset i below held = ((λ h. absurd (never h), λ past. absurd (omega (arith, past, below))), held)
  where
    never : true ≡ false → ⊥
    never e = cc

-- a page begins at the offset or before it, where those before it end so
begins_low : (k : ℕ) (es : List Ended) (offset : ℕ) → ((i : ℕ) → i < k → last_end 0 (take (suc i * 1024) es) ≤ offset) → last_end 0 (take (k * 1024) es) ≤ offset
begins_low zero es offset low = omega arith
begins_low (suc k) es offset low = low k (omega arith)

abbrev pub is_behind : ℕ → ℕ → Bool
is_behind offset end = nat_lt offset end

-- none: each page ends at the offset or before it
pub past_all : (es : List Ended) (offset : ℕ) → length (page_ends (page_count (length es)) es) ≤ position_or_len (is_behind offset) (page_ends (page_count (length es)) es)
    → last_end 0 es ≤ offset
past_all es offset all =
    let n = page_count (length es) in
    let ends = page_ends n es in
    let whole : take (n * 1024) es ≡ es = take_all (n * 1024) es (omega arith) in
    let low : (i : ℕ) → i < n → last_end 0 (take (suc i * 1024) es) ≤ offset = λ i below.
    let first = fails_before_first (is_behind offset) ends i 0 (omega (arith, below, all, length-page_ends n es)) in
    omega (arith, ltb-false offset (get_or ends i 0) first, page_end_at n es i 0 below) in
    omega (arith, begins_low n es offset low, ap (last_end 0) whole)

-- the first page that ends behind it begins at the offset or before it
pub page_begins : (n : ℕ) (es : List Ended) (offset k : ℕ) → k ≡ position_or_len (is_behind offset) (page_ends n es) → k < n → last_end 0 (take (k * 1024) es) ≤ offset
page_begins n es offset k is within =
    begins_low k es offset (λ i below.
    let first = fails_before_first (is_behind offset) (page_ends n es) i 0 (omega (arith, below, is)) in
    omega (arith, ltb-false offset (get_or (page_ends n es) i 0) first, page_end_at n es i 0 (omega (arith, below, within))))

page_stops : (n : ℕ) (es : List Ended) (offset k : ℕ) → k ≡ position_or_len (is_behind offset) (page_ends n es) → k < n → offset < last_end 0 (take (suc k * 1024) es)
page_stops n es offset k is within =
    let ends = page_ends n es in
    let at = position_or_len (is_behind offset) ends in
    let first = passes_at_first (is_behind offset) ends 0 (omega (arith, is, within, length-page_ends n es)) in
    omega (arith, ltb-true offset (get_or ends at 0) first, page_end_at n es at 0 (omega (arith, is, within)), ap (λ j. last_end 0 (take (suc j * 1024) es)) is)

pub dynamic_chunks_are_found : DynamicChunksAreFound
unfolding chunk_in
dynamic_chunks_are_found m name text x offset ok there =
    let pages = dynamic_pages_are name text x ok in
    let sized = dynamic_sized text x ok in
    let p = paged 40 name text in
    let es = x.entries in
    let n = page_count (length es) in
    let ends = page_ends n es in
    let k = position_or_len (is_behind offset) ends in
    let fit = (dynamic_of-fits text x ok).1 in
    let ends_are : (dynamic_paged name text).ends ≡ ends = ap (λ (y : DynamicIndex). page_ends (page_count (length y.entries)) y.entries) (sym sized.is) in
    let long = length-page_ends n es in
    let chunk : (b : Bool) → nat_lt k (length ends) ≡ b → chunk_in m (dynamic_paged name text) offset ≡ chunk_by m p offset (cond b (Some k) None) =
    λ b e. ap (λ (xs : List ℕ). chunk_by m p offset (page_with offset xs)) ends_are ∙ ap (λ c. chunk_by m p offset (cond c (Some k) None)) e in
    record {
      size = ap size_by ends_are ∙ size_is n es refl;
      found = by_bool (nat_lt k (length ends)) (Answers x offset (chunk_in m (dynamic_paged name text) offset))
          (λ t.
          let within : k < n = omega (arith, ltb-true k (length ends) t, long) in
          let given = dynamic_stays text x ok m name k there (subst (λ c. k < page_count c) (sym pages.count) within) in
          let j = ended_before offset (entries_of (page 40 name text k)) in
          let from = last_end 0 (take (k * 1024) es) in
          let to = last_end 0 (take (suc k * 1024) es) in
          let high = page_stops n es offset k refl within in
          let held = holds x offset k j from to refl (page_begins n es offset k refl within) refl high (ap (ended_before offset) (pages.entries k within)) in
          let below : offset < size_of x = omega (arith, high, front_rises 0 (suc k * 1024) es fit) in
          subst (Answers x offset) (sym (chunk true t ∙ ap (place_in k offset) given)) (some_there x offset (k * 1024 + j) below held))
          (λ f. subst (Answers x offset) (sym (chunk false f)) (none_there x offset (past_all es offset (ltb-false k (length ends) f))));
    }

-- ---- of a fixed index

-- the pieces reach the size
pub pieces_reach : (size cut : ℕ) → 1 ≤ cut → size ≤ piece_count size cut * cut
pieces_reach size cut positive =
    let q = piece_count size cut in
    let high = (div-lt_iff_lt-mul {k = cut} {x = size + cut - 1} {y = q + 1} positive).0 (omega arith) in
    omega (arith, high)

pub chunk_size_low : (n : ℕ) → IsTrue (is_chunk_size n) → 4096 ≤ n
chunk_size_low n is =
    leb-true 4096 n (and_parts (nat_le 4096 n) (nat_le n 16_777_216) (and_parts (nat_le 4096 n && nat_le n 16_777_216) (bit_and n (n - 1) == 0) is).0).0

-- so a byte before the size is in one of them
pub piece_within : (size cut count offset : ℕ) → 1 ≤ cut → count ≡ piece_count size cut → offset < size → offset / cut < count
piece_within size cut count offset positive is below =
    (div-lt_iff_lt-mul {k = cut} {x = offset} {y = count} positive).1 (omega (arith, below, pieces_reach size cut positive, ap (λ n. n * cut) is))

holds_byte : (x : FixedIndex) (offset : ℕ) → 1 ≤ x.chunk_size → length x.digests ≡ piece_count x.size x.chunk_size → offset < x.size → HoldsByte x offset (offset / x.chunk_size)
holds_byte x offset positive count below =
    let i = offset / x.chunk_size in
    let high = (div-lt_iff_lt-mul {k = x.chunk_size} {x = offset} {y = i + 1} positive).0 (omega arith) in
    record {
      place = piece_within x.size x.chunk_size (length x.digests) offset positive count below;
      starts = div-mul-le_self offset x.chunk_size;
      stops = omega (arith, high, below);
    }

abbrev Finds : FixedIndex → ℕ → Option ℕ → Type 0
Finds x offset found = (IsNone found ↔ (x.size ≤ offset)) × IfSome found (HoldsByte x offset)

found_there : (x : FixedIndex) (offset i : ℕ) → offset < x.size → HoldsByte x offset i → Finds x offset (Some i)
found_there x offset i below held = ((λ h. absurd (never h), λ past. absurd (omega (arith, past, below))), held)
  where
    never : true ≡ false → ⊥
    never e = cc

pub fixed_chunks_are_found : FixedChunksAreFound
fixed_chunks_are_found name text x offset ok =
    let found = fixed_of-ok text x ok in
    let least = (fixed_of-fits text x ok).least in
    let positive : 1 ≤ x.chunk_size = omega (arith, least) in
    let sizes = subst (λ (y : FixedIndex). IsTrue (has_sizes y)) (sym found.0) found.1.sizes in
    let count : length x.digests ≡ piece_count x.size x.chunk_size =
    eqb-true _ _ (and_parts (is_chunk_size x.chunk_size) (length x.digests == piece_count x.size x.chunk_size) sizes).1 in
    let p = fixed_paged name text in
    let size : p.size ≡ x.size = ap (λ (y : FixedIndex). y.size) (sym found.0) in
    let cut : p.chunk_size ≡ x.chunk_size = ap (λ (y : FixedIndex). y.chunk_size) (sym found.0) in
    let chunk : (b : Bool) → nat_lt offset x.size ≡ b → fixed_chunk_in p offset ≡ cond b (Some (offset / x.chunk_size)) None =
    λ b e. ap₂ (λ (s c : ℕ). cond (nat_lt offset s) (Some (offset / c)) None) size cut ∙ ap (λ c. cond c (Some (offset / x.chunk_size)) None) e in
    let finds = by_bool (nat_lt offset x.size) (Finds x offset (fixed_chunk_in p offset))
    (λ t.
    let below = ltb-true offset x.size t in
    subst (Finds x offset) (sym (chunk true t)) (found_there x offset (offset / x.chunk_size) below (holds_byte x offset positive count below)))
    (λ f.
    let past = ltb-false offset x.size f in
    subst (Finds x offset) (sym (chunk false f)) ((λ h. past, λ h. refl), tt)) in
    record { size = size; none = finds.0; held = finds.1 }

-- What was opened is the index that stands there.
use Rattle.std.proofs.Common.{◌≡◌, ℕ, zero, suc, ◌+◌, ◌-◌, ◌*◌, ◌/◌, ◌<◌, Bool, true, false, cond, min, List, [], ◌∷◌, ◌++◌, length, take, drop, get_or, nat_lt, Option, Some, None, Result, Ok, Err, IsTrue, refl, sym, ap, ap₂, subst, ◌∙◌, arith}
use Rattle.std.specs.Prelude.{◌==◌, is_some}
use Rattle.std.specs.FinMap.{get}
use Rattle.std.specs.List.{position_or_len}
use Rattle.std.proofs.lemmas.Bool.{and_parts, eqb-true, ltb-true, ltb-false, ne_eqb}
use Rattle.std.proofs.lemmas.List.{length-drop, length-take, take-append-drop}
use Rattle.std.proofs.Math.Nat.{div-mul-le_self}
use Rattle.std.proofs.Math.Seq.{take-add}
use Rattle.disk_trait.specs.Files.{Files}
use Rattle.store_files.specs.Cells.{cells}
use Rattle.store_files.specs.declared.causes.IndexFault.{IndexFault}
use Rattle.store_files.specs.FixedIndex.{FixedIndex, fixed_of, is_chunk_size, piece_count, piece_len}
use Rattle.store_files.specs.FixedIndex as fixed
use Rattle.store_files.specs.DynamicIndex.{DynamicIndex, Ended, dynamic_of, steps_fit}
use Rattle.dynamic_index.specs.Pieces.{last_end}
use Rattle.dynamic_index.proofs.Reading.{dynamic_of-fits}
use Rattle.fixed_index.proofs.Reading.{fixed_of-ok, fixed_of-fits}
use Rattle.index_pages.specs.declared.fault.PageFault.{PageFault}
use Rattle.index_pages.specs.Opening.{opened_by, told_by}
use Rattle.index_pages.specs.Paged.{count_of, entries_at, page_count, page_len, paged}
use Rattle.paged_indexes.specs.declared.index.IndexPages.{IndexPages}
use Rattle.paged_indexes.specs.declared.index.IndexPages.TheVariants as pages
use Rattle.paged_indexes.specs.declared.kinds.IndexKind.TheVariants.{Fixed, Dynamic}
use Rattle.paged_indexes.specs.Dynamic.{DynamicPaged, dynamic_paged}
use Rattle.paged_indexes.specs.Dynamic as dynamics
use Rattle.paged_indexes.specs.Fixed.{Cuts, FixedPaged, HasSizes, cut_of, fixed_ends, fixed_ends_from, fixed_paged}
use Rattle.paged_indexes.specs.Fixed as fixeds
use Rattle.paged_indexes.specs.Index.{entries_in, entries_read, opened, opened_as, page_with, told_at}
use Rattle.paged_indexes.specs.Laws.{BeginsLow, IsIndex, OpenedIsTheIndex, PageIs, page}
use Rattle.paged_indexes.specs.Steps as by_steps
use Rattle.paged_indexes.specs.Steps.{entries_told, page_ends, stepped}
use Rattle.paged_indexes.proofs.Cutting.{all_cut, cut_ends, front_cuts, length-ends_by}
use Rattle.paged_indexes.proofs.Finding.{is_behind, length-page_ends, page_begins, page_end_at, past_all, piece_within}
use Rattle.paged_indexes.proofs.Handed.{same_some}
use Rattle.paged_indexes.proofs.Paging.{fixed_page, told_there}
use Rattle.paged_indexes.proofs.Standing.{dynamic_pages_are, dynamic_sized, dynamic_stays, fixed_pages_are, fixed_sized, fixed_stays}
use Rattle.paged_indexes.proofs.Stepping.{last_end-append, stepped_fits, stepped_last, stepped_none, stepped_some}

by_bool : (b : Bool) (P : Bool → Type 0) → (b ≡ true → P true) → (b ≡ false → P false) → P b
by_bool true P t f = t refl
by_bool false P t f = f refl

-- ---- steps of a part of a list

some_end : (start : ℕ) (es : List Ended) → IsTrue (steps_fit start es) → stepped start es ≡ Some (last_end start es)
some_end start es fit = by_end (stepped start es) refl
  where
    by_end : (o : Option ℕ) → stepped start es ≡ o → stepped start es ≡ Some (last_end start es)
    by_end (Some end) is = is ∙ ap Some (stepped_last start end es is)
    by_end None is = absurd (never (sym fit ∙ stepped_fits start es ∙ ap (λ o. is_some o) is))
      where
        never : true ≡ false → ⊥
        never e = cc

none_some : (x : ℕ) → ◌≡◌ {A = Option ℕ} None (Some x) → ⊥
none_some x e = cc

-- the front of a list whose steps fit, and what is behind it
front_end : (start : ℕ) (xs ys : List Ended) (end : ℕ) → stepped start (xs ++ ys) ≡ Some end → stepped start xs ≡ Some (last_end start xs)
front_end start xs ys end is = by_end (stepped start xs) refl
  where
    by_end : (o : Option ℕ) → stepped start xs ≡ o → stepped start xs ≡ Some (last_end start xs)
    by_end (Some to) e = e ∙ ap Some (stepped_last start to xs e)
    by_end None e = absurd (none_some end (sym (stepped_none start xs ys e) ∙ is))

behind_end : (start : ℕ) (xs ys : List Ended) (end : ℕ) → stepped start (xs ++ ys) ≡ Some end → stepped (last_end start xs) ys ≡ Some end
behind_end start xs ys end is = sym (stepped_some start (last_end start xs) xs ys (front_end start xs ys end is)) ∙ is

-- of a page
page_steps : (es : List Ended) (i : ℕ) → IsTrue (steps_fit 0 es)
    → stepped (last_end 0 (take (i * 1024) es)) (take 1024 (drop (i * 1024) es)) ≡ Some (last_end 0 (take (suc i * 1024) es))
page_steps es i fit =
    let xs = take (i * 1024) es in
    let rest = drop (i * 1024) es in
    let g = take 1024 rest in
    let at : i * 1024 + 1024 ≡ suc i * 1024 = omega arith in
    let all : stepped 0 (xs ++ rest) ≡ Some (last_end 0 es) = ap (stepped 0) (take-append-drop (i * 1024) es) ∙ some_end 0 es fit in
    let behind = behind_end 0 xs rest (last_end 0 es) all in
    let here = front_end (last_end 0 xs) g (drop 1024 rest) (last_end 0 es) (ap (stepped (last_end 0 xs)) (take-append-drop 1024 rest) ∙ behind) in
    here ∙ ap Some (sym (last_end-append 0 xs g) ∙ ap (last_end 0) (sym (take-add (i * 1024) 1024 es) ∙ ap (λ n. take n es) at))

-- ---- of a dynamic index

-- what is kept of entries tells where their pages begin and stop
module _ (q : DynamicPaged) (es : List Ended) (ends_are : q.ends ≡ page_ends (page_count (length es)) es) where
  starts_are : (i : ℕ) → i < page_count (length es) → dynamics.start_in q i ≡ last_end 0 (take (i * 1024) es)
  starts_are i below = by_first i below
    where
      by_first : (k : ℕ) → k < page_count (length es) → dynamics.start_in q k ≡ last_end 0 (take (k * 1024) es)
      by_first zero low = refl
      by_first (suc k) low =
          let at : suc k - 1 ≡ k = omega arith in
          let more : (suc k == 0) ≡ false = ne_eqb (suc k) 0 (omega arith) in
          ap (λ b. cond b 0 (get_or q.ends (suc k - 1) 0)) more ∙ ap (λ n. get_or q.ends n 0) at ∙ ap (λ (xs : List ℕ). get_or xs k 0) ends_are ∙ page_end_at (page_count (length es)) es k 0 (omega (arith, low))

  stops_are : (i : ℕ) → i < page_count (length es) → dynamics.stop_in q i ≡ last_end 0 (take (suc i * 1024) es)
  stops_are i below = ap (λ (xs : List ℕ). get_or xs i 0) ends_are ∙ page_end_at (page_count (length es)) es i 0 below

  -- and so they are told
  pub dynamic_page_told : (i : ℕ) → i < page_count (length es) → IsTrue (steps_fit 0 es)
      → entries_told i (dynamics.start_in q i) (dynamics.stop_in q i) (take 1024 (drop (i * 1024) es)) ≡ Ok (take 1024 (drop (i * 1024) es))
  dynamic_page_told i below fit =
      let g = take 1024 (drop (i * 1024) es) in
      told_there i (dynamics.start_in q i) (dynamics.stop_in q i) (last_end 0 (take (suc i * 1024) es)) g
      (ap (λ n. stepped n g) (starts_are i below) ∙ page_steps es i fit) (sym (stops_are i below))

module _ (m : Files) (name text : List ℕ) (x : DynamicIndex) (ok : dynamic_of text ≡ Ok x) (there : get m name ≡ Some text) where
  abbrev q : DynamicPaged
  q = dynamic_paged name text

  abbrev es : List Ended
  es = x.entries

  ends_are : q.ends ≡ page_ends (page_count (length es)) es
  ends_are = ap (λ (y : DynamicIndex). page_ends (page_count (length y.entries)) y.entries) (sym (dynamic_sized text x ok).is)

  dynamic_page_is : (i : ℕ) → i < page_count (length es) → PageIs m (pages.Dynamic q) es i
  unfolding told_at
  dynamic_page_is i below =
      let are = dynamic_pages_are name text x ok in
      let given = dynamic_stays text x ok m name i there (subst (λ c. i < page_count c) (sym are.count) below) in
      record {
        read =
            ap (entries_read (pages.Dynamic q) i) given
            ∙ ap (entries_told i (dynamics.start_in q i) (dynamics.stop_in q i)) (are.entries i below)
            ∙ dynamic_page_told q es ends_are i below (dynamic_of-fits text x ok).1;
        start = starts_are q es ends_are i below;
      }

  found_low : (offset : ℕ) → BeginsLow (pages.Dynamic q) es offset (page_with (pages.Dynamic q) offset)
  found_low offset =
      let n = page_count (length es) in
      let ends = page_ends n es in
      let k = position_or_len (is_behind offset) ends in
      let long = length-page_ends n es in
      subst (BeginsLow (pages.Dynamic q) es offset) (sym (ap (by_steps.page_with offset) ends_are))
      (by_bool (nat_lt k (length ends)) (λ b. BeginsLow (pages.Dynamic q) es offset (cond b (Some k) None))
      (λ t. let within : k < n = omega (arith, ltb-true k (length ends) t, long) in (within, omega (arith, starts_are q es ends_are k within, page_begins n es offset k refl within)))
      (λ f. past_all es offset (ltb-false k (length ends) f)))

  pub dynamic_is_index : IsIndex m (pages.Dynamic q) es
  dynamic_is_index = record {
    count = (dynamic_pages_are name text x ok).count;
    pages = dynamic_page_is;
    found = found_low;
  }

-- ---- of a fixed index

ends-take : (size cut start k : ℕ) (ds : List (List ℕ)) → take k (fixed_ends_from size cut start ds) ≡ fixed_ends_from size cut start (take k ds)
ends-take size cut start zero ds = refl
ends-take size cut start (suc k) [] = refl
ends-take size cut start (suc k) (d ∷ ds) =
    let end = start + piece_len size cut start in
    ap (λ (es : List Ended). record { end = end; digest = d } ∷ es) (ends-take size cut end k ds)

ends-drop : (size cut start k : ℕ) (ds : List (List ℕ))
    → drop k (fixed_ends_from size cut start ds) ≡ fixed_ends_from size cut (last_end start (fixed_ends_from size cut start (take k ds))) (drop k ds)
ends-drop size cut start zero ds = refl
ends-drop size cut start (suc k) [] = refl
ends-drop size cut start (suc k) (d ∷ ds) = ends-drop size cut (start + piece_len size cut start) k ds

-- what is kept of digests tells where their pages begin
module _ (f : FixedPaged) (ds : List (List ℕ)) (all : Cuts (cut_of f) 0 (length ds)) where
  begins_at : (i : ℕ) → i < page_count (length ds) → fixeds.start_in f i ≡ last_end 0 (take (i * 1024) (fixed_ends_from f.size f.chunk_size 0 ds))
  begins_at i below =
      let k = i * 1024 in
      let few : length (take k ds) ≡ k = omega (arith, below, length-take k ds) in
      let c = cut_of f in
      let ends = cut_ends c 0 (take k ds) (front_cuts c 0 (length (take k ds)) (length ds) (omega (arith, below, few)) all) in
      sym (ap (last_end 0) (ends-take f.size f.chunk_size 0 k ds) ∙ ends ∙ ap (λ n. min f.size (0 + n * f.chunk_size)) few ∙ (let z : min f.size (0 + k * f.chunk_size) ≡ min f.size (k * f.chunk_size) = omega arith in z))

  -- and so they are told
  pub fixed_page_told : HasSizes f.pages f.size f.chunk_size → (f.pages).count ≡ length ds → (i : ℕ) (bytes : List ℕ) → i < page_count (length ds)
      → length bytes ≡ page_len f.pages i → cells 32 bytes ≡ take 1024 (drop (i * 1024) ds)
      → fixeds.fixed_told f i bytes ≡ Ok (take 1024 (drop (i * 1024) (fixed_ends_from f.size f.chunk_size 0 ds)))
  fixed_page_told sizes count i bytes below len are =
      let k = i * 1024 in
      let begin = last_end 0 (fixed_ends_from f.size f.chunk_size 0 (take k ds)) in
      let from : fixeds.start_in f i ≡ begin = begins_at i below ∙ ap (last_end 0) (ends-take f.size f.chunk_size 0 k ds) in
      (fixed_page f i bytes sizes (subst (λ n. i < page_count n) (sym count) below) len).told
      ∙ ap Ok (ap₂ (λ a (cs : List (List ℕ)). fixed_ends_from f.size f.chunk_size a cs) from are
      ∙ sym (ends-take f.size f.chunk_size begin 1024 (drop k ds))
      ∙ ap (take 1024) (sym (ends-drop f.size f.chunk_size 0 k ds)))

module _ (m : Files) (name text : List ℕ) (x : FixedIndex) (ok : fixed_of text ≡ Ok x) (there : get m name ≡ Some text) where
  abbrev f : FixedPaged
  f = fixed_paged name text

  abbrev y : FixedIndex
  y = fixed.fields_of text

  abbrev fs : List Ended
  fs = fixed_ends y

  -- how many there are, and how they are cut
  record Sized : Type 0 where
    is : x ≡ y
    len : length text ≡ 4096 + length y.digests * 32
    count : (f.pages).count ≡ length y.digests
    sizes : HasSizes f.pages y.size y.chunk_size
    all : Cuts (cut_of f) 0 (length y.digests)

  sized : Sized
  unfolding paged
  sized =
      let s = fixed_sized text x ok in
      let found = fixed_of-ok text x ok in
      let count : count_of 32 text ≡ length y.digests = sym s.count ∙ ap (λ (z : FixedIndex). length z.digests) s.is in
      let parts = and_parts (is_chunk_size y.chunk_size) (length y.digests == piece_count y.size y.chunk_size) found.1.sizes in
      let limit = (fixed_of-fits text x ok).limit in
      let many = ap (λ (z : FixedIndex). length z.digests) s.is in
      record {
        is = s.is;
        len = s.len ∙ ap (λ n. 4096 + n * 32) count;
        count = count;
        sizes = record { width = refl; limit = omega (arith, count, limit, many); allowed = parts.0; pieces = count ∙ eqb-true _ _ parts.1 };
        all = all_cut y.size y.chunk_size (length y.digests) found.1.sizes;
      }

  page_len_is : (i : ℕ) → i < page_count (length y.digests) → length (page 32 name text i) ≡ page_len f.pages i
  unfolding paged
  page_len_is i below =
      let s = sized in
      let n = count_of 32 text in
      let count : n ≡ length y.digests = s.count in
      let few = entries_at n i * 32 in
      let at = 4096 + i * 32_768 in
      let left : length (drop at text) ≡ length text - at = length-drop at text in
      length-take few (drop at text) ∙ (let all : min few (length (drop at text)) ≡ few = omega (arith, below, count, s.len, left) in all)

  fixed_page_is : (i : ℕ) → i < page_count (length y.digests) → PageIs m (pages.Fixed f) fs i
  unfolding told_at
  fixed_page_is i below =
      let s = sized in
      let k = i * 1024 in
      let are = fixed_pages_are name text x ok in
      let same = ap (λ (z : FixedIndex). length z.digests) s.is in
      let below_x : i < page_count (length x.digests) = omega (arith, below, same) in
      let given = fixed_stays text x ok m name i there (subst (λ c. i < page_count c) (sym are.count) below_x) in
      let cells_are : cells 32 (page 32 name text i) ≡ take 1024 (drop k y.digests) = are.entries i below_x ∙ ap (λ (z : FixedIndex). take 1024 (drop k z.digests)) s.is in
      record {
        read = ap (entries_read (pages.Fixed f) i) given ∙ fixed_page_told f y.digests s.all s.sizes s.count i (page 32 name text i) below (page_len_is i below) cells_are;
        start = begins_at f y.digests s.all i below;
      }

  low_at : (offset : ℕ) → BeginsLow (pages.Fixed f) fs offset (page_with (pages.Fixed f) offset)
  low_at offset =
      let s = sized in
      let c = cut_of f in
      let many = length-ends_by y.size y.chunk_size 0 y.digests in
      by_bool (nat_lt offset y.size) (λ b. BeginsLow (pages.Fixed f) fs offset (cond b (Some (offset / y.chunk_size / 1024)) None))
      (λ t.
      let i = offset / y.chunk_size / 1024 in
      let within = piece_within y.size y.chunk_size (f.pages).count offset (s.all).least (s.sizes).pieces (ltb-true offset y.size t) in
      let low = div-mul-le_self offset y.chunk_size in
      let more : i * 1024 + (offset / y.chunk_size - i * 1024) ≡ offset / y.chunk_size = omega arith in
      let far : (i * 1024 + (offset / y.chunk_size - i * 1024)) * y.chunk_size ≡ offset / y.chunk_size * y.chunk_size = ap (λ n. n * y.chunk_size) more in
      (omega (arith, within, s.count, many), omega (arith, far, low)))
      (λ b. let ends = cut_ends c 0 y.digests s.all in omega (arith, ends, ltb-false offset y.size b))

  fixed_is_index_here : IsIndex m (pages.Fixed f) fs
  fixed_is_index_here =
      let s = sized in
      let many = length-ends_by y.size y.chunk_size 0 y.digests in
      record {
        count = s.count ∙ sym many;
        pages = λ i below. fixed_page_is i (omega (arith, below, many));
        found = low_at;
      }

  pub fixed_is_index : IsIndex m (pages.Fixed f) (fixed_ends x)
  fixed_is_index = subst (λ (z : FixedIndex). IsIndex m (pages.Fixed f) (fixed_ends z)) (sym sized.is) fixed_is_index_here

-- ---- of either kind

kept_as : {A X : Type 0} (as_index : A → IndexPages) (keep : A) (r : Result X IndexFault) (p : IndexPages) → opened_as as_index (told_by keep r) ≡ Ok p → (x : X) × (r ≡ Ok x) × (as_index keep ≡ p)
kept_as as_index keep (Ok x) p is = (x, refl, same is)
  where
    same : ◌≡◌ {A = Result IndexPages PageFault} (Ok (as_index keep)) (Ok p) → as_index keep ≡ p
    same e = cc
kept_as as_index keep (Err cause) p is = cc

pub opened_is_index : OpenedIsTheIndex
unfolding opened fixeds.opened dynamics.opened entries_in
opened_is_index m name text Fixed p es there is entries =
    let (x, ok, same) = kept_as pages.Fixed (fixed_paged name text) (fixed_of text) p (sym (ap (λ t. opened_as pages.Fixed (opened_by fixed_of (fixed_paged name) t)) there) ∙ is) in
    let ends : fixed_ends x ≡ es = same_some (fixed_ends x) es (sym (ap (λ r. elim r [ Ok y ↦ Some (fixed_ends y) | Err cause ↦ None ]) ok) ∙ entries) in
    subst (λ l. IsIndex m p l) ends (subst (λ q. IsIndex m q (fixed_ends x)) same (fixed_is_index m name text x ok there))
opened_is_index m name text Dynamic p es there is entries =
    let (x, ok, same) = kept_as pages.Dynamic (dynamic_paged name text) (dynamic_of text) p (sym (ap (λ t. opened_as pages.Dynamic (opened_by dynamic_of (dynamic_paged name) t)) there) ∙ is) in
    let ends : x.entries ≡ es = same_some x.entries es (sym (ap (λ r. elim r [ Ok y ↦ Some y.entries | Err cause ↦ None ]) ok) ∙ entries) in
    subst (λ l. IsIndex m p l) ends (subst (λ q. IsIndex m q x.entries) same (dynamic_is_index m name text x ok there))

-- A page's entries from its bytes.
use Rattle.std.proofs.Common.{◌≡◌, ℕ, ◌+◌, ◌-◌, ◌*◌, ◌<◌, ◌≤◌, Bool, true, false, cond, inl, inr, min, List, length, get_or, Option, Some, None, Result, Ok, Err, refl, sym, ap, subst, ◌∙◌, arith}
use Rattle.std.specs.Prelude.{◌==◌, IsErrAnd}
use Rattle.disk_trait.specs.Files.{Files}
use Rattle.std.proofs.lemmas.Bool.{and_from, cases_lt, eq-eqb, eqb-true, ne_eqb}
use Rattle.store_files.specs.Cells.{cells}
use Rattle.store_files.specs.FixedIndex.{is_chunk_size, piece_count}
use Rattle.store_files.specs.DynamicIndex.{Ended}
use Rattle.dynamic_index.specs.Pieces.{last_end}
use Rattle.index_pages.specs.declared.fault.PageFault.{PageFault}
use Rattle.index_pages.specs.declared.fault.PageFault.TheVariants.{Missing, BadIndex, Changed, Failed, NoMemory}
use Rattle.index_pages.specs.Gives.{Gives}
use Rattle.index_pages.specs.Paged.{entries_at, page_at, page_count, page_len}
use Rattle.paged_indexes.specs.Fixed.{Cuts, FixedPaged, HasSizes, cut_of, ends_in, fixed_told, start_in, stop_in}
use Rattle.paged_indexes.specs.Handing.{HandsTold}
use Rattle.paged_indexes.specs.declared.index.IndexPages.{IndexPages}
use Rattle.paged_indexes.specs.declared.index.IndexPages.TheVariants as pages
use Rattle.paged_indexes.specs.Dynamic as dynamics
use Rattle.paged_indexes.specs.Index.{HandsInto, entries_read, pages_by, start_by, stop_by, told_at, told_by}
use Rattle.paged_indexes.specs.Steps.{ends_at, entries_of, entries_told, stepped}
use Rattle.paged_indexes.proofs.Cutting.{all_cut, cells_count, cut_ends, front_cuts, page_begins, steps_cut}
use Rattle.paged_indexes.proofs.Finding.{pieces_reach}

-- ---- told as they stood

pub ends_there : (stop end : ℕ) → end ≡ stop → ends_at stop (Some end) ≡ true
ends_there stop end is = eq-eqb end stop is

told_if : (b : Bool) (i : ℕ) (es : List Ended) → b ≡ true → cond b (Ok es) (Err (Changed i)) ≡ Ok es
told_if b i es is = ap (λ c. let r : Result (List Ended) PageFault = cond c (Ok es) (Err (Changed i)) in r) is

pub told_there : (i start stop end : ℕ) (es : List Ended) → stepped start es ≡ Some end → end ≡ stop → entries_told i start stop es ≡ Ok es
told_there i start stop end es steps is = told_if (ends_at stop (stepped start es)) i es (ap (ends_at stop) steps ∙ ends_there stop end is)

-- ---- of a fixed index

-- the pieces of a page, and where the last one ends
pub record FixedPage (p : FixedPaged) (i : ℕ) (bytes : List ℕ) : Type 0 where
  pub cuts : Cuts (cut_of p) (start_in p i) (length (cells 32 bytes))
  pub start : start_in p i ≡ i * 1024 * p.chunk_size
  pub told : fixed_told p i bytes ≡ Ok (ends_in (cut_of p) (start_in p i) bytes)

pub fixed_page : (p : FixedPaged) (i : ℕ) (bytes : List ℕ) → HasSizes p.pages p.size p.chunk_size → i < page_count (p.pages).count
    → length bytes ≡ page_len p.pages i → FixedPage p i bytes
fixed_page p i bytes has below all_len =
    let count = (p.pages).count in
    let len : length bytes ≡ entries_at count i * 32 = all_len ∙ ap (λ w. entries_at count i * w) has.width in
    let c = cut_of p in
    let all = all_cut p.size p.chunk_size count (and_from (is_chunk_size p.chunk_size) (count == piece_count p.size p.chunk_size) has.allowed (eq-eqb count (piece_count p.size p.chunk_size) has.pieces)) in
    let few = cells_count (entries_at count i) bytes len in
    let begins = page_begins c count i all.least all.most (omega (arith, all.reach)) below in
    let start : start_in p i ≡ i * 1024 * p.chunk_size = omega (arith, begins.within) in
    let cuts = front_cuts c (i * 1024 * p.chunk_size) (length (cells 32 bytes)) (count - i * 1024) (omega (arith, few)) begins in
    let here = subst (λ n. Cuts c n (length (cells 32 bytes))) (sym start) cuts in
    let ends = cut_ends c (start_in p i) (cells 32 bytes) here in
    record {
      cuts = here;
      start = start;
      told = told_there i (start_in p i) (stop_in p i) (last_end (start_in p i) (ends_in c (start_in p i) bytes)) (ends_in c (start_in p i) bytes)
          (steps_cut c (start_in p i) (cells 32 bytes) here)
          (ends ∙ stops (length (cells 32 bytes)) few start (omega (arith, pieces_reach p.size p.chunk_size all.least, ap (λ n. n * p.chunk_size) has.pieces)));
    }
  where
    stops : (n : ℕ) → n ≡ entries_at (p.pages).count i → start_in p i ≡ i * 1024 * p.chunk_size → p.size ≤ (p.pages).count * p.chunk_size
        → min p.size (start_in p i + n * p.chunk_size) ≡ stop_in p i
    stops n few start reach =
        let count = (p.pages).count in
        let k = i * 1024 in
        let next = (i + 1) * 1024 in
        elim (cases_lt count next) [
          | inl short ↦
              let all : k + n ≡ count = omega (arith, few, below, short) in
              let sum : (k + n) * p.chunk_size ≡ count * p.chunk_size = ap (λ a. a * p.chunk_size) all in
              let more : count + (next - count) ≡ next = omega (arith, short) in
              let far : (count + (next - count)) * p.chunk_size ≡ next * p.chunk_size = ap (λ a. a * p.chunk_size) more in
              let here : start_in p i + n * p.chunk_size ≡ count * p.chunk_size = omega (arith, start, sum) in
              let past : count * p.chunk_size ≤ next * p.chunk_size = omega (arith, far) in
              omega (arith, here, past, reach)
          | inr long ↦
              let all : k + n ≡ next = omega (arith, few, long) in
              let sum : (k + n) * p.chunk_size ≡ next * p.chunk_size = ap (λ a. a * p.chunk_size) all in
              let here : start_in p i + n * p.chunk_size ≡ next * p.chunk_size = omega (arith, start, sum) in
              ap (λ a. min p.size a) here
        ]

-- ---- what is told

-- its pieces are as long as pieces may be, and the last one ends where the page stops
pub told_ends : (i start stop : ℕ) (spelled es : List Ended) → entries_told i start stop spelled ≡ Ok es → stepped start es ≡ Some stop
told_ends i start stop spelled es is = by_test (ends_at stop (stepped start spelled)) refl is
  where
    ok_same : (a b : List Ended) → ◌≡◌ {A = Result (List Ended) PageFault} (Ok a) (Ok b) → a ≡ b
    ok_same a b e = cc

    by_end : (o : Option ℕ) → stepped start spelled ≡ o → ends_at stop o ≡ true → stepped start spelled ≡ Some stop
    by_end (Some end) e t = e ∙ ap Some (eqb-true end stop t)
    by_end None e t = cc

    by_test : (b : Bool) → ends_at stop (stepped start spelled) ≡ b → ◌≡◌ {A = Result (List Ended) PageFault} (cond b (Ok spelled) (Err (Changed i))) (Ok es) → stepped start es ≡ Some stop
    by_test true t e = subst (λ l. stepped start l ≡ Some stop) (ok_same spelled es e) (by_end (stepped start spelled) refl t)
    by_test false t e = cc

pub told_by_ends : (p : IndexPages) (i : ℕ) (bytes : List ℕ) (es : List Ended) → told_by p i bytes ≡ Ok es → stepped (start_by p i) es ≡ Some (stop_by p i)
told_by_ends (pages.Fixed p) i bytes es is = told_ends i (start_in p i) (stop_in p i) (ends_in (cut_of p) (start_in p i) bytes) es is
told_by_ends (pages.Dynamic p) i bytes es is = told_ends i (dynamics.start_in p i) (dynamics.stop_in p i) (entries_of bytes) es is

-- the next page begins where one stops
pub stops_next : (p : IndexPages) (i : ℕ) → start_by p (i + 1) ≡ stop_by p i
stops_next (pages.Fixed p) i = refl
stops_next (pages.Dynamic p) i =
    let at : i + 1 - 1 ≡ i = omega arith in
    let more : (i + 1 == 0) ≡ false = ne_eqb (i + 1) 0 (omega arith) in
    ap (λ b. cond b 0 (get_or p.ends (i + 1 - 1) 0)) more ∙ ap (λ n. get_or p.ends n 0) at

-- ---- read and handed on

module _ {T : Type 0} (taken : T → ℕ → List Ended → Type 0) (m : Files) (p : IndexPages) (i : ℕ) (old new : T) where
  -- its bytes were read
  pub hands_page : (bytes : List ℕ) (result : Result (Unit {0}) PageFault) → page_at m (pages_by p) i ≡ Ok bytes → HandsTold taken (start_by p i) (told_by p i bytes) old new result
      → HandsInto m p i taken old new result
  unfolding told_at
  hands_page bytes result read hands = by_result result (subst (λ told. HandsTold taken (start_by p i) told old new result) (sym (ap (entries_read p i) read)) hands)
    where
      by_result : (r : Result (Unit {0}) PageFault) → HandsTold taken (start_by p i) (entries_read p i (page_at m (pages_by p) i)) old new r → HandsInto m p i taken old new r
      by_result (Ok x) hands = hands
      by_result (Err Missing) hands = hands
      by_result (Err (BadIndex cause)) hands = hands
      by_result (Err (Changed page)) hands = hands
      by_result (Err Failed) hands = tt
      by_result (Err NoMemory) hands = tt

  -- or they were not
  pub unread_page : {A : Type 0} (f : A → List ℕ) (fault : PageFault) (result : Result (Unit {0}) PageFault) → IsErrAnd result (λ x. x ≡ fault) → Gives f (Err fault) (page_at m (pages_by p) i)
      → HandsInto m p i taken old new result
  unfolding told_at
  unread_page f fault (Ok x) is gives = absurd is
  unread_page f fault (Err x) is gives = subst (λ y. HandsInto m p i taken old new (Err y)) (sym is) (by_fault fault gives)
    where
      by_fault : (fault : PageFault) → Gives f (Err fault) (page_at m (pages_by p) i) → HandsInto m p i taken old new (Err fault)
      by_fault Missing gives = ap (entries_read p i) gives
      by_fault (BadIndex cause) gives = ap (entries_read p i) gives
      by_fault (Changed page) gives = ap (entries_read p i) gives
      by_fault Failed gives = tt
      by_fault NoMemory gives = tt

-- How many digests are marked next, on any disk.
use Rattle.std.proofs.Common.{◌≡◌, ◌<◌, ◌+◌, ◌-◌, ◌*◌, ◌/◌, ◌%◌, ◌==◌, ℕ, Bool, true, false, cond, min, List, drop, length, length-append, length-drop, length-take, Result, Ok, Err, IsTrue, refl, sym, ap, ◌∙◌, arith}
use Rattle.std.proofs.lemmas.Bool.{and_parts, eqb-true, ltb-false, ltb-true}
use Rattle.std.proofs.lemmas.List.{length-map}
use Rattle.std.proofs.lemmas.Nat.{div-add-mod'}
use Rattle.store_types.specs.declared.names.Digest32.{Digest32}
use Rattle.store_files.specs.Cells.{cells}
use Rattle.store_files.specs.DynamicIndex.{Ended}
use Rattle.index_pages.specs.declared.fault.PageFault.{PageFault}
use Rattle.index_pages.specs.declared.fault.PageFault.TheVariants.{Changed}
use Rattle.index_pages.specs.Paged.{entries_at, has_sum, is_kept, page_len, sum_at}
use Rattle.gc_plan.specs.Plan.{mark_limit}
use Rattle.paged_indexes.specs.declared.index.IndexPages.{IndexPages}
use Rattle.paged_indexes.specs.declared.index.IndexPages.TheVariants as pages
use Rattle.paged_indexes.specs.Dynamic as dynamics
use Rattle.paged_indexes.specs.Fixed as fixeds
use Rattle.paged_indexes.specs.Index.{HasWidth, pages_by}
use Rattle.paged_indexes.specs.Steps.{ends_at, entries_of, entries_told, stepped}
use Rattle.paged_indexes.proofs.Cutting.{cells_count, length-ends_by}
use Rattle.paged_indexes.proofs.Entries.{entries_count}
use Rattle.core_collect.specs.Entries.{AreKept, AreKeptFrom, AreKeptIf, bytes_of, entry_digests, marked_from, reaches_on}

-- what is told is what the bytes spell
told_same : (i start stop : ℕ) (spelled es : List Ended) → entries_told i start stop spelled ≡ Ok es → spelled ≡ es
told_same i start stop spelled es told = by_end (ends_at stop (stepped start spelled)) told
  where
    by_end : (b : Bool) → ◌≡◌ {A = Result (List Ended) PageFault} (cond b (Ok spelled) (Err (Changed i))) (Ok es) → spelled ≡ es
    by_end true e = cc
    by_end false e = cc

pub kept_len : (p : IndexPages) (i : ℕ) (bytes : List ℕ) → IsTrue (is_kept (pages_by p) i bytes) → length bytes ≡ page_len (pages_by p) i
kept_len p i bytes kept =
    eqb-true (length bytes) (page_len (pages_by p) i) (and_parts (length bytes == page_len (pages_by p) i) (has_sum (sum_at (pages_by p) i) bytes) kept).0

-- as many as the page has
kept_many : (p : IndexPages) (i : ℕ) (es : List Ended) → HasWidth p → AreKept p i es → length es ≡ entries_at (pages_by p).count i
kept_many (pages.Fixed p) i es width kept =
    let bytes = kept.bytes in
    let n = entries_at (p.pages).count i in
    let long : length bytes ≡ n * 32 = kept_len (pages.Fixed p) i bytes kept.kept ∙ ap (λ w. n * w) width in
    ap length (sym (told_same i (fixeds.start_in p i) (fixeds.stop_in p i) (fixeds.ends_in (fixeds.cut_of p) (fixeds.start_in p i) bytes) es kept.told))
    ∙ length-ends_by p.size p.chunk_size (fixeds.start_in p i) (cells 32 bytes) ∙ cells_count n bytes long
kept_many (pages.Dynamic p) i es width kept =
    let bytes = kept.bytes in
    let n = entries_at (p.pages).count i in
    let long : length bytes ≡ n * 40 = kept_len (pages.Dynamic p) i bytes kept.kept ∙ ap (λ w. n * w) width in
    ap length (sym (told_same i (dynamics.start_in p i) (dynamics.stop_in p i) (entries_of bytes) es kept.told)) ∙ entries_count n bytes long

marked_many : (k : ℕ) (es : List Ended) → length (marked_from k (entry_digests es)) ≡ min mark_limit (length es - k)
marked_many k es =
    let ds = entry_digests es in
    length-take mark_limit (drop k ds) ∙ ap (min mark_limit) (length-drop k ds ∙ ap (λ n. n - k) (length-map es (λ (e : Ended). e.digest)))

-- of the page of an entry and the next one as many are marked as there are from that one on
pub next_many : (p : IndexPages) (first : ℕ) (es : List Ended) → HasWidth p → first < (pages_by p).count → AreKeptFrom p first es
    → length (marked_from (first % 1024) (entry_digests es)) ≡ min mark_limit ((pages_by p).count - first)
next_many p first es width below kept =
    marked_many (first % 1024) es ∙ by_reach (reaches_on (pages_by p).count first) refl (kept.next_is)
  where
    n : ℕ
    n = (pages_by p).count

    at : first / 1024 * 1024 + first % 1024 ≡ first
    at = div-add-mod' first 1024

    page : length kept.page ≡ entries_at n (first / 1024)
    page = kept_many p (first / 1024) kept.page width kept.page_is

    all : length es ≡ length kept.page + length kept.next
    all = ap length kept.entries_are ∙ length-append kept.page kept.next

    by_reach : (b : Bool) → reaches_on n first ≡ b → AreKeptIf b p (first / 1024 + 1) kept.next → min mark_limit (length es - first % 1024) ≡ min mark_limit (n - first)
    by_reach true on next_is =
        let less = ltb-true ((first / 1024 + 1) * 1024) (min (first + mark_limit) n) on in
        let next : length kept.next ≡ entries_at n (first / 1024 + 1) = kept_many p (first / 1024 + 1) kept.next width next_is in
        omega (arith, at, page, all, next, less, below)
    by_reach false off none =
        let ends = ltb-false ((first / 1024 + 1) * 1024) (min (first + mark_limit) n) off in
        let nothing : length kept.next ≡ 0 = ap length none in
        omega (arith, at, page, all, nothing, ends, below)

-- as many digests
pub same_many : (digests : List Digest32) (ds : List (List ℕ)) → bytes_of digests ≡ ds → length digests ≡ length ds
same_many digests ds are = sym (length-map digests (λ (d : Digest32). d.0)) ∙ ap length are

-- and of the first
pub first_many : (digests : List Digest32) (es : List Ended) (count : ℕ) → bytes_of digests ≡ marked_from 0 (entry_digests es) → length es ≡ count → length digests ≡ min mark_limit count
first_many digests es count are many =
    sym (length-map digests (λ (d : Digest32). d.0)) ∙ ap length are ∙ marked_many 0 es ∙ ap (λ n. min mark_limit n) (let none : length es - 0 ≡ length es = omega arith in none ∙ many)

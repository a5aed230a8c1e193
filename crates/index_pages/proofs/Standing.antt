-- A file that is as it was opened.
use Rattle.std.proofs.Common.{◌≡◌, ℕ, ◌+◌, ◌*◌, ◌<◌, true, cond, List, ◌++◌, length, take, drop, get_or, Some, Ok, Err, refl, sym, ap, ◌∙◌, arith}
use Rattle.std.specs.Prelude.{◌↔◌, ◌==◌, IsTrue}
use Rattle.std.specs.FinMap.{get}
use Rattle.std.specs.Str.{bytes_eq}
use Rattle.std.proofs.lemmas.Bool.{and_parts, eqb-true}
use Rattle.std.proofs.lemmas.List.{drop-drop, length-drop, length-take-le}
use Rattle.std.proofs.lemmas.List.FromFn.{get_or-map-range_with_len, length-map-range_with_len}
use Rattle.std.proofs.lemmas.Slice.Eq.{bytes_eq-Decides}
use Rattle.sha2.specs.Sha256.{sha256}
use Rattle.disk_trait.specs.Files.{Files}
use Rattle.index_pages.specs.declared.fault.PageFault.TheVariants.{Changed}
use Rattle.index_pages.specs.declared.state.PageSum.{PageSum}
use Rattle.index_pages.specs.Opening.{page_of}
use Rattle.index_pages.specs.Paged.{IsOfBytes, IsPageOf, IsWidth, Paged, count_of, entries_at, first_sums, front_of, has_sum, is_kept, no_sum, page_at, page_count, page_in, page_len, page_size, page_sum, page_text, paged, sum_at}
use Rattle.hash_states.specs.States.{absorb, digest_of, state_after}
use Rattle.index_pages.proofs.Cutting.{front_more, inside}
use Rattle.index_pages.proofs.Filled.{kept_is}
use Rattle.hash_states.proofs.States.{absorb_is, digest_is}

-- a page by its bytes behind the header
pub page_text_is : (width : ℕ) (name text : List ℕ) (i : ℕ) → page_text (paged width name text) i text ≡ page_of width (count_of width text) i (drop 4096 text)
unfolding paged
page_text_is width name text i = ap (take (entries_at (count_of width text) i * width)) (sym (drop-drop (i * page_size width) 4096 text))

-- what is kept of a body's pages is theirs
sum_is : (p : Paged) (width count i : ℕ) (body : List ℕ) → p.sums ≡ first_sums width (page_count count) body → i < page_count count → sum_at p i ≡ page_sum width body i
sum_is p width count i body sums below =
    ap (λ (ks : List PageSum). get_or ks i no_sum) sums ∙ get_or-map-range_with_len (page_sum width body) 0 (page_count count) i i no_sum below (omega arith)

pub sums_count : (p : Paged) → IsOfBytes p → length p.sums ≡ page_count p.count
sums_count p is =
    ap length is.sums ∙ length-map-range_with_len (page_sum p.width is.body) 0 (page_count p.count)

-- a page has its own sum
has_own : (width count i : ℕ) (body page : List ℕ) → IsWidth width → length body ≡ count * width → page ≡ page_of width count i body → has_sum (page_sum width body i) page ≡ true
has_own width count i body page is len same =
    let front = front_of width body i in
    (bytes_eq-Decides (digest_of (absorb (state_after front) page)) (sha256 (front_of width body (i + 1)))).1
    (ap digest_of (absorb_is front page) ∙ digest_is (front ++ page) ∙ ap sha256 (front_more width count i body page is len same))

-- bytes are kept exactly where they are as many as the page has, and behind the bytes before it have the SHA-256 at its end
pub kept_by_bytes : (p : Paged) (is : IsOfBytes p) (i : ℕ) (bytes : List ℕ) → i < page_count p.count → IsTrue (is_kept p i bytes) ↔ IsPageOf p is.body i bytes
kept_by_bytes p is i bytes below = (tells, told)
  where
    sum : has_sum (sum_at p i) bytes ≡ bytes_eq (sha256 (front_of p.width is.body i ++ bytes)) (sha256 (front_of p.width is.body (i + 1)))
    sum =
        ap (λ s. has_sum s bytes) (sum_is p p.width p.count i is.body is.sums below)
        ∙ ap (λ d. bytes_eq d (sha256 (front_of p.width is.body (i + 1)))) (ap digest_of (absorb_is (front_of p.width is.body i) bytes) ∙ digest_is (front_of p.width is.body i ++ bytes))

    tells : IsTrue (is_kept p i bytes) → IsPageOf p is.body i bytes
    tells kept =
        let both = and_parts (length bytes == page_len p i) (has_sum (sum_at p i) bytes) kept in
        record { len = eqb-true (length bytes) (page_len p i) both.0; sum = (bytes_eq-Decides (sha256 (front_of p.width is.body i ++ bytes)) (sha256 (front_of p.width is.body (i + 1)))).0 (sym sum ∙ both.1) }

    told : IsPageOf p is.body i bytes → IsTrue (is_kept p i bytes)
    told page = kept_is p i bytes true page.len (sum ∙ (bytes_eq-Decides (sha256 (front_of p.width is.body i ++ bytes)) (sha256 (front_of p.width is.body (i + 1)))).1 page.sum)

-- so it is kept
pub own_is_kept : (p : Paged) (width i : ℕ) (body : List ℕ) → IsWidth width → p.width ≡ width → length body ≡ p.count * width → p.sums ≡ first_sums width (page_count p.count) body
    → i < page_count p.count → is_kept p i (page_of width p.count i body) ≡ true
own_is_kept p width i body is same size sums below =
    let count = p.count in
    let page = page_of width count i body in
    let fits = inside width count i (length body) is size below in
    let len : length page ≡ page_len p i =
    length-take-le (entries_at count i * width) (drop (i * page_size width) body) (omega (arith, fits, length-drop (i * page_size width) body))
    ∙ ap (λ w. entries_at count i * w) (sym same) in
    kept_is p i page true len (ap (λ s. has_sum s page) (sum_is p width count i body sums below) ∙ has_own width count i body page is size refl)

-- it gives each of its pages
pub what_stays : (width : ℕ) (m : Files) (name text : List ℕ) (i : ℕ) → IsWidth width → length text ≡ 4096 + count_of width text * width
    → get m name ≡ Some text → i < page_count (count_of width text)
    → page_at m (paged width name text) i ≡ Ok (page_text (paged width name text) i text)
unfolding page_at paged
what_stays width m name text i is whole there below =
    let body = drop 4096 text in
    let p = paged width name text in
    let page = page_text p i text in
    let size : length body ≡ p.count * width = omega (arith, whole, length-drop 4096 text) in
    ap (page_in p i) there
    ∙ ap (λ b. cond b (Ok page) (Err (Changed i))) (ap (is_kept p i) (page_text_is width name text i) ∙ own_is_kept p width i body is refl size refl below)

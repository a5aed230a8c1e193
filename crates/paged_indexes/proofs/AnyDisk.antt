-- What was read of any disk: bytes whose pages are noted, and whose entries are handed on.
use Rattle.std.proofs.Common.{◌≡◌, ℕ, ◌+◌, ◌*◌, ◌<◌, inl, inr, min, List, [], ◌++◌, length, map, take, drop, Some, refl, sym, ap, subst, ◌∙◌, append-nil, append_assoc, arith}
use Rattle.std.proofs.lemmas.List.{length-append, map-append}
use Rattle.std.proofs.Math.Seq.{drop-append_seam, take-append_seam}
use Rattle.store_files.specs.Cells.{cells}
use Rattle.store_files.specs.DynamicIndex.{Ended, entry_of}
use Rattle.dynamic_index.specs.Pieces.{last_end}
use Rattle.index_pages.specs.declared.opening.Body.{Body}
use Rattle.index_pages.specs.declared.opening.Opening.{Opening}
use Rattle.index_pages.specs.Opening.{AreBytes, Begins, ClosesAt, HasPages, NotesPage, page_of}
use Rattle.index_pages.specs.Paged.{entries_at, page_count, page_size}
use Rattle.index_pages.proofs.Cutting.{none_read, pages_end, pages_more}
use Rattle.paged_indexes.specs.declared.pieces.Cut.{Cut}
use Rattle.paged_indexes.specs.declared.reading.DynamicBody.{DynamicBody}
use Rattle.paged_indexes.specs.declared.reading.Reading.{Reading}
use Rattle.paged_indexes.specs.Fixed.{ends_in, fixed_ends_from}
use Rattle.paged_indexes.specs.Handing.{HandsOn}
use Rattle.paged_indexes.specs.Reading.{HandsPage, ReadsSome, ReadsSomeFixed}
use Rattle.paged_indexes.specs.Steps.{entries_of, stepped}
use Rattle.paged_indexes.proofs.Cells.{cells_both}
use Rattle.paged_indexes.proofs.Cutting.{cells_none, ends_by-append}
use Rattle.paged_indexes.proofs.Entries.{entries_none}
use Rattle.paged_indexes.proofs.Handed.{hands_both, hands_none}
use Rattle.paged_indexes.proofs.Stepping.{Progress, begins, last_end-append, progress_ends, progress_more, stepped_last}

-- a page's bytes are those at its place, whatever stands behind them
page_there : (width count i : ℕ) (bytes page rest : List ℕ) → length bytes ≡ i * page_size width → length page ≡ entries_at count i * width
    → page ≡ page_of width count i ((bytes ++ page) ++ rest)
page_there width count i bytes page rest at len =
    let n = entries_at count i * width in
    let k = i * page_size width in
    sym (ap (λ b. take n (drop k b)) (append_assoc bytes page rest)
    ∙ ap (λ j. take n (drop j (bytes ++ (page ++ rest)))) (sym at)
    ∙ ap (take n) (drop-append_seam bytes (page ++ rest))
    ∙ ap (λ j. take j (page ++ rest)) (sym len)
    ∙ take-append_seam page rest)

entries_both : (k : ℕ) (xs ys : List ℕ) → length xs ≡ k * 40 → entries_of (xs ++ ys) ≡ entries_of xs ++ entries_of ys
entries_both k xs ys len = ap (map entry_of) (cells_both 40 k xs ys (inr refl) len) ∙ map-append entry_of (cells 40 xs) (cells 40 ys)

-- the end of a list of entries that goes on
end_more : (start end : ℕ) (all xs ys : List Ended) → all ≡ xs ++ ys → start ≡ last_end 0 xs → end ≡ last_end start ys → end ≡ last_end 0 all
end_more start end all xs ys is from to =
    to ∙ ap (λ n. last_end n ys) from ∙ sym (last_end-append 0 xs ys) ∙ ap (last_end 0) (sym is)

module _ {T : Type 0} (taken : T → ℕ → List Ended → Type 0) where
  -- ---- of a dynamic index: of so many pages these bytes were read, whatever is read behind them

  pub record SomeRead (count i : ℕ) (r : Reading) (old new : T) : Type 0 where
    pub bytes : List ℕ
    pub len : length bytes ≡ min count (i * 1024) * 40
    pub progress : (rest : List ℕ) → length (bytes ++ rest) ≡ count * 40 → Progress (bytes ++ rest) i r
    pub end_is : r.end ≡ last_end 0 (entries_of bytes)
    pub hands : HandsOn taken 0 (entries_of bytes) old new

  pub some_none : (count : ℕ) (r : Reading) (a : T) → Begins r.opening → r.ends.items ≡ [] → r.end ≡ 0 → SomeRead count 0 r a a
  some_none count r a b ends start =
      let none = entries_none [] (omega arith) in
      record {
        bytes = [];
        len = omega arith;
        progress = λ rest size. begins rest r b ends start;
        end_is = start ∙ ap (last_end 0) (sym none);
        hands = hands_none taken 0 (entries_of []) a none;
      }

  pub some_more : (count i : ℕ) (old new : Reading) (page : List ℕ) (a b c : T) → i < page_count count → HandsPage taken count i old new page b c
      → SomeRead count i old a b → SomeRead count (i + 1) new a c
  some_more count i old new page a b c below hands is =
      let bytes = is.bytes in
      let at : length bytes ≡ i * 40_960 = omega (arith, is.len, below) in
      let long : length bytes ≡ i * 1024 * 40 = omega (arith, at) in
      let both = entries_both (i * 1024) bytes page long in
      record {
        bytes = bytes ++ page;
        len = omega (arith, length-append bytes page, is.len, hands.len, below);
        progress = λ rest size.
            let body = (bytes ++ page) ++ rest in
            let joined = append_assoc bytes page rest in
            let same = page_there 40 count i bytes page rest at hands.len in
            progress_more body count i old new page size below
            (subst (λ x. Progress x i old) (sym joined) (is.progress (page ++ rest) (sym (ap length joined) ∙ size)))
            (record {
              bytes = same;
              noted = pages_more 40 count i body old.opening new.opening page (inr refl) size same hands.small hands.notes;
              steps = subst (λ x. stepped old.end (entries_of x) ≡ Some new.end) same hands.steps;
              ends = hands.ends;
            });
        end_is = end_more old.end new.end (entries_of (bytes ++ page)) (entries_of bytes) (entries_of page) both is.end_is (stepped_last old.end new.end (entries_of page) hands.steps);
        hands = hands_both taken 0 old.end (entries_of (bytes ++ page)) (entries_of bytes) (entries_of page) a b c both (sym is.end_is) is.hands hands.hands;
      }

  pub some_all : (count i : ℕ) (r : Reading) (b : DynamicBody) (old new : T) → i ≡ page_count count → ClosesAt r.opening b.body → b.ends.items ≡ r.ends.items
      → SomeRead count i r old new → ReadsSome taken count b old new
  some_all count i r b old new past closes same is =
      let len : length is.bytes ≡ count * 40 = omega (arith, is.len, past) in
      let whole = append-nil is.bytes in
      record {
        body = is.bytes;
        len = len;
        is = progress_ends is.bytes count i r b len past (subst (λ x. Progress x i r) whole (is.progress [] (ap length whole ∙ len))) closes same;
        hands = is.hands;
      }

  -- ---- of a fixed index

  module _ (cut : Cut) (count : ℕ) where
    pub record SomeFixed (i start : ℕ) (o : Opening) (old new : T) : Type 0 where
      pub bytes : List ℕ
      pub len : length bytes ≡ min count (i * 1024) * 32
      pub pages : (rest : List ℕ) → length (bytes ++ rest) ≡ count * 32 → HasPages 32 i (bytes ++ rest) o
      pub end_is : start ≡ last_end 0 (ends_in cut 0 bytes)
      pub hands : HandsOn taken 0 (ends_in cut 0 bytes) old new

    pub fixed_none : (o : Opening) (a : T) → Begins o → SomeFixed 0 0 o a a
    fixed_none o a b =
        let none = ap (fixed_ends_from cut.size cut.chunk_size 0) (cells_none [] (omega arith)) in
        record {
          bytes = [];
          len = omega arith;
          pages = λ rest size. none_read 32 rest o b;
          end_is = ap (last_end 0) (sym none);
          hands = hands_none taken 0 (ends_in cut 0 []) a none;
        }

    pub fixed_more : (i start end : ℕ) (old new : Opening) (page bytes : List ℕ) (a b c : T) → i < page_count count → bytes ≡ page → length page ≡ entries_at count i * 32
        → AreBytes page → NotesPage old new page → end ≡ last_end start (ends_in cut start bytes) → HandsOn taken start (ends_in cut start bytes) b c
        → SomeFixed i start old a b → SomeFixed (i + 1) end new a c
    fixed_more i start end old new page bytes a b c below told len small notes ends hands is =
        let before = is.bytes in
        let at : length before ≡ i * 32_768 = omega (arith, is.len, below) in
        let long : length before ≡ i * 1024 * 32 = omega (arith, at) in
        let both : ends_in cut 0 (before ++ page) ≡ ends_in cut 0 before ++ ends_in cut start bytes =
        ap (fixed_ends_from cut.size cut.chunk_size 0) (cells_both 32 (i * 1024) before page (inl refl) long)
        ∙ ends_by-append cut.size cut.chunk_size 0 (cells 32 before) (cells 32 page)
        ∙ ap (λ n. ends_in cut 0 before ++ ends_in cut n page) (sym is.end_is)
        ∙ ap (λ x. ends_in cut 0 before ++ ends_in cut start x) (sym told) in
        record {
          bytes = before ++ page;
          len = omega (arith, length-append before page, is.len, len, below);
          pages = λ rest size.
              let joined = append_assoc before page rest in
              pages_more 32 count i ((before ++ page) ++ rest) old new page (inl refl) size (page_there 32 count i before page rest at len) small notes
              (subst (λ x. HasPages 32 i x old) (sym joined) (is.pages (page ++ rest) (sym (ap length joined) ∙ size)));
          end_is = end_more start end (ends_in cut 0 (before ++ page)) (ends_in cut 0 before) (ends_in cut start bytes) both is.end_is ends;
          hands = hands_both taken 0 start (ends_in cut 0 (before ++ page)) (ends_in cut 0 before) (ends_in cut start bytes) a b c both (sym is.end_is) is.hands hands;
        }

    pub fixed_all : (i start : ℕ) (o : Opening) (b : Body) (old new : T) → i ≡ page_count count → ClosesAt o b → SomeFixed i start o old new → ReadsSomeFixed taken count cut b old new
    fixed_all i start o b old new past closes is =
        let len : length is.bytes ≡ count * 32 = omega (arith, is.len, past) in
        let whole = append-nil is.bytes in
        record {
          body = is.bytes;
          len = len;
          is = pages_end 32 count i is.bytes o b (inl refl) len past (subst (λ x. HasPages 32 i x o) whole (is.pages [] (ap length whole ∙ len))) closes;
          hands = is.hands;
        }

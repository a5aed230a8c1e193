-- Pages are of the views' entries, and a file that is as it was opened gives them.
use Rattle.std.proofs.Common.{◌≡◌, ℕ, ◌+◌, ◌*◌, inl, inr, List, length, take, drop, Ok, refl, sym, ap, ◌∙◌, arith}
use Rattle.std.proofs.lemmas.List.{length-drop}
use Rattle.store_files.specs.Cells.{cells}
use Rattle.store_files.specs.DynamicIndex.{DynamicIndex, dynamic_of}
use Rattle.store_files.specs.DynamicIndex as dynamic
use Rattle.store_files.specs.FixedIndex.{FixedIndex, fixed_of}
use Rattle.store_files.specs.FixedIndex as fixed
use Rattle.dynamic_index.proofs.Reading.{dynamic_of-ok}
use Rattle.fixed_index.proofs.Reading.{fixed_of-ok}
use Rattle.index_pages.specs.Paged.{count_of, paged}
use Rattle.index_pages.proofs.Standing.{page_text_is, what_stays}
use Rattle.paged_indexes.specs.Laws.{DynamicPagesAreOfTheView, DynamicStays, FixedPagesAreOfTheView, FixedStays}
use Rattle.paged_indexes.specs.Steps.{entries_of}
use Rattle.paged_indexes.proofs.Cells.{page_cells}
use Rattle.paged_indexes.proofs.Entries.{count_is, page_entries_are}
use Rattle.paged_indexes.proofs.Opened.{fixed_count}

pub record DynamicSized (text : List ℕ) (x : DynamicIndex) : Type 0 where
  pub is : x ≡ dynamic.fields_of text
  pub len : length text ≡ 4096 + count_of 40 text * 40
  pub count : length x.entries ≡ count_of 40 text

pub dynamic_sized : (text : List ℕ) (x : DynamicIndex) → dynamic_of text ≡ Ok x → DynamicSized text x
dynamic_sized text x ok =
    let found = dynamic_of-ok text x ok in
    record {
      is = found.0;
      len = omega (arith, found.1.long, found.1.whole);
      count = ap (λ (y : DynamicIndex). length y.entries) found.0 ∙ sym (count_is text);
    }

pub record FixedSized (text : List ℕ) (x : FixedIndex) : Type 0 where
  pub is : x ≡ fixed.fields_of text
  pub len : length text ≡ 4096 + count_of 32 text * 32
  pub count : length x.digests ≡ count_of 32 text

pub fixed_sized : (text : List ℕ) (x : FixedIndex) → fixed_of text ≡ Ok x → FixedSized text x
fixed_sized text x ok =
    let found = fixed_of-ok text x ok in
    let len : length text ≡ 4096 + count_of 32 text * 32 = omega (arith, found.1.long, found.1.whole) in
    record {
      is = found.0;
      len = len;
      count = ap (λ (y : FixedIndex). length y.digests) found.0 ∙ fixed_count text (count_of 32 text) len;
    }

pub dynamic_pages_are : DynamicPagesAreOfTheView
unfolding paged
dynamic_pages_are name text x ok =
    let s = dynamic_sized text x ok in
    let len : length (drop 4096 text) ≡ count_of 40 text * 40 = omega (arith, s.len, length-drop 4096 text) in
    record {
      count = sym s.count;
      entries = λ i below.
          ap entries_of (page_text_is 40 name text i)
          ∙ page_entries_are (count_of 40 text) i (drop 4096 text) len (omega (arith, below, s.count))
          ∙ ap (λ (y : DynamicIndex). take 1024 (drop (i * 1024) y.entries)) (sym s.is);
    }

pub fixed_pages_are : FixedPagesAreOfTheView
unfolding paged
fixed_pages_are name text x ok =
    let s = fixed_sized text x ok in
    let len : length (drop 4096 text) ≡ count_of 32 text * 32 = omega (arith, s.len, length-drop 4096 text) in
    record {
      count = sym s.count;
      entries = λ i below.
          ap (cells 32) (page_text_is 32 name text i)
          ∙ page_cells 32 (count_of 32 text) i (drop 4096 text) (inl refl) len (omega (arith, below, s.count))
          ∙ ap (λ (y : FixedIndex). take 1024 (drop (i * 1024) y.digests)) (sym s.is);
    }

pub dynamic_stays : DynamicStays
unfolding paged
dynamic_stays text x ok m name i there below = what_stays 40 m name text i (inr refl) (dynamic_sized text x ok).len there below

pub fixed_stays : FixedStays
unfolding paged
fixed_stays text x ok m name i there below = what_stays 32 m name text i (inl refl) (fixed_sized text x ok).len there below

-- What an opening hands on of any disk is what bytes with the SHA-256 that it kept spell.
use Rattle.std.proofs.Common.{◌≡◌, ℕ, ◌<◌, ◌≤◌, inl, inr, true, List, length, refl, sym, ap, subst, ◌∙◌, arith}
use Rattle.std.specs.Prelude.{◌==◌, is_some}
use Rattle.std.proofs.lemmas.Bool.{and_parts, eqb-true}
use Rattle.store_files.specs.Cells.{cells, entry_limit}
use Rattle.store_files.specs.DynamicIndex.{Ended}
use Rattle.store_files.specs.FixedIndex.{is_chunk_size, piece_count}
use Rattle.index_pages.specs.declared.opening.Body.{Body}
use Rattle.index_pages.specs.Opening.{page_of}
use Rattle.index_pages.specs.Paged.{Paged, page_count, paged_by}
use Rattle.index_pages.proofs.Filled.{is_kept_len}
use Rattle.index_pages.proofs.Standing.{own_is_kept}
use Rattle.paged_indexes.specs.declared.pieces.Cut.{Cut}
use Rattle.paged_indexes.specs.declared.reading.DynamicBody.{DynamicBody}
use Rattle.paged_indexes.specs.Dynamic.{DynamicPaged, dynamic_told}
use Rattle.paged_indexes.specs.Dynamic as dynamics
use Rattle.paged_indexes.specs.Fixed.{Cuts, FixedPaged, HasSizes, ends_in, fixed_told, sizes_agree}
use Rattle.paged_indexes.specs.Handing.{HandsSome}
use Rattle.paged_indexes.specs.Reading.{ReadsSome, ReadsSomeFixed}
use Rattle.paged_indexes.specs.Steps.{entries_of, entries_told, page_ends}
use Rattle.paged_indexes.proofs.Cells.{page_cells}
use Rattle.paged_indexes.proofs.Cutting.{all_cut, cells_count, length-ends_by, steps_cut}
use Rattle.paged_indexes.proofs.Entries.{entries_count, page_entries_are}
use Rattle.paged_indexes.proofs.PagesRead.{dynamic_page_told, fixed_page_told}
use Rattle.paged_indexes.proofs.Stepping.{stepped_fits}

module _ {T : Type 0} (taken : T → ℕ → List Ended → Type 0) (name : List ℕ) (old new : T) where
  dynamic_here : (count : ℕ) (b : DynamicBody) → count ≤ entry_limit → ReadsSome taken count b old new
      → HandsSome taken (paged_by name 40 count (b.body).sums.items) (dynamic_told (record { pages = paged_by name 40 count (b.body).sums.items; ends = b.ends.items })) old new
  dynamic_here count b limit is =
      let kept = paged_by name 40 count (b.body).sums.items in
      let q : DynamicPaged = record { pages = kept; ends = b.ends.items } in
      let es = entries_of is.body in
      let many = entries_count count is.body is.len in
      let ends : q.ends ≡ page_ends (page_count (length es)) es = (is.is).ends ∙ ap (λ n. page_ends (page_count n) es) (sym many) in
      record {
        entries = es;
        many = many;
        fit = record { limit = omega (arith, limit, many); steps = (is.is).steps };
        pages = λ i below. record {
          bytes = page_of 40 count i is.body;
          kept = own_is_kept kept 40 i is.body (inr refl) refl is.len ((is.is).read).sums below;
          told =
              ap (entries_told i (dynamics.start_in q i) (dynamics.stop_in q i)) (page_entries_are count i is.body is.len below)
              ∙ dynamic_page_told q es ends i (subst (λ n. i < page_count n) (sym many) below) (is.is).steps;
        };
        hands = is.hands;
      }

  pub dynamic_some : (count : ℕ) (b : DynamicBody) (p : Paged) → p ≡ paged_by name 40 count (b.body).sums.items → count ≤ entry_limit → ReadsSome taken count b old new
      → HandsSome taken p (dynamic_told (record { pages = p; ends = b.ends.items })) old new
  dynamic_some count b p same limit is =
      subst (λ (r : Paged). HandsSome taken r (dynamic_told (record { pages = r; ends = b.ends.items })) old new) (sym same) (dynamic_here count b limit is)

  fixed_here : (c : Cut) (count : ℕ) (b : Body) → count ≤ entry_limit → sizes_agree c.size c.chunk_size count ≡ true → ReadsSomeFixed taken count c b old new
      → HandsSome taken (paged_by name 32 count b.sums.items) (fixed_told (record { pages = paged_by name 32 count b.sums.items; size = c.size; chunk_size = c.chunk_size })) old new
  fixed_here c count b limit agree is =
      let kept = paged_by name 32 count b.sums.items in
      let f : FixedPaged = record { pages = kept; size = c.size; chunk_size = c.chunk_size } in
      let ds = cells 32 is.body in
      let both = and_parts (is_chunk_size c.chunk_size) (count == piece_count c.size c.chunk_size) agree in
      let sizes : HasSizes kept c.size c.chunk_size = record { width = refl; limit = limit; allowed = both.0; pieces = eqb-true _ _ both.1 } in
      let few = cells_count count is.body is.len in
      let many : length (ends_in c 0 is.body) ≡ count = length-ends_by c.size c.chunk_size 0 ds ∙ few in
      let all = subst (Cuts c 0) (sym few) (all_cut c.size c.chunk_size count agree) in
      record {
        entries = ends_in c 0 is.body;
        many = many;
        fit = record {
          limit = omega (arith, limit, many);
          steps = stepped_fits 0 (ends_in c 0 is.body) ∙ ap (λ o. is_some o) (steps_cut c 0 ds all);
        };
        pages = λ i below.
            let page = page_of 32 count i is.body in
            let own = own_is_kept kept 32 i is.body (inl refl) refl is.len (is.is).sums below in
            record {
              bytes = page;
              kept = own;
              told = fixed_page_told f ds all sizes (sym few) i page (subst (λ n. i < page_count n) (sym few) below) (is_kept_len kept i page own)
                  (page_cells 32 count i is.body (inl refl) is.len below);
            };
        hands = is.hands;
      }

  pub fixed_some : (size chunk_size count : ℕ) (b : Body) (p : Paged) → p ≡ paged_by name 32 count b.sums.items → count ≤ entry_limit → sizes_agree size chunk_size count ≡ true
      → ReadsSomeFixed taken count (record { size = size; chunk_size = chunk_size }) b old new
      → HandsSome taken p (fixed_told (record { pages = p; size = size; chunk_size = chunk_size })) old new
  fixed_some size chunk_size count b p same limit agree is =
      subst (λ (r : Paged). HandsSome taken r (fixed_told (record { pages = r; size = size; chunk_size = chunk_size })) old new) (sym same)
      (fixed_here (record { size = size; chunk_size = chunk_size }) count b limit agree is)

-- A range that is read page by page is that of the content.
use Rattle.std.proofs.Common.{◌≡◌, ℕ, zero, suc, ◌+◌, ◌-◌, ◌*◌, ◌<◌, ◌≤◌, max, Bool, true, false, cond, ◌&&◌, IsTrue, List, [], ◌∷◌, ◌++◌, length, take, drop, nat_lt, nat_le, Option, Some, None, Result, Ok, refl, sym, ap, ap₂, subst, ◌∙◌, arith}
use Rattle.std.specs.List.{All, concat}
use Rattle.std.proofs.lemmas.Bool.{and_from, and_parts, leb-true}
use Rattle.std.proofs.lemmas.List.{drop_all, length-append, take-append-drop}
use Rattle.std.proofs.lemmas.List.Folds.{concat-append}
use Rattle.std.proofs.lemmas.List.Elements.{All-drop, All-take}
use Rattle.std.proofs.Math.Seq.{take-add}
use Rattle.disk_trait.specs.Files.{Files}
use Rattle.store_types.specs.declared.refusal.Refusal.{Refusal}
use Rattle.store_types.specs.Chain.Refusing.{◌>>=◌}
use Rattle.store_files.specs.Archive.{ends_from}
use Rattle.store_files.specs.DynamicIndex.{Ended, steps_fit}
use Rattle.dynamic_index.specs.Pieces.{last_end}
use Rattle.index_pages.specs.Paged.{page_count}
use Rattle.paged_indexes.specs.Index.{page_with, pages_by, start_by}
use Rattle.paged_indexes.specs.Laws.{BeginsLow, IsIndex}
use Rattle.paged_indexes.proofs.Handed.{no_rest, page_and_rest}
use Rattle.paged_indexes.proofs.Stepping.{last_end-append}
use Rattle.snapshot_files.specs.Indexes.{entries_or, page_entries}
use Rattle.chunk_store.specs.Pieces.{IsHeld}
use Rattle.restore_reader.specs.declared.ranges.Part.{Part}
use Rattle.restore_reader.specs.Plan.{bytes_in, parts_in}
use Rattle.restore_reader.proofs.Apart.{no_part, parts_before, parts_behind, parts_follow}
use Rattle.restore_reader.proofs.Bytes.{bytes_follow, reads, whole_bytes}
use Rattle.core_reader.specs.Chunks.{HoldsParts, behind, parts_at}
use Rattle.core_reader.specs.Ranges.{Ranged, page_range, range_at, range_by, range_from}
use Rattle.core_reader.proofs.Loads.{held_joined}
use Rattle.core_reader.proofs.Pieces.{parts_both}

-- ---- steps

abbrev is_step : ℕ → ℕ → Bool
is_step start end = nat_lt start end && nat_le end (start + 16_777_216)

-- of a front of the list, and of what is behind it
pub steps_front : (start : ℕ) (xs ys : List Ended) → IsTrue (steps_fit start (xs ++ ys)) → IsTrue (steps_fit start xs)
steps_front start [] ys fit = refl
steps_front start (x ∷ xs) ys fit =
    let parts = and_parts (is_step start x.end) (steps_fit x.end (xs ++ ys)) fit in
    and_from (is_step start x.end) (steps_fit x.end xs) parts.0 (steps_front x.end xs ys parts.1)

pub steps_rest : (start : ℕ) (xs ys : List Ended) → IsTrue (steps_fit start (xs ++ ys)) → IsTrue (steps_fit (last_end start xs) ys)
steps_rest start [] ys fit = fit
steps_rest start (x ∷ xs) ys fit = steps_rest x.end xs ys (and_parts (is_step start x.end) (steps_fit x.end (xs ++ ys)) fit).1

-- ---- where pieces end

ends-take : (start k : ℕ) (ps : List (List ℕ)) → take k (ends_from start ps) ≡ ends_from start (take k ps)
ends-take start zero ps = refl
ends-take start (suc k) [] = refl
ends-take start (suc k) (p ∷ ps) = ap (λ (es : List Ended). record { end = start + length p; digest = Rattle.sha2.specs.Sha256.sha256 p } ∷ es) (ends-take (start + length p) k ps)

ends-drop : (start k : ℕ) (ps : List (List ℕ)) → drop k (ends_from start ps) ≡ ends_from (last_end start (take k (ends_from start ps))) (drop k ps)
ends-drop start zero ps = refl
ends-drop start (suc k) [] = refl
ends-drop start (suc k) (p ∷ ps) = ends-drop (start + length p) k ps

last_len : (start : ℕ) (ps : List (List ℕ)) → last_end start (ends_from start ps) ≡ start + length (concat ps)
last_len start [] = omega arith
last_len start (p ∷ ps) = omega (arith, last_len (start + length p) ps, length-append p (concat ps))

take_nil : (n : ℕ) → take {A = ℕ} n [] ≡ []
take_nil zero = refl
take_nil (suc n) = refl

-- ---- of no bytes

parts_empty : (from to start : ℕ) (es : List Ended) → to ≤ from → parts_in from to start es ≡ []
parts_empty from to start [] none = refl
parts_empty from to start (e ∷ es) none = ap₂ (λ (ps qs : List Part). ps ++ qs) (no_part from to start e (omega (arith, none))) (parts_empty from to e.end es none)

-- ---- pages

module _ (m : Files) (a : Ranged) (es : List Ended) (is : IsIndex m a.pages es) (fit : IsTrue (steps_fit 0 es)) (from to : ℕ) where
  abbrev start : ℕ → ℕ
  start i = last_end 0 (take (i * 1024) es)

  abbrev pub page : ℕ → List Ended
  page i = take 1024 (drop (i * 1024) es)

  -- what it has from page i on
  abbrev rest : ℕ → List Part
  rest i = parts_in from to (start i) (drop (i * 1024) es)

  steps_at : (i : ℕ) → IsTrue (steps_fit (start i) (drop (i * 1024) es))
  steps_at i = steps_rest 0 (take (i * 1024) es) (drop (i * 1024) es) (subst (λ l. IsTrue (steps_fit 0 l)) (sym (take-append-drop (i * 1024) es)) fit)

  pub page_steps : (i : ℕ) → IsTrue (steps_fit (start i) (page i))
  page_steps i = steps_front (start i) (page i) (drop 1024 (drop (i * 1024) es)) (subst (λ l. IsTrue (steps_fit (start i) l)) (sym (take-append-drop 1024 (drop (i * 1024) es))) (steps_at i))

  pub page_read : (i : ℕ) → i < page_count (length es) → page_entries m a.path a.pages i ≡ Ok (page i)
  unfolding page_entries
  page_read i below = ap (entries_or a.path) (is.pages i below).read

  page_is : (i : ℕ) → i < page_count (length es) → page_range m a i from to ≡ parts_at m (parts_in from to (start i) (page i))
  unfolding page_range
  page_is i below =
      ap (λ (r : Result (List Ended) Refusal). r >>= λ entries. parts_at m (parts_in from to (start_by a.pages i) entries)) (page_read i below)
      ∙ ap (λ n. parts_at m (parts_in from to n (page i))) (is.pages i below).start

  next : (i : ℕ) → last_end (start i) (page i) ≡ start (i + 1)
  next i =
      let at : i * 1024 + 1024 ≡ (i + 1) * 1024 = omega arith in
      sym (last_end-append 0 (take (i * 1024) es) (page i)) ∙ ap (last_end 0) (sym (take-add (i * 1024) 1024 es) ∙ ap (λ n. take n es) at)

  rest_is : (i : ℕ) → rest i ≡ parts_in from to (start i) (page i) ++ rest (i + 1)
  rest_is i =
      ap (parts_in from to (start i)) (page_and_rest i es)
      ∙ parts_follow from to (start i) (page i) (drop ((i + 1) * 1024) es)
      ∙ ap (λ n. parts_in from to (start i) (page i) ++ parts_in from to n (drop ((i + 1) * 1024) es)) (next i)

  -- what page i gives, and so many behind it
  abbrev more : ℕ → ℕ → Result (List ℕ) Refusal
  more n i = page_range m a i from to >>= λ bytes. behind bytes (range_from m a from to n (i + 1))

  pages_are : (n i : ℕ) → i + n ≡ page_count (length es) → range_from m a from to n i ≡ parts_at m (rest i)
  unfolding range_from
  pages_are zero i all = sym (ap (λ l. parts_at m (parts_in from to (start i) l)) (no_rest (length es) i es refl (omega (arith, all))))
  pages_are (suc n) i all = by_end (pages_are n (i + 1) (omega (arith, all))) (nat_le to (start_by a.pages i)) refl
    where
      below : i < page_count (length es)
      below = omega (arith, all)

      Later : Type 0
      Later = range_from m a from to n (i + 1) ≡ parts_at m (rest (i + 1))

      by_end : Later → (b : Bool) → nat_le to (start_by a.pages i) ≡ b → cond (nat_le to (start_by a.pages i)) (Ok []) (more n i) ≡ parts_at m (rest i)
      by_end later true e =
          let past = leb-true to (start_by a.pages i) e in
          ap (λ b. cond b (Ok []) (more n i)) e
          ∙ sym (ap (parts_at m) (parts_behind from to (start i) (drop (i * 1024) es) (omega (arith, past, (is.pages i below).start)) (steps_at i)))
      by_end later false e =
          ap (λ b. cond b (Ok []) (more n i)) e
          ∙ ap₂ (λ (r q : Result (List ℕ) Refusal). r >>= λ bytes. behind bytes q) (page_is i below) later
          ∙ sym (parts_both m (parts_in from to (start i) (page i)) (rest (i + 1)))
          ∙ sym (ap (parts_at m) (rest_is i))

  -- all of them
  pub range_is_parts : range_at m a from to ≡ parts_at m (parts_in from to 0 es)
  range_is_parts = by_bytes (nat_le to from) refl
    where
      by_page : (o : Option ℕ) → BeginsLow a.pages es from o → range_by m a from to o ≡ parts_at m (parts_in from to 0 es)
      by_page None low = sym (ap (parts_at m) (parts_before from to 0 es fit low))
      by_page (Some i) low =
          let front = take (i * 1024) es in
          let whole : parts_in from to 0 es ≡ parts_in from to 0 front ++ rest i = ap (parts_in from to 0) (sym (take-append-drop (i * 1024) es)) ∙ parts_follow from to 0 front (drop (i * 1024) es) in
          let fits = steps_front 0 front (drop (i * 1024) es) (subst (λ l. IsTrue (steps_fit 0 l)) (sym (take-append-drop (i * 1024) es)) fit) in
          let none = parts_before from to 0 front fits (omega (arith, low.1, (is.pages i low.0).start)) in
          pages_are (page_count (pages_by a.pages).count - i) i (omega (arith, low.0, ap page_count is.count))
          ∙ sym (ap (parts_at m) (whole ∙ ap (λ (l : List Part). l ++ rest i) none))

      by_bytes : (b : Bool) → nat_le to from ≡ b → cond (nat_le to from) (Ok []) (range_by m a from to (page_with a.pages from)) ≡ parts_at m (parts_in from to 0 es)
      by_bytes true e =
          ap (λ b. cond b (Ok []) (range_by m a from to (page_with a.pages from))) e ∙ sym (ap (parts_at m) (parts_empty from to 0 es (leb-true to from e)))
      by_bytes false e = ap (λ b. cond b (Ok []) (range_by m a from to (page_with a.pages from))) e ∙ by_page (page_with a.pages from) (is.found from)

  -- ---- of pieces that stand there

  module _ (pieces : List (List ℕ)) (same : ends_from 0 pieces ≡ es) (held : All (IsHeld m) pieces) where
    pub range_bytes_are : (bytes : List ℕ) → range_at m a from to ≡ Ok bytes → bytes ≡ take (to - from) (drop from (concat pieces))
    range_bytes_are bytes given =
        let r = reads from to 0 es pieces fit same in
        held_joined m (parts_in from to 0 es) (drop r.first pieces) bytes r.each (All-drop (IsHeld m) r.first pieces held) (sym range_is_parts ∙ given)
        ∙ r.same ∙ whole_bytes from to (concat pieces)

    -- those of a page
    abbrev pieces_on : ℕ → List (List ℕ)
    pieces_on i = take 1024 (drop (i * 1024) pieces)

    start_is : (i : ℕ) → start i ≡ last_end 0 (take (i * 1024) (ends_from 0 pieces))
    start_is i = ap (λ l. last_end 0 (take (i * 1024) l)) (sym same)

    page_ends : (i : ℕ) → ends_from (start i) (pieces_on i) ≡ page i
    page_ends i =
        ap (λ n. ends_from n (pieces_on i)) (start_is i) ∙ sym (ends-take (last_end 0 (take (i * 1024) (ends_from 0 pieces))) 1024 (drop (i * 1024) pieces))
        ∙ ap (take 1024) (sym (ends-drop 0 (i * 1024) pieces)) ∙ ap (λ l. take 1024 (drop (i * 1024) l)) same

    page_held : (i : ℕ) → All (IsHeld m) (pieces_on i)
    page_held i = All-take (IsHeld m) 1024 (drop (i * 1024) pieces) (All-drop (IsHeld m) (i * 1024) pieces held)

    -- those of which a page's parts are
    pub page_holds : (i : ℕ) → HoldsParts m (parts_in from to (start i) (page i))
    page_holds i =
        let r = reads from to (start i) (page i) (pieces_on i) (page_steps i) (page_ends i) in
        record { pieces = drop r.first (pieces_on i); are = r.each; held = All-drop (IsHeld m) r.first (pieces_on i) (page_held i) }

    -- What a range has of a page that begins where the range does or before it are the first ones of its bytes.
    pub page_bytes : (i : ℕ) (bytes : List ℕ) → start i ≤ from → parts_at m (parts_in from to (start i) (page i)) ≡ Ok bytes
        → (rest : List ℕ) × (take (to - from) (drop from (concat pieces)) ≡ bytes ++ rest)
    page_bytes i bytes low given =
        let front = take (i * 1024) pieces in
        let here = pieces_on i in
        let later = drop 1024 (drop (i * 1024) pieces) in
        let len : start i ≡ 0 + length (concat front) = start_is i ∙ ap (last_end 0) (ends-take 0 (i * 1024) pieces) ∙ last_len 0 front in
        let r = reads from to (start i) (page i) here (page_steps i) (page_ends i) in
        let are : bytes ≡ bytes_in from to (start i) (concat here) =
        held_joined m (parts_in from to (start i) (page i)) (drop r.first here) bytes r.each (All-drop (IsHeld m) r.first here (page_held i)) given ∙ r.same in
        let behind_page : concat (drop (i * 1024) pieces) ≡ concat here ++ concat later = ap concat (sym (take-append-drop 1024 (drop (i * 1024) pieces))) ∙ concat-append here later in
        let whole : concat pieces ≡ concat front ++ (concat here ++ concat later) =
        ap concat (sym (take-append-drop (i * 1024) pieces)) ∙ concat-append front (drop (i * 1024) pieces) ∙ ap (λ l. concat front ++ l) behind_page in
        let none : bytes_in from to 0 (concat front) ≡ [] = ap (take (to - max from 0)) (drop_all (from - 0) (concat front) (omega (arith, low, len))) ∙ take_nil (to - max from 0) in (
          bytes_in from to (start i + length (concat here)) (concat later),
          sym (whole_bytes from to (concat pieces)) ∙ ap (bytes_in from to 0) whole
              ∙ bytes_follow from to 0 (concat front) (concat here ++ concat later)
              ∙ ap₂ (λ (l : List ℕ) n. l ++ bytes_in from to n (concat here ++ concat later)) none (sym len)
              ∙ bytes_follow from to (start i) (concat here) (concat later)
              ∙ ap (λ (l : List ℕ). l ++ bytes_in from to (start i + length (concat here)) (concat later)) (sym are),
        )

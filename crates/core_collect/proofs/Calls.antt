-- How often the marks call an honest disk.
use Rattle.disk_trait.specs.declared.disk.Disk.{Ghosts}
use Rattle.std.proofs.Common.{◌≡◌, ◌≤◌, ◌+◌, ◌/◌, ◌==◌, ℕ, Bool, true, false, cond, List, Option, Some, None, Result, Ok, Err, IsSome, is_some, zero, suc, ◌<◌, ⊎_elim, refl, sym, ap, ap₂, ◌∙◌, arith}
use Rattle.disk_trait.specs.Disk.{Serves}
use Rattle.disk_trait.specs.Files.{Files}
use Rattle.store_types.specs.declared.refusal.Refusal.{Refusal}
use Rattle.gc_plan.specs.Plan.{Plan, marked_at, next_index, next_mark}
use Rattle.gc_plan.specs.declared.IndexAt.{IndexAt}
use Rattle.index_pages.specs.Calls.{CallsAtMost}
use Rattle.index_pages.proofs.Calling.{calls_more}
use Rattle.paged_indexes.specs.declared.index.IndexPages.{IndexPages}
use Rattle.paged_indexes.specs.Index.{pages_by}
use Rattle.snapshot_files.specs.Indexes.{kind_of_index}
use Rattle.core_state.specs.declared.collector.Collector.{Collector}
use Rattle.core_state.specs.declared.kept.Listed.{Listed}
use Rattle.core_state.specs.declared.marked.MarkedPage.{MarkedPage}
use Rattle.core_state.specs.declared.marked.MarkedPages.{MarkedPages}
use Rattle.core_state.specs.declared.parts.Parts.{Parts}
use Rattle.core_state.specs.Entries.{marked_in}
use Rattle.core_collect.specs.Calls.{OpenCalls, SearchCalls, calls_at, calls_in, calls_next, calls_of, calls_then, page_calls, pages_calls, search_calls}
use Rattle.core_collect.specs.Entries.{next_read, reaches_on}
use Rattle.core_collect.specs.Marking.{MayPass, PassesOver, indexes_left, passed_by, passed_over, path_at, standing, standing_at, standing_by}
use Rattle.core_collect.proofs.MarkLemmas.{left_from, mark_there, no_index, over_zero}

-- ---- a page

-- one that is at hand is not read
page_most : (at_hand : Option MarkedPage) (i : ℕ) → page_calls at_hand i ≤ 1
page_most None i = omega arith
page_most (Some q) i = by_test (q.number == i)
  where
    by_test : (b : Bool) → cond b 0 1 ≤ 1
    by_test true = omega arith
    by_test false = omega arith

module _ {D : Type 0} (d : Ghosts D) where
  -- the page of the entry alone
  pub first_called : (old new : D) (p : IndexPages) (at_hand : Option MarkedPage) (first : ℕ) → CallsAtMost d old new (page_calls at_hand (first / 1024))
      → CallsAtMost d old new (pages_calls p at_hand first)
  first_called old new p at_hand first most = calls_more d old new (page_calls at_hand (first / 1024)) (pages_calls p at_hand first) (omega arith) most

  -- and the next one
  pub both_called : (old mid new : D) (failed : Type 0) (p : IndexPages) (at_hand : Option MarkedPage) (page : MarkedPage) (first : ℕ) → Serves d.honest d.faults old mid failed → reaches_on (pages_by p).count first ≡ true
      → CallsAtMost d old mid (page_calls at_hand (first / 1024)) → CallsAtMost d mid new (page_calls (Some page) (first / 1024 + 1)) → CallsAtMost d old new (pages_calls p at_hand first)
  both_called old mid new failed p at_hand page first serves on one two = λ honest.
      let few = one honest in
      let more = two (serves.kept.0 honest) in
      let once = page_most (Some page) (first / 1024 + 1) in
      let is : pages_calls p at_hand first ≡ page_calls at_hand (first / 1024) + 1 = ap (λ b. page_calls at_hand (first / 1024) + cond b 1 0) on in
      omega (arith, few, more, once, is)

-- ---- the index that is next

module _ (m : Files) (catalogue : List Listed) (c : Collector) (i : IndexAt) (path : List ℕ) (at : next_index c.plan ≡ Some i) (found : path_at i catalogue ≡ Some path) where
  -- its pages are at hand
  pub calls_had : (p : MarkedPages) → c.pages ≡ Some p → calls_next m catalogue c (next_index c.plan) ≡ pages_calls p.kept p.last (marked_in (c.plan).stage)
  calls_had p had =
      ap (calls_next m catalogue c) at ∙ ap₂ (λ o q. calls_at m (kind_of_index i.name) o (marked_in (c.plan).stage) q) had found

  -- or it is opened
  pub calls_opened : c.pages ≡ None → calls_next m catalogue c (next_index c.plan) ≡ calls_at m (kind_of_index i.name) None (marked_in (c.plan).stage) (Some path)
  calls_opened none =
      ap (calls_next m catalogue c) at ∙ ap₂ (λ o q. calls_at m (kind_of_index i.name) o (marked_in (c.plan).stage) q) none found

-- ---- the search

module _ (m : Files) (catalogue : List Listed) where
  from_next : (c : Collector) (i : IndexAt) → next_index c.plan ≡ Some i → search_calls m catalogue c
      ≡ calls_of m catalogue c.pages (marked_in (c.plan).stage) i
      + calls_then (standing m catalogue c.pages (marked_in (c.plan).stage) i) (calls_in m catalogue None 0 (indexes_left (c.plan).indexes (marked_at (c.plan).stage 0 0)))
  from_next c i at = ap (calls_in m catalogue c.pages (marked_in (c.plan).stage)) (left_from (c.plan).indexes (c.plan).stage i at)

  -- it calls as often as for the index that is next, or more
  pub next_within : (c : Collector) → calls_next m catalogue c (next_index c.plan) ≤ search_calls m catalogue c
  next_within c = by_index (next_index c.plan) refl
    where
      by_index : (o : Option IndexAt) → next_index c.plan ≡ o → calls_next m catalogue c o ≤ search_calls m catalogue c
      by_index None none = omega arith
      by_index (Some i) at = omega (arith, from_next c i at)

  -- and as one is passed over, as often as for it and for those behind it
  pub search_on : (c e : Collector) → IsSome (next_mark c.plan) → PassesOver c e
      → ((i : IndexAt) → next_index c.plan ≡ Some i → standing m catalogue c.pages (marked_in (c.plan).stage) i ≡ passed_over)
      → search_calls m catalogue c ≡ calls_next m catalogue c (next_index c.plan) + search_calls m catalogue e
  search_on c e some over stands = by_index (next_index c.plan) refl
    where
      later : search_calls m catalogue e ≡ calls_in m catalogue None 0 (indexes_left (c.plan).indexes (marked_at (c.plan).stage 0 0))
      later =
          ap₂ (λ o (p : Plan). calls_in m catalogue o (marked_in p.stage) (indexes_left p.indexes p.stage)) over.none over.plan
          ∙ ap (λ n. calls_in m catalogue None n (indexes_left (c.plan).indexes (marked_at (c.plan).stage 0 0))) (over_zero (c.plan).stage)

      none_is : false ≡ true → ⊥
      none_is e = cc

      by_index : (o : Option IndexAt) → next_index c.plan ≡ o → search_calls m catalogue c ≡ calls_next m catalogue c o + search_calls m catalogue e
      by_index None none = absurd (none_is (sym (ap is_some (no_index (c.plan).indexes (c.plan).stage none)) ∙ some))
      by_index (Some i) at =
          from_next c i at
          ∙ ap (λ st. calls_of m catalogue c.pages (marked_in (c.plan).stage) i + calls_then st (calls_in m catalogue None 0 (indexes_left (c.plan).indexes (marked_at (c.plan).stage 0 0)))) (stands i at)
          ∙ ap (λ n. calls_of m catalogue c.pages (marked_in (c.plan).stage) i + n) (sym later)

-- ---- an index whose pages are at hand

module _ {D : Type 0} (d : Ghosts D) (old new : Parts D) (c : Collector) where
  abbrev m : Files
  m = d.content old.disk

  -- it is not passed over, and nothing behind it is called for
  pub open_search : SearchCalls d old new c → OpenCalls d old new c
  open_search most i path p at found had = λ honest.
      let few = most honest in
      let first = marked_in (c.plan).stage in
      let later = calls_in m old.catalogue.listed None 0 (indexes_left (c.plan).indexes (marked_at (c.plan).stage 0 0)) in
      let stands = ap₂ (λ o q. standing_at m (kind_of_index i.name) o first q) had found in
      let none = ap (λ st. calls_then st later) stands ∙ by_read p.kept path (next_read m path p.kept p.last first) later in
      let once = ap₂ (λ o q. calls_at m (kind_of_index i.name) o first q) had found in
      omega (arith, few, from_next m old.catalogue.listed c i at, none, once)
    where
      by_read : (q : IndexPages) (path : List ℕ) (r : Result (List (List ℕ)) Refusal) (later : ℕ) → calls_then (standing_by path q r) later ≡ 0
      by_read q path (Ok digests) later = refl
      by_read q path (Err refusal) later = refl

  -- it is let go with none
  pub open_unpassed : (e : Collector) (passed : ℕ) → e.plan ≡ passed_by passed c.plan → (0 < passed → MayPass old.catalogue.listed c) → next_mark e.plan ≡ None → OpenCalls d old new c
  open_unpassed e zero plan may none i path p at found had =
      absurd (none_is (sym (ap is_some (sym (ap next_mark plan) ∙ none)) ∙ mark_there (c.plan).indexes (c.plan).stage i at))
    where
      none_is : false ≡ true → ⊥
      none_is e = cc
  open_unpassed e (suc n) plan may none i path p at found had =
      absurd (⊎_elim {C = ⊥} (λ (gone : path_at i old.catalogue.listed ≡ None). none_path (sym gone ∙ found)) (λ (off : c.pages ≡ None). none_pages (sym off ∙ had)) (may (omega arith) i at))
    where
      none_path : None ≡ Some path → ⊥
      none_path e = cc

      none_pages : None ≡ Some p → ⊥
      none_pages e = cc

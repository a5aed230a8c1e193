-- The index that is next is passed over, read or unreadable, and the search for the one that is marked.
use Rattle.disk_trait.specs.declared.disk.Disk.{Ghosts}
use Rattle.std.proofs.Common.{◌≡◌, ◌⊎◌, ⊎_elim, ◌<◌, ◌-◌, ◌==◌, ℕ, zero, suc, min, Bool, true, false, cond, nat_lt, ◌≤◌, ◌+◌, le_refl, le_of_eq, List, [], ◌∷◌, drop, length, Option, Some, None, option_map, Result, Ok, Err, IfSome, IsSome, IsSomeAnd, is_some, IsErrAnd, IsErrOf, Vec, Global, inl, inr, refl, sym, ap, ap₂, subst, ◌∙◌, arith}
use Rattle.std.specs.Prelude.{slice_get}
use Rattle.std.specs.List.{All}
use Rattle.std.proofs.lemmas.Bool.{eq-eqb, eqb-true, ltb-false, ne_eqb}
use Rattle.std.proofs.lemmas.List.{drop_all, nil_from_length}
use Rattle.std.proofs.lemmas.List.Elements.{All-head, All-tail}
use Rattle.disk_trait.specs.Effects.{OnlyReads}
use Rattle.disk_trait.specs.Files.{Files}
use Rattle.store_types.specs.declared.names.Digest32.{Digest32}
use Rattle.store_types.specs.declared.refusal.Refusal.{Refusal}
use Rattle.store_types.specs.FileNames.{is_index_name}
use Rattle.paged_indexes.specs.declared.index.IndexPages.{IndexPages}
use Rattle.index_pages.specs.Paged.{page_at}
use Rattle.paged_indexes.specs.Index.{pages_by}
use Rattle.snapshot_files.specs.Indexes.{index_opened, kind_of_index}
use Rattle.store_model.specs.Store.{Store}
use Rattle.gc_plan.specs.Plan.{Plan, Stage, ends_at, index_in, is_over, left_of, mark_in, mark_limit, marked_at, marking, next_index, next_mark, sweeping, with_mark}
use Rattle.gc_plan.specs.declared.IndexAt.{IndexAt}
use Rattle.disk_trait.proofs.OnlyReading.{reads_none, reads_then}
use Rattle.store_history.specs.Sweeping.{Sweep}
use Rattle.core_state.specs.declared.collector.Collector.{Collector}
use Rattle.core_state.specs.declared.kept.Kept.{Kept}
use Rattle.core_state.specs.declared.kept.Listed.{Listed}
use Rattle.core_state.specs.declared.parts.Parts.{Parts}
use Rattle.core_state.specs.declared.marked.MarkedPages.{MarkedPages}
use Rattle.core_state.specs.declared.marked.MarkedPage.{MarkedPage}
use Rattle.core_state.specs.MarkedPage.{FitsLast}
use Rattle.core_state.specs.Entries.{count_at_hand, marked_in}
use Rattle.core_state.specs.Found.{path_of_kept}
use Rattle.core_state.specs.Holds.{Holds}
use Rattle.core_state.specs.Sweeps.{ArePages, FitsRemoved, HasNumber, HasPages, ShowsSweep, by_number, digests_named, unmarked_by, visits_by}
use Rattle.core_state.specs.Unchanged.{SameKept}
use Rattle.core_state.proofs.Acting.{holds_same}
use Rattle.core_state.proofs.Finding.{some_same}
use Rattle.core_collect.specs.Calls.{SearchCalls, SettleCalls, calls_next, search_calls}
use Rattle.core_collect.specs.Entries.{AreNext, IsHad, IsThePage, bytes_at, bytes_of, last_page, marked_from, next_read}
use Rattle.core_collect.specs.Marking.{FindsAfter, FindsNext, GoesFurther, IsSettled, KeepsLast, MayPass, PassesNext, PassesOver, SettlesNext, ShowsStill, Standing, StandsAt, TellsStanding, all_of, at_hand_after, first_standing, indexes_left, marked_next, marked_now, next_unreadable, opening_of, page_at_hand, page_then, passed_by, passed_over, path_at, standing, standing_as, standing_at, standing_by, unless_passed, unreadable, unreadable_in}
use Rattle.core_collect.specs.declared.marking.Opened.{Opened}
use Rattle.core_collect.specs.declared.marking.Unread.{Unread}
use Rattle.core_collect.specs.declared.marking.Unread.TheVariants.{DiskFailed, NoMemory, Unreadable}
use Rattle.core_collect.proofs.Calls.{next_within, search_on}
use Rattle.core_collect.proofs.LastPages.{hand_is}
use Rattle.core_collect.proofs.ReadLemmas.{IsOfFile, IsPlain, file_of, first_pages, index_plain, no_digests, plain_bytes, plain_count, plain_next, plain_opens, plain_pages}
use Rattle.core_collect.proofs.MarkLemmas.{all_marked, at_place, begins_with, left_from, mark_there, no_index, over_zero, passed_shows}

none_some : {A : Type 0} (x : A) → None ≡ Some x → ⊥
none_some x e = cc

abbrev Found : Type 0
Found = Result (Option (Vec Digest32 Global)) Unread

none_found : (digests : Vec Digest32 Global) → ◌≡◌ {A = Found} (Ok None) (Ok (Some digests)) → ⊥
none_found digests e = cc

found_none : (digests : Vec Digest32 Global) → ◌≡◌ {A = Found} (Ok (Some digests)) (Ok None) → ⊥
found_none digests e = cc

found_same : (a b : Vec Digest32 Global) → ◌≡◌ {A = Found} (Ok (Some a)) (Ok (Some b)) → a ≡ b
found_same a b e = cc

err_ok : (unread : Unread) (found : Option (Vec Digest32 Global)) → ◌≡◌ {A = Found} (Err unread) (Ok found) → ⊥
err_ok unread found e = cc

-- ---- how an index stands

next_same : (p q : IndexPages) (a b : List (List ℕ)) → marked_next p a ≡ marked_next q b → a ≡ b
next_same p q a b e = cc

next_unread : (p : IndexPages) (a : List (List ℕ)) (path : List ℕ) → marked_next p a ≡ unreadable path → ⊥
next_unread p a path e = cc

passed_unread : (path : List ℕ) → passed_over ≡ unreadable path → ⊥
passed_unread path e = cc

passed_next : (p : IndexPages) (a : List (List ℕ)) → passed_over ≡ marked_next p a → ⊥
passed_next p a e = cc

some_count : (n : ℕ) → (n == 0) ≡ false → 0 < n
some_count zero e = cc
some_count (suc n) e = omega arith

at_index : (P : IndexAt → Type 0) (is : List IndexAt) (place : ℕ) (i : IndexAt) → All P is → slice_get is place ≡ Some i → P i
at_index P [] place i all e = absurd (none_some i e)
at_index P (j ∷ js) zero i all e = subst P (some_same j i e) (All-head P j js all)
at_index P (j ∷ js) (suc place) i all e = at_index P js place i (All-tail P j js all) e

at_next : (P : IndexAt → Type 0) (is : List IndexAt) (stage : Stage) (i : IndexAt) → All P is → index_in is stage ≡ Some i → P i
at_next P is (marking place first) i all e = at_index P is place i all e
at_next P is (sweeping names) i all e = absurd (none_some i e)

none_left : (is : List IndexAt) (stage : Stage) → index_in is stage ≡ None → indexes_left is stage ≡ []
none_left is (marking place first) e = drop_all place is (at_place is place e)
none_left is (sweeping names) e = refl

kept_there : (i : IndexAt) (catalogue : List Listed) (path : List ℕ) → path_at i catalogue ≡ Some path → (k : Kept) × (by_number i.snapshot catalogue ≡ Some k)
kept_there i catalogue path found = from_state (by_number i.snapshot catalogue) refl found
  where
    from_state : (o : Option Kept) → by_number i.snapshot catalogue ≡ o → path_of_kept i.name o ≡ Some path → (k : Kept) × (by_number i.snapshot catalogue ≡ Some k)
    from_state None at e = absurd (none_some path e)
    from_state (Some k) at e = (k, at)

pub further_same : (c : Collector) → GoesFurther c c
further_same c = record { lane = refl; ended = refl; start = refl; cutoff = refl; indexes = refl; over = λ going. going; not_more = le_refl (left_of c.plan) }

-- where an index is passed over a plan that is not over is not over
still_going : (stage : Stage) → ends_at stage ≡ false → ends_at (marked_at stage 0 0) ≡ false
still_going (marking place first) going = refl
still_going (sweeping names) going = going

module _ {D : Type 0} (d : Ghosts D) (parts : Parts D) where
  abbrev m : Files
  m = d.content parts.disk

  abbrev catalogue : List Listed
  catalogue = parts.catalogue.listed

  -- no index is next
  pub none_settles : (c : Collector) → next_index c.plan ≡ None → SettlesNext d parts c c (Ok None)
  none_settles c none = record {
    further = further_same c;
    shows = λ acts s sweep holds h. (h, tt);
    at_hand = λ digests e. absurd (none_found digests e);
    passes = λ _ some. absurd (none_is (sym (ap is_some (no_index (c.plan).indexes (c.plan).stage none)) ∙ some));
    found = λ digests e. absurd (none_found digests e);
    unread = λ honest. refl;
  }
    where
      none_is : false ≡ true → ⊥
      none_is e = cc

  pub unmarked_settles : (c : Collector) → next_mark c.plan ≡ None → SettlesNext d parts c c (Ok None)
  unmarked_settles c none = none_settles c (by_index (next_index c.plan) refl)
    where
      none_is : false ≡ true → ⊥
      none_is e = cc

      by_index : (o : Option IndexAt) → next_index c.plan ≡ o → o ≡ None
      by_index None is = refl
      by_index (Some i) is = absurd (none_is (sym (ap is_some none) ∙ mark_there (c.plan).indexes (c.plan).stage i is))

  -- what is told of the index that is next
  next_is : (c : Collector) (i : IndexAt) → next_index c.plan ≡ Some i → next_unreadable m catalogue c
      ≡ unless_passed (standing m catalogue c.pages (marked_in (c.plan).stage) i) (unreadable_in m catalogue None 0 (indexes_left (c.plan).indexes (marked_at (c.plan).stage 0 0)))
  next_is c i at = ap (unreadable_in m catalogue c.pages (marked_in (c.plan).stage)) (left_from (c.plan).indexes (c.plan).stage i at)

  -- once one is passed over
  after_pass : (old new : Collector) → PassesOver old new → next_unreadable m catalogue new ≡ unreadable_in m catalogue None 0 (indexes_left (old.plan).indexes (marked_at (old.plan).stage 0 0))
  after_pass old new over =
      ap₂ (λ o (p : Plan). unreadable_in m catalogue o (marked_in p.stage) (indexes_left p.indexes p.stage)) over.none over.plan
      ∙ ap (λ n. unreadable_in m catalogue None n (indexes_left (old.plan).indexes (marked_at (old.plan).stage 0 0))) (over_zero (old.plan).stage)

  -- it is passed over
  passed_settles : (old new : Collector) (i : IndexAt) → next_index old.plan ≡ Some i → PassesOver old new
      → (d.honest parts.disk → standing m catalogue old.pages (marked_in (old.plan).stage) i ≡ passed_over)
      → (path_at i catalogue ≡ None) ⊎ (old.pages ≡ None)
      → ((s : Store) → Holds d parts s → (k : Kept) → by_number i.snapshot catalogue ≡ Some k → digests_named k.key i.name s.snapshots ≡ []) → SettlesNext d parts old new (Ok None)
  passed_settles old new i at over stands may empty = record {
    further = record {
      lane = over.lane;
      ended = over.ended;
      start = ap (λ (p : Plan). p.start) over.plan;
      cutoff = ap (λ (p : Plan). p.cutoff) over.plan;
      indexes = ap (λ (p : Plan). p.indexes) over.plan;
      over = λ going. ap is_over over.plan ∙ still_going (old.plan).stage going;
      not_more = let less = over.less in omega arith;
    };
    shows = λ acts s sweep holds h. (passed_shows catalogue s.snapshots acts old new sweep i over at (empty s holds) h, tt);
    at_hand = λ digests e. absurd (none_found digests e);
    passes = λ _ _. (
      over,
      (λ honest j there. subst (λ k. standing m catalogue old.pages (marked_in (old.plan).stage) k ≡ passed_over) (some_same i j (sym at ∙ there)) (stands honest)),
      λ j there. subst (λ k. (path_at k catalogue ≡ None) ⊎ (old.pages ≡ None)) (some_same i j (sym at ∙ there)) may,
    );
    found = λ digests e. absurd (none_found digests e);
    unread = λ honest.
        next_is old i at
        ∙ ap (λ st. unless_passed st (unreadable_in m catalogue None 0 (indexes_left (old.plan).indexes (marked_at (old.plan).stage 0 0)))) (stands honest)
        ∙ sym (after_pass old new over);
  }

  -- its snapshot was forgotten
  pub gone_settles : (old new : Collector) (i : IndexAt) → next_index old.plan ≡ Some i → path_at i catalogue ≡ None → PassesOver old new → SettlesNext d parts old new (Ok None)
  gone_settles old new i at missing over =
      passed_settles old new i at over (λ honest. ap (standing_at m (kind_of_index i.name) old.pages (marked_in (old.plan).stage)) missing) (inl missing)
      (λ s holds k kept. no_digests catalogue s.snapshots (holds.shows).catalogue ((holds.shows).sound).order i k kept missing)

  -- of a plain store it is an index's file
  is_plain : (c : Collector) (i : IndexAt) (path : List ℕ) (s : Store) → next_index c.plan ≡ Some i → path_at i catalogue ≡ Some path → Holds d parts s
      → (k : Kept) → by_number i.snapshot catalogue ≡ Some k → IsPlain m s.snapshots k i.name path
  is_plain c i path s at found holds k kept =
      index_plain catalogue s.snapshots (holds.shows).catalogue ((holds.shows).sound).order i k kept m path (holds.files).snapshots
      (at_next (λ (j : IndexAt). is_index_name j.name ≡ true) (c.plan).indexes (c.plan).stage i (c.fits).named at) found

  opened_standing : (c : Collector) (i : IndexAt) (path : List ℕ) → path_at i catalogue ≡ Some path → c.pages ≡ None
      → standing m catalogue c.pages (marked_in (c.plan).stage) i ≡ standing_as m path (index_opened m path (kind_of_index i.name))
  opened_standing c i path found none =
      ap₂ (λ o q. standing_at m (kind_of_index i.name) o (marked_in (c.plan).stage) q) none found

  had_standing : (c : Collector) (i : IndexAt) (path : List ℕ) (p : MarkedPages) → path_at i catalogue ≡ Some path → c.pages ≡ Some p
      → standing m catalogue c.pages (marked_in (c.plan).stage) i ≡ standing_by path p.kept (next_read m path p.kept p.last (marked_in (c.plan).stage))
  had_standing c i path p found had =
      ap₂ (λ o q. standing_at m (kind_of_index i.name) o (marked_in (c.plan).stage) q) had found

  -- nothing of one that is opened is marked
  none_marked : (c : Collector) → c.pages ≡ None → marked_in (c.plan).stage ≡ 0
  none_marked c none = by_marked (marked_in (c.plan).stage) (c.fits).begun
    where
      none_some_pages : false ≡ true → ⊥
      none_some_pages e = cc

      by_marked : (n : ℕ) → (0 < n → IsSome c.pages) → n ≡ 0
      by_marked zero begun = refl
      by_marked (suc n) begun = absurd (none_some_pages (subst (λ (o : Option MarkedPages). IsSome o) none (begun (omega arith))))

  -- ---- it is opened

  module _ (old : Collector) (i : IndexAt) (path : List ℕ) (at : next_index old.plan ≡ Some i) (found : path_at i catalogue ≡ Some path) (none : old.pages ≡ None) where
    abbrev as_opened : Standing
    as_opened = standing_as m path (index_opened m path (kind_of_index i.name))

    -- and has no entries
    pub empty_settles : (new : Collector) (x : Opened) → (pages_by x.pages).count ≡ 0 → (d.honest parts.disk → as_opened ≡ first_standing x) → PassesOver old new → SettlesNext d parts old new (Ok None)
    empty_settles new x empty reads over =
        passed_settles old new i at over (λ honest. opened_standing old i path found none ∙ reads honest ∙ passed_as) (inr none)
        (λ s holds k kept. none_named s holds k kept (index_opened m path (kind_of_index i.name)) refl)
      where
        passed_as : first_standing x ≡ passed_over
        passed_as = ap (λ b. cond b passed_over (marked_next x.pages (bytes_of x.digests.items))) (eq-eqb (pages_by x.pages).count 0 empty)

        by_read : (p : IndexPages) (r : Result (List (List ℕ)) Refusal) → standing_by path p r ≡ passed_over → ⊥
        by_read p (Ok digests) e = cc
        by_read p (Err refusal) e = passed_unread path (sym e)

        by_count : (p : IndexPages) (b : Bool) → ((pages_by p).count == 0) ≡ b → standing_as m path (Ok p) ≡ passed_over → {n : ℕ} → (pages_by p).count ≡ n → n ≡ 0
        by_count p true zero_is stands same = sym same ∙ eqb-true (pages_by p).count 0 zero_is
        by_count p false some stands same =
            absurd (by_read p (next_read m path p None 0) (sym (ap (λ b. cond b passed_over (standing_by path p (next_read m path p None 0))) some) ∙ stands))

        none_named : (s : Store) → Holds d parts s → (k : Kept) → by_number i.snapshot catalogue ≡ Some k → (r : Result IndexPages Refusal) → index_opened m path (kind_of_index i.name) ≡ r
            → digests_named k.key i.name s.snapshots ≡ []
        none_named s holds k kept (Err refusal) is = absurd (plain_opens m s.snapshots k i.name path refusal (is_plain old i path s at found holds k kept) is)
        none_named s holds k kept (Ok p) is =
            let plain = is_plain old i path s at found holds k kept in
            let count = plain_count m s.snapshots k i.name path p plain (plain.opens p is) in
            let stands : standing_as m path (Ok p) ≡ passed_over = sym (ap (standing_as m path) is) ∙ reads holds.honest ∙ passed_as in
            nil_from_length (digests_named k.key i.name s.snapshots) (by_count p ((pages_by p).count == 0) refl stands count)

  -- ---- it is to be marked

  -- as the plan was, with other pages at hand
  module _ (old new : Collector) (plan : new.plan ≡ old.plan) (lane : new.lane ≡ old.lane) (ended : new.ended ≡ old.ended) where
    further_as : GoesFurther old new
    further_as = record {
      lane = lane;
      ended = ended;
      start = ap (λ (q : Plan). q.start) plan;
      cutoff = ap (λ (q : Plan). q.cutoff) plan;
      indexes = ap (λ (q : Plan). q.indexes) plan;
      over = λ going. ap is_over plan ∙ going;
      not_more = le_of_eq (ap left_of plan);
    }

    shows_as : (acts : ℕ) (s : Store) (sweep : Sweep) (i : IndexAt) (k : Kept) (r : MarkedPages) → next_index old.plan ≡ Some i → by_number i.snapshot catalogue ≡ Some k → new.pages ≡ Some r → ArePages s.snapshots i.name r (Some k)
        → ShowsSweep acts catalogue s.snapshots old sweep → ShowsSweep acts catalogue s.snapshots new sweep
    shows_as acts s sweep i k r at there had are h = record {
      start = ap (λ (q : Plan). q.start) plan ∙ h.start;
      cutoff = ap (λ (q : Plan). q.cutoff) plan ∙ h.cutoff;
      unmarked = ap (λ (q : Plan). unmarked_by catalogue s.snapshots q.indexes q.stage) plan ∙ h.unmarked;
      to_visit = ap (λ (q : Plan). visits_by q.stage) plan ∙ h.to_visit;
      removed = ap (λ (q : Plan). q.removed) plan ∙ h.removed;
      few = subst (λ (q : Plan). FitsRemoved q.stage q.removed) (sym plan) h.few;
      pages = subst (λ (o : Option MarkedPages). IfSome o (λ q. HasPages catalogue s.snapshots q (next_index new.plan))) (sym had)
          (subst (HasPages catalogue s.snapshots r) (sym (ap next_index plan ∙ at)) (subst (ArePages s.snapshots i.name r) (sym there) are));
      numbers = subst (λ (q : Plan). All (HasNumber acts) q.indexes) (sym plan) h.numbers;
    }

  -- for each store they are the file's, and what was at hand is what would be read
  abbrev HasPagesOf : Collector → IndexAt → MarkedPages → Option MarkedPage → Type 0
  HasPagesOf old i r at_hand = (s : Store) (sweep : Sweep) (acts : ℕ) → Holds d parts s → ShowsSweep acts catalogue s.snapshots old sweep → (k : Kept) → by_number i.snapshot catalogue ≡ Some k
      → ArePages s.snapshots i.name r (Some k) × ((j : ℕ) → bytes_at m r.kept at_hand j ≡ page_at m (pages_by r.kept) j)

  module _ (old new : Collector) (i : IndexAt) (path : List ℕ) (r : MarkedPages) (at_hand : Option MarkedPage) (digests : Vec Digest32 Global) (at : next_index old.plan ≡ Some i) (found : path_at i catalogue ≡ Some path)
      (plan : new.plan ≡ old.plan) (lane : new.lane ≡ old.lane) (ended : new.ended ≡ old.ended) (had : new.pages ≡ Some r) (are : HasPagesOf old i r at_hand)
      (next : d.honest parts.disk → standing_by path r.kept (next_read m path r.kept at_hand (marked_in (old.plan).stage)) ≡ marked_next r.kept (bytes_of digests.items))
      (stands : d.honest parts.disk → standing m catalogue old.pages (marked_in (old.plan).stage) i ≡ marked_next r.kept (bytes_of digests.items)) where
    abbrev p : IndexPages
    p = r.kept

    abbrev first : ℕ
    first = marked_in (old.plan).stage

    below : first < (pages_by p).count
    below = let lt = (new.fits).within (ap is_some had) in
        subst (λ (q : Plan). marked_in q.stage < (pages_by p).count) plan (subst (λ o. marked_in (new.plan).stage < count_at_hand o) had lt)

    had_shows : (acts : ℕ) (s : Store) (sweep : Sweep) → Holds d parts s → ShowsSweep acts catalogue s.snapshots old sweep
        → ShowsSweep acts catalogue s.snapshots new sweep × IsSettled catalogue new (Ok (Some digests)) s.snapshots sweep
    had_shows acts s sweep holds h =
        let there = kept_there i catalogue path found in
        let k = there.0 in
        let (of_pages, same_at) = are s sweep acts holds h k there.1 in
        let of_file = file_of s.snapshots k i.name r of_pages in
        let plain = is_plain old i path s at found holds k there.1 in
        let all = all_of k i s.snapshots in
        let read : next_read m path p at_hand first ≡ Ok (marked_from first all) = plain_next m s.snapshots k i.name path p at_hand first plain of_file same_at below in
        let same : bytes_of digests.items ≡ marked_from first all = next_same p p (bytes_of digests.items) (marked_from first all) (sym (next holds.honest) ∙ ap (standing_by path p) read) in
        let next_now : next_index new.plan ≡ Some i = ap next_index plan ∙ at in
        let shown = shows_as old new plan lane ended acts s sweep i k r at there.1 had of_pages h in (
          shown,
          begins_with catalogue s.snapshots new i k r digests.items sweep.unmarked next_now there.1 had
              (record { count = plain_count m s.snapshots k i.name path p plain of_file; pages = of_pages })
              (subst (λ (q : Plan). bytes_of digests.items ≡ marked_from (marked_in q.stage) all) (sym plan) same) shown.unmarked,
        )

    pub had_settles : length digests.items ≡ min mark_limit ((pages_by p).count - first) → ((q : MarkedPages) → old.pages ≡ Some q → p ≡ q.kept) → AreNext p first digests.items
        → page_at_hand new.pages ≡ page_then old.pages first → SettlesNext d parts old new (Ok (Some digests))
    had_settles many same kept last = record {
      further = further_as old new plan lane ended;
      shows = had_shows;
      at_hand = λ ds e. record {
        next = ap is_some (ap next_index plan ∙ at);
        pages = ap is_some had;
        all = subst (λ (v : Vec Digest32 Global). length v.items ≡ marked_now new) (found_same digests ds e) now_many;
      };
      passes = λ e _. absurd (found_none digests e);
      found = λ ds e. subst (λ (v : Vec Digest32 Global). FindsAfter d parts.disk catalogue 0 old new v.items) (found_same digests ds e) (record {
        lane = lane;
        plan = plan;
        skipped = λ honest n low. absurd (omega (arith, low));
        let_go = λ more. absurd (omega (arith, more));
        had = by_had old.pages refl;
        last = λ _. subst (λ (x : Plan). page_at_hand new.pages ≡ page_then old.pages (marked_in x.stage)) (sym plan) last;
        kept = λ _.
            subst (λ (o : Option MarkedPages). IfSome o (λ q. AreNext q.kept (marked_in (new.plan).stage) digests.items)) (sym had)
            (subst (λ (x : Plan). AreNext p (marked_in x.stage) digests.items) (sym plan) kept);
        read = λ honest.
            subst (λ (o : Option MarkedPages). IfSome o (λ q. StandsAt m catalogue old 0 (marked_next q.kept (bytes_of digests.items)))) (sym had)
            (λ j there. subst (λ x. standing m catalogue old.pages first x ≡ marked_next p (bytes_of digests.items)) (some_same i j (sym at ∙ there)) (stands honest));
      });
      unread = λ honest.
          next_is old i at
          ∙ ap (λ st. unless_passed st (unreadable_in m catalogue None 0 (indexes_left (old.plan).indexes (marked_at (old.plan).stage 0 0)))) (stands honest);
    }
      where
        none_some_pages : false ≡ true → ⊥
        none_some_pages e = cc

        now_many : length digests.items ≡ marked_now new
        now_many = many ∙ sym (ap₂ (λ (o : Option MarkedPages) (q : Plan). min mark_limit (count_at_hand o - marked_in q.stage)) had plan)

        by_had : (o : Option MarkedPages) → old.pages ≡ o → IsSome o → opening_of new.pages ≡ opening_of o
        by_had None is some = absurd (none_some_pages some)
        by_had (Some q) is some = ap opening_of had ∙ ap Some (same q is)

  -- its pages were at hand: what is at hand then is the file's too
  kept_pages : (old : Collector) (i : IndexAt) (path : List ℕ) (q r : MarkedPages) → next_index old.plan ≡ Some i → path_at i catalogue ≡ Some path → old.pages ≡ Some q → r.kept ≡ q.kept
      → (d.honest parts.disk → IfSome r.last (IsHad m q.kept q.last)) → HasPagesOf old i r q.last
  kept_pages old i path q r at found had same last s sweep acts holds h k kept_is =
      let has : HasPages catalogue s.snapshots q (next_index old.plan) = subst (λ (o : Option MarkedPages). IfSome o (λ x. HasPages catalogue s.snapshots x (next_index old.plan))) had h.pages in
      let are : ArePages s.snapshots i.name q (Some k) = subst (ArePages s.snapshots i.name q) kept_is (subst (HasPages catalogue s.snapshots q) at has) in
      let plain = is_plain old i path s at found holds k kept_is in (
        plain_pages m s.snapshots k i.name path plain q r same (last holds.honest) are,
        λ j. subst (λ x. bytes_at m x q.last j ≡ page_at m (pages_by x) j) (sym same) (plain_bytes m s.snapshots k i.name path plain q are j),
      )

  pub kept_settles : (old new : Collector) (i : IndexAt) (path : List ℕ) (q r : MarkedPages) (digests : Vec Digest32 Global) → next_index old.plan ≡ Some i → path_at i catalogue ≡ Some path
      → new.plan ≡ old.plan → new.lane ≡ old.lane → new.ended ≡ old.ended → old.pages ≡ Some q → new.pages ≡ Some r → KeepsLast d parts.disk q r (marked_in (old.plan).stage) (Ok digests)
      → (d.honest parts.disk → standing_by path q.kept (next_read m path q.kept q.last (marked_in (old.plan).stage)) ≡ marked_next q.kept (bytes_of digests.items))
      → length digests.items ≡ min mark_limit ((pages_by q.kept).count - marked_in (old.plan).stage) → AreNext q.kept (marked_in (old.plan).stage) digests.items → SettlesNext d parts old new (Ok (Some digests))
  kept_settles old new i path q r digests at found plan lane ended had now keeps reads many kept =
      had_settles old new i path r q.last digests at found plan lane ended now (kept_pages old i path q r at found had keeps.kept keeps.had)
      (λ honest. subst (λ x. standing_by path x (next_read m path x q.last first) ≡ marked_next x (bytes_of digests.items)) (sym keeps.kept) (reads honest))
      (λ honest. had_standing old i path q found had ∙ reads honest ∙ ap (λ x. marked_next x (bytes_of digests.items)) (sym keeps.kept))
      (many ∙ ap (λ x. min mark_limit ((pages_by x).count - first)) (sym keeps.kept))
      (λ x is. keeps.kept ∙ ap (λ (y : MarkedPages). y.kept) (some_same q x (sym had ∙ is)))
      (subst (λ x. AreNext x first digests.items) (sym keeps.kept) kept)
      (ap page_at_hand now ∙ by_last r.last keeps.last ∙ sym (ap (λ o. page_then o first) had))
    where
      first : ℕ
      first = marked_in (old.plan).stage

      by_last : (o : Option MarkedPage) → IsSomeAnd o (IsThePage q.kept (last_page q.kept first)) → option_map (λ (x : MarkedPage). x.number) o ≡ Some (last_page q.kept first)
      by_last None page = absurd page
      by_last (Some x) page = ap Some page.number

  -- it is opened, and has entries
  pub read_settles : (old new : Collector) (i : IndexAt) (path : List ℕ) (x : Opened) (fits : FitsLast x.pages None) → next_index old.plan ≡ Some i → path_at i catalogue ≡ Some path → new.plan ≡ old.plan → new.lane ≡ old.lane
      → new.ended ≡ old.ended → old.pages ≡ None → new.pages ≡ Some (record { kept = x.pages; last = None; fits = fits }) → ((pages_by x.pages).count ≡ 0 → ⊥)
      → (d.honest parts.disk → standing_as m path (index_opened m path (kind_of_index i.name)) ≡ first_standing x) → length x.digests.items ≡ min mark_limit (pages_by x.pages).count → AreNext x.pages 0 x.digests.items → SettlesNext d parts old new (Ok (Some x.digests))
  read_settles old new i path x fits at found plan lane ended none had some reads many kept =
      had_settles old new i path r None x.digests at found plan lane ended had are next
      (λ honest. opened_standing old i path found none ∙ reads honest ∙ next_as) (many ∙ sym (ap (λ n. min mark_limit ((pages_by x.pages).count - n)) (none_marked old none) ∙ ap (min mark_limit) nothing_less))
      (λ q is. absurd (none_some q (sym none ∙ is)))
      (subst (λ n. AreNext x.pages n x.digests.items) (sym (none_marked old none)) kept)
      (ap page_at_hand had ∙ sym (ap (λ o. page_then o (marked_in (old.plan).stage)) none))
    where
      r : MarkedPages
      r = record { kept = x.pages; last = None; fits = fits }

      nothing_less : (pages_by x.pages).count - 0 ≡ (pages_by x.pages).count
      nothing_less = omega arith

      next_as : first_standing x ≡ marked_next x.pages (bytes_of x.digests.items)
      next_as = ap (λ b. cond b passed_over (marked_next x.pages (bytes_of x.digests.items))) (ne_eqb (pages_by x.pages).count 0 some)

      by_read : (p : IndexPages) (r : Result (List (List ℕ)) Refusal) → standing_by path p r ≡ marked_next x.pages (bytes_of x.digests.items) → p ≡ x.pages
      by_read p (Ok digests) e = cc
      by_read p (Err refusal) e = cc

      -- what stands there was opened so
      opened_so : (r : Result IndexPages Refusal) → index_opened m path (kind_of_index i.name) ≡ r → standing_as m path r ≡ marked_next x.pages (bytes_of x.digests.items)
          → (index_opened m path (kind_of_index i.name) ≡ Ok x.pages) × (standing_by path x.pages (next_read m path x.pages None 0) ≡ marked_next x.pages (bytes_of x.digests.items))
      opened_so (Err refusal) is e = absurd (next_unread x.pages (bytes_of x.digests.items) path (sym e))
      opened_so (Ok p) is e = by_count p ((pages_by p).count == 0) is refl e
        where
          by_count : (p : IndexPages) (b : Bool) → index_opened m path (kind_of_index i.name) ≡ Ok p → ((pages_by p).count == 0) ≡ b
              → cond ((pages_by p).count == 0) passed_over (standing_by path p (next_read m path p None 0)) ≡ marked_next x.pages (bytes_of x.digests.items)
              → (index_opened m path (kind_of_index i.name) ≡ Ok x.pages) × (standing_by path x.pages (next_read m path x.pages None 0) ≡ marked_next x.pages (bytes_of x.digests.items))
          by_count p true opened empty e = absurd (passed_next x.pages (bytes_of x.digests.items) (sym (ap (λ b. cond b passed_over (standing_by path p (next_read m path p None 0))) empty) ∙ e))
          by_count p false opened more e =
              let stands = sym (ap (λ b. cond b passed_over (standing_by path p (next_read m path p None 0))) more) ∙ e in
              let same = by_read p (next_read m path p None 0) stands in
              (opened ∙ ap (λ q. let r : Result IndexPages Refusal = Ok q in r) same, subst (λ q. standing_by path q (next_read m path q None 0) ≡ marked_next x.pages (bytes_of x.digests.items)) same stands)

      so : d.honest parts.disk → (index_opened m path (kind_of_index i.name) ≡ Ok x.pages) × (standing_by path x.pages (next_read m path x.pages None 0) ≡ marked_next x.pages (bytes_of x.digests.items))
      so honest = opened_so (index_opened m path (kind_of_index i.name)) refl (reads honest ∙ next_as)

      next : d.honest parts.disk → standing_by path x.pages (next_read m path x.pages None (marked_in (old.plan).stage)) ≡ marked_next x.pages (bytes_of x.digests.items)
      next honest = ap (λ n. standing_by path x.pages (next_read m path x.pages None n)) (none_marked old none) ∙ (so honest).1

      are : HasPagesOf old i r None
      are s sweep acts holds h k kept = (first_pages s.snapshots k i.name r refl ((is_plain old i path s at found holds k kept).opens x.pages (so holds.honest).0), λ j. refl)

  -- ---- or its digests are not to be had

  unread_settles : (old new : Collector) → new.plan ≡ old.plan → new.lane ≡ old.lane → new.ended ≡ old.ended → (i : IndexAt) (path : List ℕ) (unread : Unread) → next_index old.plan ≡ Some i → path_at i catalogue ≡ Some path
      → ((acts : ℕ) (s : Store) (sweep : Sweep) → Holds d parts s → ShowsSweep acts catalogue s.snapshots old sweep → ShowsSweep acts catalogue s.snapshots new sweep)
      → ((name : List ℕ) → unread ≡ Unreadable name → d.honest parts.disk → standing m catalogue old.pages (marked_in (old.plan).stage) i ≡ unreadable name)
      → ((name : List ℕ) → unread ≡ Unreadable name → (acts : ℕ) (s : Store) (sweep : Sweep) → Holds d parts s → ShowsSweep acts catalogue s.snapshots old sweep → ⊥) → SettlesNext d parts old new (Err unread)
  unread_settles old new plan lane ended i path (Unreadable name) at found shows stands never = record {
    further = further_as old new plan lane ended;
    shows = λ acts s sweep holds h. (shows acts s sweep holds h, never name refl acts s sweep holds h);
    at_hand = λ digests e. absurd (err_ok (Unreadable name) (Some digests) e);
    passes = λ e _. absurd (err_ok (Unreadable name) None e);
    found = λ digests e. absurd (err_ok (Unreadable name) (Some digests) e);
    unread = λ honest.
        next_is old i at
        ∙ ap (λ st. unless_passed st (unreadable_in m catalogue None 0 (indexes_left (old.plan).indexes (marked_at (old.plan).stage 0 0)))) (stands name refl honest);
  }
  unread_settles old new plan lane ended i path NoMemory at found shows stands never = record {
    further = further_as old new plan lane ended;
    shows = λ acts s sweep holds h. (shows acts s sweep holds h, tt);
    at_hand = λ digests e. absurd (err_ok NoMemory (Some digests) e);
    passes = λ e _. absurd (err_ok NoMemory None e);
    found = λ digests e. absurd (err_ok NoMemory (Some digests) e);
    unread = λ honest. tt;
  }
  unread_settles old new plan lane ended i path DiskFailed at found shows stands never = record {
    further = further_as old new plan lane ended;
    shows = λ acts s sweep holds h. (shows acts s sweep holds h, tt);
    at_hand = λ digests e. absurd (err_ok DiskFailed (Some digests) e);
    passes = λ e _. absurd (err_ok DiskFailed None e);
    found = λ digests e. absurd (err_ok DiskFailed (Some digests) e);
    unread = λ honest. tt;
  }

  -- of one that was to be opened
  pub unopened_settles : (c : Collector) (i : IndexAt) (path : List ℕ) (unread : Unread) → next_index c.plan ≡ Some i → path_at i catalogue ≡ Some path → c.pages ≡ None
      → (d.honest parts.disk → TellsStanding first_standing (standing_as m path (index_opened m path (kind_of_index i.name))) (Err unread)) → SettlesNext d parts c c (Err unread)
  unopened_settles c i path unread at found none reads =
      unread_settles c c refl refl refl i path unread at found (λ acts s sweep holds h. h) (λ name is honest. opened_standing c i path found none ∙ told name is honest) never
    where
      told : (name : List ℕ) → unread ≡ Unreadable name → d.honest parts.disk → standing_as m path (index_opened m path (kind_of_index i.name)) ≡ unreadable name
      told name is honest = subst (λ u. TellsStanding first_standing (standing_as m path (index_opened m path (kind_of_index i.name))) (Err u)) is (reads honest)

      -- an index of a plain store is opened, and its first entries are read
      never : (name : List ℕ) → unread ≡ Unreadable name → (acts : ℕ) (s : Store) (sweep : Sweep) → Holds d parts s → ShowsSweep acts catalogue s.snapshots c sweep → ⊥
      never name is acts s sweep holds h =
          let there = kept_there i catalogue path found in
          by_opened s holds there.0 there.1 (index_opened m path (kind_of_index i.name)) refl (told name is holds.honest)
        where
          by_count : (s : Store) (k : Kept) (p : IndexPages) (b : Bool) → IsPlain m s.snapshots k i.name path → IsOfFile s.snapshots i.name k p → ((pages_by p).count == 0) ≡ b
              → cond ((pages_by p).count == 0) passed_over (standing_by path p (next_read m path p None 0)) ≡ unreadable name → ⊥
          by_count s k p true plain are empty e = passed_unread name (sym (ap (λ b. cond b passed_over (standing_by path p (next_read m path p None 0))) empty) ∙ e)
          by_count s k p false plain are more e =
              let read = plain_next m s.snapshots k i.name path p None 0 plain are (λ j. refl) (some_count (pages_by p).count more) in
              next_unread p (marked_from 0 (digests_named k.key i.name s.snapshots)) name
              (sym (ap (standing_by path p) read) ∙ sym (ap (λ b. cond b passed_over (standing_by path p (next_read m path p None 0))) more) ∙ e)

          by_opened : (s : Store) → Holds d parts s → (k : Kept) → by_number i.snapshot catalogue ≡ Some k → (r : Result IndexPages Refusal) → index_opened m path (kind_of_index i.name) ≡ r
              → standing_as m path (index_opened m path (kind_of_index i.name)) ≡ unreadable name → ⊥
          by_opened s holds k kept (Err refusal) is e = plain_opens m s.snapshots k i.name path refusal (is_plain c i path s at found holds k kept) is
          by_opened s holds k kept (Ok p) is e =
              let plain = is_plain c i path s at found holds k kept in
              by_count s k p ((pages_by p).count == 0) plain (plain.opens p is) refl (sym (ap (standing_as m path) is) ∙ e)

  -- of one whose pages are at hand
  pub unkept_settles : (old new : Collector) (i : IndexAt) (path : List ℕ) (q r : MarkedPages) (unread : Unread) → next_index old.plan ≡ Some i → path_at i catalogue ≡ Some path
      → new.plan ≡ old.plan → new.lane ≡ old.lane → new.ended ≡ old.ended → old.pages ≡ Some q → new.pages ≡ Some r → KeepsLast d parts.disk q r (marked_in (old.plan).stage) (Err unread)
      → (d.honest parts.disk → TellsStanding {A = Vec Digest32 Global} (λ digests. marked_next q.kept (bytes_of digests.items)) (standing_by path q.kept (next_read m path q.kept q.last (marked_in (old.plan).stage))) (Err unread))
      → SettlesNext d parts old new (Err unread)
  unkept_settles old new i path q r unread at found plan lane ended had now keeps reads =
      unread_settles old new plan lane ended i path unread at found shows (λ name is honest. had_standing old i path q found had ∙ told name is honest) never
    where
      first : ℕ
      first = marked_in (old.plan).stage

      told : (name : List ℕ) → unread ≡ Unreadable name → d.honest parts.disk → standing_by path q.kept (next_read m path q.kept q.last first) ≡ unreadable name
      told name is honest =
          subst (λ u. TellsStanding {A = Vec Digest32 Global} (λ digests. marked_next q.kept (bytes_of digests.items)) (standing_by path q.kept (next_read m path q.kept q.last first)) (Err u)) is (reads honest)

      below : first < (pages_by q.kept).count
      below = subst (λ o. first < count_at_hand o) had ((old.fits).within (ap is_some had))

      shows : (acts : ℕ) (s : Store) (sweep : Sweep) → Holds d parts s → ShowsSweep acts catalogue s.snapshots old sweep → ShowsSweep acts catalogue s.snapshots new sweep
      shows acts s sweep holds h =
          let there = kept_there i catalogue path found in
          shows_as old new plan lane ended acts s sweep i there.0 r at there.1 now (kept_pages old i path q r at found had keeps.kept keeps.had s sweep acts holds h there.0 there.1).0 h

      never : (name : List ℕ) → unread ≡ Unreadable name → (acts : ℕ) (s : Store) (sweep : Sweep) → Holds d parts s → ShowsSweep acts catalogue s.snapshots old sweep → ⊥
      never name is acts s sweep holds h =
          let there = kept_there i catalogue path found in
          let k = there.0 in
          let (are, same_at) = kept_pages old i path q q at found had refl (λ honest. was q.last) s sweep acts holds h k there.1 in
          let read = plain_next m s.snapshots k i.name path q.kept q.last first (is_plain old i path s at found holds k there.1) (file_of s.snapshots k i.name q are) same_at below in
          next_unread q.kept (marked_from first (digests_named k.key i.name s.snapshots)) name (sym (ap (standing_by path q.kept) read) ∙ told name is holds.honest)
        where
          -- what is at hand was
          was : (o : Option MarkedPage) → IfSome o (IsHad m q.kept o)
          was None = tt
          was (Some x) = inl (hand_is m q.kept x x.number refl)

-- ---- the search

-- a number before the next is this or an earlier one
at_most : (n k : ℕ) → n < suc k → (n < k) ⊎ (n ≡ k)
at_most zero zero below = inr refl
at_most zero (suc k) below = inl (omega arith)
at_most (suc n) zero below = absurd (omega (arith, below))
at_most (suc n) (suc k) below = ⊎_elim {C = (suc n < suc k) ⊎ (suc n ≡ suc k)} (λ (less : n < k). inl (omega (arith, less))) (λ (same : n ≡ k). inr (ap suc same)) (at_most n k (omega (arith, below)))

-- indexes were passed over since
pub record HasPassed {D : Type 0} (d : Ghosts D) (parts now : Parts D) (old c : Collector) : Type 0 where
  pub reads : OnlyReads d parts.disk now.disk ⊥
  pub kept : SameKept parts now
  pub further : GoesFurther old c
  pub shows : ShowsStill d parts old c (λ _ _. Unit {0})
  pub passed : ℕ
  pub plan : c.plan ≡ passed_by passed old.plan
  pub pages : c.pages ≡ at_hand_after passed old.pages
  pub skipped : d.honest parts.disk → (n : ℕ) → n < passed → StandsAt (d.content parts.disk) parts.catalogue.listed old n passed_over
  pub let_go : 0 < passed → MayPass parts.catalogue.listed old
  pub unread : d.honest parts.disk → next_unreadable (d.content parts.disk) parts.catalogue.listed old ≡ next_unreadable (d.content parts.disk) parts.catalogue.listed c
  pub calls : d.honest parts.disk → d.calls now.disk + search_calls (d.content parts.disk) parts.catalogue.listed c ≤ d.calls parts.disk + search_calls (d.content parts.disk) parts.catalogue.listed old

module _ {D : Type 0} (d : Ghosts D) (parts now : Parts D) (old c : Collector) (h : HasPassed d parts now old c) where
  holds_now : (s : Store) → Holds d parts s → Holds d now s
  holds_now s holds = holds_same d parts now s ((h.reads).serves).kept (h.reads).same h.kept holds

  further_then : (e : Collector) → GoesFurther c e → GoesFurther old e
  further_then e next = record {
    lane = next.lane ∙ (h.further).lane;
    ended = next.ended ∙ (h.further).ended;
    start = next.start ∙ (h.further).start;
    cutoff = next.cutoff ∙ (h.further).cutoff;
    indexes = next.indexes ∙ (h.further).indexes;
    over = λ going. next.over ((h.further).over going);
    not_more = let one = next.not_more in let two = (h.further).not_more in omega arith;
  }

  -- what the parts of now say is said of those before
  shows_then : (e : Collector) (result : Found) (acts : ℕ) (s : Store) (sweep : Sweep) → ShowsStill d now c e (IsSettled now.catalogue.listed e result) → Holds d parts s
      → ShowsSweep acts parts.catalogue.listed s.snapshots old sweep → ShowsSweep acts parts.catalogue.listed s.snapshots e sweep × IsSettled parts.catalogue.listed e result s.snapshots sweep
  shows_then e result acts s sweep next holds shown =
      let was = (h.shows acts s sweep holds shown).0 in
      let is = next acts s sweep (holds_now s holds) (subst (λ q. ShowsSweep acts q s.snapshots c sweep) (sym (h.kept).catalogue) was) in
      (subst (λ q. ShowsSweep acts q s.snapshots e sweep) (h.kept).catalogue is.0, subst (λ q. IsSettled q e result s.snapshots sweep) (h.kept).catalogue is.1)

  unread_as : (e : Collector) → d.honest parts.disk → next_unreadable (d.content now.disk) now.catalogue.listed e ≡ next_unreadable (d.content parts.disk) parts.catalogue.listed e
  unread_as e honest = ap₂ (λ f q. next_unreadable f q e) ((h.reads).same honest) (h.kept).catalogue

  honest_now : d.honest parts.disk → d.honest now.disk
  honest_now honest = ((h.reads).serves).kept.0 honest

  -- the calls for the index that is next are no more than those that are left
  calls_as : (later : Parts D) → SettleCalls d now later c → d.honest parts.disk → d.calls later.disk ≤ d.calls now.disk + calls_next (d.content parts.disk) parts.catalogue.listed c (next_index c.plan)
  calls_as later most honest =
      subst (λ n. d.calls later.disk ≤ d.calls now.disk + n) (ap₂ (λ f q. calls_next f q c (next_index c.plan)) ((h.reads).same honest) (h.kept).catalogue) (most (honest_now honest))

  pub search_most : (later : Parts D) → SettleCalls d now later c → SearchCalls d parts later old
  search_most later most = λ honest.
      let few = calls_as later most honest in
      let so_far = h.calls honest in
      let within = next_within (d.content parts.disk) parts.catalogue.listed c in
      omega (arith, few, so_far, within)

  pub search_over_most : SearchCalls d parts now old
  search_over_most = λ honest. let so_far = h.calls honest in omega (arith, so_far)

  -- how the index that is next stands, by what it stood at first
  stands_as : (how : Standing) → d.honest parts.disk → StandsAt (d.content now.disk) now.catalogue.listed c 0 how → StandsAt (d.content parts.disk) parts.catalogue.listed old h.passed how
  stands_as how honest stands i at =
      sym (ap₂ (λ f q. standing f q c.pages (marked_in (c.plan).stage) i) ((h.reads).same honest) (h.kept).catalogue
      ∙ ap₂ (λ o (p : Plan). standing (d.content parts.disk) parts.catalogue.listed o (marked_in p.stage) i) h.pages h.plan)
      ∙ stands i (ap next_index h.plan ∙ at)

  found_after : (e : Collector) (digests : List Digest32) → FindsAfter d now.disk now.catalogue.listed 0 c e digests → FindsAfter d parts.disk parts.catalogue.listed h.passed old e digests
  found_after e digests found = record {
    lane = found.lane ∙ (h.further).lane;
    plan = found.plan ∙ h.plan;
    skipped = h.skipped;
    let_go = h.let_go;
    had = λ some. found.had (subst (λ (o : Option MarkedPages). IsSome o) (sym h.pages) some) ∙ ap opening_of h.pages;
    last = λ next. found.last next ∙ ap (λ o. page_then o (marked_in (e.plan).stage)) h.pages;
    kept = found.kept;
    read = λ honest. by_pages e.pages honest (found.read (honest_now honest));
  }
    where
      by_pages : (o : Option MarkedPages) → d.honest parts.disk → IfSome o (λ p. StandsAt (d.content now.disk) now.catalogue.listed c 0 (marked_next p.kept (bytes_of digests)))
          → IfSome o (λ p. StandsAt (d.content parts.disk) parts.catalogue.listed old h.passed (marked_next p.kept (bytes_of digests)))
      by_pages None honest stands = tt
      by_pages (Some p) honest stands = stands_as (marked_next p.kept (bytes_of digests)) honest stands

  skipped_then : d.honest parts.disk → StandsAt (d.content now.disk) now.catalogue.listed c 0 passed_over → (n : ℕ) → n < suc h.passed → StandsAt (d.content parts.disk) parts.catalogue.listed old n passed_over
  skipped_then honest stands n below =
      ⊎_elim {C = StandsAt (d.content parts.disk) parts.catalogue.listed old n passed_over} (λ (less : n < h.passed). h.skipped honest n less)
      (λ (same : n ≡ h.passed). subst (λ k. StandsAt (d.content parts.disk) parts.catalogue.listed old k passed_over) (sym same) (stands_as passed_over honest stands)) (at_most n h.passed below)

  -- the pages at hand at first are let go with the first index
  let_go_then : (n : ℕ) → h.passed ≡ n → MayPass now.catalogue.listed c → MayPass parts.catalogue.listed old
  let_go_then zero none may i at =
      subst (λ (o : Option MarkedPages). (path_at i parts.catalogue.listed ≡ None) ⊎ (o ≡ None)) (h.pages ∙ ap (λ k. at_hand_after k old.pages) none)
      (subst (λ q. (path_at i q ≡ None) ⊎ (c.pages ≡ None)) (h.kept).catalogue (may i (ap next_index (h.plan ∙ ap (λ k. passed_by k old.plan) none) ∙ at)))
  let_go_then (suc n) some may i at = h.let_go (omega (arith, some)) i at

  -- one more
  pub passed_then : (later : Parts D) (e : Collector) (failed : Type 0) → (failed → ⊥) → OnlyReads d now.disk later.disk failed → SameKept now later → SettlesNext d now c e (Ok None) → IsSome (next_mark c.plan) → PassesNext d now c e
      → SettleCalls d now later c → HasPassed d parts later old e
  passed_then later e failed never reads kept settles some (over, stands, may) most = record {
    reads = reads_then d parts.disk now.disk later.disk ⊥ failed ⊥ h.reads reads (λ no. absurd no);
    kept = record {
      catalogue = kept.catalogue ∙ (h.kept).catalogue;
      sessions = kept.sessions ∙ (h.kept).sessions;
      locks = kept.locks ∙ (h.kept).locks;
      indexes = kept.indexes ∙ (h.kept).indexes;
    };
    further = further_then e settles.further;
    shows = λ acts s sweep holds shown. ((shows_then e (Ok None) acts s sweep settles.shows holds shown).0, tt);
    passed = suc h.passed;
    plan = over.plan ∙ ap (λ (p : Plan). with_mark p 0 0) h.plan;
    pages = over.none;
    skipped = λ honest. skipped_then honest (stands (honest_now honest));
    let_go = λ _. let_go_then h.passed refl may;
    unread = λ honest. h.unread honest ∙ sym (unread_as c honest) ∙ settles.unread (honest_now honest) ∙ unread_as e honest;
    calls = λ honest.
        let few = calls_as later most honest in
        let so_far = h.calls honest in
        let on = search_on (d.content parts.disk) parts.catalogue.listed c e some over
        (λ i at. ap₂ (λ f q. standing f q c.pages (marked_in (c.plan).stage) i) (sym ((h.reads).same honest)) (sym (h.kept).catalogue) ∙ stands (honest_now honest) i at) in
        omega (arith, few, so_far, on);
  }

  -- all are passed
  pub all_passed : next_mark c.plan ≡ None → FindsNext d parts old c (Ok None)
  all_passed none = record {
    further = h.further;
    shows = λ acts s sweep holds shown.
        let is = (h.shows acts s sweep holds shown).0 in
        (is, sym is.unmarked ∙ all_marked parts.catalogue.listed s.snapshots (c.plan).indexes (c.plan).stage none);
    at_hand = λ digests e. absurd (none_found digests e);
    all_marked = λ _. none;
    found = (
      h.passed,
      record {
        lane = (h.further).lane;
        plan = h.plan;
        skipped = h.skipped;
        let_go = h.let_go;
        had = λ _. ap opening_of h.pages;
        last = λ next. absurd (no_next (next_index c.plan) refl next);
        kept = λ next. absurd (no_next (next_index c.plan) refl next);
        read = λ honest. by_pages c.pages;
      },
    );
    unread = λ honest. h.unread honest ∙ ap (unreadable_in (d.content parts.disk) parts.catalogue.listed c.pages (marked_in (c.plan).stage)) (none_marked_left (c.plan).indexes (c.plan).stage none);
  }
    where
      none_is : false ≡ true → ⊥
      none_is e = cc

      no_index_next : (i : IndexAt) → next_index c.plan ≡ Some i → ⊥
      no_index_next i at = none_is (sym (ap is_some none) ∙ mark_there (c.plan).indexes (c.plan).stage i at)

      no_next : (o : Option IndexAt) → next_index c.plan ≡ o → IsSome o → ⊥
      no_next None is some = none_is some
      no_next (Some i) is some = no_index_next i is

      by_pages : (o : Option MarkedPages) → IfSome o (λ p. StandsAt (d.content parts.disk) parts.catalogue.listed old h.passed (marked_next p.kept []))
      by_pages None = tt
      by_pages (Some p) = λ i at. absurd (no_index_next i (ap next_index h.plan ∙ at))

      by_test : (is : List IndexAt) (place done : ℕ) (b : Bool) → nat_lt place (length is) ≡ b → cond {A = Option (ℕ × ℕ)} b (Some (place, done)) None ≡ None → drop place is ≡ []
      by_test is place done true less e = absurd (none_some (place, done) (sym e))
      by_test is place done false less e = drop_all place is (ltb-false place (length is) less)

      none_marked_left : (is : List IndexAt) (stage : Stage) → mark_in is stage ≡ None → indexes_left is stage ≡ []
      none_marked_left is (marking place done) e = by_test is place done (nat_lt place (length is)) refl e
      none_marked_left is (sweeping names) e = refl

  -- one is to be marked, or it is not to be had
  pub found_then : (e : Collector) (digests : Vec Digest32 Global) → SettlesNext d now c e (Ok (Some digests)) → FindsNext d parts old e (Ok (Some digests))
  found_then e digests settles = record {
    further = further_then e settles.further;
    shows = λ acts s sweep holds shown. shows_then e (Ok (Some digests)) acts s sweep settles.shows holds shown;
    at_hand = settles.at_hand;
    all_marked = λ is. absurd (found_none digests is);
    found = (h.passed, found_after e digests.items (settles.found digests refl));
    unread = λ honest. h.unread honest ∙ sym (unread_as c honest) ∙ settles.unread (honest_now honest);
  }

  pub unread_then : (e : Collector) (unread : Unread) → SettlesNext d now c e (Err unread) → FindsNext d parts old e (Err unread)
  unread_then e (Unreadable name) settles = record {
    further = further_then e settles.further;
    shows = λ acts s sweep holds shown. shows_then e (Err (Unreadable name)) acts s sweep settles.shows holds shown;
    at_hand = λ digests is. absurd (err_ok (Unreadable name) (Some digests) is);
    all_marked = λ is. absurd (err_ok (Unreadable name) None is);
    found = tt;
    unread = λ honest. h.unread honest ∙ sym (unread_as c honest) ∙ settles.unread (honest_now honest);
  }
  unread_then e NoMemory settles = record {
    further = further_then e settles.further;
    shows = λ acts s sweep holds shown. shows_then e (Err NoMemory) acts s sweep settles.shows holds shown;
    at_hand = λ digests is. absurd (err_ok NoMemory (Some digests) is);
    all_marked = λ is. absurd (err_ok NoMemory None is);
    found = tt;
    unread = λ honest. tt;
  }
  unread_then e DiskFailed settles = record {
    further = further_then e settles.further;
    shows = λ acts s sweep holds shown. shows_then e (Err DiskFailed) acts s sweep settles.shows holds shown;
    at_hand = λ digests is. absurd (err_ok DiskFailed (Some digests) is);
    all_marked = λ is. absurd (err_ok DiskFailed None is);
    found = tt;
    unread = λ honest. tt;
  }

-- nothing is passed over yet
pub passed_none : {D : Type 0} (d : Ghosts D) (parts : Parts D) (c : Collector) → HasPassed d parts parts c c
passed_none d parts c = record {
  reads = reads_none d parts.disk ⊥ (λ no. no);
  kept = record { catalogue = refl; sessions = refl; locks = refl; indexes = refl };
  further = further_same c;
  shows = λ acts s sweep holds h. (h, tt);
  passed = 0;
  plan = refl;
  pages = refl;
  skipped = λ honest n below. absurd (omega (arith, below));
  let_go = λ more. absurd (omega (arith, more));
  unread = λ honest. refl;
  calls = λ honest. le_refl (d.calls parts.disk + search_calls (d.content parts.disk) parts.catalogue.listed c);
}

-- ---- by what was returned

-- the error of a call is handed on
pub handed_on : (P : Found → Type 0) (r : Found) (u : Unread) → IsErrAnd r (λ x. x ≡ u) → P (Err u) → P r
handed_on P (Ok found) u is p = absurd is
handed_on P (Err x) u is p = subst (λ y. P (Err y)) (sym is) p

unread_same : (x y : Unread) → ◌≡◌ {A = Found} (Err x) (Err y) → x ≡ y
unread_same x y e = cc

handed_why : {A : Type 0} (r : Found) (s : Result A Unread) (u : Unread) → IsErrAnd r (λ x. x ≡ u) → s ≡ Err u → IsErrOf r DiskFailed → IsErrOf s DiskFailed
handed_why {A} (Ok found) s u is was failed = absurd is
handed_why {A} (Err x) s u is was failed = was ∙ ap (λ y. let q : Result A Unread = Err y in q) (sym is ∙ unread_same x DiskFailed failed)

-- of one call
pub handed_reads : {D A : Type 0} (d : Ghosts D) (old new : D) (r : Found) (s : Result A Unread) (u : Unread) → IsErrAnd r (λ x. x ≡ u) → s ≡ Err u
    → OnlyReads d old new (IsErrOf s DiskFailed) → OnlyReads d old new (IsErrOf r DiskFailed)
handed_reads d old new r s u is was reads = record {
  serves = record { kept = (reads.serves).kept; count = (reads.serves).count; cause = λ failed. (reads.serves).cause (handed_why r s u is was failed) };
  crash = reads.crash;
  same = reads.same;
}

module _ {D : Type 0} (d : Ghosts D) (parts now later : Parts D) (old c e : Collector) (h : HasPassed d parts now old c) (r : Found) (reads : OnlyReads d now.disk later.disk (IsErrOf r DiskFailed))
    (kept : SameKept now later) (settles : SettlesNext d now c e r) where
  pub search_kept : SameKept parts later
  search_kept = record {
    catalogue = kept.catalogue ∙ (h.kept).catalogue;
    sessions = kept.sessions ∙ (h.kept).sessions;
    locks = kept.locks ∙ (h.kept).locks;
    indexes = kept.indexes ∙ (h.kept).indexes;
  }

  -- one was passed over
  pub search_passed : r ≡ Ok None → IsSome (next_mark c.plan) → SettleCalls d now later c → HasPassed d parts later old e
  search_passed is some most =
      let one : SettlesNext d now c e (Ok None) = subst (SettlesNext d now c e) is settles in
      let why : IsErrOf r DiskFailed → ⊥ = λ failed. err_ok DiskFailed None (sym failed ∙ is) in
      passed_then d parts now old c h later e (IsErrOf r DiskFailed) why reads kept one some (one.passes refl some) most

  -- one is found
  pub search_found : (digests : Vec Digest32 Global) → r ≡ Ok (Some digests) → FindsNext d parts old e (Ok (Some digests))
  search_found digests is = found_then d parts now old c h e digests (subst (SettlesNext d now c e) is settles)

  pub search_found_reads : (found : Option (Vec Digest32 Global)) → OnlyReads d parts.disk later.disk (IsErrOf {T = Option (Vec Digest32 Global)} (Ok found) DiskFailed)
  search_found_reads found =
      reads_then d parts.disk now.disk later.disk ⊥ (IsErrOf r DiskFailed) (IsErrOf {T = Option (Vec Digest32 Global)} (Ok found) DiskFailed) h.reads reads (λ failed. absurd (err_ok DiskFailed found (sym failed)))

  -- or it is not to be had
  module _ (result : Found) (u : Unread) (handed : IsErrAnd result (λ x. x ≡ u)) (was : r ≡ Err u) where
    pub search_unread : FindsNext d parts old e result
    search_unread = handed_on (FindsNext d parts old e) result u handed (unread_then d parts now old c h e u (subst (SettlesNext d now c e) was settles))

    pub search_unread_reads : OnlyReads d parts.disk later.disk (IsErrOf result DiskFailed)
    search_unread_reads =
        reads_then d parts.disk now.disk later.disk ⊥ (IsErrOf r DiskFailed) (IsErrOf result DiskFailed) h.reads reads (λ failed. inr (handed_why result r u handed was failed))

pub search_over_reads : {D : Type 0} (d : Ghosts D) (parts now : Parts D) (old c : Collector) → HasPassed d parts now old c
    → OnlyReads d parts.disk now.disk (IsErrOf {T = Option (Vec Digest32 Global)} (Ok None) DiskFailed)
search_over_reads d parts now old c h =
    reads_then d parts.disk now.disk now.disk ⊥ ⊥ (IsErrOf {T = Option (Vec Digest32 Global)} (Ok None) DiskFailed) h.reads (reads_none d now.disk ⊥ (λ no. no)) (λ failed. absurd (err_ok DiskFailed None (sym failed)))

-- A visit of the collector is that of the sweep.
use Rattle.disk_trait.specs.declared.disk.Disk.{Ghosts}
use Rattle.std.proofs.Common.{◌≡◌, ◌⊎◌, inl, inr, ℕ, suc, ◌<◌, ◌≤◌, ◌+◌, ◌^◌, min, Bool, true, false, cond, List, [], ◌∷◌, length, Option, Some, None, Result, Ok, Err, refl, sym, subst, ap, ◌∙◌, arith, true≢false}
use Rattle.std.specs.Prelude.{IfSome, IsErrOf, IsSomeAnd, unwrap_or}
use Rattle.std.specs.FinMap.{remove}
use Rattle.std.specs.List.{All}
use Rattle.std.specs.Option.{IsSome}
use Rattle.std.specs.Str.{bytes_eq}
use Rattle.std.proofs.lemmas.List.Elements.{All-contains}
use Rattle.disk_trait.specs.Disk.{Serves}
use Rattle.disk_trait.specs.Effects.{OnlyReads}
use Rattle.disk_trait.specs.Files.{Files}
use Rattle.disk_trait.specs.declared.disk.DiskError.{DiskError}
use Rattle.disk_trait.specs.declared.disk.DiskError.TheVariants.{NoMemory, Failed}
use Rattle.store_types.specs.declared.names.Digest32.{Digest32}
use Rattle.store_files.specs.Book.{Book}
use Rattle.store_files.specs.Folder.{IsDigest, chunk_name}
use Rattle.store_model.specs.Store.{Store}
use Rattle.atime_book.specs.Present.{is_among}
use Rattle.atime_book.specs.Touches.{NoneAfter, SweptAt, is_stale, last_of}
use Rattle.chunk_store.proofs.Names.{same_digest}
use Rattle.gc_plan.specs.Plan.{Plan, Stage, ends_at, has_names, is_over as is_plan_over, is_sweeping, left_of as plan_left, marking, next_index, next_visit, sweeping, visited, with_names, with_removal}
use Rattle.store_history.specs.LastTouches.{LastTouches, SameTouches, is_one_of, touched}
use Rattle.store_history.specs.Sweeping.{Sweep, Swept, Unmarked, behind_first, chunks, first_taken, has_visited, is_done, is_over, left_of, next_marks, next_taken, one_more, passed, without}
use Rattle.store_upkeep.specs.Safety.{IsNeeded}
use Rattle.core_state.specs.declared.collector.Collector.{Collector}
use Rattle.core_state.specs.declared.kept.Listed.{Listed}
use Rattle.core_state.specs.declared.parts.Parts.{Parts}
use Rattle.core_state.specs.declared.upkeep.Upkeep.{Upkeep}
use Rattle.core_state.specs.declared.marked.MarkedPages.{MarkedPages}
use Rattle.store_stops.specs.declared.stop.Stop.TheVariants as stops
use Rattle.core_state.specs.Changes.{Change, after, drops, stays}
use Rattle.core_state.specs.Holds.{Holds}
use Rattle.core_state.specs.Passes.{KeepsPlan, PassTouches}
use Rattle.core_state.specs.Sweeps.{FitsRemoved, HasNumber, HasPages, ShowsSweep, unmarked_by, visits_by}
use Rattle.core_state.specs.Unchanged.{SameKept}
use Rattle.core_state.specs.Upkeeps.{touches_kept}
use Rattle.core_collect.specs.Beside.{IsPresent, IsSweepable, StandsBeside, passed_touches}
use Rattle.core_collect.specs.Marking.{FindsNext}
use Rattle.core_collect.specs.Stepping.{IsTheSweeps, Spares}
use Rattle.core_collect.specs.Visiting.{DropsFirst, IsListed, VisitedFirst, VisitsNext, goes}
use Rattle.core_collect.proofs.Listings.{bytes_of, listed_same}
use Rattle.core_collect.proofs.Losing.{Unneeded, holds_lacking, holds_same, needed_digest, present_lacking, spares_one, spares_same}
use Rattle.core_collect.proofs.Outcomes.{visit_outcome}

some_same : {A : Type 0} (x y : A) → Some x ≡ Some y → x ≡ y
some_same x y e = cc

none_some : {A : Type 0} (x : A) → None ≡ Some x → ⊥
none_some x e = cc

-- ---- the plan is the sweep

none_visited : (us : List Unmarked) → is_done us None ≡ false
none_visited [] = refl
none_visited (u ∷ us) = refl

over_names : (names : List Digest32) → ends_at (sweeping names) ≡ has_visited (Some (bytes_of names))
over_names [] = refl
over_names (d ∷ ds) = refl

-- both are over, or neither is
pub over_is : (acts : ℕ) (catalogue : List Listed) (c : Collector) (s : Store) (sweep : Sweep) → ShowsSweep acts catalogue s.snapshots c sweep → is_plan_over c.plan ≡ is_over sweep
over_is acts catalogue c s sweep shows = by_stage (c.plan).stage shows.unmarked shows.to_visit
  where
    by_stage : (stage : Stage) → unmarked_by catalogue s.snapshots (c.plan).indexes stage ≡ sweep.unmarked → visits_by stage ≡ sweep.to_visit → ends_at stage ≡ is_done sweep.unmarked sweep.to_visit
    by_stage (marking place first) unmarked visits = sym (none_visited sweep.unmarked) ∙ ap (is_done sweep.unmarked) visits
    by_stage (sweeping names) unmarked visits = over_names names ∙ ap (is_done []) visits ∙ ap (λ us. is_done us sweep.to_visit) unmarked

-- ---- the chunks that are listed

-- the plan has the chunks listed, those that are left to be visited
pub record IsSet (p listed : Plan) (w : Swept) (sweep : Sweep) : Type 0 where
  pub names : List Digest32
  pub is : listed ≡ with_names p names
  pub left : bytes_of names ≡ left_of w sweep
  pub few : p.removed + length names < 2 ^ 63

module _ {D : Type 0} (d : Ghosts D) (disk : D) (acts : ℕ) (catalogue : List Listed) (s : Store) (e : Collector) (w : Swept) (sweep : Sweep)
    (honest : d.honest disk) (present : IsPresent (d.content disk) w.touches) (able : IsSweepable s w) (shows : ShowsSweep acts catalogue s.snapshots e sweep) where
  were_listed : (listed : Plan) → has_names e.plan ≡ true → listed ≡ e.plan → IsSet e.plan listed w sweep
  were_listed listed has same = by_stage (e.plan).stage refl has shows.to_visit shows.few
    where
      by_stage : (stage : Stage) → (e.plan).stage ≡ stage → is_sweeping stage ≡ true → visits_by stage ≡ sweep.to_visit → FitsRemoved stage (e.plan).removed → IsSet e.plan listed w sweep
      by_stage (marking place first) is none visits few = absurd (true≢false (sym none))
      by_stage (sweeping names) is some visits few = record {
        names = names;
        is = same ∙ ap (λ (stage : Stage). record (e.plan) { stage = stage }) is;
        left = ap (λ o. unwrap_or o (chunks w)) visits;
        few = few;
      }

  are_listed : (listed : Plan) (names : List Digest32) → has_names e.plan ≡ false → listed ≡ with_names e.plan names → length names < 2 ^ 63 → bytes_of names ≡ chunks w → IsSet e.plan listed w sweep
  are_listed listed names none is few same = by_stage (e.plan).stage none shows.to_visit shows.few
    where
      by_stage : (stage : Stage) → is_sweeping stage ≡ false → visits_by stage ≡ sweep.to_visit → FitsRemoved stage (e.plan).removed → IsSet e.plan listed w sweep
      by_stage (marking place first) unlisted visits zero_removed = record {
        names = names;
        is = is;
        left = same ∙ ap (λ o. unwrap_or o (chunks w)) visits;
        few = omega (arith, zero_removed, few);
      }
      by_stage (sweeping others) some visits few_left = absurd (true≢false some)

  pub is_set : (listed : Plan) → IsListed d disk e.plan listed → IsSet e.plan listed w sweep
  is_set listed (inl (has, same)) = were_listed listed has same
  is_set listed (inr (none, (names, is, are))) =
      are_listed listed names none is are.few (listed_same (d.content disk) names w.touches (chunks w) (are.lists honest) able.lists able.digests present able.rise)

-- ---- the book

-- one chunk was taken out, or none
abbrev pub TakesOut : Book → Book → Option (List ℕ) → Type 0
TakesOut before after None = after ≡ before
TakesOut before after (Some x) = SweptAt before after x true

pub visited_touches : (u v : Upkeep) (touches : LastTouches) (taken : Option (List ℕ)) → SameTouches (touches_kept u) touches → v.undated ≡ u.undated → TakesOut u.book v.book taken
    → SameTouches (touches_kept v) (without taken touches)
visited_touches u v touches None are undated same = record {
  last = λ x. ap (λ (book : Book). last_of book x) same ∙ are.last x;
  undated = λ x. ap (λ us. is_among x us.items) undated ∙ are.undated x;
}
visited_touches u v touches (Some digest) are undated swept = record {
  last = λ x. swept.last x ∙ ap (λ o. cond (bytes_eq digest x) None o) (are.last x);
  undated = λ x. ap (λ us. is_among x us.items) undated ∙ are.undated x;
}

-- On any disk a visit takes out one chunk, which goes, or none.
pub data FirstIs (before after_ : Book) (p q : Plan) (change : Change) (first : Option Digest32) : Type 0 where
  keeps : after_ ≡ before → q ≡ visited p → change ≡ stays → FirstIs before after_ p q change first
  takes : (digest : Digest32) → first ≡ Some digest → goes before p digest ≡ true → SweptAt before after_ digest.0 true → q ≡ with_removal (visited p) → change ≡ drops (chunk_name digest.0 ∷ [])
      → FirstIs before after_ p q change first

pub first_is : (before after_ : Book) (p q : Plan) (change : Change) (first : Option Digest32) → VisitedFirst before after_ p q change first → FirstIs before after_ p q change first
first_is before after_ p q change None (same, is, left) = keeps same is left
first_is before after_ p q change (Some digest) (inl (stays_there, same, is, left)) = keeps same is left
first_is before after_ p q change (Some digest) (inr (stale, swept, is, lost)) = takes digest refl stale swept is lost

pub kept_early : (before after_ : Book) (digest : List ℕ) (moment : ℕ) → SweptAt before after_ digest true → NoneAfter before moment → NoneAfter after_ moment
kept_early before after_ digest moment swept early x =
    subst (λ (o : Option ℕ). IfSome o (λ when. when ≤ moment)) (sym (swept.last x)) (by_test (bytes_eq digest x))
  where
    by_test : (b : Bool) → IfSome (cond b None (last_of before x)) (λ when. when ≤ moment)
    by_test true = tt
    by_test false = early x

pub visited_early : (before after_ : Book) (p q : Plan) (change : Change) (first : Option Digest32) (moment : ℕ) → FirstIs before after_ p q change first → NoneAfter before moment → NoneAfter after_ moment
visited_early before after_ p q change first moment (keeps same is left) early = subst (λ (book : Book). NoneAfter book moment) (sym same) early
visited_early before after_ p q change first moment (takes digest is stale swept plan_is lost) early = kept_early before after_ digest.0 moment swept early

same_touches : (t : LastTouches) → SameTouches t t
same_touches t = record { last = λ x. refl; undated = λ x. refl }

-- what the visit takes out of the touches, on any disk
pub visited_pass : (u v : Upkeep) (p q : Plan) (change : Change) (first : Option Digest32) (moment : ℕ) → v.undated ≡ u.undated → FirstIs u.book v.book p q change first
    → PassTouches change (touches_kept u) (touches_kept v) moment
visited_pass u v p q change first moment undated (keeps same is left) =
    inr (None, left, visited_touches u v (touches_kept u) None (same_touches (touches_kept u)) undated same)
visited_pass u v p q change first moment undated (takes digest is stale swept plan_is lost) =
    inr (Some digest.0, lost, visited_touches u v (touches_kept u) (Some digest.0) (same_touches (touches_kept u)) undated swept)

-- ---- the first chunk, on any disk

-- where the chunks are listed the cutoff is as before
pub listed_cutoff : {D : Type 0} (d : Ghosts D) (disk : D) (p listed : Plan) → IsListed d disk p listed → listed.cutoff ≡ p.cutoff
listed_cutoff d disk p listed (inl (has, same)) = ap (λ (q : Plan). q.cutoff) same
listed_cutoff d disk p listed (inr (none, (names, is, are))) = ap (λ (q : Plan). q.cutoff) is

pub goes_so : (book : Book) (p q : Plan) (digest : Digest32) → q.cutoff ≡ p.cutoff → goes book q digest ≡ true → goes book p digest ≡ true
goes_so book p q digest same stale = sym (ap (is_stale (last_of book digest.0)) same) ∙ stale

-- what is lost goes by the plan's cutoff
pub drops_goes : {D : Type 0} (d : Ghosts D) (disk : D) (book : Book) (p : Plan) (change : Change) (drop : DropsFirst d disk book p change) → goes book p drop.digest ≡ true
drops_goes d disk book p change drop = goes_so book p drop.listed drop.digest (listed_cutoff d disk p drop.listed drop.is_listed) drop.stale

-- the visit leaves start, cutoff and indexes
pub visited_keeps : {D : Type 0} (d : Ghosts D) (disk : D) (before after_ : Book) (p listed q : Plan) (change : Change) (first : Option Digest32)
    → IsListed d disk p listed → FirstIs before after_ listed q change first → KeepsPlan p q
visited_keeps d disk before after_ p listed q change first are visit =
    record { start = (by_visit visit).start ∙ (by_listing are).start; cutoff = (by_visit visit).cutoff ∙ (by_listing are).cutoff; indexes = (by_visit visit).indexes ∙ (by_listing are).indexes }
  where
    plan_same : (x y : Plan) → y ≡ x → KeepsPlan x y
    plan_same x y e = record { start = ap (λ (z : Plan). z.start) e; cutoff = ap (λ (z : Plan). z.cutoff) e; indexes = ap (λ (z : Plan). z.indexes) e }

    by_listing : IsListed d disk p listed → KeepsPlan p listed
    by_listing (inl (has, same)) = plan_same p listed same
    by_listing (inr (none, (names, e, set))) = record { start = ap (λ (z : Plan). z.start) e; cutoff = ap (λ (z : Plan). z.cutoff) e; indexes = ap (λ (z : Plan). z.indexes) e }

    by_visit : FirstIs before after_ listed q change first → KeepsPlan listed q
    by_visit (keeps same e left) = record { start = ap (λ (z : Plan). z.start) e; cutoff = ap (λ (z : Plan). z.cutoff) e; indexes = ap (λ (z : Plan). z.indexes) e }
    by_visit (takes digest is stale swept e lost) = record { start = ap (λ (z : Plan). z.start) e; cutoff = ap (λ (z : Plan). z.cutoff) e; indexes = ap (λ (z : Plan). z.indexes) e }

-- ---- what is left to do

behind_less : (p : Plan) → plan_left (visited p) ≤ plan_left p
behind_less p = by_stage p.stage refl
  where
    by_stage : (stage : Stage) → p.stage ≡ stage → plan_left (visited p) ≤ plan_left p
    by_stage (marking place first) is = subst (λ (q : Plan). plan_left (visited q) ≤ plan_left q) (sym (ap (λ (x : Stage). record p { stage = x }) is)) (omega arith)
    by_stage (sweeping []) is = subst (λ (q : Plan). plan_left (visited q) ≤ plan_left q) (sym (ap (λ (x : Stage). record p { stage = x }) is)) (omega arith)
    by_stage (sweeping (x ∷ xs)) is = subst (λ (q : Plan). plan_left (visited q) ≤ plan_left q) (sym (ap (λ (x : Stage). record p { stage = x }) is)) (omega arith)

visit_less : (p : Plan) → is_plan_over p ≡ false → has_names p ≡ true → plan_left (visited p) < plan_left p
visit_less p ahead has = by_stage p.stage refl ahead has
  where
    by_stage : (stage : Stage) → p.stage ≡ stage → ends_at stage ≡ false → is_sweeping stage ≡ true → plan_left (visited p) < plan_left p
    by_stage (marking place first) is left none = absurd (true≢false (sym none))
    by_stage (sweeping []) is over has = absurd (true≢false over)
    by_stage (sweeping (x ∷ xs)) is left has = subst (λ (q : Plan). plan_left (visited q) < plan_left q) (sym (ap (λ (x : Stage). record p { stage = x }) is)) (omega arith)

list_less : (p : Plan) (names : List Digest32) → has_names p ≡ false → length names < 2 ^ 63 → plan_left (with_names p names) < plan_left p
list_less p names none few = by_stage p.stage refl none
  where
    by_stage : (stage : Stage) → p.stage ≡ stage → is_sweeping stage ≡ false → plan_left (with_names p names) < plan_left p
    by_stage (marking place first) is left = subst (λ (q : Plan). plan_left (with_names q names) < plan_left q) (sym (ap (λ (x : Stage). record p { stage = x }) is)) (omega (arith, few))
    by_stage (sweeping others) is some = absurd (true≢false some)

pub visited_less : {D : Type 0} (d : Ghosts D) (disk : D) (p listed q : Plan) → is_plan_over p ≡ false → IsListed d disk p listed → (q ≡ visited listed) ⊎ (q ≡ with_removal (visited listed)) → plan_left q < plan_left p
visited_less d disk p listed q ahead (inl (has, same)) is =
    subst (λ n. n < plan_left p) (sym (left_is is))
    (subst (λ (x : Plan). plan_left (visited x) < plan_left p) (sym same) (visit_less p ahead has))
  where
    left_is : (q ≡ visited listed) ⊎ (q ≡ with_removal (visited listed)) → plan_left q ≡ plan_left (visited listed)
    left_is (inl e) = ap plan_left e
    left_is (inr e) = ap plan_left e
visited_less d disk p listed q ahead (inr (none, (names, e, are))) is =
    let less : plan_left listed < plan_left p = subst (λ (x : Plan). plan_left x < plan_left p) (sym e) (list_less p names none are.few) in
    let behind = behind_less listed in
    let same : plan_left q ≡ plan_left (visited listed) = left_is is in
    omega (arith, less, behind, same)
  where
    left_is : (q ≡ visited listed) ⊎ (q ≡ with_removal (visited listed)) → plan_left q ≡ plan_left (visited listed)
    left_is (inl e) = ap plan_left e
    left_is (inr e) = ap plan_left e

-- ---- the sweep's visit

-- nothing is said of pages at hand where no index is next
any_pages : (o : Option MarkedPages) → IfSome o (λ q. Unit {0})
any_pages None = tt
any_pages (Some q) = tt

-- the plan with these chunks left is the sweep
shows_left : (acts : ℕ) (catalogue others : List Listed) (s : Store) (e f : Collector) (sweep later : Sweep) (ds : List Digest32) (removed : ℕ) → others ≡ catalogue → ShowsSweep acts catalogue s.snapshots e sweep
    → f.plan ≡ record (e.plan) { stage = sweeping ds; removed = removed } → later ≡ record sweep { to_visit = Some (bytes_of ds); removed = removed } → sweep.unmarked ≡ [] → removed + length ds < 2 ^ 63
    → ShowsSweep acts others s.snapshots f later
shows_left acts catalogue others s e f sweep later ds removed listed shows is later_is none few =
    subst (λ (xs : List Listed). ShowsSweep acts xs s.snapshots f later) (sym listed)
    (subst (ShowsSweep acts catalogue s.snapshots f) (sym later_is) (record {
      start = ap (λ (p : Plan). p.start) is ∙ shows.start;
      cutoff = ap (λ (p : Plan). p.cutoff) is ∙ shows.cutoff;
      unmarked = ap (λ (p : Plan). unmarked_by catalogue s.snapshots p.indexes p.stage) is ∙ sym none;
      to_visit = ap (λ (p : Plan). visits_by p.stage) is;
      removed = ap (λ (p : Plan). p.removed) is;
      few = subst (λ (p : Plan). FitsRemoved p.stage p.removed) (sym is) few;
      pages = subst (λ (p : Plan). IfSome f.pages (λ q. HasPages catalogue s.snapshots q (next_index p))) (sym is) (any_pages f.pages);
      numbers = subst (λ (p : Plan). All (HasNumber acts) p.indexes) (sym is) shows.numbers;
    }))

-- what a chunk that is stale has: a last touch
stale_there : (last : Option ℕ) (cutoff : ℕ) → is_stale last cutoff ≡ true → IsSome last
stale_there None cutoff e = absurd (true≢false (sym e))
stale_there (Some when) cutoff e = refl

module _ {D : Type 0} (d : Ghosts D) (old new : Parts D) (mid : D) (u v : Upkeep) (e f : Collector) (failed : Type 0) (moment : ℕ) (acts : ℕ) (s : Store) (w : Swept) (sweep : Sweep)
    (reads : OnlyReads d old.disk mid failed) (kept : SameKept old new) (honest : d.honest new.disk) (ended : f.ended ≡ None) (undated : v.undated ≡ u.undated)
    (holds : Holds d old s) (touches_are : SameTouches (touches_kept u) w.touches) (present : IsPresent (d.content old.disk) w.touches) (shows : ShowsSweep acts old.catalogue.listed s.snapshots e sweep)
    (none : sweep.unmarked ≡ []) (ahead : is_over sweep ≡ false) (is : w.sweep ≡ Some sweep) (able : IsSweepable s w) where
  mid_honest : d.honest mid
  mid_honest = (reads.serves).kept.0 holds.honest

  mid_present : IsPresent (d.content mid) w.touches
  mid_present = subst (λ (m : Files). IsPresent m w.touches) (sym (reads.same holds.honest)) present

  set_is : (listed : Plan) → IsListed d mid e.plan listed → IsSet e.plan listed w sweep
  set_is listed are = is_set d mid acts old.catalogue.listed s e w sweep mid_honest mid_present able shows listed are

  -- whether the chunk goes, by the plan and by the sweep
  stale_is : (x : Digest32) (p : Plan) → p.cutoff ≡ (e.plan).cutoff → is_stale (w.touches.last x.0) sweep.cutoff ≡ goes u.book p x
  stale_is x p same =
      ap (λ o. is_stale o sweep.cutoff) (sym (touches_are.last x.0))
      ∙ ap (is_stale (last_of u.book x.0)) (sym (same ∙ shows.cutoff))

  -- ---- the chunk that goes

  taken_first : (x : Digest32) (xs : List Digest32) → bytes_of (x ∷ xs) ≡ left_of w sweep → goes u.book e.plan x ≡ true → next_taken w sweep [] ≡ Some x.0
  taken_first x xs left stale =
      ap (first_taken w.touches sweep.cutoff) (sym left) ∙ ap (λ b. cond b (Some x.0) None) (stale_is x e.plan refl ∙ stale)

  stays_first : (x : Digest32) (xs : List Digest32) → bytes_of (x ∷ xs) ≡ left_of w sweep → goes u.book e.plan x ≡ false → next_taken w sweep [] ≡ None
  stays_first x xs left fresh =
      ap (first_taken w.touches sweep.cutoff) (sym left) ∙ ap (λ b. cond b (Some x.0) None) (stale_is x e.plan refl ∙ fresh)

  gone_digest : (x : Digest32) → goes u.book e.plan x ≡ true → IsDigest x.0
  gone_digest x stale =
      All-contains IsDigest (chunks w) x.0 able.digests
      (((able.lists).each x.0).0 (stale_there (w.touches.last x.0) sweep.cutoff (stale_is x e.plan refl ∙ stale)))

  gone_unneeded : (x : Digest32) → next_taken w sweep [] ≡ Some x.0 → IsNeeded s x.0 → ⊥
  gone_unneeded x taken needed = able.unneeded sweep x.0 is (subst (λ us. next_taken w sweep us ≡ Some x.0) (sym none) taken) needed

  spares_first : (x : Digest32) (xs : List Digest32) (change : Change) → bytes_of (x ∷ xs) ≡ left_of w sweep → goes u.book e.plan x ≡ true → change ≡ drops (chunk_name x.0 ∷ []) → Spares s change
  spares_first x xs change left stale lost = spares_one s change x lost (gone_digest x stale) (gone_unneeded x (taken_first x xs left stale))

  -- also where the disk failed
  pub spares_dropped : (change : Change) → DropsFirst d mid u.book e.plan change → Spares s change
  spares_dropped change drop = by_names (set_is drop.listed drop.is_listed)
    where
      stale : goes u.book e.plan drop.digest ≡ true
      stale = drops_goes d mid u.book e.plan change drop

      by_list : (names : List Digest32) → bytes_of names ≡ left_of w sweep → next_visit (with_names e.plan names) ≡ Some drop.digest → Spares s change
      by_list [] left first = absurd (none_some drop.digest first)
      by_list (x ∷ xs) left first =
          let same : x ≡ drop.digest = some_same x drop.digest first in
          spares_first x xs change left (subst (λ (y : Digest32). goes u.book e.plan y ≡ true) (sym same) stale)
          (drop.change_is ∙ ap (λ (y : Digest32). drops (chunk_name y.0 ∷ [])) (sym same))

      by_names : IsSet e.plan drop.listed w sweep → Spares s change
      by_names set = by_list set.names set.left (subst (λ (p : Plan). next_visit p ≡ Some drop.digest) set.is drop.first)

  -- ---- after the visit

  -- of the files what was taken out is gone
  abbrev LosesChunk : Option (List ℕ) → Type 0
  LosesChunk None = d.content new.disk ≡ d.content old.disk
  LosesChunk (Some x) = (d.content new.disk ≡ remove (d.content old.disk) (chunk_name x)) × IsDigest x × Unneeded s (chunk_name x)

  holds_after : (taken : Option (List ℕ)) → LosesChunk taken → Holds d new s
  holds_after None same = holds_same d old new s kept holds honest same
  holds_after (Some x) (lost, digest, unneeded) = holds_lacking d old new s kept x holds honest lost unneeded

  present_after : (taken : Option (List ℕ)) → LosesChunk taken → IsPresent (d.content new.disk) (without taken w.touches)
  present_after None same = subst (λ (m : Files). IsPresent m w.touches) (sym same) present
  present_after (Some x) (lost, digest, unneeded) =
      subst (λ (m : Files). IsPresent m (without (Some x) w.touches)) (sym lost) (present_lacking (d.content old.disk) w.touches x digest present)

  abbrev After : List Unmarked → Type 0
  After us = StandsBeside d new v acts (Some f) s (without (next_taken w sweep us) (touched (λ x. is_one_of x (next_marks us)) moment w.touches)) (Some (passed w sweep us))

  beside_after : (taken : Option (List ℕ)) (ds : List Digest32) (removed : ℕ) → next_taken w sweep [] ≡ taken → behind_first (left_of w sweep) ≡ bytes_of ds → removed ≡ one_more taken sweep.removed
      → f.plan ≡ record (e.plan) { stage = sweeping ds; removed = removed } → removed + length ds < 2 ^ 63 → TakesOut u.book v.book taken → LosesChunk taken → After []
  beside_after taken ds removed taken_is behind removed_is plan_is few book files = record {
    holds = holds_after taken files;
    touches_are = subst (λ t. SameTouches (touches_kept v) (without t w.touches)) (sym taken_is) (visited_touches u v w.touches taken touches_are undated book);
    present = subst (λ t. IsPresent (d.content new.disk) (without t w.touches)) (sym taken_is) (present_after taken files);
    shows = shows_left acts old.catalogue.listed new.catalogue.listed s e f sweep (passed w sweep []) ds removed kept.catalogue shows plan_is
        (ap (λ visits. record sweep { to_visit = Some visits; removed = one_more (next_taken w sweep []) sweep.removed }) behind
        ∙ ap (λ n. record sweep { to_visit = Some (bytes_of ds); removed = n }) (ap (λ t. one_more t sweep.removed) taken_is ∙ sym removed_is)) none few;
  }

  sweeps_by : After [] → IsTheSweeps d new v acts f s w moment (Ok None)
  sweeps_by beside =
      subst (λ (o : Option Sweep). IsSomeAnd o (λ (x : Sweep). (is_over x ≡ false) × (f.ended ≡ None)
      × StandsBeside d new v acts (Some f) s (passed_touches w x moment) (Some (passed w x x.unmarked)))) (sym is)
      (ahead, ended, subst After (sym none) beside)

  -- nothing is taken out
  keeps_chunk : (ds : List Digest32) → next_taken w sweep [] ≡ None → behind_first (left_of w sweep) ≡ bytes_of ds → f.plan ≡ with_names e.plan ds → (e.plan).removed + length ds < 2 ^ 63
      → v.book ≡ u.book → d.content new.disk ≡ d.content old.disk → IsTheSweeps d new v acts f s w moment (Ok None)
  keeps_chunk ds none_taken behind plan_is few book files = sweeps_by (beside_after None ds (e.plan).removed none_taken behind shows.removed plan_is few book files)

  -- a number that stays far below its greatest
  counted : (removed n : ℕ) → removed + suc n < 2 ^ 63 → min (removed + 1) 18_446_744_073_709_551_615 ≡ removed + 1
  counted removed n few = omega (arith, few)

  takes_chunk : (x : Digest32) (xs : List Digest32) → bytes_of (x ∷ xs) ≡ left_of w sweep → goes u.book e.plan x ≡ true → (e.plan).removed + length (x ∷ xs) < 2 ^ 63
      → f.plan ≡ with_removal (with_names e.plan xs) → SweptAt u.book v.book x.0 true → d.content new.disk ≡ remove (d.content old.disk) (chunk_name x.0)
      → IsTheSweeps d new v acts f s w moment (Ok None)
  takes_chunk x xs left stale few plan_is book files =
      let count : min ((e.plan).removed + 1) 18_446_744_073_709_551_615 ≡ (e.plan).removed + 1 = counted (e.plan).removed (length xs) few in
      let digest : IsDigest x.0 = gone_digest x stale in
      let taken : next_taken w sweep [] ≡ Some x.0 = taken_first x xs left stale in
      sweeps_by
      (beside_after (Some x.0) xs ((e.plan).removed + 1) taken (ap behind_first (sym left)) (ap (λ n. n + 1) shows.removed)
      (plan_is ∙ ap (λ n. record (e.plan) { stage = sweeping xs; removed = n }) count) (omega (arith, few)) book
      (files, digest, λ y same needed. gone_unneeded x taken (subst (IsNeeded s) (same_chunk y same needed digest) needed)))
    where
      same_chunk : (y : List ℕ) → chunk_name y ≡ chunk_name x.0 → IsNeeded s y → IsDigest x.0 → y ≡ x.0
      same_chunk y same needed digest = same_digest y x.0 (needed_digest s y needed) digest same

  -- the visit that was made
  visits_by_names : (names : List Digest32) (change : Change) → bytes_of names ≡ left_of w sweep → (e.plan).removed + length names < 2 ^ 63
      → VisitedFirst u.book v.book (with_names e.plan names) f.plan change (next_visit (with_names e.plan names)) → d.content new.disk ≡ after change (d.content old.disk)
      → IsTheSweeps d new v acts f s w moment (Ok None) × Spares s change
  visits_by_names [] change left few (book, plan_is, same) files = (
    keeps_chunk [] (ap (first_taken w.touches sweep.cutoff) (sym left)) (ap behind_first (sym left)) plan_is few book
        (files ∙ ap (λ (x : Change). after x (d.content old.disk)) same),
    subst (Spares s) (sym same) (spares_same s),
  )
  visits_by_names (x ∷ xs) change left few (inl (fresh, book, plan_is, same)) files = (
    keeps_chunk xs (stays_first x xs left fresh) (ap behind_first (sym left)) plan_is (omega (arith, few)) book
        (files ∙ ap (λ (y : Change). after y (d.content old.disk)) same),
    subst (Spares s) (sym same) (spares_same s),
  )
  visits_by_names (x ∷ xs) change left few (inr (stale, book, plan_is, lost)) files = (
    takes_chunk x xs left stale few plan_is book (files ∙ ap (λ (y : Change). after y (d.content old.disk)) lost),
    spares_first x xs change left stale lost,
  )

  pub visit_done : (listed : Plan) (change : Change) → IsListed d mid e.plan listed → VisitedFirst u.book v.book listed f.plan change (next_visit listed)
      → d.content new.disk ≡ after change (d.content mid) → IsTheSweeps d new v acts f s w moment (Ok None) × Spares s change
  visit_done listed change are first files =
      let set = set_is listed are in
      visits_by_names set.names change set.left set.few
      (subst (λ (p : Plan). VisitedFirst u.book v.book p f.plan change (next_visit p)) set.is first)
      (files ∙ ap (after change) (reads.same holds.honest))

  -- want of memory has changed nothing
  pub visit_wanting : f.plan ≡ e.plan → f.pages ≡ e.pages → v.book ≡ u.book → d.content new.disk ≡ d.content old.disk → IsTheSweeps d new v acts f s w moment (Err stops.NoMemory)
  visit_wanting plan_is pages book files = record {
    holds = holds_same d old new s kept holds honest files;
    touches_are = visited_touches u v w.touches None touches_are undated book;
    present = subst (λ (m : Files). IsPresent m w.touches) (sym files) present;
    shows = subst (λ (o : Option Sweep). IsSomeAnd o (ShowsSweep acts new.catalogue.listed s.snapshots f)) (sym is)
        (subst (λ (xs : List Listed). ShowsSweep acts xs s.snapshots f sweep) (sym kept.catalogue) shows_same);
  }
    where
      shows_same : ShowsSweep acts old.catalogue.listed s.snapshots f sweep
      shows_same = record {
        start = ap (λ (p : Plan). p.start) plan_is ∙ shows.start;
        cutoff = ap (λ (p : Plan). p.cutoff) plan_is ∙ shows.cutoff;
        unmarked = ap (λ (p : Plan). unmarked_by old.catalogue.listed s.snapshots p.indexes p.stage) plan_is ∙ shows.unmarked;
        to_visit = ap (λ (p : Plan). visits_by p.stage) plan_is ∙ shows.to_visit;
        removed = ap (λ (p : Plan). p.removed) plan_is ∙ shows.removed;
        few = subst (λ (p : Plan). FitsRemoved p.stage p.removed) (sym plan_is) shows.few;
        pages = subst (λ (p : Plan). IfSome f.pages (λ q. HasPages old.catalogue.listed s.snapshots q (next_index p))) (sym plan_is)
            (subst (λ (o : Option MarkedPages). IfSome o (λ q. HasPages old.catalogue.listed s.snapshots q (next_index e.plan))) (sym pages) shows.pages);
        numbers = subst (λ (p : Plan). All (HasNumber acts) p.indexes) (sym plan_is) shows.numbers;
      }

-- ---- the act

done_unfailed : (done : Unit {0}) → ◌≡◌ {A = Result (Unit {0}) DiskError} (Ok done) (Err Failed) → ⊥
done_unfailed done e = cc

want_unfailed : ◌≡◌ {A = Result (Unit {0}) DiskError} (Err NoMemory) (Err Failed) → ⊥
want_unfailed e = cc

module _ {D : Type 0} (d : Ghosts D) (old new : Parts D) (mid : D) (u v : Upkeep) (c e f : Collector) (failed : Type 0) (moment : ℕ)
    (reads : OnlyReads d old.disk mid failed) (kept : SameKept old new) (finds : FindsNext d old c e (Ok None)) (ended : f.ended ≡ e.ended) (pages : f.pages ≡ e.pages)
    (undated : v.undated ≡ u.undated) (ahead : is_plan_over c.plan ≡ false) (going : c.ended ≡ None) (acts : ℕ) (s : Store) (w : Swept)
    (beside : StandsBeside d old u acts (Some c) s w.touches w.sweep) (able : IsSweepable s w) (honest : d.honest new.disk) where
  abbrev Tells : Result (Unit {0}) DiskError → Change → Type 0
  Tells r change = IsTheSweeps d new v acts f s w moment (visit_outcome r) × Spares s change

  honest_before : d.honest mid
  honest_before = (reads.serves).kept.0 (beside.holds).honest

  -- the sweep that the collector shows, of which all is marked
  with_sweep : (r : Result (Unit {0}) DiskError) (change : Change)
      → ((sweep : Sweep) → w.sweep ≡ Some sweep → ShowsSweep acts old.catalogue.listed s.snapshots e sweep → sweep.unmarked ≡ [] → is_over sweep ≡ false → Tells r change) → Tells r change
  with_sweep r change go = by_sweep w.sweep refl beside.shows
    where
      by_sweep : (o : Option Sweep) → w.sweep ≡ o → IsSomeAnd o (ShowsSweep acts old.catalogue.listed s.snapshots c) → Tells r change
      by_sweep None is shows = absurd shows
      by_sweep (Some sweep) is shows =
          let found = finds.shows acts s sweep beside.holds shows in
          go sweep is found.0 found.1 (sym (over_is acts old.catalogue.listed c s sweep shows) ∙ ahead)

  tells_done : (done : Unit {0}) (x : VisitsNext d mid new.disk u.book v.book e.plan f.plan (Ok done)) → Tells (Ok done) x.change
  tells_done done x = with_sweep (Ok done) x.change (λ sweep is shows none left.
      visit_done d old new mid u v e f failed moment acts s w sweep reads kept honest (ended ∙ (finds.further).ended ∙ going) undated beside.holds beside.touches_are beside.present shows none left is able
      (x.done).0 x.change (x.done).1 (x.done).2 (x.content (done_unfailed done) honest_before))

  tells_wanting : (x : VisitsNext d mid new.disk u.book v.book e.plan f.plan (Err NoMemory)) → Tells (Err NoMemory) x.change
  tells_wanting x = with_sweep (Err NoMemory) x.change (λ sweep is shows none left. (
    visit_wanting d old new mid u v e f failed moment acts s w sweep reads kept honest (ended ∙ (finds.further).ended ∙ going) undated beside.holds beside.touches_are beside.present shows none left is able
        (x.want refl).0 pages (x.unswept refl)
        (x.content want_unfailed honest_before ∙ ap (λ (y : Change). after y (d.content mid)) (x.want refl).1 ∙ reads.same (beside.holds).honest),
    subst (Spares s) (sym (x.want refl).1) (spares_same s),
  ))

  tells_failed : (x : VisitsNext d mid new.disk u.book v.book e.plan f.plan (Err Failed)) → Tells (Err Failed) x.change
  tells_failed x = with_sweep (Err Failed) x.change (λ sweep is shows none left. (honest, spared sweep is shows none left x.going))
    where
      spared : (sweep : Sweep) → w.sweep ≡ Some sweep → ShowsSweep acts old.catalogue.listed s.snapshots e sweep → sweep.unmarked ≡ [] → is_over sweep ≡ false
          → (x.change ≡ stays) ⊎ DropsFirst d mid u.book e.plan x.change → Spares s x.change
      spared sweep is shows none left (inl same) = subst (Spares s) (sym same) (spares_same s)
      spared sweep is shows none left (inr drop) =
          spares_dropped d old new mid u v e f failed moment acts s w sweep reads kept honest (ended ∙ (finds.further).ended ∙ going) undated beside.holds beside.touches_are beside.present shows none left is able
          x.change drop

pub visited_tells : {D : Type 0} (d : Ghosts D) (old new : Parts D) (mid : D) (u v : Upkeep) (c e f : Collector) (failed : Type 0) (moment : ℕ) (r : Result (Unit {0}) DiskError)
    → OnlyReads d old.disk mid failed → SameKept old new → Serves d.honest d.faults mid new.disk (IsErrOf r Failed) → FindsNext d old c e (Ok None)
    → (x : VisitsNext d mid new.disk u.book v.book e.plan f.plan r) → f.ended ≡ e.ended → f.pages ≡ e.pages → v.undated ≡ u.undated → is_plan_over c.plan ≡ false → c.ended ≡ None
    → (acts : ℕ) (s : Store) (w : Swept) → StandsBeside d old u acts (Some c) s w.touches w.sweep → IsSweepable s w
    → IsTheSweeps d new v acts f s w moment (visit_outcome r) × Spares s x.change
visited_tells d old new mid u v c e f failed moment (Ok done) reads kept serves finds x ended pages undated ahead going acts s w beside able =
    tells_done d old new mid u v c e f failed moment reads kept finds ended pages undated ahead going acts s w beside able (serves.kept.0 ((reads.serves).kept.0 (beside.holds).honest)) done x
visited_tells d old new mid u v c e f failed moment (Err NoMemory) reads kept serves finds x ended pages undated ahead going acts s w beside able =
    tells_wanting d old new mid u v c e f failed moment reads kept finds ended pages undated ahead going acts s w beside able (serves.kept.0 ((reads.serves).kept.0 (beside.holds).honest)) x
visited_tells d old new mid u v c e f failed moment (Err Failed) reads kept serves finds x ended pages undated ahead going acts s w beside able =
    tells_failed d old new mid u v c e f failed moment reads kept finds ended pages undated ahead going acts s w beside able (serves.kept.0 ((reads.serves).kept.0 (beside.holds).honest)) x

-- Marks: the plan of a collector shows the sweep of the plain store as indexes are passed over, read and marked.
use Rattle.std.proofs.Common.{◌≡◌, ◌<◌, ◌≤◌, ◌+◌, ◌-◌, ◌==◌, ◌++◌, ℕ, zero, suc, min, Bool, true, false, cond, List, [], ◌∷◌, drop, length, Option, Some, None, IfSome, IsSome, is_some, IsSomeAnd, length-drop, nat_lt, true≢false, refl, sym, ap, ap₂, subst, ◌∙◌, arith}
use Rattle.std.specs.Prelude.{slice_get}
use Rattle.std.specs.List.{All}
use Rattle.std.proofs.Props.{props}
use Rattle.std.proofs.lemmas.Bool.{eq-eqb, eqb-true, le-ltb, lt-ltb, ltb-false, ne_eqb}
use Rattle.std.proofs.lemmas.List.{drop-drop, drop_all}
use Rattle.store_types.specs.declared.names.Digest32.{Digest32}
use Rattle.store_types.specs.declared.names.SnapshotKey.{SnapshotKey}
use Rattle.store_files.specs.Archive.{Snapshot}
use Rattle.store_files.specs.Book.{Book}
use Rattle.gc_plan.specs.Plan.{FitsMark, Plan, Stage, entry_limit, index_in, left_of, mark_in, mark_limit, marked_at, marking, next_index, next_mark, sweeping, with_mark}
use Rattle.gc_plan.specs.declared.IndexAt.{IndexAt}
use Rattle.paged_indexes.specs.Index.{pages_by}
use Rattle.store_history.specs.Sweeping.{Sweep, Swept, Unmarked, passed, unmarked_of}
use Rattle.core_state.specs.declared.collector.Collector.{Collector}
use Rattle.core_state.specs.declared.kept.Kept.{Kept}
use Rattle.core_state.specs.declared.kept.Listed.{Listed}
use Rattle.core_state.specs.declared.marked.MarkedPages.{MarkedPages}
use Rattle.core_state.specs.Entries.{FitsPages, count_at_hand, marked_in}
use Rattle.core_state.specs.Sweeps.{ArePages, FitsRemoved, HasNumber, HasPages, ShowsSweep, by_number, digests_named, left_at, left_in, left_of_kept, unmarked_by, visits_by}
use Rattle.core_state.specs.Upkeeps.{TouchesEach}
use Rattle.core_state.proofs.Finding.{some_same}
use Rattle.core_collect.specs.Entries.{bytes_of, marked_from}
use Rattle.core_collect.specs.Marking.{AtHand, BeginsWith, HasAll, MarksSome, PassesOver, all_of, behind_next, entries_left, indexes_left, left_then, marked_now}
use Rattle.core_collect.proofs.StartLemmas.{left_all}

-- ---- lists

none_some : {A : Type 0} (x : A) → None ≡ Some x → ⊥
none_some x e = cc

-- from a place on, where something stands there
pub drop_from : {A : Type 0} (xs : List A) (n : ℕ) (x : A) → slice_get xs n ≡ Some x → drop n xs ≡ x ∷ drop (n + 1) xs
drop_from [] n x e = absurd (none_some x e)
drop_from (y ∷ ys) zero x e = ap (λ z. z ∷ ys) (some_same y x e)
drop_from (y ∷ ys) (suc n) x e =
    let more : suc (n + 1) ≡ suc n + 1 = omega arith in
    drop_from ys n x e ∙ ap (λ k. x ∷ drop k (y ∷ ys)) more

drop_none : (n : ℕ) → ◌≡◌ {A = List (List ℕ)} (drop n []) []
drop_none zero = refl
drop_none (suc n) = refl

-- something stands at a place before the end
pub at_place : {A : Type 0} (xs : List A) (n : ℕ) → slice_get xs n ≡ None → length xs ≤ n
at_place [] n e = omega arith
at_place (x ∷ xs) zero e = absurd (none_some x (sym e))
at_place (x ∷ xs) (suc n) e = let le = at_place xs n e in omega (arith, le)

place_within : {A : Type 0} (xs : List A) (n : ℕ) (x : A) → slice_get xs n ≡ Some x → n < length xs
place_within [] n x e = absurd (none_some x e)
place_within (y ∷ ys) zero x e = omega arith
place_within (y ∷ ys) (suc n) x e = let lt = place_within ys n x e in omega (arith, lt)

unmarked_none : (key : SnapshotKey) (name : List ℕ) (ds : List (List ℕ)) → ds ≡ [] → unmarked_of key name ds ≡ []
unmarked_none key name ds none = ap (unmarked_of key name) none

unmarked_some : (key : SnapshotKey) (name : List ℕ) (ds : List (List ℕ)) → (ds ≡ [] → ⊥) → unmarked_of key name ds ≡ record { key = key; name = name; digests = ds } ∷ []
unmarked_some key name [] some = absurd (some refl)
unmarked_some key name (d ∷ ds) some = refl

left_some : (first : ℕ) (ds : List (List ℕ)) → first < length ds → drop first ds ≡ [] → ⊥
left_some first ds below none = let n = ap length none in omega (arith, n, below, length-drop first ds)

-- ---- a plan after a mark

visits_marked : (stage : Stage) (count left : ℕ) → visits_by (marked_at stage count left) ≡ visits_by stage
visits_marked (marking place first) count left = by_test (left == 0)
  where
    by_test : (b : Bool) → visits_by (cond b (marking (place + 1) 0) (marking place (first + count))) ≡ None
    by_test true = refl
    by_test false = refl
visits_marked (sweeping names) count left = refl

few_marked : (stage : Stage) (count left removed : ℕ) → FitsRemoved stage removed → FitsRemoved (marked_at stage count left) removed
few_marked (marking place first) count left removed few = by_test (left == 0)
  where
    by_test : (b : Bool) → FitsRemoved (cond b (marking (place + 1) 0) (marking place (first + count))) removed
    by_test true = few
    by_test false = few
few_marked (sweeping names) count left removed few = few

-- all of an index is marked, or it is passed over
over_left : (stage : Stage) (count left : ℕ) → (left == 0) ≡ true → marked_at stage count left ≡ marked_at stage 0 0
over_left (marking place first) count left none = ap (λ b. cond b (marking (place + 1) 0) (marking place (first + count))) none
over_left (sweeping names) count left none = refl

-- the index is the same where some is left of it
same_index : (indexes : List IndexAt) (stage : Stage) (count left : ℕ) → (left == 0) ≡ false → index_in indexes (marked_at stage count left) ≡ index_in indexes stage
same_index indexes (marking place first) count left some = ap (λ b. index_in indexes (cond b (marking (place + 1) 0) (marking place (first + count)))) some
same_index indexes (sweeping names) count left some = refl

-- an index is next exactly where a mark is
pub no_index : (indexes : List IndexAt) (stage : Stage) → index_in indexes stage ≡ None → mark_in indexes stage ≡ None
no_index indexes (marking place first) none =
    ap (λ b. cond b (Some (place, first)) None) (le-ltb place (length indexes) (at_place indexes place none))
no_index indexes (sweeping names) none = refl

-- a mark is next where an index is
pub mark_there : (indexes : List IndexAt) (stage : Stage) (i : IndexAt) → index_in indexes stage ≡ Some i → IsSome (mark_in indexes stage)
mark_there indexes (marking place first) i at = ap (λ b. is_some {T = ℕ × ℕ} (cond b (Some (place, first)) None)) (lt-ltb place (length indexes) (place_within indexes place i at))
mark_there indexes (sweeping names) i at = absurd (none_some i at)

-- the mark that is next begins where the index is marked up to
pub mark_is : (indexes : List IndexAt) (stage : Stage) (mark : ℕ × ℕ) → mark_in indexes stage ≡ Some mark → mark.1 ≡ marked_in stage
mark_is indexes (marking place first) mark e = by_test (nat_lt place (length indexes)) e
  where
    by_test : (b : Bool) → cond b (Some (place, first)) None ≡ Some mark → mark.1 ≡ first
    by_test true e = sym (ap (λ (m : ℕ × ℕ). m.1) (some_same (place, first) mark e))
    by_test false e = absurd (none_some mark e)
mark_is indexes (sweeping names) mark e = absurd (none_some mark e)

pub at_hand_mark : (c : Collector) (digests : List Digest32) → AtHand c digests → next_mark c.plan ≡ None → ⊥
at_hand_mark c digests hand none = by_index (next_index c.plan) refl hand.next
  where
    none_is : false ≡ true → ⊥
    none_is e = cc

    by_index : (o : Option IndexAt) → next_index c.plan ≡ o → IsSome o → ⊥
    by_index None is some = none_is some
    by_index (Some i) is some = none_is (sym (ap is_some none) ∙ mark_there (c.plan).indexes (c.plan).stage i is)

-- a plan may pass over the index that is next
pub fits_pass : (p : Plan) (pages : Option MarkedPages) → FitsPages p pages → IsSome (next_mark p) → FitsMark p 0 0
fits_pass p pages fits some = by_mark (next_mark p) refl some
  where
    none_is : false ≡ true → ⊥
    none_is e = cc

    by_mark : (o : Option (ℕ × ℕ)) → next_mark p ≡ o → IsSome o → IsSomeAnd o (λ mark. mark.1 + 0 + 0 ≤ entry_limit)
    by_mark None is some = absurd (none_is some)
    by_mark (Some mark) is some = let few = fits.few in omega (arith, few, mark_is p.indexes p.stage mark is)

-- and then nothing of the next is marked
pub over_zero : (stage : Stage) → marked_in (marked_at stage 0 0) ≡ 0
over_zero (marking place first) = refl
over_zero (sweeping names) = refl

-- the index that is next is the first of those that are left
pub left_from : (is : List IndexAt) (stage : Stage) (i : IndexAt) → index_in is stage ≡ Some i → indexes_left is stage ≡ i ∷ indexes_left is (marked_at stage 0 0)
left_from is (marking place first) i e = drop_from is place i e
left_from is (sweeping names) i e = absurd (none_some i e)

-- ---- what fits the pages at hand

none_pages : false ≡ true → ⊥
none_pages e = cc

pub fits_none : (p q : Plan) (pages : Option MarkedPages) → FitsPages p pages → q ≡ with_mark p 0 0 → FitsPages q None
fits_none p q pages fits is = subst (λ x. FitsPages x None) (sym is) (record {
  named = fits.named;
  begun = λ some. absurd (omega (arith, some, over_zero p.stage));
  within = λ some. absurd (none_pages some);
  few = omega (arith, over_zero p.stage);
})

-- what is known of its pages has one proof
fits_one : (plan : Plan) (pages : Option MarkedPages) → IsProp (FitsPages plan pages)
fits_one plan pages = hlevel props

pub same_fits : (c : Collector) (fits : FitsPages c.plan c.pages) → ◌≡◌ {A = Collector} (record c { fits = fits }) c
same_fits c fits = ap (λ f. record c { fits = f }) (fits_one c.plan c.pages fits c.fits)

-- another page is at hand
pub fits_kept : (p : Plan) (before : Option MarkedPages) (q r : MarkedPages) → FitsPages p before → before ≡ Some q → r.kept ≡ q.kept → FitsPages p (Some r)
fits_kept p before q r fits is same = record {
  named = fits.named;
  begun = λ _. refl;
  within = λ _. subst (λ x. marked_in p.stage < (pages_by x).count) (sym same) (subst (λ o. marked_in p.stage < count_at_hand o) is (fits.within (ap is_some is)));
  few = fits.few;
}

-- none were at hand, and it is opened
pub fits_opened : (p : Plan) (before : Option MarkedPages) (x : MarkedPages) → FitsPages p before → before ≡ None → ((pages_by x.kept).count ≡ 0 → ⊥) → FitsPages p (Some x)
fits_opened p before x fits none some = record {
  named = fits.named;
  begun = λ _. refl;
  within = λ _. by_marked (marked_in p.stage) fits.begun;
  few = fits.few;
}
  where
    by_marked : (n : ℕ) → (0 < n → IsSome before) → n < (pages_by x.kept).count
    by_marked zero begun = omega (arith, some)
    by_marked (suc n) begun = absurd (none_pages (subst (λ (o : Option MarkedPages). IsSome o) none (begun (omega arith))))

-- some entries were marked, and some are left
pub fits_marked : (p q : Plan) (pages : Option MarkedPages) (count left : ℕ) → FitsPages p pages → IsSome pages → q ≡ with_mark p count left → (left ≡ 0 → ⊥) → marked_in p.stage + count + left ≡ count_at_hand pages
    → count_at_hand pages ≤ entry_limit → FitsPages q pages
fits_marked p q pages count left fits some is more all few = subst (λ x. FitsPages x pages) (sym is) (record {
  named = fits.named;
  begun = λ _. some;
  within = λ _. by_stage p.stage (fits.within some) all;
  few = let lt = by_stage p.stage (fits.within some) all in omega (arith, lt, few);
})
  where
    by_stage : (stage : Stage) → marked_in stage < count_at_hand pages → marked_in stage + count + left ≡ count_at_hand pages → marked_in (marked_at stage count left) < count_at_hand pages
    by_stage (marking place first) below whole =
        subst (λ b. marked_in (cond b (marking (place + 1) 0) (marking place (first + count))) < count_at_hand pages) (sym (ne_eqb left 0 more)) (omega (arith, whole, more))
    by_stage (sweeping names) below whole = below

-- all of an index were marked
pub fits_over : (p q : Plan) (pages : Option MarkedPages) (count left : ℕ) → FitsPages p pages → q ≡ with_mark p count left → left ≡ 0 → FitsPages q None
fits_over p q pages count left fits is none =
    fits_none p q pages fits (is ∙ ap (λ stage. record p { stage = stage }) (over_left p.stage count left (eq-eqb left 0 none)))

-- ---- what a mark does

pub never_none : (o : Option MarkedPages) → o ≡ None → IsSome o → ⊥
never_none o is some = none_pages (subst (λ (q : Option MarkedPages). IsSome q) is some)

-- how many are left of the index
pub left_is : (c : Collector) (q : MarkedPages) (first count : ℕ) → c.pages ≡ Some q → first ≡ marked_in (c.plan).stage → count ≡ (pages_by q.kept).count → count - first ≡ entries_left c
left_is c q first count had begins many = ap₂ (λ n k. n - k) (many ∙ sym (ap count_at_hand had)) begins

module _ (before after_ : Book) (old new : Collector) (digests : List Digest32) (moment count rest : ℕ) (rest_is : rest ≡ entries_left old) (count_is : count ≡ min rest mark_limit) where
  pages_now : (b : Bool) → (left_then old == 0) ≡ b → cond (count == rest) None old.pages ≡ cond b None old.pages
  pages_now true none =
      let all = eqb-true (left_then old) 0 none in
      ap (λ b. cond b None old.pages) (eq-eqb count rest (omega (arith, rest_is, count_is, all)))
  pages_now false some =
      ap (λ b. cond b None old.pages)
      (ne_eqb count rest (λ same. absurd (some_then (left_then old) some (omega (arith, rest_is, count_is, same)))))
    where
      some_then : (n : ℕ) → (n == 0) ≡ false → n ≡ 0 → ⊥
      some_then n more none = true≢false (sym (eq-eqb n 0 none) ∙ more)

  pub marks_some : TouchesEach before after_ digests moment → new.lane ≡ old.lane → new.ended ≡ old.ended → new.plan ≡ with_mark old.plan count (rest - count)
      → new.pages ≡ cond (count == rest) None old.pages → left_of new.plan < left_of old.plan → MarksSome before after_ old new digests moment
  marks_some touches lane ended plan pages less =
      let now : count ≡ marked_now old = omega (arith, rest_is, count_is) in
      let left : rest - count ≡ left_then old = omega (arith, rest_is, count_is) in record {
        touches = touches;
        lane = lane;
        ended = ended;
        plan = plan ∙ ap₂ (λ n m. with_mark old.plan n m) now left;
        pages = pages ∙ pages_now (left_then old == 0) refl;
        less = less;
      }

module _ (catalogue : List Listed) (snapshots : List Snapshot) where
  abbrev unmarked : List IndexAt → Stage → List Unmarked
  unmarked indexes stage = unmarked_by catalogue snapshots indexes stage

  -- what is unmarked begins with what is left of the index that is next
  first_left : (indexes : List IndexAt) (stage : Stage) (i : IndexAt) → index_in indexes stage ≡ Some i
      → unmarked indexes stage ≡ left_at catalogue snapshots (marked_in stage) i ++ unmarked indexes (marked_at stage 0 0)
  first_left indexes (marking place first) i at =
      ap (left_in catalogue snapshots first) (drop_from indexes place i at)
      ∙ ap (λ us. left_at catalogue snapshots first i ++ us) (sym (left_all catalogue snapshots (drop (place + 1) indexes)))
  first_left indexes (sweeping names) i at = absurd (none_some i at)

  -- and where some of it is marked
  later_left : (indexes : List IndexAt) (stage : Stage) (i : IndexAt) (count left : ℕ) → index_in indexes stage ≡ Some i → (left == 0) ≡ false
      → unmarked indexes (marked_at stage count left) ≡ left_at catalogue snapshots (marked_in stage + count) i ++ unmarked indexes (marked_at stage 0 0)
  later_left indexes (marking place first) i count left at some =
      ap (λ b. unmarked indexes (cond b (marking (place + 1) 0) (marking place (first + count)))) some ∙ first_left indexes (marking place (first + count)) i at
  later_left indexes (sweeping names) i count left at some = absurd (none_some i at)

  -- past the last index nothing is unmarked
  pub all_marked : (indexes : List IndexAt) (stage : Stage) → mark_in indexes stage ≡ None → unmarked indexes stage ≡ []
  all_marked indexes (marking place first) none = by_test (nat_lt place (length indexes)) refl none
    where
      by_test : (b : Bool) → nat_lt place (length indexes) ≡ b → cond {A = Option (ℕ × ℕ)} b (Some (place, first)) None ≡ None → left_in catalogue snapshots first (drop place indexes) ≡ []
      by_test true is e = absurd (none_some (place, first) (sym e))
      by_test false is e = ap (left_in catalogue snapshots first) (drop_all place indexes (ltb-false place (length indexes) is))
  all_marked indexes (sweeping names) none = refl

  -- ---- an index that is passed over

  left_none : (i : IndexAt) (first : ℕ) (o : Option Kept) → by_number i.snapshot catalogue ≡ o → ((k : Kept) → by_number i.snapshot catalogue ≡ Some k → digests_named k.key i.name snapshots ≡ [])
      → left_at catalogue snapshots first i ≡ []
  left_none i first None at none = ap (left_of_kept snapshots i.name first) at
  left_none i first (Some k) at none =
      ap (left_of_kept snapshots i.name first) at ∙ unmarked_none k.key i.name _ (ap (drop first) (none k at) ∙ drop_none first)

  pub passed_shows : (acts : ℕ) (old new : Collector) (sweep : Sweep) (i : IndexAt) → PassesOver old new → next_index old.plan ≡ Some i
      → ((k : Kept) → by_number i.snapshot catalogue ≡ Some k → digests_named k.key i.name snapshots ≡ [])
      → ShowsSweep acts catalogue snapshots old sweep → ShowsSweep acts catalogue snapshots new sweep
  passed_shows acts old new sweep i over at none h =
      let p = old.plan in record {
        start = ap (λ (q : Plan). q.start) over.plan ∙ h.start;
        cutoff = ap (λ (q : Plan). q.cutoff) over.plan ∙ h.cutoff;
        unmarked =
            ap (λ (q : Plan). unmarked q.indexes q.stage) over.plan
            ∙ sym (first_left p.indexes p.stage i at ∙ ap (λ us. us ++ unmarked p.indexes (marked_at p.stage 0 0)) (left_none i (marked_in p.stage) (by_number i.snapshot catalogue) refl none))
            ∙ h.unmarked;
        to_visit = ap (λ (q : Plan). visits_by q.stage) over.plan ∙ visits_marked p.stage 0 0 ∙ h.to_visit;
        removed = ap (λ (q : Plan). q.removed) over.plan ∙ h.removed;
        few = subst (λ (q : Plan). FitsRemoved q.stage q.removed) (sym over.plan) (few_marked p.stage 0 0 p.removed h.few);
        pages = subst (λ (o : Option MarkedPages). IfSome o (λ q. HasPages catalogue snapshots q (next_index new.plan))) (sym over.none) tt;
        numbers = subst (λ (q : Plan). All (HasNumber acts) q.indexes) (sym over.plan) h.numbers;
      }

  -- ---- an index whose pages are at hand

  pub begins_with : (c : Collector) (i : IndexAt) (k : Kept) (q : MarkedPages) (digests : List Digest32) (us : List Unmarked) → next_index c.plan ≡ Some i → by_number i.snapshot catalogue ≡ Some k → c.pages ≡ Some q
      → HasAll snapshots k i q → bytes_of digests ≡ marked_from (marked_in (c.plan).stage) (all_of k i snapshots) → unmarked (c.plan).indexes (c.plan).stage ≡ us → BeginsWith catalogue snapshots c digests us
  begins_with c i k q digests us at there had all are shown =
      let first = marked_in (c.plan).stage in
      let ds = all_of k i snapshots in
      let many : count_at_hand c.pages ≡ length ds = ap count_at_hand had ∙ all.count in
      let below = (c.fits).within (ap is_some had) in
      let left : left_at catalogue snapshots first i ≡ record { key = k.key; name = i.name; digests = drop first ds } ∷ [] =
      ap (left_of_kept snapshots i.name first) there
      ∙ unmarked_some k.key i.name (drop first ds) (left_some first ds (omega (arith, below, many))) in record {
        index = i;
        kept = k;
        next = at;
        there = there;
        all = subst (λ (o : Option MarkedPages). IsSomeAnd o (HasAll snapshots k i)) (sym had) all;
        digests_are = are;
        begins = sym shown ∙ first_left (c.plan).indexes (c.plan).stage i at ∙ ap (λ xs. xs ++ behind_next catalogue snapshots c.plan) left;
      }

  -- ---- a mark

  module _ (acts : ℕ) (w : Swept) (sweep : Sweep) (before after_ : Book) (e f : Collector) (digests : List Digest32) (moment : ℕ) (marks : MarksSome before after_ e f digests moment)
      (shown : ShowsSweep acts catalogue snapshots e sweep) (b : BeginsWith catalogue snapshots e digests sweep.unmarked) where
    abbrev ds : List (List ℕ)
    ds = all_of b.kept b.index snapshots

    abbrev done : ℕ
    done = marked_in (e.plan).stage

    abbrev first : Unmarked
    first = record { key = (b.kept).key; name = (b.index).name; digests = drop done ds }

    abbrev p : Plan
    p = e.plan

    abbrev count : ℕ
    count = marked_now e

    abbrev left : ℕ
    left = left_then e

    -- the pages at hand are those of the index
    had : (o : Option MarkedPages) → IsSomeAnd o (HasAll snapshots b.kept b.index) → (count_at_hand o ≡ length ds) × IfSome o (λ q. ArePages snapshots (b.index).name q (Some b.kept))
    had None none = absurd none
    had (Some q) all = (all.count, all.pages)

    many : left ≡ length ds - done - mark_limit
    many = let n = (had e.pages b.all).0 in omega (arith, n)

    left_stays : (left == 0) ≡ false → left_at catalogue snapshots (done + count) (b.index) ≡ unmarked_of (b.kept).key (b.index).name (drop mark_limit (drop done ds))
    left_stays some =
        let whole : count ≡ mark_limit = whole_mark left some (λ more. omega (arith, more)) in
        ap (left_of_kept snapshots (b.index).name (done + count)) b.there
        ∙ ap (λ n. unmarked_of (b.kept).key (b.index).name (drop (done + n) ds)) whole
        ∙ ap (unmarked_of (b.kept).key (b.index).name) (sym (drop-drop mark_limit done ds))
      where
        -- a mark that leaves some is of the limit
        whole_mark : (n : ℕ) → (n == 0) ≡ false → ((n ≡ 0 → ⊥) → count ≡ mark_limit) → count ≡ mark_limit
        whole_mark n more go = go (λ none. true≢false (sym (eq-eqb n 0 none) ∙ more))

    marked_left : (t : Bool) → (left == 0) ≡ t → unmarked p.indexes (marked_at p.stage count left) ≡ unmarked_of (b.kept).key (b.index).name (drop mark_limit (drop done ds)) ++ behind_next catalogue snapshots p
    marked_left true over =
        let none : drop mark_limit (drop done ds) ≡ [] = drop_all mark_limit (drop done ds) (omega (arith, eqb-true left 0 over, many, length-drop done ds)) in
        ap (unmarked p.indexes) (over_left p.stage count left over)
        ∙ sym (ap (λ us. us ++ behind_next catalogue snapshots p) (unmarked_none (b.kept).key (b.index).name _ none))
    marked_left false some =
        later_left p.indexes p.stage b.index count left b.next some ∙ ap (λ us. us ++ behind_next catalogue snapshots p) (left_stays some)

    pages_then : (t : Bool) → (left == 0) ≡ t → IfSome f.pages (λ q. HasPages catalogue snapshots q (next_index f.plan))
    pages_then true over =
        subst (λ (o : Option MarkedPages). IfSome o (λ q. HasPages catalogue snapshots q (next_index f.plan))) (sym (marks.pages ∙ ap (λ t. cond t None e.pages) over)) tt
    pages_then false some =
        let next : next_index f.plan ≡ Some b.index = ap next_index marks.plan ∙ same_index p.indexes p.stage count left some ∙ b.next in
        subst (λ (o : Option MarkedPages). IfSome o (λ q. HasPages catalogue snapshots q (next_index f.plan))) (sym (marks.pages ∙ ap (λ t. cond t None e.pages) some))
        (subst (λ (i : Option IndexAt). IfSome e.pages (λ q. HasPages catalogue snapshots q i)) (sym next)
        (subst (λ (k : Option Kept). IfSome e.pages (λ q. ArePages snapshots (b.index).name q k)) (sym b.there) (had e.pages b.all).1))

    -- the plan shows the sweep after its next mark
    pub marked_shows : ShowsSweep acts catalogue snapshots f (passed w sweep (first ∷ behind_next catalogue snapshots p))
    marked_shows = record {
      start = ap (λ (q : Plan). q.start) marks.plan ∙ shown.start;
      cutoff = ap (λ (q : Plan). q.cutoff) marks.plan ∙ shown.cutoff;
      unmarked = ap (λ (q : Plan). unmarked q.indexes q.stage) marks.plan ∙ marked_left (left == 0) refl;
      to_visit = ap (λ (q : Plan). visits_by q.stage) marks.plan ∙ visits_marked p.stage count left ∙ shown.to_visit;
      removed = ap (λ (q : Plan). q.removed) marks.plan ∙ shown.removed;
      few = subst (λ (q : Plan). FitsRemoved q.stage q.removed) (sym marks.plan) (few_marked p.stage count left p.removed shown.few);
      pages = pages_then (left == 0) refl;
      numbers = subst (λ (q : Plan). All (HasNumber acts) q.indexes) (sym marks.plan) shown.numbers;
    }

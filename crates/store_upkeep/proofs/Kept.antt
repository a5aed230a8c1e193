-- Whatever moves the store and goes on with the sweep as events do keeps what holds at all times.
use Rattle.std.proofs.Common.{◌≡◌, ◌≤◌, ◌⊎◌, inl, inr, ℕ, List, [], map, Option, Some, None, sym, subst, ap, ◌∙◌, arith}
use Rattle.sha2.specs.Sha256.{sha256}
use Rattle.store_types.specs.declared.names.SnapshotKey.{SnapshotKey}
use Rattle.store_files.specs.Archive.{Snapshot}
use Rattle.store_model.specs.Store.{none, Writer, writer, Reader, reader, Store, session}
use Rattle.store_history.specs.History.{World}
use Rattle.store_history.specs.LastTouches.{LastTouches}
use Rattle.store_history.specs.Sweeping.{Sweep, Swept}
use Rattle.store_upkeep.specs.Safety.{In, Has, HasBegun, HasAppended, MayAppend, IsFinished, IsOfBase, IsStored, IsPooled, IsNeeded, IsFresh, IsUnmarked, IsTouched, IsSafe}
use Rattle.store_upkeep.proofs.Members.{some_same, none_some}
use Rattle.store_upkeep.proofs.Freshness.{fresh_lower}
use Rattle.store_upkeep.proofs.Moving.{GoesOn, Begins, IsNew, IsFree, Moves}

-- ---- the sweep

-- From the sweep old to new, in the store t at the moment m, with these touches: it goes on, and what was still to be marked of a finished
-- snapshot is, or was touched; or it starts; or there is none.
pub data Goes (t : Store) (m : ℕ) (touches : LastTouches) (old new : Option Sweep) : Type 0 where
  on : (a b : Sweep) → old ≡ Some a → new ≡ Some b → b.cutoff ≡ a.cutoff
      → ((x : Snapshot) (d : List ℕ) → In x t.snapshots → Has x.files d → IsUnmarked a.unmarked x.key d → IsFresh touches b.cutoff d ⊎ IsUnmarked b.unmarked x.key d)
      → Goes t m touches old new
  begins : (b : Sweep) → new ≡ Some b → b.cutoff ≤ m → ((lane : ℕ) (x : Writer) → session t lane ≡ writer x → b.cutoff ≤ x.start)
      → ((x : Snapshot) (d : List ℕ) → In x t.snapshots → Has x.files d → IsUnmarked b.unmarked x.key d) → Goes t m touches old new
  closed : new ≡ None → Goes t m touches old new

-- ---- a visit

module _ (w : World) (s : Swept) (h : IsSafe w s) (sweep : Sweep) (is : s.sweep ≡ Some sweep) (all : sweep.unmarked ≡ []) where
  stored_fresh : (d : List ℕ) → IsStored w.store d → IsFresh s.touches sweep.cutoff d
  stored_fresh d x = by_mark (h.marked sweep is x.0 x.1 d x.2)
    where
      by_mark : IsFresh s.touches sweep.cutoff d ⊎ IsUnmarked sweep.unmarked (x.0).key d → IsFresh s.touches sweep.cutoff d
      by_mark (inl fresh) = fresh
      by_mark (inr left) = absurd (subst (In left.0) all left.1)

  pooled_fresh : (d : List ℕ) → IsPooled w.store d → IsFresh s.touches sweep.cutoff d
  pooled_fresh d p = by_pool ((h.touched p.0 p.1 p.2).pool d p.3)
    where
      by_pool : IsFresh s.touches (p.1).start d ⊎ IsOfBase w.store p.1 d → IsFresh s.touches sweep.cutoff d
      by_pool (inl fresh) = fresh_lower (s.touches.last d) sweep.cutoff (p.1).start (h.later sweep is p.0 p.1 p.2) fresh
      by_pool (inr base) = stored_fresh d ((base.2).0, (base.2).1, (base.2).3)

  -- where chunks are visited, what is needed was touched at the cutoff or later
  pub needed_fresh : (d : List ℕ) → IsNeeded w.store d → IsFresh s.touches sweep.cutoff d
  needed_fresh d (inl x) = stored_fresh d x
  needed_fresh d (inr p) = pooled_fresh d p

-- ---- an event

pub record Steps (w w' : World) (s s' : Swept) (Sent Touched : List ℕ → Type 0) (Gone : SnapshotKey → Type 0) : Type 0 where
  pub moves : Moves w.store w'.store w'.moment Sent Touched Gone
  pub risen : w.moment ≤ w'.moment
  pub stays : (c : ℕ) (d : List ℕ) → c ≤ w'.moment → IsFresh s.touches c d → IsFresh s'.touches c d
  pub fresh : (c : ℕ) (d : List ℕ) → c ≤ w'.moment → Touched d → IsFresh s'.touches c d
  pub goes : Goes w'.store w'.moment s'.touches s.sweep s'.sweep

module _ (w w' : World) (s s' : Swept) (Sent Touched : List ℕ → Type 0) (Gone : SnapshotKey → Type 0) (h : IsSafe w s) (e : Steps w w' s s' Sent Touched Gone) where
  -- how the lane's writer came
  abbrev IsWriter : ℕ → Writer → Type 0
  IsWriter lane x = ((v : Writer) × (session w.store lane ≡ writer v) × GoesOn w.store Sent Touched v x) ⊎ ((session w.store lane ≡ none) × Begins w'.store w'.moment x)

  writes : (lane : ℕ) (x : Writer) → session w'.store lane ≡ writer x → IsWriter lane x
  writes lane x runs = (e.moves).writers lane x runs

  began : (lane : ℕ) (x : Writer) → session w'.store lane ≡ writer x → x.start ≤ w'.moment
  began lane x runs = by_writer (writes lane x runs)
    where
      by_writer : IsWriter lane x → x.start ≤ w'.moment
      by_writer (inl v) = omega (arith, h.began lane v.0 v.1, (v.2).start, e.risen)
      by_writer (inr new) = omega (arith, (new.1).start)

  same_cutoff : (b sweep : Sweep) (n : ℕ) → s'.sweep ≡ Some b → s'.sweep ≡ Some sweep → b.cutoff ≤ n → sweep.cutoff ≤ n
  same_cutoff b sweep n now is le = subst (λ (x : Sweep). x.cutoff ≤ n) (some_same b sweep (sym now ∙ is)) le

  cut : (sweep : Sweep) → s'.sweep ≡ Some sweep → sweep.cutoff ≤ w'.moment
  cut sweep is = by_goes e.goes
    where
      by_goes : Goes w'.store w'.moment s'.touches s.sweep s'.sweep → sweep.cutoff ≤ w'.moment
      by_goes (on a b was now keeps left) = same_cutoff b sweep w'.moment now is (omega (arith, h.cut a was, keeps, e.risen))
      by_goes (begins b now le later covers) = same_cutoff b sweep w'.moment now is le
      by_goes (closed now) = absurd (none_some sweep (sym now ∙ is))

  later : (sweep : Sweep) → s'.sweep ≡ Some sweep → (lane : ℕ) (x : Writer) → session w'.store lane ≡ writer x → sweep.cutoff ≤ x.start
  later sweep is lane x runs = by_goes e.goes
    where
      by_writer : (a b : Sweep) → s.sweep ≡ Some a → b.cutoff ≡ a.cutoff → IsWriter lane x → b.cutoff ≤ x.start
      by_writer a b was keeps (inl v) = omega (arith, h.later a was lane v.0 v.1, keeps, (v.2).start)
      by_writer a b was keeps (inr new) = omega (arith, h.cut a was, keeps, e.risen, (new.1).start)

      by_goes : Goes w'.store w'.moment s'.touches s.sweep s'.sweep → sweep.cutoff ≤ x.start
      by_goes (on a b was now keeps left) = same_cutoff b sweep x.start now is (by_writer a b was keeps (writes lane x runs))
      by_goes (begins b now le later covers) = same_cutoff b sweep x.start now is (later lane x runs)
      by_goes (closed now) = absurd (none_some sweep (sym now ∙ is))

  -- ---- what is held

  stays_finished : (lane : ℕ) (x : Writer) (y : Snapshot) → session w'.store lane ≡ writer x → x.base ≡ Some y.key → In y (w.store).snapshots → In y (w'.store).snapshots
  stays_finished lane x y runs base at = elim ((e.moves).remains y at) [ inl here ↦ here | inr free ↦ absurd ((free.0).bases lane x runs base) ]

  bases : (lane : ℕ) (x : Writer) (key : SnapshotKey) → session w'.store lane ≡ writer x → x.base ≡ Some key → IsFinished (w'.store).snapshots key
  bases lane x key runs base = by_writer (writes lane x runs)
    where
      by_writer : IsWriter lane x → IsFinished (w'.store).snapshots key
      by_writer (inl v) =
          let y = h.bases lane v.0 key v.1 (sym (v.2).base ∙ base) in
          (y.0, stays_finished lane x y.0 runs (base ∙ ap (λ k. Some k) (sym y.2)) y.1, y.2)
      by_writer (inr new) = (new.1).base key base

  readers : (lane : ℕ) (r : Reader) → session w'.store lane ≡ reader r → IsFinished (w'.store).snapshots r.key
  readers lane r reads = by_reader ((e.moves).readers lane r reads)
    where
      by_remaining : (y : Snapshot) → y.key ≡ r.key → In y (w'.store).snapshots ⊎ (IsFree w'.store y.key × Gone y.key) → IsFinished (w'.store).snapshots r.key
      by_remaining y is (inl here) = (y, here, is)
      by_remaining y is (inr free) = absurd ((free.0).readers lane r reads (sym is))

      by_old : (q : Reader) → q.key ≡ r.key → IsFinished (w.store).snapshots q.key → IsFinished (w'.store).snapshots r.key
      by_old q same y = by_remaining y.0 (y.2 ∙ same) ((e.moves).remains y.0 y.1)

      by_reader : (((q : Reader) × (session w.store lane ≡ reader q) × (q.key ≡ r.key)) ⊎ IsFinished (w'.store).snapshots r.key) → IsFinished (w'.store).snapshots r.key
      by_reader (inl q) = by_old q.0 q.2 (h.readers lane q.0 q.1)
      by_reader (inr new) = new

  -- ---- what writers sent

  touched : (lane : ℕ) (x : Writer) → session w'.store lane ≡ writer x → IsTouched w'.store s'.touches x
  touched lane x runs = by_writer (writes lane x runs)
    where
      by_old : (v : Writer) → session w.store lane ≡ writer v → GoesOn w.store Sent Touched v x → IsTouched w'.store s'.touches x
      by_old v was goes = record { pooled = pooled; appended = appended; pool = pool }
        where
          before : IsTouched w.store s.touches v
          before = h.touched lane v was

          -- touched since the start before, and so still
          since : (d : List ℕ) → IsFresh s.touches v.start d → IsFresh s'.touches x.start d
          since d fresh = e.stays x.start d (began lane x runs) (subst (λ n. IsFresh s.touches n d) (sym goes.start) fresh)

          pooled : (d : List ℕ) → HasAppended x d → MayAppend x d
          pooled d has = elim (goes.appended d has) [ inl old ↦ goes.keeps d (before.pooled d old) | inr new ↦ new.0 ]

          appended : (d : List ℕ) → HasAppended x d → IsFresh s'.touches x.start d
          appended d has = elim (goes.appended d has) [ inl old ↦ since d (before.appended d old) | inr new ↦ e.fresh x.start d (began lane x runs) new.1 ]

          of_base : (d : List ℕ) → IsOfBase w.store v d → IsOfBase w'.store x d
          of_base d b =
              let y = b.2 in
              let based : x.base ≡ Some b.0 = goes.base ∙ b.1 in
              (b.0, based, (y.0, stays_finished lane x y.0 runs (based ∙ ap (λ k. Some k) (sym y.2)) y.1, y.2, y.3))

          by_pool : (d : List ℕ) → IsFresh s.touches v.start d ⊎ IsOfBase w.store v d → IsFresh s'.touches x.start d ⊎ IsOfBase w'.store x d
          by_pool d (inl fresh) = inl (since d fresh)
          by_pool d (inr b) = inr (of_base d b)

          by_new : (d : List ℕ) → MayAppend v d ⊎ (Sent d ⊎ IsOfBase w.store v d) → IsFresh s'.touches x.start d ⊎ IsOfBase w'.store x d
          by_new d (inl old) = by_pool d (before.pool d old)
          by_new d (inr (inl sent)) = inl (e.fresh x.start d (began lane x runs) ((e.moves).sent d sent))
          by_new d (inr (inr b)) = inr (of_base d b)

          pool : (d : List ℕ) → MayAppend x d → IsFresh s'.touches x.start d ⊎ IsOfBase w'.store x d
          pool d may = by_new d (goes.pool d may)

      none_begun : (d : List ℕ) → x.begun ≡ [] → HasBegun x.begun d → ⊥
      none_begun d empty b = subst (In b.0) empty b.1

      none_filed : (d : List ℕ) → x.files ≡ [] → Has x.files d → ⊥
      none_filed d empty f = subst (In f.0) empty f.1

      by_writer : IsWriter lane x → IsTouched w'.store s'.touches x
      by_writer (inl v) = by_old v.0 v.1 v.2
      by_writer (inr new) = record {
        pooled = λ d has. absurd (none_appended d has);
        appended = λ d has. absurd (none_appended d has);
        pool = λ d may. absurd (subst (λ ps. In d (map sha256 ps)) (new.1).pool may);
      }
        where
          none_appended : (d : List ℕ) → HasAppended x d → ⊥
          none_appended d (inl b) = none_begun d (new.1).begun b
          none_appended d (inr f) = none_filed d (new.1).files f

  -- ---- what finished snapshots have

  marked : (sweep : Sweep) → s'.sweep ≡ Some sweep → (x : Snapshot) → In x (w'.store).snapshots → (d : List ℕ) → Has x.files d
      → IsFresh s'.touches sweep.cutoff d ⊎ IsUnmarked sweep.unmarked x.key d
  marked sweep is x at d has = by_goes e.goes
    where
      Goal : Sweep → Type 0
      Goal b = IsFresh s'.touches b.cutoff d ⊎ IsUnmarked b.unmarked x.key d

      same : (b : Sweep) → s'.sweep ≡ Some b → Goal b → Goal sweep
      same b now goal = subst Goal (some_same b sweep (sym now ∙ is)) goal

      -- the sweep goes on, with the same cutoff
      went_on : (a b : Sweep) → s.sweep ≡ Some a → s'.sweep ≡ Some b → b.cutoff ≡ a.cutoff → (IsUnmarked a.unmarked x.key d → Goal b) → Goal b
      went_on a b was now keeps left = by_coming ((e.moves).comes x at)
        where
          still_fresh : IsFresh s.touches a.cutoff d → IsFresh s'.touches b.cutoff d
          still_fresh fresh = e.stays b.cutoff d (cut b now) (subst (λ n. IsFresh s.touches n d) (sym keeps) fresh)

          by_mark : IsFresh s.touches a.cutoff d ⊎ IsUnmarked a.unmarked x.key d → Goal b
          by_mark (inl fresh) = inl (still_fresh fresh)
          by_mark (inr unmarked) = left unmarked

          by_new : (lane : ℕ) (v : Writer) → session w.store lane ≡ writer v → HasAppended v d → Goal b
          by_new lane v runs appended =
              inl (still_fresh (fresh_lower (s.touches.last d) a.cutoff v.start (h.later a was lane v runs) ((h.touched lane v runs).appended d appended)))

          by_coming : In x (w.store).snapshots ⊎ IsNew w.store x → Goal b
          by_coming (inl old) = by_mark (h.marked a was x old d has)
          by_coming (inr new) = by_new new.0 new.1 new.2 (new.3 d has)

      by_goes : Goes w'.store w'.moment s'.touches s.sweep s'.sweep → Goal sweep
      by_goes (on a b was now keeps left) = same b now (went_on a b was now keeps (λ unmarked. left x d at has unmarked))
      by_goes (begins b now le later covers) = same b now (inr (covers x d at has))
      by_goes (closed now) = absurd (none_some sweep (sym now ∙ is))

pub kept : (w w' : World) (s s' : Swept) (Sent Touched : List ℕ → Type 0) (Gone : SnapshotKey → Type 0) → IsSafe w s → Steps w w' s s' Sent Touched Gone → IsSafe w' s'
kept w w' s s' Sent Touched Gone h e = record {
  began = began w w' s s' Sent Touched Gone h e;
  cut = cut w w' s s' Sent Touched Gone h e;
  later = later w w' s s' Sent Touched Gone h e;
  touched = touched w w' s s' Sent Touched Gone h e;
  marked = marked w w' s s' Sent Touched Gone h e;
  bases = bases w w' s s' Sent Touched Gone h e;
  readers = readers w w' s s' Sent Touched Gone h e;
}

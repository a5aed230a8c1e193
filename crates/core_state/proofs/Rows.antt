-- What the lanes keep of indexes stays of what their sessions have.
use Rattle.std.proofs.Common.{◌≡◌, ℕ, ◌<◌, Bool, true, false, if◌then◌else◌, List, [], length, get_or, set, Option, None, Some, refl, sym, ap, subst, ◌∙◌}
use Rattle.std.proofs.lemmas.List.{get_or-set_other, get_or-set_same}
use Rattle.std.proofs.lemmas.List.Elements.{All-weaker}
use Rattle.std.proofs.lemmas.Slice.Eq.{bytes_eq-Decides}
use Rattle.std.specs.List.{All, Contains}
use Rattle.std.specs.Str.{bytes_eq}
use Rattle.store_types.specs.declared.names.SnapshotKey.{SnapshotKey}
use Rattle.store_files.specs.Archive.{Content, Snapshot, archive}
use Rattle.store_model.specs.Store as model
use Rattle.store_model.specs.Store.{Store, session, snapshot_named, with_session}
use Rattle.store_model.specs.ReaderSteps.{content_at}
use Rattle.core_state.specs.declared.indexes.Indexes.{Indexes}
use Rattle.core_state.specs.declared.indexes.OpenIndex.{OpenIndex}
use Rattle.core_state.specs.declared.indexes.OpenIndexes.{OpenIndexes}
use Rattle.core_state.specs.declared.indexes.OpenPage.{OpenPage}
use Rattle.core_state.specs.declared.indexes.RangedPage.{RangedPage}
use Rattle.core_state.specs.declared.pages.ReadPage.{ReadPage}
use Rattle.core_state.specs.declared.parts.Parts.{Parts}
use Rattle.store_history.specs.declared.act.Act.{Act}
use Rattle.core_state.specs.Commands.{keeps_row}
use Rattle.core_state.specs.declared.indexes.Indexes.TheVariants.{Unread, Pooled, Opened, LastPage}
use Rattle.core_state.specs.Indexed.{AreOpened, FitsRow, FitsRows, IsOpened, IsPooled, IsRangedOf, files_of_base, open_of, opened_of, page_of, ranged_of, row_at, row_in}
use Rattle.core_state.specs.Shown.{files_named}
use Rattle.core_state.proofs.Finding.{found_in, found_passes}
use Rattle.core_state.proofs.Sessions.{by_lane, session_other, session_same}

-- ---- what is open

-- it is one of those that are, and has the name
pub open_is : (name : List ℕ) (P : OpenIndex → Type 0) (row : Indexes) (o : OpenIndex) → All P (opened_of row) → open_of name row ≡ Some o → P o × (o.name ≡ name)
open_is name P row o each e =
    (found_in P (λ x. bytes_eq x.name name) (opened_of row) o each e, (bytes_eq-Decides o.name name).0 (found_passes (λ x. bytes_eq x.name name) (opened_of row) o e))

-- and so is the page at hand
pub page_is : (name : List ℕ) (row : Indexes) (p : OpenPage) → page_of name row ≡ Some p → (o : OpenIndexes) × (row ≡ Opened o) × (o.page ≡ p) × (p.name ≡ name)
page_is name Unread p e = cc
page_is name (Pooled names) p e = cc
page_is name (Opened o) p e = by_test (bytes_eq (o.page).name name) refl e
  where
    by_test : (b : Bool) → bytes_eq (o.page).name name ≡ b → (if b then Some o.page else None) ≡ Some p → (x : OpenIndexes) × (Opened o ≡ Opened x) × (x.page ≡ p) × (p.name ≡ name)
    by_test true named e = let same : o.page ≡ p = cc in (o, refl, same, ap (λ (y : OpenPage). y.name) (sym same) ∙ (bytes_eq-Decides (o.page).name name).0 named)
    by_test false named e = cc
page_is name (LastPage x) p e = cc

-- and so is the page that a range read last
pub ranged_is : (name : List ℕ) (row : Indexes) (p : ReadPage) → ranged_of name row ≡ Some p → (x : RangedPage) × (row ≡ LastPage x) × (x.page ≡ p) × (x.name ≡ name)
ranged_is name Unread p e = cc
ranged_is name (Pooled names) p e = cc
ranged_is name (Opened o) p e = cc
ranged_is name (LastPage x) p e = by_test (bytes_eq x.name name) refl e
  where
    by_test : (b : Bool) → bytes_eq x.name name ≡ b → (if b then Some x.page else None) ≡ Some p → (y : RangedPage) × (LastPage x ≡ LastPage y) × (y.page ≡ p) × (y.name ≡ name)
    by_test true named e = let same : x.page ≡ p = cc in (x, refl, same, (bytes_eq-Decides x.name name).0 named)
    by_test false named e = cc

-- ---- one lane's session is another

module _ (s : Store) (lane : ℕ) (x : model.Session) (rows : List Indexes) (within : lane < length s.sessions) (fit : FitsRows s rows) where
  -- that may keep what the one before it might
  pub rows_turned : ((row : Indexes) → FitsRow s.snapshots (session s lane) row → FitsRow s.snapshots x row) → FitsRows (with_session s lane x) rows
  rows_turned on i =
      by_lane i lane (FitsRow s.snapshots (session (with_session s lane x) i) (row_in rows i))
      (λ e.
      subst (λ y. FitsRow s.snapshots y (row_in rows i)) (sym (ap (session (with_session s lane x)) e ∙ session_same s lane x within))
      (on (row_in rows i) (subst (λ j. FitsRow s.snapshots (session s j) (row_in rows i)) e (fit i))))
      (λ ne. subst (λ y. FitsRow s.snapshots y (row_in rows i)) (sym (session_other s lane x i ne)) (fit i))

  -- with another row of the lane
  pub rows_set : (row : Indexes) → lane < length rows → FitsRow s.snapshots x row → FitsRows (with_session s lane x) (set rows lane row)
  rows_set row there is i =
      by_lane i lane (FitsRow s.snapshots (session (with_session s lane x) i) (row_in (set rows lane row) i))
      (λ e.
      subst (λ y. FitsRow s.snapshots y (row_in (set rows lane row) i)) (sym (ap (session (with_session s lane x)) e ∙ session_same s lane x within))
      (subst (FitsRow s.snapshots x) (sym (ap (row_in (set rows lane row)) e ∙ get_or-set_same rows lane row Unread there)) is))
      (λ ne.
      subst (λ y. FitsRow s.snapshots y (row_in (set rows lane row) i)) (sym (session_other s lane x i ne))
      (subst (FitsRow s.snapshots (session s i)) (sym (get_or-set_other rows lane i row Unread ne)) (fit i)))

-- one lane's row is another, and its session the same
pub rows_put : (s : Store) (lane : ℕ) (rows : List Indexes) (row : Indexes) → lane < length rows → FitsRow s.snapshots (session s lane) row → FitsRows s rows → FitsRows s (set rows lane row)
rows_put s lane rows row there is fit i =
    by_lane i lane (FitsRow s.snapshots (session s i) (row_in (set rows lane row) i))
    (λ e.
    subst (λ j. FitsRow s.snapshots (session s j) (row_in (set rows lane row) j)) (sym e)
    (subst (FitsRow s.snapshots (session s lane)) (sym (get_or-set_same rows lane row Unread there)) is))
    (λ ne. subst (FitsRow s.snapshots (session s i)) (sym (get_or-set_other rows lane i row Unread ne)) (fit i))

-- ---- what a session may keep that follows another

-- a lane without a session keeps nothing
pub idle_keeps : (snapshots : List Snapshot) (x : model.Session) (row : Indexes) → FitsRow snapshots model.none row → FitsRow snapshots x row
idle_keeps snapshots x Unread fit = tt
idle_keeps snapshots x (Pooled names) fit = absurd fit
idle_keeps snapshots x (Opened o) fit = absurd fit
idle_keeps snapshots x (LastPage p) fit = absurd fit

-- a writer of the same base, with more pieces
pub writer_keeps : (snapshots : List Snapshot) (v w : model.Writer) (row : Indexes) → w.base ≡ v.base → ((p : List ℕ) → Contains v.pool p → Contains w.pool p)
    → FitsRow snapshots (model.writer v) row → FitsRow snapshots (model.writer w) row
writer_keeps snapshots v w Unread base more fit = tt
writer_keeps snapshots v w (Pooled names) base more fit = All-weaker (IsPooled v.pool (files_of_base v.base snapshots)) (IsPooled w.pool (files_of_base w.base snapshots)) pooled names fit
  where
    pooled : (name : List ℕ) → IsPooled v.pool (files_of_base v.base snapshots) name → IsPooled w.pool (files_of_base w.base snapshots) name
    pooled name p = record {
      one = p.one;
      named = subst (λ b. content_at (files_of_base b snapshots) name ≡ Some (archive p.one)) (sym base) p.named;
      pieces = All-weaker (Contains v.pool) (Contains w.pool) more (p.one).pieces p.pieces;
    }
writer_keeps snapshots v w (Opened o) base more fit = absurd fit
writer_keeps snapshots v w (LastPage p) base more fit = absurd fit

-- a reader of the same snapshot
pub reader_keeps : (snapshots : List Snapshot) (q r : model.Reader) (row : Indexes) → r.key ≡ q.key → FitsRow snapshots (model.reader q) row → FitsRow snapshots (model.reader r) row
reader_keeps snapshots q r Unread key fit = tt
reader_keeps snapshots q r (Pooled names) key fit = absurd fit
reader_keeps snapshots q r (Opened o) key fit = subst (λ k. AreOpened k (files_named k snapshots) o) (sym key) fit
reader_keeps snapshots q r (LastPage p) key fit = subst (λ k. IsRangedOf k (files_named k snapshots) p) (sym key) fit

-- ---- the finished snapshots are others

-- the session has it as base, or reads it
abbrev pub Uses : SnapshotKey → model.Session → Type 0
Uses key model.none = ⊥
Uses key (model.writer w) = w.base ≡ Some key
Uses key (model.reader r) = r.key ≡ key

-- it is there still
abbrev pub StaysNamed : List Snapshot → List Snapshot → SnapshotKey → Type 0
StaysNamed old new key = (y : Snapshot) → snapshot_named key old ≡ Some y → snapshot_named key new ≡ Some y

content_on : (old new : List Snapshot) (key : SnapshotKey) (name : List ℕ) (c : Content) → StaysNamed old new key → content_at (files_named key old) name ≡ Some c → content_at (files_named key new) name ≡ Some c
content_on old new key name c stays is = by_found (snapshot_named key old) refl is
  where
    by_found : (o : Option Snapshot) → snapshot_named key old ≡ o → content_at (elim o [ None ↦ [] | Some y ↦ y.files ]) name ≡ Some c → content_at (files_named key new) name ≡ Some c
    by_found None at e = cc
    by_found (Some y) at e = ap (λ (o : Option Snapshot). content_at (elim o [ None ↦ [] | Some y ↦ y.files ]) name) (stays y at) ∙ e

row_among : (old new : List Snapshot) (x : model.Session) (row : Indexes) → ((key : SnapshotKey) → Uses key x → StaysNamed old new key) → FitsRow old x row → FitsRow new x row
row_among old new x Unread stays fit = tt
row_among old new model.none (Pooled names) stays fit = absurd fit
row_among old new (model.writer w) (Pooled names) stays fit = by_base w.base refl fit
  where
    pooled : (key : SnapshotKey) → w.base ≡ Some key → (name : List ℕ) → IsPooled w.pool (files_named key old) name → IsPooled w.pool (files_named key new) name
    pooled key at name p = record { one = p.one; named = content_on old new key name (archive p.one) (stays key at) p.named; pieces = p.pieces }

    by_base : (b : Option SnapshotKey) → w.base ≡ b → All (IsPooled w.pool (files_of_base b old)) names
        → All (IsPooled w.pool (files_of_base b new)) names
    by_base None at all = all
    by_base (Some key) at all = All-weaker (IsPooled w.pool (files_named key old)) (IsPooled w.pool (files_named key new)) (pooled key at) names all
row_among old new (model.reader r) (Pooled names) stays fit = absurd fit
row_among old new model.none (Opened o) stays fit = absurd fit
row_among old new (model.writer w) (Opened o) stays fit = absurd fit
row_among old new (model.reader r) (Opened o) stays fit =
    let on = λ (name : List ℕ) (c : Content). content_on old new r.key name c (stays r.key refl) in
    let page = fit.page in
    record {
      each = All-weaker (IsOpened r.key (files_named r.key old)) (IsOpened r.key (files_named r.key new)) (λ x h. record { one = h.one; named = on x.name (archive h.one) h.named; pages = h.pages }) o.opened fit.each;
      page = record { one = page.one; named = on (o.page).name (archive page.one) page.named; entries = page.entries };
    }
row_among old new model.none (LastPage p) stays fit = absurd fit
row_among old new (model.writer w) (LastPage p) stays fit = absurd fit
row_among old new (model.reader r) (LastPage p) stays fit = record {
  one = fit.one;
  named = content_on old new r.key p.name (archive fit.one) (stays r.key refl) fit.named;
  below = fit.below;
  start = fit.start;
  entries = fit.entries;
}

-- those that the lanes have as bases, or read, are there still
pub rows_among : (s t : Store) (rows : List Indexes) → t.sessions ≡ s.sessions → ((i : ℕ) (key : SnapshotKey) → Uses key (session s i) → StaysNamed s.snapshots t.snapshots key)
    → FitsRows s rows → FitsRows t rows
rows_among s t rows same stays fit i =
    subst (λ xs. FitsRow t.snapshots (get_or xs i model.none) (row_in rows i)) (sym same)
    (row_among s.snapshots t.snapshots (session s i) (row_in rows i) (stays i) (fit i))

-- ---- one lane goes on

module _ (s : Store) (lane : ℕ) (rows : List Indexes) (within : lane < length s.sessions) (fit : FitsRows s rows) where
  -- a lane that had no session keeps nothing
  pub rows_begun : (x : model.Session) → session s lane ≡ model.none → FitsRows (with_session s lane x) rows
  rows_begun x none = rows_turned s lane x rows within fit (λ row h. idle_keeps s.snapshots x row (subst (λ y. FitsRow s.snapshots y row) none h))

  -- a writer as another of its base, with more pieces
  pub rows_writing : (v w : model.Writer) → session s lane ≡ model.writer v → w.base ≡ v.base → ((p : List ℕ) → Contains v.pool p → Contains w.pool p) → FitsRows (with_session s lane (model.writer w)) rows
  rows_writing v w at base more = rows_turned s lane (model.writer w) rows within fit (λ row h. writer_keeps s.snapshots v w row base more (subst (λ y. FitsRow s.snapshots y row) at h))

  -- a reader as another of its snapshot
  pub rows_reading : (q r : model.Reader) → session s lane ≡ model.reader q → r.key ≡ q.key → FitsRows (with_session s lane (model.reader r)) rows
  rows_reading q r at key = rows_turned s lane (model.reader r) rows within fit (λ row h. reader_keeps s.snapshots q r row key (subst (λ y. FitsRow s.snapshots y row) at h))

-- ---- what an act leaves

module _ {D : Type 0} (old : Parts D) (rows : List Indexes) (lane : ℕ) (act : Act) where
  -- none has changed
  pub rows_same : rows ≡ old.indexes.items → (i : ℕ) → (i ≡ lane → keeps_row act ≡ true) → row_in rows i ≡ row_at old i
  rows_same same i keeps = ap (λ xs. row_in xs i) same

  -- the lane's has, by an act that may change it
  pub rows_but : (row : Indexes) → keeps_row act ≡ false → rows ≡ set old.indexes.items lane row → (i : ℕ) → (i ≡ lane → keeps_row act ≡ true) → row_in rows i ≡ row_at old i
  rows_but row turns sets i keeps =
      ap (λ xs. row_in xs i) sets
      ∙ by_lane i lane (row_in (set old.indexes.items lane row) i ≡ row_at old i) (λ e. absurd (false_true (sym turns ∙ keeps e))) (λ ne. get_or-set_other old.indexes.items lane i row Unread ne)
    where
      false_true : ◌≡◌ {A = Bool} false true → ⊥
      false_true e = cc

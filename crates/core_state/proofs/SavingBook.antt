-- The core stands for what it stood for once its book is saved, and what a crash leaves for what it did.
use Rattle.std.proofs.Common.{◌≡◌, ◌<◌, ◌≤◌, ◌⊎◌, ◌↔◌, ⊎_elim, ℕ, Bool, true, false, not, ◌&&◌, ◌==◌, nat_le, is_none, is_some, length, map, List, [], ◌∷◌, Option, Some, None, Result, Ok, Err, refl, sym, ap, subst, ◌∙◌, arith}
use Rattle.std.specs.Prelude.{IsErrOf, OnOk}
use Rattle.std.specs.FinMap.{get}
use Rattle.std.specs.Option.{IsSome}
use Rattle.std.proofs.lemmas.Bool.{cases_lt, le-leb}
use Rattle.store_types.specs.declared.order.TheConstants.{FAULT_KIND}
use Rattle.disk_trait.specs.Disk.{Serves}
use Rattle.disk_trait.specs.Effects.{DiskWantKeeps}
use Rattle.disk_trait.specs.Files.{Files}
use Rattle.disk_trait.specs.declared.disk.Disk.{Ghosts}
use Rattle.disk_trait.specs.declared.disk.DiskError.{DiskError}
use Rattle.disk_trait.specs.declared.disk.DiskError.TheVariants.{NoMemory, Failed}
use Rattle.file_install.specs.Install.{Installs, OkInstalls}
use Rattle.file_install.proofs.InstallLaws.{installed_name}
use Rattle.port_traits.specs.Readings.{Readings}
use Rattle.store_files.specs.Archive.{Snapshot}
use Rattle.store_files.specs.Book.{FitsBook}
use Rattle.store_files.specs.Folder.{chunk_name}
use Rattle.store_model.specs.Stands.{StandsFor as Stands}
use Rattle.atime_book.specs.Touches.{as_of, last_of}
use Rattle.store_history.specs.declared.act.Event.{Event}
use Rattle.store_history.specs.CrashPoints.{Either, Reopens, is_past, one_more}
use Rattle.store_history.specs.History.{World, after, after_all, kind, opened}
use Rattle.store_history.specs.Legal.{IsLegal}
use Rattle.store_history.specs.Saved.{HoldsBook, book_name}
use Rattle.store_history.specs.LastTouches.{SameTouches}
use Rattle.store_history.proofs.Longer.{calls_risen}
use Rattle.core_state.specs.declared.journal.Journal.{Journal}
use Rattle.core_state.specs.declared.kept.Listed.{Listed}
use Rattle.core_state.specs.declared.state.Core.{Core}
use Rattle.core_state.specs.History.{History, KeepsTime, StandsFor, pieces_of, world}
use Rattle.core_state.specs.Indexed.{FitsRows}
use Rattle.core_state.specs.Locked.{Locked}
use Rattle.core_state.specs.KeepsTouches.{KeepsTouches, swept_of, touches_of_history}
use Rattle.core_state.specs.Collectors.{open_in}
use Rattle.core_state.specs.Numbers.{AreNumbered}
use Rattle.core_state.specs.Sweeps.{ShowsOpen}
use Rattle.core_state.specs.Recovers.{Recovers}
use Rattle.core_state.specs.Saving.{HasSaved, LeavesBook, SavesBook, text_of_book}
use Rattle.core_state.specs.Upkeeps.{touches_kept}
use Rattle.core_state.proofs.Calls.{later}
use Rattle.core_state.proofs.SavingNames.{SameStore, on_disk_same, only_as_before, same_installed, same_installs, stands_same}

-- ---- images of a later moment

either_maps : (b : Bool) (A C B : Type 0) → (A → C) → Either b A B → Either b C B
either_maps true A C B f h = f h
either_maps false A C B f h = h

-- from where all events were answered, each moment gives the same
reopens_later : (R : Option (List Snapshot)) (w : World) (h : List Event) (t u : ℕ) (found : List Snapshot) → IsLegal R w h → (after_all R w h).calls ≤ t → t ≤ u → Reopens R w h t found → Reopens R w h u found
unfolding after_all after
reopens_later R w [] t u found legal low le reopens = reopens
reopens_later R w (e ∷ es) t u found legal low le reopens =
    let up = calls_risen R (after R w e) es legal.1 in
    let first : e.calls ≤ t = omega (arith, up, low) in
    let second : e.calls ≤ u = omega (arith, first, le) in
    let same : nat_le e.calls t ≡ nat_le e.calls u = le-leb e.calls t first ∙ sym (le-leb e.calls u second) in
    subst (λ b. Either (b && not (kind e == FAULT_KIND) && is_none w.fault) (Reopens R (after R w e) es u found) ((found ≡ (w.store).snapshots) ⊎ (found ≡ (one_more R w e).snapshots))) same
    (either_maps (is_past t w e) (Reopens R (after R w e) es t found) (Reopens R (after R w e) es u found) ((found ≡ (w.store).snapshots) ⊎ (found ≡ (one_more R w e).snapshots))
    (reopens_later R (after R w e) es t u found legal.1 low le) reopens)

-- ---- the core

-- all but the disk, field by field
pub record KeepsFields {D E C : Type 0} (old new : Core D E C) : Type 0 where
  pub clock : new.clock ≡ old.clock
  pub journal : new.journal ≡ old.journal
  pub upkeep : new.upkeep ≡ old.upkeep
  pub collector : new.collector ≡ old.collector
  pub last : new.last ≡ old.last
  pub fault : new.fault ≡ old.fault
  pub remote : new.remote ≡ old.remote
  pub catalogue : (new.parts).catalogue ≡ (old.parts).catalogue
  pub sessions : (new.parts).sessions ≡ (old.parts).sessions
  pub locks : (new.parts).locks ≡ (old.parts).locks
  pub indexes : (new.parts).indexes ≡ (old.parts).indexes

module _ {D E C : Type 0} (d : Ghosts D) (old new : Core D E C) (result : Result (Unit {0}) DiskError)
    (serves : Serves d.honest d.faults (old.parts).disk (new.parts).disk (IsErrOf result Failed)) (rest : KeepsFields old new) (crash : LeavesBook d old new)
    (saved : OnOk result (HasSaved d old new)) (unchanged : DiskWantKeeps d (old.parts).disk (new.parts).disk result) where
  abbrev read : Files
  read = d.content (old.parts).disk

  abbrev reads : Files
  reads = d.content (new.parts).disk

  same_refl : SameStore read read
  same_refl = record { files = λ key name. refl; chunks = λ digest. refl }

  -- unless the disk failed, all but the book reads as before
  reads_same : (IsErrOf result Failed → ⊥) → d.honest (old.parts).disk → SameStore read reads
  reads_same unfailed honest = by_result result refl saved unchanged
    where
      by_result : (r : Result (Unit {0}) DiskError) → result ≡ r → OnOk r (HasSaved d old new) → DiskWantKeeps d (old.parts).disk (new.parts).disk r → SameStore read reads
      by_result (Ok done) is saved keeps = subst (SameStore read) (sym (saved.content honest)) (same_installed read (text_of_book old))
      by_result (Err NoMemory) is saved keeps = subst (SameStore read) (sym ((keeps refl).0 honest)) same_refl
      by_result (Err Failed) is saved keeps = absurd (unfailed is)

  up : d.calls (old.parts).disk ≤ d.calls (new.parts).disk
  up = later d (old.parts).disk (new.parts).disk (Installs read book_name (text_of_book old)) crash

  module _ (readings : C → Option Readings) (h : History) (s : StandsFor d readings old h) where
    stands : (IsErrOf result Failed → ⊥) → StandsFor d readings new h
    stands unfailed = record {
      legal = s.legal;
      entries = ap (λ (j : Journal). j.entries.items) rest.journal ∙ s.entries;
      calls = ap (λ (j : Journal). j.calls.items) rest.journal ∙ s.calls;
      fault = rest.fault ∙ s.fault;
      last = rest.last ∙ s.last;
      time = subst (λ (c : C). KeepsTime readings c h) (sym rest.clock) s.time;
      reached = let reached = s.reached in let risen = up in omega (arith, reached, risen);
      honest = serves.kept.0 s.honest;
      remote = ap is_some rest.remote ∙ s.remote;
      shows = record {
        catalogue = ap (λ xs. map (λ (x : Listed). x.kept) xs.listed) rest.catalogue ∙ (s.shows).catalogue;
        sessions = ap (λ xs. xs.items) rest.sessions ∙ (s.shows).sessions;
        locks = subst (λ locks. Locked locks (world h).store) (sym rest.locks) (s.shows).locks;
        indexes = subst (λ rows. FitsRows (world h).store rows.items) (sym rest.indexes) (s.shows).indexes;
        sound = (s.shows).sound;
      };
      collecting = ap open_in rest.collector ∙ s.collecting;
      files = λ none. on_disk_same read reads (reads_same unfailed s.honest) (world h).store (s.files none);
      chunks = λ none. only_as_before read reads (reads_same unfailed s.honest) (pieces_of h) (s.chunks none);
    }

    touches : (IsErrOf result Failed → ⊥) → KeepsTouches d old h → KeepsTouches d new h
    touches unfailed m = record {
      touches = subst (λ u. SameTouches (touches_kept u) (touches_of_history h)) (sym rest.upkeep) m.touches;
      present = λ none x digest.
          subst (λ (o : Option (List ℕ)). IsSome o ↔ IsSome ((touches_of_history h).last x)) (sym ((reads_same unfailed s.honest).chunks x)) (m.present (sym rest.fault ∙ none) x digest);
      sweep = subst (λ n. ShowsOpen n (new.parts).catalogue.listed (world h).store.snapshots new.collector (swept_of h).sweep) (sym acts)
          (subst (λ xs. ShowsOpen (length (old.journal).entries.items) xs (world h).store.snapshots new.collector (swept_of h).sweep) (sym listed)
          (subst (λ c. ShowsOpen (length (old.journal).entries.items) (old.parts).catalogue.listed (world h).store.snapshots c (swept_of h).sweep) (sym rest.collector) m.sweep));
      is_swept = m.is_swept;
      numbers = subst (λ n. AreNumbered n (new.parts).catalogue.listed) (sym acts)
          (subst (AreNumbered (length (old.journal).entries.items)) (sym listed) m.numbers);
    }
      where
        acts : length (new.journal).entries.items ≡ length (old.journal).entries.items
        acts = ap (λ (j : Journal). length j.entries.items) rest.journal

        listed : (new.parts).catalogue.listed ≡ (old.parts).catalogue.listed
        listed = ap (λ xs. xs.listed) rest.catalogue

    holds : old.fault ≡ None → KeepsTouches d old h → OnOk result (HoldsBook reads old.last (touches_of_history h))
    holds none m = by_result result refl saved
      where
        held : HasSaved d old new → (IsErrOf result Failed → ⊥) → HoldsBook reads old.last (touches_of_history h)
        held has unfailed = record {
          book = as_of old.last (old.upkeep).book;
          file = subst (λ (files : Files). get files book_name ≡ Some (text_of_book old)) (sym (has.content s.honest)) (installed_name read book_name (text_of_book old));
          fits = has.fits;
          moment_is = refl;
          touches = λ x. (m.touches).last x;
          chunks = λ x digest.
              subst (λ (o : Option (List ℕ)). IsSome o ↔ IsSome (last_of (as_of old.last (old.upkeep).book) x)) (sym ((reads_same unfailed s.honest).chunks x))
              (subst (λ (o : Option ℕ). IsSome (get read (chunk_name x)) ↔ IsSome o) (sym ((m.touches).last x)) (m.present none x digest));
        }

        by_result : (r : Result (Unit {0}) DiskError) → result ≡ r → OnOk r (HasSaved d old new) → OnOk r (HoldsBook reads old.last (touches_of_history h))
        by_result (Ok done) is has = held has (λ failed. ok_err done (sym is ∙ failed))
          where
            ok_err : (x : Unit {0}) → ◌≡◌ {A = Result (Unit {0}) DiskError} (Ok x) (Err Failed) → ⊥
            ok_err x e = cc
        by_result (Err error) is has = tt

    abbrev Found : ℕ → Files → Type 0
    Found t c = (found : List Snapshot) × Stands c found × Reopens h.remote (opened h.opening) h.events t found

    recovers : (start : ℕ) → Recovers d start old h → Recovers d start new h
    recovers start r = record { begun = r.begun; each = each }
      where
        -- an image of now, after the install
        since : (t : ℕ) (c : Files) → d.calls (old.parts).disk ≤ t
            → (b : Files) × d.images (old.parts).disk (d.calls (old.parts).disk) b × Installs read book_name (text_of_book old) b c → Found t c
        since t c le x =
            let risen = calls_risen h.remote (opened h.opening) h.events s.legal in
            let reached = s.reached in
            let begun = r.begun in
            let y = r.each (d.calls (old.parts).disk) x.0 (omega (arith, risen, reached, begun)) x.1 in
            (y.0, stands_same x.0 c (same_installs read (text_of_book old) x.0 c x.2) y.0 y.1, reopens_later h.remote (opened h.opening) h.events (d.calls (old.parts).disk) t y.0 s.legal s.reached le y.2)

        each : (t : ℕ) (c : Files) → start ≤ t → d.images (new.parts).disk t c → Found t c
        each t c from image = ⊎_elim {C = Found t c}
            (λ (same : (new.parts).disk ≡ (old.parts).disk). r.each t c from (subst (λ (x : D). d.images x t c) same image))
            (λ steps. ⊎_elim {C = Found t c}
            (λ (lt : t < d.calls (old.parts).disk). r.each t c from (steps.past t c (omega (arith, lt)) image))
            (λ (le : d.calls (old.parts).disk ≤ t). since t c le (steps.each t c le image))
            (cases_lt t (d.calls (old.parts).disk)))
            crash

pub saves_book : {D E C : Type 0} (d : Ghosts D) (old new : Core D E C) (result : Result (Unit {0}) DiskError)
    → Serves d.honest d.faults (old.parts).disk (new.parts).disk (IsErrOf result Failed) → KeepsFields old new → LeavesBook d old new
    → OkInstalls d (old.parts).disk (new.parts).disk book_name (text_of_book old) result → FitsBook (as_of old.last (old.upkeep).book)
    → DiskWantKeeps d (old.parts).disk (new.parts).disk result → SavesBook d old new result
saves_book d old new result serves rest crash put fits unchanged = record {
  stands = λ readings unfailed h s. stands d old new result serves rest crash (saved result put) unchanged readings h s unfailed;
  touches = λ readings unfailed h s m. touches d old new result serves rest crash (saved result put) unchanged readings h s unfailed m;
  holds = λ readings h none s m. holds d old new result serves rest crash (saved result put) unchanged readings h s none m;
  recovers = λ readings start h s r. recovers d old new result serves rest crash (saved result put) unchanged readings h s start r;
}
  where
    saved : (r : Result (Unit {0}) DiskError) → OkInstalls d (old.parts).disk (new.parts).disk book_name (text_of_book old) r → OnOk r (HasSaved d old new)
    saved (Ok done) put = record { content = put; fits = fits }
    saved (Err error) put = tt

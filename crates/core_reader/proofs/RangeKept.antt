-- What a lane keeps of indexes behind a RANGE.
use Rattle.disk_trait.specs.declared.disk.Disk.{Ghosts}
use Rattle.std.proofs.Common.{◌≡◌, ◌<◌, ◌+◌, ℕ, List, length, get_or-set_same, set, Option, Some, None, Result, Ok, Err, IsErrAnd, sym, ap, ap₂, subst, ◌∙◌, arith}
use Rattle.wire_commands.specs.declared.command.Command.TheVariants.{Range}
use Rattle.store_history.specs.declared.act.Act.TheVariants.{Plain}
use Rattle.store_files.specs.Archive.{Snapshot}
use Rattle.store_model.specs.Store as model
use Rattle.store_model.specs.Store.{session}
use Rattle.store_stops.specs.declared.stop.Stop.{Stop}
use Rattle.core_state.specs.Kept.{kept_at}
use Rattle.core_state.specs.declared.indexes.Indexes.{Indexes}
use Rattle.core_state.specs.declared.indexes.Indexes.TheVariants.{Unread, Pooled, Opened, LastPage}
use Rattle.core_state.specs.declared.pages.ReadPage.{ReadPage}
use Rattle.core_state.specs.declared.parts.Parts.{Parts}
use Rattle.core_state.specs.Commands.{LeavesRows}
use Rattle.core_state.specs.Indexed.{FitsRanged, FitsRow, ranged_to, row_at, row_in, with_page}
use Rattle.core_state.proofs.Commanding.{KeepsFit}
use Rattle.core_state.proofs.Sessions.{by_lane}
use Rattle.core_reader.specs.NotesRange.{Keeps, KeepsLast, NotesRange}
use Rattle.core_reader.specs.Ranges.{IsLast, LastRead, RangeAsked, ReadsLast, range_asked}
use Rattle.core_reader.proofs.Ranging.{range_keeps}

-- what may be kept with the page
page_fits : (snapshots : List Snapshot) (x : model.Session) (file : List ℕ) (page : ReadPage) (row : Indexes) → FitsRow snapshots x row → FitsRanged snapshots (record { name = file; page = page }) x
    → FitsRow snapshots x (with_page file page row)
page_fits snapshots x file page Unread fit is = is
page_fits snapshots x file page (Pooled names) fit is = is
page_fits snapshots x file page (Opened o) fit is = fit
page_fits snapshots x file page (LastPage p) fit is = is

module _ {D : Type 0} (d : Ghosts D) (old new : Parts D) (lane : ℕ) (file : List ℕ) (offset len : ℕ) (lt : lane < 64) where
  abbrev Asks : RangeAsked → Type 0
  Asks q = range_asked file offset len (kept_at old lane) ≡ Ok q

  -- it stopped
  pub notes_stopped : {A : Type 0} (stop : Stop) (result : Result A Stop) → IsErrAnd result (λ x. x ≡ stop) → new.indexes.items ≡ old.indexes.items → NotesRange d old new lane file offset len result
  notes_stopped stop (Ok x) is same = absurd is
  notes_stopped stop (Err x) is same = record { stays = ap (λ rows. row_in rows lane) same; keeps = tt }

  -- it is done
  module _ (q : RangeAsked) (at : Asks q) (mid left : Indexes) (name : List ℕ) (last : Option ReadPage) (n : ℕ) (named : name ≡ file) (same : mid ≡ row_at old lane) (kept : left ≡ ranged_to name last mid)
      (l : new.indexes.items ≡ set old.indexes.items lane left) (wide : n ≡ len) (read : LastRead d old.disk q offset (offset + n) last) where
    row_there : lane < length old.indexes.items
    row_there = omega (arith, old.rows, old.indexes.ok.0, lt)

    pub notes_done : {A : Type 0} (x : A) → NotesRange d old new lane file offset len (Ok x)
    notes_done x = record {
      stays = tt;
      keeps = (
        q,
        at,
        record {
          last = last;
          read = subst (λ k. LastRead d old.disk q offset (offset + k) last) wide read;
          is = ap (λ rows. row_in rows lane) l ∙ get_or-set_same old.indexes.items lane left Unread row_there ∙ kept ∙ ap₂ (λ a r. ranged_to a last r) named same;
        },
      );
    }

  fits_at : (q : RangeAsked) → Asks q → KeepsLast d old.disk q file offset (offset + len) (row_at old lane) (row_at new lane) → LeavesRows old new lane (Plain (Range file offset len)) → KeepsFit d old new
  fits_at q at keeps rows s h i =
      by_lane i lane (FitsRow s.snapshots (session s i) (row_at new i))
      (λ e. subst (λ j. FitsRow s.snapshots (session s j) (row_at new j)) (sym e) (subst (FitsRow s.snapshots (session s lane)) (sym keeps.is) (by_last keeps.last (keeps.read).only ((keeps.read).reads h.honest))))
      (λ ne. subst (FitsRow s.snapshots (session s i)) (sym (rows i (λ e. absurd (ne e)))) ((h.shows).indexes i))
    where
      fit : FitsRow s.snapshots (session s lane) (row_at old lane)
      fit = (h.shows).indexes lane

      by_last : (last : Option ReadPage) → IsLast (q.index).pages (keeps.read).reached (offset + len) last → ReadsLast (d.content old.disk) q.index last
          → FitsRow s.snapshots (session s lane) (ranged_to file last (row_at old lane))
      by_last None only reads = fit
      by_last (Some x) only reads =
          page_fits s.snapshots (session s lane) file x (row_at old lane) fit
          (range_keeps (d.content old.disk) old s lane file offset len h.shows h.files lt q x at only.below (only.is).start reads)

  -- what the lanes keep then is of their sessions
  pub range_fits : Keeps d old new lane file offset len → LeavesRows old new lane (Plain (Range file offset len)) → KeepsFit d old new
  range_fits kept rows = let (q, at, keeps) = kept in fits_at q at keeps rows

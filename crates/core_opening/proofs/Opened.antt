-- A core that was opened with the snapshots that its disk stands for.
use Rattle.disk_trait.specs.declared.disk.Disk.{Ghosts}
use Rattle.std.proofs.Common.{◌≡◌, ◌⊎◌, inl, inr, ◌≤◌, ℕ, zero, suc, List, [], ◌∷◌, length, map, replicate, Option, Some, None, IfSome, is_some, refl, sym, ap, subst, ◌∙◌, arith}
use Rattle.std.specs.FinMap.{get}
use Rattle.std.specs.List.{Contains}
use Rattle.std.proofs.lemmas.Bool.{cases_lt}
use Rattle.std.proofs.lemmas.List.{get_or-replicate, get_or_past, length-replicate}
use Rattle.sha2.specs.Sha256.{sha256}
use Rattle.disk_trait.specs.Files.{Files}
use Rattle.port_traits.specs.Readings.{Readings}
use Rattle.blob_codec.specs.Blob.{blob}
use Rattle.store_files.specs.Archive.{Snapshot}
use Rattle.store_files.specs.Folder.{chunk_name}
use Rattle.store_model.specs.Store.{Writer, Reader, none, writer, reader, store_of, session, lane_count}
use Rattle.store_model.specs.Stands.{StandsFor as Stands}
use Rattle.store_model.specs.Clash.{chunk_pieces}
use Rattle.atime_book.specs.Touches.{IsEarly, NoneAfter}
use Rattle.store_history.specs.History.{after_all}
use Rattle.snapshot_files.specs.Leaving.{IsLeaving, MayClean}
use Rattle.snapshot_files.proofs.Leavers.{stands_cleaned}
use Rattle.core_state.specs.declared.state.Core.{Core}
use Rattle.core_state.specs.declared.indexes.Indexes.{Indexes}
use Rattle.core_state.specs.declared.indexes.Indexes.TheVariants.{Unread}
use Rattle.core_state.specs.declared.kept.Session.TheVariants.{Idle}
use Rattle.core_state.specs.Indexed.{FitsRow, row_in}
use Rattle.store_history.specs.ChunkFiles.{HoldsOnly}
use Rattle.core_state.specs.Collectors.{open_in}
use Rattle.core_state.specs.Shown.{shown_session}
use Rattle.core_state.specs.Locked.{Locked}
use Rattle.core_state.specs.Holds.{IsSound}
use Rattle.core_state.specs.History.{StandsFor, began}
use Rattle.core_state.proofs.Chunks.{opened_only, only_same}
use Rattle.core_state.proofs.LockLemmas.{locked_none}
use Rattle.core_state.specs.Numbers.{first_number}
use Rattle.core_opening.specs.Opening.{HasBegun, IsBookOf, IsCatalogue, NumbersAll, RecordsOpened}
use Rattle.store_history.specs.Opened.{opening_of}
use Rattle.core_opening.proofs.Booked.{opened_moment}
use Rattle.core_opening.proofs.KeptShown.{kept_shown}

-- no lane has a session
no_session : (L : List Snapshot) (lane : ℕ) → session (store_of L) lane ≡ none
no_session L lane = elim (cases_lt lane lane_count) [
  | inl lt ↦ get_or-replicate lane_count lane none none lt
  | inr le ↦ get_or_past (replicate lane_count none) lane none (subst (λ n. n ≤ lane) (sym (length-replicate lane_count none)) le)
]

none_writer : (w : Writer) → none ≡ writer w → ⊥
none_writer w e = cc

none_reader : (r : Reader) → none ≡ reader r → ⊥
none_reader r e = cc

no_writer : (L : List Snapshot) (lane : ℕ) (w : Writer) → session (store_of L) lane ≡ writer w → ⊥
no_writer L lane w e = none_writer w (sym (no_session L lane) ∙ e)

no_reader : (L : List Snapshot) (lane : ℕ) (r : Reader) → session (store_of L) lane ≡ reader r → ⊥
no_reader L lane r e = none_reader r (sym (no_session L lane) ∙ e)

idle_is_sound : (m : Files) (L : List Snapshot) → Stands m L → IsSound (store_of L)
idle_is_sound m L s = record {
  lanes = length-replicate lane_count none;
  order = s.order;
  each = s.each;
  groups = s.groups;
  writers = λ lane w e. absurd (no_writer L lane w e);
  readers = λ lane r e. absurd (no_reader L lane r e);
  apart = λ i j v w e f same. absurd (no_writer L i v e);
}

unread_one : (lane : ℕ) → row_in (replicate 64 Unread) lane ≡ Unread
unread_one lane = elim (cases_lt lane 64) [
  | inl lt ↦ get_or-replicate 64 lane Unread Unread lt
  | inr le ↦ get_or_past (replicate 64 Unread) lane Unread (subst (λ n. n ≤ lane) (sym (length-replicate 64 Unread)) le)
]

unread_row : (rows : List Indexes) (lane : ℕ) → rows ≡ replicate 64 Unread → row_in rows lane ≡ Unread
unread_row rows lane is = ap (λ rs. row_in rs lane) is ∙ unread_one lane

map_replicate : (L : List Snapshot) (n : ℕ) → map (shown_session L) (replicate n none) ≡ replicate n Idle
map_replicate L zero = refl
map_replicate L (suc n) = ap (λ xs. Idle ∷ xs) (map_replicate L n)

keeps_time : {C : Type 0} (readings : C → Option Readings) (clock : C) (o : Option Readings) → readings clock ≡ o
    → IfSome o (λ c. Unit {0} × (readings clock ≡ Some c))
keeps_time readings clock None is = tt
keeps_time readings clock (Some c) is = (tt, is)

not_there : (a : Option (List ℕ)) (bytes : List ℕ) → a ≡ None → a ≡ Some bytes → ⊥
not_there a bytes gone there = cc

-- a chunk that is there after was there before
only_before : (m c : Files) (ps : List (List ℕ)) → MayClean m m c → HoldsOnly m ps → HoldsOnly c ps
only_before m c ps may only p there = told (may (chunk_name (sha256 p)))
  where
    told : (get c (chunk_name (sha256 p)) ≡ get m (chunk_name (sha256 p))) ⊎ ((get c (chunk_name (sha256 p)) ≡ None) × IsLeaving m (chunk_name (sha256 p))) → Contains ps p
    told (inl same) = only p (sym same ∙ there)
    told (inr gone) = absurd (not_there (get c (chunk_name (sha256 p))) (blob p) gone.0 there)

module _ {D E C : Type 0} (d : Ghosts D) (readings : C → Option Readings) (old : D) (core : Core D E C) (L : List Snapshot) (R : Option (List Snapshot)) where
  pub opened_stands : HasBegun core → is_some core.remote ≡ is_some R → d.honest (core.parts).disk → Stands (d.content old) L
      → MayClean (d.content old) (d.content old) (d.content (core.parts).disk) → IsCatalogue (d.content (core.parts).disk) (core.parts).catalogue.listed
      → IsBookOf (d.content (core.parts).disk) core.upkeep
      → StandsFor d readings core (began (opening_of d old (core.parts).disk L) R (readings core.clock))
  unfolding after_all
  opened_stands begun remote honest stands may catalogue book =
      let m = d.content old in
      let c = d.content (core.parts).disk in
      let after : Stands c L = stands_cleaned m c L stands may in
      record {
        legal = tt;
        entries = begun.entries;
        calls = begun.calls;
        fault = begun.fault;
        last = begun.last ∙ opened_moment m c core.upkeep stands.chunks may book;
        time = keeps_time readings core.clock (readings core.clock) refl;
        reached = omega arith;
        honest = honest;
        remote = remote;
        shows = record {
          catalogue = kept_shown c L catalogue.found after catalogue.lists first_number (core.parts).catalogue.listed catalogue.listed;
          sessions = begun.sessions ∙ sym (map_replicate L 64);
          locks = subst (λ l. Locked l (store_of L)) (sym begun.locks) (locked_none (store_of L) (no_session L));
          indexes = λ lane. subst (FitsRow L (session (store_of L) lane)) (sym (unread_row (core.parts).indexes.items lane begun.indexes)) tt;
          sound = idle_is_sound c L after;
        };
        collecting = ap open_in begun.collector;
        files = λ _. record { snapshots = after; writers = λ lane w e. absurd (no_writer L lane w e) };
        chunks = λ _. only_same c (chunk_pieces m) [] (only_before m c (chunk_pieces m) may (opened_only m stands.chunks));
      }

-- on any disk
pub opened_records : {D E C : Type 0} (readings : C → Option Readings) (core : Core D E C) → HasBegun core → NumbersAll (core.parts).catalogue.listed → IsEarly (core.upkeep).book
    → RecordsOpened readings core.clock core
opened_records readings core begun numbers early o R start = record {
  kept = tt;
  entries = begun.entries;
  calls = begun.calls;
  fault = begun.fault;
  last = sym start;
  time = keeps_time readings core.clock (readings core.clock) refl;
  early = subst (NoneAfter (core.upkeep).book) (sym begun.last) early;
  numbers = numbers (length (core.journal).entries.items);
}

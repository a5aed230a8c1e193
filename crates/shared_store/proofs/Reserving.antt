-- Entries that are reserved change nothing of what a core stands for.
use Rattle.std.proofs.Common.{◌≡◌, ◌≤◌, ℕ, length, Option, is_some, sym, ap, subst, ◌∙◌, arith}
use Rattle.std.specs.FinMap.{get}
use Rattle.std.specs.Prelude.{◌↔◌, IsSome}
use Rattle.disk_trait.specs.declared.disk.Disk.{Ghosts}
use Rattle.port_traits.specs.Readings.{Readings}
use Rattle.store_files.specs.Folder.{chunk_name}
use Rattle.atime_book.specs.Touches.{NoneAfter}
use Rattle.store_history.specs.LastTouches.{SameTouches}
use Rattle.core_state.specs.declared.parts.Parts.{Parts}
use Rattle.core_state.specs.declared.state.Core.{Core}
use Rattle.store_history.specs.ChunkFiles.{HoldsOnly}
use Rattle.core_state.specs.Collectors.{open_in}
use Rattle.store_history.specs.Foreign.{KeepsForeign}
use Rattle.core_state.specs.History.{History, KeepsTime, StandsFor, pieces_of, world}
use Rattle.core_state.specs.Holds.{IsOnDisk, Shows}
use Rattle.core_state.specs.KeepsTouches.{KeepsTouches, swept_of, touches_of_history}
use Rattle.core_state.specs.Numbers.{AreNumbered}
use Rattle.core_state.specs.Records.{Reaches, Records}
use Rattle.core_state.specs.Recovers.{Recovers}
use Rattle.core_state.specs.Remotes.{RemoteServes}
use Rattle.store_history.specs.RemoteDisk.{RemoteStays, failed_reads, faults_of}
use Rattle.core_state.specs.Sweeps.{ShowsOpen}
use Rattle.core_state.specs.Upkeeps.{touches_kept}
use Rattle.core_state.proofs.RemoteLemmas.{serves_then, stays_same}
use Rattle.shared_store.specs.Comes.{SameCore}

module _ {D E C : Type 0} (d : Ghosts D) (e : Ghosts E) (readings : C → Option Readings) (old new : Core D E C) (same : SameCore old new) where
  acts : length (new.journal).entries.items ≡ length (old.journal).entries.items
  acts = ap length (same.entries).entries

  numbers : AreNumbered (length (old.journal).entries.items) (old.parts).catalogue.listed → AreNumbered (length (new.journal).entries.items) (new.parts).catalogue.listed
  numbers are =
      subst (λ n. AreNumbered n (new.parts).catalogue.listed) (sym acts)
      (subst (λ (p : Parts D). AreNumbered (length (old.journal).entries.items) p.catalogue.listed) (sym same.parts) are)

  stands : (h : History) → StandsFor d readings old h → StandsFor d readings new h
  stands h s = record {
    legal = s.legal;
    entries = (same.entries).entries ∙ s.entries;
    calls = (same.entries).calls ∙ s.calls;
    fault = same.fault ∙ s.fault;
    last = same.last ∙ s.last;
    time = subst (λ (c : C). KeepsTime readings c h) (sym same.clock) s.time;
    reached = subst (λ (p : Parts D). (world h).calls ≤ d.calls p.disk) (sym same.parts) s.reached;
    honest = subst (λ (p : Parts D). d.honest p.disk) (sym same.parts) s.honest;
    remote = ap is_some same.remote ∙ s.remote;
    shows = subst (λ (p : Parts D). Shows p (world h).store) (sym same.parts) s.shows;
    collecting = ap open_in same.collector ∙ s.collecting;
    files = λ none. subst (λ (p : Parts D). IsOnDisk (d.content p.disk) (world h).store) (sym same.parts) (s.files none);
    chunks = λ none. subst (λ (p : Parts D). HoldsOnly (d.content p.disk) (pieces_of h)) (sym same.parts) (s.chunks none);
  }

  touches : (h : History) → KeepsTouches d old h → KeepsTouches d new h
  touches h m = record {
    touches = subst (λ u. SameTouches (touches_kept u) (touches_of_history h)) (sym same.upkeep) m.touches;
    present = λ none x digest.
        subst (λ (p : Parts D). IsSome (get (d.content p.disk) (chunk_name x)) ↔ IsSome ((touches_of_history h).last x)) (sym same.parts) (m.present (sym same.fault ∙ none) x digest);
    sweep = subst (λ n. ShowsOpen n (new.parts).catalogue.listed (world h).store.snapshots new.collector (swept_of h).sweep) (sym acts)
        (subst (λ (p : Parts D). ShowsOpen (length (old.journal).entries.items) p.catalogue.listed (world h).store.snapshots new.collector (swept_of h).sweep) (sym same.parts)
        (subst (λ c. ShowsOpen (length (old.journal).entries.items) (old.parts).catalogue.listed (world h).store.snapshots c (swept_of h).sweep) (sym same.collector) m.sweep));
    is_swept = m.is_swept;
    numbers = numbers m.numbers;
  }

  records : (h : History) → Records readings old h → Records readings new h
  records h r = record {
    kept = r.kept;
    entries = (same.entries).entries ∙ r.entries;
    calls = (same.entries).calls ∙ r.calls;
    fault = same.fault ∙ r.fault;
    last = same.last ∙ r.last;
    time = subst (λ (c : C). KeepsTime readings c h) (sym same.clock) r.time;
    early = subst (λ n. NoneAfter (new.upkeep).book n) (sym same.last) (subst (λ u. NoneAfter u.book old.last) (sym same.upkeep) r.early);
    numbers = numbers r.numbers;
  }

  recovers : (start : ℕ) (h : History) → Recovers d start old h → Recovers d start new h
  recovers start h r = record { begun = r.begun; each = λ t c from image. r.each t c from (subst (λ (p : Parts D). d.images p.disk t c) same.parts image) }

  serves : RemoteServes e old new
  serves = record {
    stays = subst (RemoteStays e old.remote) (sym same.remote) (stays_same e old.remote);
    failed = λ _.
        let entries = ap failed_reads (same.entries).entries in
        let faults = ap (faults_of e) same.remote in
        omega (arith, entries, faults);
  }

  pub reserved_reaches : (first : Core D E C) (began h : History) → Reaches d e readings first began old h → Reaches d e readings first began new h
  reserved_reaches first began h x = record {
    records = records h x.records;
    since = x.since;
    behind = x.behind;
    stands = λ L R s beside clear. stands _ (x.stands L R s beside clear);
    foreign = λ L R s beside clear none.
        subst (λ (p : Parts D). KeepsForeign d (first.parts).disk p.disk) (sym same.parts) (x.foreign L R s beside clear (sym same.fault ∙ none));
    recovers = λ told start L R s beside r clear. recovers start _ (x.recovers told start L R s beside r clear);
    touches = λ L R s beside clear. touches _ (x.touches L R s beside clear);
    remote = serves_then e first old new x.remote serves;
    alone = λ none. same.remote ∙ x.alone none;
  }

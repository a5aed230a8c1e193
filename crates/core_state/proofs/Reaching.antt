-- From a first core to where acts have led.
use Rattle.std.proofs.Common.{◌≡◌, ◌<◌, inl, inr, ℕ, false, List, [], ◌∷◌, ◌++◌, refl, ◌∙◌, sym, ap}
use Rattle.std.proofs.lemmas.List.{append_assoc, append-nil}
use Rattle.std.specs.Prelude.{Option}
use Rattle.disk_trait.specs.declared.disk.Disk.{Ghosts}
use Rattle.port_traits.specs.Readings.{Readings}
use Rattle.port_traits.specs.declared.clock.Clock as clocks
use Rattle.store_files.specs.Archive.{Snapshot}
use Rattle.store_history.specs.declared.act.Act.{Act}
use Rattle.store_history.specs.declared.act.Answer.{Answer}
use Rattle.store_history.specs.declared.act.Event.{Event}
use Rattle.core_state.specs.declared.state.Core.{Core}
use Rattle.core_state.specs.Applies.{ActApplies, ActKeeps, CoreApplies}
use Rattle.core_state.specs.History.{History, IsClear, StandsFor, event_of, then_event}
use Rattle.core_state.specs.KeepsTouches.{KeepsTouches}
use Rattle.core_state.specs.Records.{Reaches, Records, Starts, opened_with}
use Rattle.core_state.specs.Recovers.{Recovers, TellsMoments}
use Rattle.store_history.specs.RemoteDisk.{ReadNoRemote, ShowsRead, ShowsRemote, reads_remote}
use Rattle.core_state.proofs.Chunks.{clear_before}
use Rattle.core_state.proofs.ForeignLemmas.{foreign_kept, no_fault_before}
use Rattle.core_state.proofs.Recovering.{clear_for, kept_for}
use Rattle.core_state.proofs.RemoteLemmas.{serves_none, serves_then, shows_still}

-- ---- acts that read no remote

read_none : (vs : List Event) (v : Event) → ReadNoRemote (vs ++ v ∷ []) → ReadNoRemote vs × (reads_remote v.act v.answer ≡ false)
read_none [] v none = (tt, none.0)
read_none (u ∷ us) v none = let later = read_none us v none.1 in ((none.0, later.0), later.1)

shows_before : {E : Type 0} (e : Ghosts E) (remote : Option E) (R : Option (List Snapshot)) (vs : List Event) (v : Event) → ShowsRead e remote R (vs ++ v ∷ []) → ShowsRead e remote R vs
shows_before e remote R vs v (inl shown) = inl shown
shows_before e remote R vs v (inr none) = inr (read_none vs v none).0

-- ---- no act yet

pub reaches_first : {D E C : Type 0} (d : Ghosts D) (e : Ghosts E) (readings : C → Option Readings) (core : Core D E C) (h : History)
    → Records readings core h → Reaches d e readings core h core h
reaches_first d e readings core h r = record {
  records = r;
  since = [];
  behind = sym (append-nil h.events);
  stands = λ L R s beside _. s.stands;
  foreign = λ L R s beside clear none q own. refl;
  recovers = λ told start L R s beside r _. r;
  touches = λ L R s beside _. s.touches;
  remote = serves_none e core;
  alone = λ none. refl;
}

-- ---- one act more

module _ {D E C : Type 0} (d : Ghosts D) (e : Ghosts E) (clock : clocks.Ghosts C) (first : Core D E C) (began : History) (old new : Core D E C) (lane : ℕ) (act : Act) (answer : Answer)
    (lt : lane < 64) (applies : CoreApplies d e clock old new lane act answer) (alone : reads_remote act answer ≡ false → ActApplies d clock old new lane act answer)
    (keeps : ActKeeps d old new lane act answer) (h : History) (x : Reaches d e clock.readings first began old h) where
  abbrev event : Event
  event = event_of act answer (d.calls (new.parts).disk)

  abbrev longer : History
  longer = then_event h event

  abbrev acts : List Event
  acts = x.since ++ event ∷ []

  module _ (L : List Snapshot) (R : Option (List Snapshot)) (s : Starts d clock.readings first (opened_with L R began)) (beside : ShowsRead e first.remote R acts) (clear : IsClear longer) where
    was : IsClear h
    was = clear_before h event clear

    before : ShowsRead e first.remote R x.since
    before = shows_before e first.remote R x.since event beside

    stood : StandsFor d clock.readings old (opened_with L R h)
    stood = x.stands L R s before was

    touched : KeepsTouches d old (opened_with L R h)
    touched = x.touches L R s before was

    shown : ShowsRemote e first.remote R → ShowsRemote e old.remote R
    shown there = shows_still e first.remote old.remote R (x.remote).stays there

    stands : StandsFor d clock.readings new (opened_with L R longer)
    stands = by_remote beside
      where
        by_remote : ShowsRead e first.remote R acts → StandsFor d clock.readings new (opened_with L R longer)
        by_remote (inl there) =
            applies.history (opened_with L R h) stood (shown there) (kept_for d old act (opened_with L R h) touched) (clear_for act (opened_with L R longer) clear)
        by_remote (inr none) =
            (alone (read_none x.since event none).1).history (opened_with L R h) stood (kept_for d old act (opened_with L R h) touched) (clear_for act (opened_with L R longer) clear)

    keeps_on : KeepsTouches d new (opened_with L R longer)
    keeps_on = by_remote beside
      where
        by_remote : ShowsRead e first.remote R acts → KeepsTouches d new (opened_with L R longer)
        by_remote (inl there) = applies.touches (opened_with L R h) stood (shown there) touched (clear_for act (opened_with L R longer) clear)
        by_remote (inr none) = (alone (read_none x.since event none).1).touches (opened_with L R h) stood touched (clear_for act (opened_with L R longer) clear)

    recovers_on : TellsMoments d → (start : ℕ) → Recovers d start old (opened_with L R h) → Recovers d start new (opened_with L R longer)
    recovers_on told start r = by_remote beside
      where
        by_remote : ShowsRead e first.remote R acts → Recovers d start new (opened_with L R longer)
        by_remote (inl there) = applies.recovers told start (opened_with L R h) stood (shown there) clear (kept_for d old act (opened_with L R h) touched) r
        by_remote (inr none) = (alone (read_none x.since event none).1).recovers told start (opened_with L R h) stood clear (kept_for d old act (opened_with L R h) touched) r

  pub reaches_more : Reaches d e clock.readings first began new longer
  reaches_more = record {
    records = applies.records h x.records;
    since = acts;
    behind = ap (λ vs. vs ++ event ∷ []) x.behind ∙ append_assoc began.events x.since (event ∷ []);
    stands = stands;
    foreign = λ L R s beside clear none q own.
        let so = stood L R s beside clear in
        let calm = no_fault_before _ (answer.entry).kind old.fault (sym (applies.answers).fault ∙ none) in
        foreign_kept d old new _ lane _ act answer lt so.shows so.honest (applies.answers).fault applies.cause keeps none q own
        ∙ x.foreign L R s (before L R s beside clear) (was L R s beside clear) calm q own;
    recovers = λ told start L R s beside r clear.
        recovers_on L R s beside clear told start (x.recovers told start L R s (before L R s beside clear) r (was L R s beside clear));
    touches = keeps_on;
    remote = serves_then e first old new x.remote applies.remote;
    alone = λ none. let parts = read_none x.since event none in keeps.remote parts.1 ∙ x.alone parts.0;
  }

-- Sessions that were served are answered as by the plain store.
use Rattle.disk_trait.specs.declared.disk.Disk.{Ghosts}
use Rattle.disk_trait.specs.declared.disk.DiskError.{DiskError}
use Rattle.std.proofs.Common.{◌≡◌, ◌≤◌, ℕ, zero, suc, true, false, ◌==◌, ◌⊎◌, inl, inr, List, [], ◌∷◌, ◌++◌, map, length, Option, Some, None, is_some, IfSome, IsTrue, Result, Ok, OnOk, refl, sym, ap, subst, ◌∙◌, arith}
use Rattle.std.specs.FinMap.{get}
use Rattle.port_traits.specs.declared.sink.Sink as sinks
use Rattle.port_traits.specs.declared.source.Source as sources
use Rattle.port_traits.specs.Readings.{Readings}
use Rattle.disk_trait.specs.Files.{Files}
use Rattle.std.specs.List.{All}
use Rattle.store_types.specs.Names.{IsKey}
use Rattle.store_types.specs.declared.order.Entry.{Entry}
use Rattle.store_types.specs.declared.order.TheConstants.{FAULT_KIND}
use Rattle.store_files.specs.Archive.{Snapshot}
use Rattle.store_model.specs.Clash.{NoClash, chunk_pieces}
use Rattle.store_model.specs.Load.{load}
use Rattle.store_model.specs.Stands.{StandsFor as Stands}
use Rattle.store_model.specs.AdminSteps.{list_row}
use Rattle.store_model.specs.Store.{Store}
use Rattle.store_model.specs.Weave.{Woven, weave}
use Rattle.store_history.specs.declared.act.Event.{Event}
use Rattle.store_history.specs.History.{Opening, World, opened, after, after_all, moved, entries, sent, kind, kind_of, EntryKind, step_kind, pass_kind, short_kind, start_kind, close_kind, fault_kind, end_kind, remote_kind, no_kind}
use Rattle.store_history.specs.LaneRun.{plain_text}
use Rattle.store_history.specs.LastTouches.{LastTouches}
use Rattle.store_history.proofs.Whole.{served_woven}
use Rattle.store_history.specs.Legal.{IsTimed, moment_after, readings_left}
use Rattle.store_history.specs.Remote.{IsRemote}
use Rattle.store_history.specs.Saved.{HoldsBook, saved_book}
use Rattle.store_history.specs.Sweeping.{swept}
use Rattle.store_history.specs.Woven.{AreLanes}
use Rattle.store_files.specs.Order.{keeps_rules}
use Rattle.snapshot_files.proofs.Loading.{loaded}
use Rattle.core_state.specs.declared.kept.Listed.{Listed}
use Rattle.core_state.specs.declared.state.Core.{Core}
use Rattle.core_state.specs.History.{History, StandsFor, began, world}
use Rattle.core_state.specs.KeepsTouches.{KeepsTouches, touches_of_history}
use Rattle.store_history.specs.Foreign.{IsForeign}
use Rattle.core_state.specs.Records.{Records, Reaches, Starts, opened_with}
use Rattle.store_history.specs.RemoteDisk.{ReadNoRemote}
use Rattle.core_state.specs.Recovers.{Recovers, TellsMoments}
use Rattle.snapshot_files.specs.Leaving.{IsFileOf, IsLeaving, Cleans}
use Rattle.core_opening.specs.Opening.{HasBook, TouchesOpened, RecoversOpened, StandsOpened}
use Rattle.store_history.specs.Opened.{opening_of}
use Rattle.shared_store.specs.Comes.{with_events}
use Rattle.store_history.specs.declared.port.LaneReport.{LaneReport}
use Rattle.store_history.specs.declared.port.Port.{Port}
use Rattle.lane.specs.Entries.{has_kind}
use Rattle.lane.specs.Served.{EachRan, RanAs, Run}
use Rattle.pbs_server.specs.Causes.{NoDiskFault}
use Rattle.pbs_server.specs.Ended.{rows_of}
use Rattle.pbs_server.specs.AtRest.{ActsLeave, HoldsStore, SaveLeaves}
use Rattle.pbs_server.specs.Headline.{HasTold, IsBeside, IsPlain, StopsLeave, inputs_of, told_by}
use Rattle.pbs_server.specs.Saving.{EndsSaved, saving_of}
use Rattle.pbs_server.specs.Statuses.{endings_of}
use Rattle.pbs_server.proofs.Acknowledged.{found_after}
use Rattle.pbs_server.proofs.Lanes.{are_served, inputs_count, run_at}
use Rattle.pbs_server.proofs.Remotes.{beside_first, beside_list, beside_there, list_keys}
use Rattle.pbs_server.proofs.Rows.{rows_shown}
use Rattle.pbs_server.proofs.Rules.{kept_rules}
use Rattle.pbs_server.proofs.Tests.{neither}
use Rattle.pbs_server.proofs.BookSaved.{saving_failed}

-- only a fault's entry leaves a fault
moved_fault : (R : Option (List Snapshot)) (w : World) (k m : ℕ) (a : Rattle.store_history.specs.declared.act.Act.Act) (x : EntryKind) → (x ≡ fault_kind → ⊥) → (moved R w k m a x).fault ≡ w.fault
unfolding moved
moved_fault R w k m a step_kind ne = refl
moved_fault R w k m a pass_kind ne = refl
moved_fault R w k m a short_kind ne = refl
moved_fault R w k m a start_kind ne = refl
moved_fault R w k m a close_kind ne = refl
moved_fault R w k m a fault_kind ne = absurd (ne refl)
moved_fault R w k m a end_kind ne = refl
moved_fault R w k m a remote_kind ne = refl
moved_fault R w k m a no_kind ne = refl

fault_is_five : (n : ℕ) → kind_of n ≡ fault_kind → n ≡ 5
fault_is_five zero e = absurd (apart e)
  where
    apart : step_kind ≡ fault_kind → ⊥
    apart x = cc
fault_is_five (suc zero) e = absurd (apart e)
  where
    apart : pass_kind ≡ fault_kind → ⊥
    apart x = cc
fault_is_five (suc (suc zero)) e = absurd (apart e)
  where
    apart : short_kind ≡ fault_kind → ⊥
    apart x = cc
fault_is_five (suc (suc (suc zero))) e = absurd (apart e)
  where
    apart : start_kind ≡ fault_kind → ⊥
    apart x = cc
fault_is_five (suc (suc (suc (suc zero)))) e = absurd (apart e)
  where
    apart : close_kind ≡ fault_kind → ⊥
    apart x = cc
fault_is_five (suc (suc (suc (suc (suc zero))))) e = refl
fault_is_five (suc (suc (suc (suc (suc (suc zero)))))) e = absurd (apart e)
  where
    apart : end_kind ≡ fault_kind → ⊥
    apart x = cc
fault_is_five (suc (suc (suc (suc (suc (suc (suc zero))))))) e = absurd (apart e)
  where
    apart : remote_kind ≡ fault_kind → ⊥
    apart x = cc
fault_is_five (suc (suc (suc (suc (suc (suc (suc (suc n)))))))) e = absurd (apart e)
  where
    apart : no_kind ≡ fault_kind → ⊥
    apart x = cc

not_five : (n : ℕ) → n == 5 ≡ false → n ≡ 5 → ⊥
not_five n differs is = absurd (true_false (sym (subst (λ x. x == 5 ≡ true) (sym is) refl) ∙ differs))
  where
    true_false : true ≡ false → ⊥
    true_false x = cc

pub no_fault : (R : Option (List Snapshot)) (w : World) (h : List Event) → has_kind 5 (entries h) ≡ false → (after_all R w h).fault ≡ w.fault
unfolding after after_all
no_fault R w [] none_is = refl
no_fault R w (e ∷ es) none_is =
    let both = neither (kind e == FAULT_KIND) (has_kind 5 (entries es)) none_is in
    no_fault R (after R w e) es both.1
    ∙ moved_fault R w _ _ _ (kind_of (kind e)) (λ is. not_five (kind e) both.0 (fault_is_five (kind e) is))

-- what opening leaves at names that are none of the store's
foreign_cleaned : (old new : Files) → Cleans old new → (q : List ℕ) → IsForeign q → get new q ≡ get old q
foreign_cleaned old new cleans q own = by_name (cleans.only q)
  where
    no_leaving : IsLeaving old q → ⊥
    no_leaving (inl temporary) = own.lasting temporary.0 temporary.1
    no_leaving (inr orphan) = let file : IsFileOf orphan.0 q = orphan.2 in own.file orphan.0 file.0 file.2

    by_name : (get new q ≡ get old q) ⊎ ((get new q ≡ None) × IsLeaving old q) → get new q ≡ get old q
    by_name (inl same) = same
    by_name (inr gone) = absurd (no_leaving gone.1)

-- ---- the last moment of the saved book

-- opened at the core's last moment
abbrev pub opening_at : {D E C : Type 0} → Ghosts D → D → Core D E C → List Snapshot → Opening
opening_at d disk first snapshots = record (opening_of d disk (first.parts).disk snapshots) { moment = first.last }

began_at : {D E C : Type 0} (d : Ghosts D) (readings : C → Option Readings) (core : Core D E C) (o : Opening) (R : Option (List Snapshot)) (clock : Option Readings)
    → StandsFor d readings core (began o R clock) → core.last ≡ o.moment
unfolding after_all
began_at d readings core o R clock s = s.last

le_more : (a b c : ℕ) → a ≤ b → b ≤ c → a ≤ c
le_more a b c first then = omega (arith, first, then)

-- ---- the last store

woven_is : {E : Type 0} (r : Result Woven E) (v w : Woven) → r ≡ Ok v → r ≡ Ok w → v ≡ w
woven_is r v w a b = let both : Ok v ≡ Ok w = sym a ∙ b in cc

-- the plain store's answers give one
same_store : (o : Opening) (R : Option (List Snapshot)) (since now : ℕ) (is_honest : Type 0) (runs : List Run) (events : List Event) (order : List Entry) (not_saved : Option DiskError) (reports : List LaneReport) (before at_rest files : Files)
    (p : IsPlain o R since now is_honest runs events order not_saved reports before at_rest files) (s : Store)
    → weave (load before) R order (inputs_of runs) (endings_of reports) ≡ Ok (record { store = s; replies = map plain_text (told_by runs) }) → s ≡ p.store
same_store o R since now is_honest runs events order not_saved reports before at_rest files p s is =
    ap (λ (w : Woven). w.store) (woven_is (weave (load before) R order (inputs_of runs) (endings_of reports)) (record { store = s; replies = map plain_text (told_by runs) })
    (record { store = p.store; replies = map plain_text (told_by runs) }) is p.woven)

-- what the sessions did on any disk, and on an honest one, which was opened at a moment; and the snapshots that the core then keeps
pub record HasBoth {D E S K : Type 0} (d : Ghosts D) (e : Ghosts E) (source : sources.Ghosts S) (sink : sinks.Ghosts K) (clock : Option Readings) (remote remote' : Option E) (start : ℕ) (disk opened at_rest last : D)
    (old new : List (Port S K)) (order : List Entry) (calls : List ℕ) (not_saved : Option DiskError) (reports : List LaneReport) (listed : List Listed) (touches : LastTouches) : Type 0 where
  pub told : HasTold clock source sink old new order calls reports
  pub rests : ActsLeave d opened told.events order calls at_rest touches
  pub saves : SaveLeaves d order not_saved (moment_after told.since told.events) touches at_rest last
  pub since_is : d.honest disk → told.since ≡ (saved_book (d.content opened)).moment
  pub plain : (L : List Snapshot) (R : Option (List Snapshot)) → IsBeside e remote R told.events → d.honest disk → Stands (d.content disk) L → NoClash (chunk_pieces (d.content disk) ++ sent told.events)
      → IsPlain (opening_of d disk opened L) R told.since (d.calls last) (d.honest last) told.runs told.events order not_saved reports (d.content disk) (d.content at_rest) (d.content last)
  pub stops : (L : List Snapshot) (R : Option (List Snapshot)) → IsBeside e remote R told.events → d.honest disk → Stands (d.content disk) L → NoClash (chunk_pieces (d.content disk) ++ sent told.events)
      → StopsLeave d start last R (opening_of d disk opened L) told.events
  pub unread : ReadNoRemote told.events → remote' ≡ remote
  pub rows : (L : List Snapshot) (R : Option (List Snapshot)) → IsBeside e remote R told.events → d.honest disk → Stands (d.content disk) L → NoClash (chunk_pieces (d.content disk) ++ sent told.events)
      → (p : IsPlain (opening_of d disk opened L) R told.since (d.calls last) (d.honest last) told.runs told.events order not_saved reports (d.content disk) (d.content at_rest) (d.content last))
      → rows_of listed ≡ map list_row (p.store).snapshots

pub has_both : {D E C S K : Type 0} (d : Ghosts D) (e : Ghosts E) (source : sources.Ghosts S) (sink : sinks.Ghosts K) (readings : C → Option Readings) (clock : C) (disk : D) (remote : Option E) (first core saved : Core D E C)
    (old new : List (Port S K)) (order : List Entry) (calls : List ℕ) (not_saved : Option DiskError) (reports : List LaneReport) (runs : List Run) (events : List Event) (last : D) (touches : LastTouches)
    → ActsLeave d (first.parts).disk events order calls (core.parts).disk touches → SaveLeaves d order not_saved (moment_after first.last events) touches (core.parts).disk last
    → TellsMoments d → first.remote ≡ remote → StandsOpened d readings disk clock first → TouchesOpened d readings disk clock first → (recovers : RecoversOpened d readings disk clock first)
    → first.last ≡ (first.upkeep).book.moment → (d.honest disk → HasBook d first)
    → (d.honest disk → Cleans (d.content disk) (d.content (first.parts).disk))
    → Reaches d e readings first (began (opening_at d disk first []) None (readings clock)) core (with_events (began (opening_at d disk first []) None (readings clock)) events)
    → AreLanes (length old) events → EachRan (RanAs source sink) 0 old new reports runs events
    → EndsSaved d core saved not_saved
    → order ≡ (saved.journal).entries.items → calls ≡ (saved.journal).calls.items → last ≡ (saved.parts).disk
    → HasBoth d e source sink (readings clock) remote core.remote (recovers.opens).start disk (first.parts).disk (core.parts).disk last old new order calls not_saved reports (saved.parts).catalogue.listed touches
has_both {D = D} {E = E} {C = C} d e source sink readings clock disk remote first core saved old new order calls not_saved reports runs events last touches rests saves moments handed opens booking recovers last_is booked cleaned reaches lanes each ends order_as calls_as disk_as = record {
  told = record {
    runs = runs;
    events = events;
    each = each;
    lanes = lanes;
    rules = subst (λ es. IsTrue (keeps_rules (length old) es)) (sym order_is) fits;
    since = first.last;
    times = timed (readings clock) r.time;
    kept = r.kept;
    order_is = order_is;
    calls_are = calls_as ∙ ap (λ x. (x.journal).calls.items) ends.rest ∙ r.calls;
  };
  rests = rests;
  saves = saves;
  since_is = λ honest. last_is ∙ ((booked honest).keeps).read;
  plain = λ L R beside honest stands clear.
      let there = ap is_some handed ∙ beside_there e remote R events beside in
      let at = last_at L R there honest stands in
      let starts = begins L R at there honest stands in
      let shows = beside_first e remote first.remote R events reaches.since handed reaches.behind beside in
      subst (λ o. IsPlain o R first.last (d.calls last) (d.honest last) runs events order not_saved reports (d.content disk) (d.content (core.parts).disk) (d.content last)) (sym (is_opening L at))
      (plain L R at (beside_list e remote R events beside) (list_keys (d.content disk) L stands) (loaded (d.content disk) L stands) (reaches.stands L R starts shows clear)
      (reaches.touches L R starts shows clear)
      (λ none q own. reaches.foreign L R starts shows clear none q own ∙ foreign_cleaned _ _ (cleaned honest) q own));
  stops = λ L R beside honest stands clear.
      let there = ap is_some handed ∙ beside_there e remote R events beside in
      let at = last_at L R there honest stands in
      let starts = begins L R at there honest stands in
      let shows = beside_first e remote first.remote R events reaches.since handed reaches.behind beside in
      let before = subst (λ o. Recovers d (recovers.opens).start first (began o R (readings clock))) (is_opening L at) (recovers.recovers L R stands) in
      let ended = reaches.stands L R starts shows clear in
      let after = (ends.history).recovers readings (recovers.opens).start (history L R) ended (reaches.recovers moments (recovers.opens).start L R starts shows before clear) in
      subst (λ o. StopsLeave d (recovers.opens).start last R o events) (sym (is_opening L at))
      (λ t c from image.
      let found = after.each t c from (subst (λ x. d.images x t c) disk_as image) in
      (found.0, found.1, found_after R (opening L) events t found.0 stands.order ended.legal found.2));
  unread = λ none. reaches.alone (subst ReadNoRemote reaches.behind none) ∙ handed;
  rows = λ L R beside honest stands clear p.
      let there = ap is_some handed ∙ beside_there e remote R events beside in
      let at = last_at L R there honest stands in
      let shows = beside_first e remote first.remote R events reaches.since handed reaches.behind beside in
      let s = reaches.stands L R (begins L R at there honest stands) shows clear in
      let is = woven L R (beside_list e remote R events beside) (list_keys (d.content disk) L stands) (loaded (d.content disk) L stands) s in
      ap (λ x. rows_of (x.parts).catalogue.listed) ends.rest
      ∙ rows_shown (core.parts).catalogue.listed (world (history L R)).store (s.shows).catalogue ((s.shows).sound).each
      ∙ ap (λ (t : Store). map list_row t.snapshots)
      (same_store (opening_of d disk (first.parts).disk L) R first.last (d.calls last) (d.honest last) runs events order not_saved reports (d.content disk) (d.content (core.parts).disk) (d.content last) p (world (history L R)).store is);
}
  where
    opening : List Snapshot → Opening
    opening L = opening_at d disk first L

    history : List Snapshot → Option (List Snapshot) → History
    history L R = with_events (began (opening L) R (readings clock)) events

    last_at : (L : List Snapshot) (R : Option (List Snapshot)) → is_some first.remote ≡ is_some R → d.honest disk → Stands (d.content disk) L → first.last ≡ (saved_book (d.content disk)).moment
    last_at L R there honest stands = began_at d readings first (opening_of d disk (first.parts).disk L) R (readings clock) (opens L R there honest stands)

    is_opening : (L : List Snapshot) → first.last ≡ (saved_book (d.content disk)).moment → opening_of d disk (first.parts).disk L ≡ opening L
    is_opening L at = ap (λ m. record (opening_of d disk (first.parts).disk L) { moment = m }) (sym at)

    begins : (L : List Snapshot) (R : Option (List Snapshot)) → first.last ≡ (saved_book (d.content disk)).moment → is_some first.remote ≡ is_some R → d.honest disk → Stands (d.content disk) L
        → Starts d readings first (opened_with L R (began (opening_at d disk first []) None (readings clock)))
    begins L R at there honest stands = record {
      stands = subst (λ o. StandsFor d readings first (began o R (readings clock))) (is_opening L at) (opens L R there honest stands);
      touches = subst (λ o. KeepsTouches d first (began o R (readings clock))) (is_opening L at) (booking L R honest stands);
    }

    r : Records readings core (with_events (began (opening []) None (readings clock)) events)
    r = reaches.records

    order_is : order ≡ entries events
    order_is = order_as ∙ ap (λ x. (x.journal).entries.items) ends.rest ∙ r.entries

    fits : IsTrue (keeps_rules (length old) (entries events))
    fits =
        let count = inputs_count source sink old new reports runs events each in
        subst (λ n. IsTrue (keeps_rules n (entries events))) count
        (kept_rules first.last events (inputs_of runs) (endings_of reports) (told_by runs) r.kept (subst (λ n. AreLanes n events) (sym count) lanes)
        (run_at source sink old new reports runs events each))

    timed : (c : Option Readings) → IfSome c (λ x. IsTimed x first.last events × (readings core.clock ≡ Some (readings_left x events)))
        → IfSome c (λ x. IsTimed x first.last events)
    timed None t = t
    timed (Some c) t = t.0

    calm : (L : List Snapshot) (R : Option (List Snapshot)) → has_kind 5 order ≡ false → (after_all R (opened (opening L)) events).fault ≡ None
    calm L R is = no_fault R (opened (opening L)) events (sym (ap (has_kind 5) order_is) ∙ is)

    -- the core stands for it, once the book was saved
    later : (L : List Snapshot) (R : Option (List Snapshot)) → StandsFor d readings core (history L R) → NoDiskFault order not_saved → StandsFor d readings saved (history L R)
    later L R s unfailed = (ends.history).stands readings (λ is. unfailed.saving (saving_failed not_saved is)) (history L R) s

    -- and its book is that of the history
    minded_later : (L : List Snapshot) (R : Option (List Snapshot)) → StandsFor d readings core (history L R) → KeepsTouches d core (history L R) → NoDiskFault order not_saved
        → KeepsTouches d saved (history L R)
    minded_later L R s m unfailed = (ends.history).touches readings (λ is. unfailed.saving (saving_failed not_saved is)) (history L R) s m

    -- the plain store's answers
    woven : (L : List Snapshot) (R : Option (List Snapshot)) → IsRemote R → All (λ x. IsKey x.key) L → load (d.content disk) ≡ L → StandsFor d readings core (history L R)
        → weave (load (d.content disk)) R order (inputs_of runs) (endings_of reports) ≡ Ok (record { store = (world (history L R)).store; replies = map plain_text (told_by runs) })
    woven L R beside keys loads s =
        let w = (world (history L R)).store in
        let served = are_served source sink old new reports runs events each (opening L) R beside keys s.legal lanes in
        subst (λ xs. weave xs R order (inputs_of runs) (endings_of reports) ≡ Ok (record { store = w; replies = map plain_text (told_by runs) })) (sym loads)
        (subst (λ es. weave L R es (inputs_of runs) (endings_of reports) ≡ Ok (record { store = w; replies = map plain_text (told_by runs) })) (sym order_is)
        (served_woven (opening L) R events (inputs_of runs) (endings_of reports) (told_by runs) served))

    plain : (L : List Snapshot) (R : Option (List Snapshot)) → first.last ≡ (saved_book (d.content disk)).moment → IsRemote R → All (λ x. IsKey x.key) L → load (d.content disk) ≡ L
        → StandsFor d readings core (history L R) → KeepsTouches d core (history L R)
        → (core.fault ≡ None → (q : List ℕ) → IsForeign q → get (d.content (core.parts).disk) q ≡ get (d.content disk) q)
        → IsPlain (opening L) R first.last (d.calls last) (d.honest last) runs events order not_saved reports (d.content disk) (d.content (core.parts).disk) (d.content last)
    plain L R at beside keys loads s m foreign =
        let h = history L R in
        record {
          store = (world h).store;
          woven = woven L R beside keys loads s;
          legal = s.legal;
          collected = m.is_swept;
          since_is = at;
          reached = subst (λ x. (world h).calls ≤ d.calls x) (sym disk_as) (le_more (world h).calls (d.calls (core.parts).disk) (d.calls (saved.parts).disk) s.reached ends.later);
          honest = subst d.honest (sym disk_as) ((ends.serves).kept.0 s.honest);
          rested = λ five. holds core s m (calm L R five) (s.fault ∙ calm L R five) (foreign (s.fault ∙ calm L R five));
          holds = λ unfailed.
              let none : (world h).fault ≡ None = calm L R unfailed.acts in
              subst (λ x. HoldsStore (world h).store (chunk_pieces (d.content disk) ++ sent events) (swept R (opening L) events).touches (d.content disk) (d.content x)) (sym disk_as)
              (holds saved (later L R s unfailed) (minded_later L R s m unfailed) none (ap (λ x. x.fault) ends.rest ∙ s.fault ∙ none)
              (λ q own. ends.foreign s.honest unfailed.saving q own ∙ foreign (s.fault ∙ none) q own));
          book = λ is saved_is.
              let held : OnOk (saving_of not_saved) (HoldsBook (d.content (saved.parts).disk) core.last (touches_of_history h)) = (ends.history).holds readings h (s.fault ∙ calm L R is) s m in
              let kept : HoldsBook (d.content (saved.parts).disk) core.last (touches_of_history h) = subst (λ o. OnOk (saving_of o) (HoldsBook (d.content (saved.parts).disk) core.last (touches_of_history h))) saved_is held in
              subst (λ x. HoldsBook (d.content x) (moment_after first.last events) (swept R (opening L) events).touches) (sym disk_as)
              (subst (λ n. HoldsBook (d.content (saved.parts).disk) n (swept R (opening L) events).touches) r.last kept);
        }
      where
        holds : (c : Core D E C) → StandsFor d readings c (history L R) → KeepsTouches d c (history L R) → (world (history L R)).fault ≡ None → c.fault ≡ None
            → ((q : List ℕ) → IsForeign q → get (d.content (c.parts).disk) q ≡ get (d.content disk) q)
            → HoldsStore (world (history L R)).store (chunk_pieces (d.content disk) ++ sent events) (swept R (opening L) events).touches (d.content disk) (d.content (c.parts).disk)
        holds c stands minds none unfailed same = record {
          stands = (stands.files none).snapshots;
          chunks = stands.chunks none;
          left = minds.present unfailed;
          foreign = same;
        }

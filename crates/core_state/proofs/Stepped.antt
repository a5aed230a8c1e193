-- An act of a collector after its start is entered: the core stands for the history with it.
use Rattle.disk_trait.specs.declared.disk.Disk.{Ghosts}
use Rattle.std.proofs.Common.{◌≡◌, ◌↔◌, ◌<◌, ◌≤◌, ℕ, Bool, true, false, ◌==◌, cond, List, [], is_some, length, Option, Some, None, IfSome, refl, sym, ap, subst, ◌∙◌, arith}
use Rattle.std.specs.Prelude.{option_map}
use Rattle.std.proofs.lemmas.List.{length-map}
use Rattle.disk_trait.specs.Disk.{Rose, Serves}
use Rattle.port_traits.specs.Readings.{Readings}
use Rattle.store_types.specs.declared.refusal.Refusal.TheVariants.{DiskFault, Halted, NoMemory, WrongState}
use Rattle.store_files.specs.Archive.{Snapshot}
use Rattle.wire_commands.specs.declared.reply.Reply.{Reply}
use Rattle.wire_commands.specs.declared.reply.Reply.TheVariants.{Refused}
use Rattle.store_model.specs.Lanes.{Collecting}
use Rattle.store_model.specs.Store as model
use Rattle.store_model.specs.Store.{session}
use Rattle.store_model.specs.Weave.{fault_refusal, first_fault}
use Rattle.store_history.specs.declared.act.Act.TheVariants.{Step}
use Rattle.store_history.specs.declared.act.Answer.{Answer}
use Rattle.store_history.specs.Acts.{sweeping}
use Rattle.store_history.specs.History.{act_outcome, entry, kind_of, moved, open_on}
use Rattle.store_history.specs.Legal.{Reports, Right}
use Rattle.store_history.specs.Legal as legal
use Rattle.core_state.specs.declared.collector.Collector.{Collector}
use Rattle.core_state.specs.declared.collector.Early.{Early}
use Rattle.core_state.specs.declared.collector.Early.TheVariants as early
use Rattle.core_state.specs.declared.state.Core.{Core}
use Rattle.store_history.specs.Answered.{fault_after}
use Rattle.core_state.specs.Begins.{IsBegun, IsReady, ReadsClock}
use Rattle.store_history.specs.ChunkFiles.{HoldsOnly}
use Rattle.core_state.specs.Collectors.{OpenOn, closed_on, collector_by, ended_if, is_cut, is_on, open_in, shown_collecting}
use Rattle.core_state.specs.History.{History, StandsFor, event_of, pieces_of, then_event, world}
use Rattle.core_state.specs.Holds.{IsOnDisk, Shows}
use Rattle.core_state.specs.Settles.{IsEntered}
use Rattle.core_state.specs.Shown.{shown_session}
use Rattle.core_state.specs.States.{state_of}
use Rattle.core_state.specs.Unchanged.{SameKept}
use Rattle.core_state.specs.Wanted.{session_at}
use Rattle.core_state.proofs.Acting.{shows_same}
use Rattle.core_state.proofs.Answering.{same_honest, where_none, where_some}
use Rattle.core_state.proofs.Chunks.{only_same}
use Rattle.core_state.proofs.Collecting.{closed_shown, cut_is, cut_shown}
use Rattle.core_state.proofs.Commanding.{session_shown}
use Rattle.core_state.proofs.Entered.{entered_stands, events_are, moves}

-- What the act is entered on: since it was begun disk, book and collector have changed alone, and the place of the first fault.
pub record IsStepped {D E C : Type 0} (d : Ghosts D) (readings : C → Option Readings) (old acted new : Core D E C) (k m n : ℕ) (reply : Option Reply) (answer : Answer) : Type 0 where
  pub clock : ReadsClock readings old.clock acted.clock old.last m
  pub entries : (acted.journal).entries.items ≡ (old.journal).entries.items
  pub calls : (acted.journal).calls.items ≡ (old.journal).calls.items
  pub remote : acted.remote ≡ old.remote
  pub fault : acted.fault ≡ fault_after (length (old.journal).entries.items) n old.fault
  pub kept : SameKept old.parts acted.parts
  pub count : d.faults (old.parts).disk ≤ d.faults (acted.parts).disk
  pub honest : d.honest (old.parts).disk ↔ d.honest (acted.parts).disk
  pub rose : n ≡ 5 → old.fault ≡ None → Rose (d.faults (old.parts).disk) (d.faults (acted.parts).disk)
  pub later : d.calls (old.parts).disk ≤ d.calls (acted.parts).disk
  -- after the disk failed it was not called
  pub halted : IfSome old.fault (λ _. (acted.parts).disk ≡ (old.parts).disk)
  pub entered : IsEntered d acted new k m n reply answer

-- ---- the lane's collector

some_none : {A : Type 0} (x : A) → Some x ≡ None → ⊥
some_none x e = cc

none_some : {A : Type 0} (x : A) → None ≡ Some x → ⊥
none_some x e = cc

some_same : {A : Type 0} (x y : A) → Some x ≡ Some y → x ≡ y
some_same x y e = cc

abbrev opens : ℕ → Option Early → Option OpenOn
opens lane ended = Some (record { lane = lane; ended = ended })

-- what ended the lane's early, where it is open
abbrev on_of : ℕ → Option OpenOn → Option (Option Early)
on_of k None = None
on_of k (Some o) = cond (o.lane == k) (Some o.ended) None

module _ (k : ℕ) where
  shown_on : (w : Option Collecting) → on_of k (shown_collecting w) ≡ option_map ended_if (open_on k w)
  shown_on None = refl
  shown_on (Some v) = by_test (v.lane == k)
    where
      by_test : (b : Bool) → cond b (Some (ended_if v.is_out_of_memory)) None ≡ option_map ended_if (cond b (Some v.is_out_of_memory) None)
      by_test true = refl
      by_test false = refl

  off_of : (c : Option Collector) → is_on k c ≡ false → on_of k (open_in c) ≡ None
  off_of None off = refl
  off_of (Some x) off = ap (λ b. cond b (Some x.ended) None) off

  ended_of : (x : Collector) → is_on k (Some x) ≡ true → on_of k (open_in (Some x)) ≡ Some x.ended
  ended_of x on = ap (λ b. cond b (Some x.ended) None) on

  map_none : (o : Option Bool) → option_map ended_if o ≡ None → o ≡ None
  map_none None is = refl
  map_none (Some b) is = absurd (some_none (ended_if b) is)

  map_going : (o : Option Bool) → option_map ended_if o ≡ Some None → o ≡ Some false
  map_going None is = absurd (none_some None is)
  map_going (Some false) is = refl
  map_going (Some true) is = absurd (some_none early.NoMemory (some_same (Some early.NoMemory) None is))

  map_ended : (o : Option Bool) (x : Early) → option_map ended_if o ≡ Some (Some x) → (o ≡ Some true) × (x ≡ early.NoMemory)
  map_ended None x is = absurd (none_some (Some x) is)
  map_ended (Some false) x is = absurd (none_some x (some_same None (Some x) is))
  map_ended (Some true) x is = (refl, sym (some_same early.NoMemory x (some_same (Some early.NoMemory) (Some x) is)))

  -- it is not open
  pub off_shown : (c : Option Collector) (w : Option Collecting) → open_in c ≡ shown_collecting w → is_on k c ≡ false → open_on k w ≡ None
  off_shown c w is off = map_none (open_on k w) (sym (shown_on w) ∙ sym (ap (on_of k) is) ∙ off_of c off)

  -- it goes on
  pub going_shown : (x : Collector) (w : Option Collecting) → open_in (Some x) ≡ shown_collecting w → is_on k (Some x) ≡ true → x.ended ≡ None → open_on k w ≡ Some false
  going_shown x w is on goes = map_going (open_on k w) (sym (shown_on w) ∙ sym (ap (on_of k) is) ∙ ended_of x on ∙ ap (λ o. Some o) goes)

  -- it was ended early: memory was wanting
  pub ended_shown : (x : Collector) (w : Option Collecting) (e : Early) → open_in (Some x) ≡ shown_collecting w → is_on k (Some x) ≡ true → x.ended ≡ Some e
      → (open_on k w ≡ Some true) × (e ≡ early.NoMemory)
  ended_shown x w e is on ended = map_ended (open_on k w) e (sym (shown_on w) ∙ sym (ap (on_of k) is) ∙ ended_of x on ∙ ap (λ o. Some o) ended)

  -- memory was not wanting before, where it was not ended early
  pub uncut_shown : (c : Option Collector) (w : Option Collecting) → open_in c ≡ shown_collecting w → is_cut k c ≡ false → open_on k w ≡ Some true → ⊥
  uncut_shown c w is uncut short = true_false (sym (cut_is k c w is short) ∙ uncut)
    where
      true_false : true ≡ false → ⊥
      true_false e = cc

-- ---- which session the lane has

state_shown : (snapshots : List Snapshot) (x : model.Session) → state_of (shown_session snapshots x) ≡ legal.state_of x
state_shown snapshots model.none = refl
state_shown snapshots (model.writer w) = refl
state_shown snapshots (model.reader r) = refl

-- ---- one event more

module _ {D E C : Type 0} (d : Ghosts D) (readings : C → Option Readings) (old acted new : Core D E C) (h : History) (k m : ℕ) (answer : Answer)
    (s : StandsFor d readings old h) (inside : k < 64) (honest : d.honest (acted.parts).disk) where
  -- it stands for the history with the act's event
  abbrev pub StandsLonger : Type 0
  StandsLonger = StandsFor d readings new (then_event h (event_of Step answer (d.calls (new.parts).disk)))

  -- the store's files are there, and no other chunk files
  abbrev pub HasFiles : Type 0
  HasFiles = IsOnDisk (d.content (acted.parts).disk) (world h).store × HoldsOnly (d.content (acted.parts).disk) (pieces_of h)

  stands_by : (n : ℕ) (reply : Option Reply) → IsStepped d readings old acted new k m n reply answer → Right h.remote (world h) k m Step reply sweeping (kind_of n)
      → (moves h k m Step n).store ≡ (world h).store → acted.fault ≡ (moves h k m Step n).fault → open_in (collector_by n k acted.collector) ≡ shown_collecting (moves h k m Step n).collecting
      → ((moves h k m Step n).fault ≡ None → HasFiles) → StandsLonger
  stands_by n reply is says store fault shown has =
      entered_stands d readings old acted new h k m Step n reply answer s inside tt says (record {
        clock = is.clock;
        entries = is.entries;
        calls = is.calls;
        later = is.later;
        honest = honest;
        remote = ap is_some is.remote;
        fault = fault;
        shows = subst (Shows acted.parts) (sym store) (shows_same old.parts acted.parts (world h).store is.kept s.shows);
        collecting = shown;
        files = λ none. subst (IsOnDisk (d.content (acted.parts).disk)) (sym store) (has none).0;
        chunks = λ none. only_same (d.content (acted.parts).disk) (pieces_of h) [] (has none).1;
      }) is.entered

  none_before : old.fault ≡ None → (world h).fault ≡ None
  none_before none = sym s.fault ∙ none

  -- the lane's collector is not open
  pub refused_step_stands : IsStepped d readings old acted new k m 0 (Some (Refused (WrongState (state_of (session_at old.parts k))))) answer → old.fault ≡ None → is_on k old.collector ≡ false
      → acted.collector ≡ old.collector → HasFiles → StandsLonger
  unfolding moved act_outcome
  refused_step_stands is none off same has =
      let state = ap state_of (session_shown old.parts (world h).store k s.shows inside) ∙ state_shown ((world h).store).snapshots (session (world h).store k) in
      stands_by 0 (Some (Refused (WrongState (state_of (session_at old.parts k))))) is
      (none_before none, off_shown k old.collector (world h).collecting s.collecting off, ap (λ x. Some (Refused (WrongState x))) state)
      refl (is.fault ∙ s.fault) (ap open_in same ∙ s.collecting) (λ _. has)

  -- a mark or a visit
  pub passed_step_stands : (x y : Collector) → IsStepped d readings old acted new k m 1 None answer → old.fault ≡ None → old.collector ≡ Some x → is_on k (Some x) ≡ true → x.ended ≡ None
      → acted.collector ≡ Some y → y.lane ≡ x.lane → y.ended ≡ None → HasFiles → StandsLonger
  unfolding moved
  passed_step_stands x y is none there on goes then_is lane still has =
      let was : open_in (Some x) ≡ shown_collecting (world h).collecting = ap open_in (sym there) ∙ s.collecting in
      let same : open_in acted.collector ≡ open_in (Some x) =
      ap open_in then_is ∙ ap (λ l. opens l y.ended) lane ∙ ap (opens x.lane) (still ∙ sym goes) in
      stands_by 1 None is (none_before none, going_shown k x (world h).collecting was on goes, refl) refl (is.fault ∙ s.fault) (same ∙ was) (λ _. has)

  -- memory was wanting, for the first time on the lane since its collector opened
  pub short_step_stands : IsStepped d readings old acted new k m 2 (Some (Refused NoMemory)) answer → is_cut k old.collector ≡ false → open_in acted.collector ≡ open_in old.collector
      → ((world h).fault ≡ None → HasFiles) → StandsLonger
  unfolding moved
  short_step_stands is uncut same has =
      stands_by 2 (Some (Refused NoMemory)) is (refl, uncut_shown k old.collector (world h).collecting s.collecting uncut) refl (is.fault ∙ s.fault)
      (cut_shown k acted.collector (world h).collecting (same ∙ s.collecting)) has

  -- the end of a collector
  pub closed_step_stands : (reply : Option Reply) → IsStepped d readings old acted new k m 4 reply answer → old.fault ≡ None → Reports (open_on k (world h).collecting) reply
      → closed_on k acted.collector ≡ None → HasFiles → StandsLonger
  unfolding moved
  closed_step_stands reply is none reports closed has =
      stands_by 4 reply is (none_before none, reports) refl (is.fault ∙ s.fault) (ap open_in closed) (λ _. has)

  -- the disk failed before
  pub halted_step_stands : (first : ℕ) → IsStepped d readings old acted new k m 5 (Some (Refused (Halted first))) answer → old.fault ≡ Some first → acted.collector ≡ closed_on k old.collector → StandsLonger
  unfolding moved
  halted_step_stands first is some closed =
      let fault : (world h).fault ≡ Some first = sym s.fault ∙ some in
      let stays : first_fault (world h).events (world h).fault ≡ Some first = ap (first_fault (world h).events) fault in
      stands_by 5 (Some (Refused (Halted first))) is (ap (λ f. Some (Refused (fault_refusal f))) (sym fault)) refl
      (is.fault ∙ ap (first_fault (length (old.journal).entries.items)) some ∙ sym stays)
      (ap open_in closed ∙ closed_shown k old.collector (world h).collecting s.collecting) (λ none. absurd (some_none first (sym stays ∙ none)))

  -- it failed in the act
  pub failed_step_stands : (was : Option Collector) → IsStepped d readings old acted new k m 5 (Some (Refused DiskFault)) answer → old.fault ≡ None → open_in was ≡ open_in old.collector
      → acted.collector ≡ closed_on k was → StandsLonger
  unfolding moved
  failed_step_stands was is none same closed =
      let fault : (world h).fault ≡ None = none_before none in
      let first : first_fault (world h).events (world h).fault ≡ Some (world h).events = ap (first_fault (world h).events) fault in
      let place : length (old.journal).entries.items ≡ (world h).events = ap length s.entries ∙ length-map h.events entry ∙ sym (events_are h) in
      stands_by 5 (Some (Refused DiskFault)) is (ap (λ f. Some (Refused (fault_refusal f))) (sym fault)) refl
      (is.fault ∙ ap (first_fault (length (old.journal).entries.items)) none ∙ ap (λ n. Some n) place ∙ sym first)
      (ap open_in closed ∙ closed_shown k was (world h).collecting (same ∙ s.collecting)) (λ at. absurd (some_none (world h).events (sym first ∙ at)))

-- ---- what the act is entered on

-- nothing has changed since it was begun, but the collector
pub begun_stepped : {D E C : Type 0} (d : Ghosts D) (readings : C → Option Readings) (old mid new : Core D E C) (k m n : ℕ) (reply : Option Reply) (answer : Answer) (c : Option Collector)
    → IsBegun readings old mid k m → mid.fault ≡ fault_after (length (old.journal).entries.items) n old.fault → (n ≡ 5 → old.fault ≡ None → ⊥)
    → IsEntered d (record mid { collector = c }) new k m n reply answer → IsStepped d readings old (record mid { collector = c }) new k m n reply answer
begun_stepped d readings old mid new k m n reply answer c b fault other e = record {
  clock = b.clock;
  entries = (b.entries).entries;
  calls = (b.entries).calls;
  remote = b.remote;
  fault = fault;
  kept = record { catalogue = ap (λ p. p.catalogue.listed) b.parts; sessions = ap (λ p. p.sessions.items) b.parts; locks = ap (λ p. p.locks) b.parts; indexes = ap (λ p. p.indexes.items) b.parts };
  count = let same = ap (λ p. d.faults p.disk) b.parts in omega (arith, same);
  honest = same_honest d (old.parts).disk (mid.parts).disk (ap (λ p. p.disk) b.parts);
  rose = λ five none. absurd (other five none);
  later = let same = ap (λ p. d.calls p.disk) b.parts in omega (arith, same);
  halted = where_some old.fault ((mid.parts).disk ≡ (old.parts).disk) (ap (λ p. p.disk) b.parts);
  entered = e;
}

-- its parts, its book, its collector and its fault have changed alone since it was begun
pub acted_stepped : {D E C : Type 0} (d : Ghosts D) (readings : C → Option Readings) (old mid acted new : Core D E C) (k m n : ℕ) (reply : Option Reply) (answer : Answer) (failed : Type 0) (fault : Option ℕ) (c : Option Collector)
    → IsReady readings old mid k m → acted.journal ≡ mid.journal → acted.clock ≡ mid.clock → acted.remote ≡ mid.remote → fault ≡ fault_after (length (old.journal).entries.items) n old.fault
    → SameKept mid.parts acted.parts → Serves d.honest d.faults (mid.parts).disk (acted.parts).disk failed → (n ≡ 5 → failed) → d.calls (mid.parts).disk ≤ d.calls (acted.parts).disk
    → IsEntered d (record acted { fault = fault; collector = c }) new k m n reply answer → IsStepped d readings old (record acted { fault = fault; collector = c }) new k m n reply answer
acted_stepped d readings old mid acted new k m n reply answer failed fault c ready journal clock remote fault_is kept serves met up e =
    let b = ready.begun in record {
      clock = subst (λ x. ReadsClock readings old.clock x old.last m) (sym clock) b.clock;
      entries = ap (λ j. j.entries.items) journal ∙ (b.entries).entries;
      calls = ap (λ j. j.calls.items) journal ∙ (b.entries).calls;
      remote = remote ∙ b.remote;
      fault = fault_is;
      kept = subst (λ p. SameKept p acted.parts) b.parts kept;
      count = subst (λ p. d.faults p.disk ≤ d.faults (acted.parts).disk) b.parts serves.count;
      honest = subst (λ p. d.honest p.disk ↔ d.honest (acted.parts).disk) b.parts serves.kept;
      rose = λ five _. subst (λ p. Rose (d.faults p.disk) (d.faults (acted.parts).disk)) b.parts (serves.cause (met five));
      later = subst (λ p. d.calls p.disk ≤ d.calls (acted.parts).disk) b.parts up;
      halted = where_none old.fault ((acted.parts).disk ≡ (old.parts).disk) ready.no_fault;
      entered = e;
    }

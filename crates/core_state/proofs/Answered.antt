-- An act that is refused before it is done, and one that is done, are entered.
use Rattle.disk_trait.specs.declared.disk.Disk.{Ghosts}
use Rattle.std.proofs.Common.{◌≡◌, ◌<◌, ◌≤◌, ℕ, true, ◌++◌, length, is_some, Option, Some, None, Result, Ok, Err, refl, sym, ap, subst, ◌∙◌, arith}
use Rattle.std.proofs.lemmas.List.{length-map}
use Rattle.port_traits.specs.Readings.{Readings}
use Rattle.disk_trait.specs.declared.disk.DiskError.{DiskError}
use Rattle.disk_trait.specs.declared.disk.DiskError.TheVariants.{NoMemory as DiskMemory, Failed as DiskFailed}
use Rattle.store_types.specs.declared.refusal.Refusal.TheVariants.{NoMemory, Halted, DiskFault}
use Rattle.store_types.specs.declared.order.TheConstants.{MEMORY_KIND}
use Rattle.wire_commands.specs.declared.reply.Reply.{Reply}
use Rattle.wire_commands.specs.declared.reply.Reply.TheVariants.{Refused}
use Rattle.store_model.specs.Store.{Store, Outcome}
use Rattle.store_files.specs.Folder.{HasWholeChunks}
use Rattle.store_model.specs.Steps.{answered}
use Rattle.store_model.specs.Weave.{fault_refusal, first_fault}
use Rattle.store_history.specs.declared.act.Act.{Act}
use Rattle.store_history.specs.declared.act.Answer.{Answer}
use Rattle.store_history.specs.Acts.{IsWellFormed, Class, stepping, reaching, starting, sweeping, wanting, ending, class_of}
use Rattle.store_history.specs.History.{moved, act_outcome, entry, step_kind, short_kind, fault_kind, sent_by}
use Rattle.store_history.specs.Legal.{IsClosing, Right, collecting_on}
use Rattle.core_state.specs.declared.state.Core.{Core}
use Rattle.core_state.specs.Holds.{Shows, IsOnDisk, Holds, Does, Acts}
use Rattle.core_state.specs.Chunks.{IsSafe, AddsUnless, Adds}
use Rattle.store_history.specs.ChunkFiles.{HoldsOnly}
use Rattle.core_state.specs.History.{History, world, then_event, pieces_of, event_of, StandsFor}
use Rattle.core_state.specs.Closing.{HasClosed, closes, closes_by, is_closing}
use Rattle.core_state.specs.Collectors.{collector_by, is_cut, open_in, shown_collecting}
use Rattle.core_state.specs.Settles.{Settles}
use Rattle.core_state.specs.Wanted.{session_at}
use Rattle.core_state.specs.Begins.{IsBegun, IsShort, IsHalted, Refuses, short, halted, IsReady}
use Rattle.core_state.proofs.Chunks.{only_same, only_added}
use Rattle.core_state.proofs.Collecting.{cut_is, cut_shown, fault_shown, short_shown, step_shown}
use Rattle.core_state.proofs.Sessions.{closes_found}
use Rattle.core_state.proofs.Entered.{events_are, moves, IsActed, entered_stands}

-- store and fault are as before
pub record WorldMoves (h : History) (k m : ℕ) (act : Act) (n : ℕ) : Type 0 where
  pub fault : (moves h k m act n).fault ≡ (world h).fault
  pub store : (moves h k m act n).store ≡ (world h).store

-- nothing has happened but that the clock was read
pub begun_acted : {D E C : Type 0} (d : Ghosts D) (readings : C → Option Readings) (old mid : Core D E C) (h : History) (k m : ℕ) (act : Act) (n : ℕ)
    → StandsFor d readings old h → IsBegun readings old mid k m → WorldMoves h k m act n
    → open_in (collector_by n k mid.collector) ≡ shown_collecting (moves h k m act n).collecting → IsActed d readings old mid h k m act n
begun_acted d readings old mid h k m act n s b same shown = record {
  clock = b.clock;
  entries = (b.entries).entries;
  calls = (b.entries).calls;
  later = let e = ap (λ p. d.calls p.disk) b.parts in omega (arith, e);
  honest = subst (λ p. d.honest p.disk) (sym b.parts) s.honest;
  remote = ap is_some b.remote;
  fault = b.fault ∙ s.fault ∙ sym same.fault;
  shows = subst (Shows mid.parts) (sym same.store) (subst (λ p. Shows p (world h).store) (sym b.parts) s.shows);
  collecting = shown;
  files = λ none. subst (IsOnDisk (d.content (mid.parts).disk)) (sym same.store)
      (subst (λ p. IsOnDisk (d.content p.disk) (world h).store) (sym b.parts) (s.files (sym same.fault ∙ none)));
  chunks = λ none. subst (λ p. HoldsOnly (d.content p.disk) (pieces_of h ++ sent_by act)) (sym b.parts)
      (only_same (d.content (old.parts).disk) (pieces_of h) (sent_by act) (s.chunks (sym same.fault ∙ none)));
}

-- the act that ends the store's session ends the core's
closing_found : {D E C : Type 0} (d : Ghosts D) (readings : C → Option Readings) (old : Core D E C) (h : History) (k : ℕ) (act : Act)
    → StandsFor d readings old h → IsClosing (world h) k act → is_closing old k act ≡ true
closing_found d readings old h k act s c =
    ap (λ f. closes_by f act (session_at old.parts k)) (s.fault ∙ c.0) ∙ closes_found (old.parts).sessions.items (world h).store k act (s.shows).sessions c.1

-- want of memory may come to all but a lane's end, and an act that ends a session
right_short : (h : History) (k m : ℕ) (act : Act) (c : Class) → (c ≡ ending → ⊥) → (c ≡ stepping → IsClosing (world h) k act → ⊥) → (c ≡ sweeping → collecting_on (world h) k ≡ Some true → ⊥)
    → Right h.remote (world h) k m act (Some (Refused NoMemory)) c short_kind
right_short h k m act stepping ne held uncut = (refl, held refl)
right_short h k m act starting ne held uncut = refl
right_short h k m act reaching ne held uncut = refl
right_short h k m act sweeping ne held uncut = (refl, uncut refl)
right_short h k m act wanting ne held uncut = refl
right_short h k m act ending ne held uncut = absurd (ne refl)

pub short_stands : {D E C : Type 0} (d : Ghosts D) (readings : C → Option Readings) (old new : Core D E C) (h : History) (k : ℕ) (act : Act) (answer : Answer)
    → StandsFor d readings old h → k < 64 → IsWellFormed act → (class_of act ≡ ending → ⊥) → (class_of act ≡ stepping → is_closing old k act ≡ true → ⊥)
    → (class_of act ≡ sweeping → is_cut k old.collector ≡ true → ⊥) → IsShort d readings old new k answer
    → StandsFor d readings new (then_event h (event_of act answer (d.calls (new.parts).disk)))
unfolding moved
short_stands d readings old new h k act answer s inside formed ne held uncut is =
    entered_stands d readings old is.between new h k is.moment act 2 (Some (Refused NoMemory)) answer s inside formed
    (right_short h k is.moment act (class_of act) ne (λ step c. held step (closing_found d readings old h k act s c)) (λ step short. uncut step (cut_is k old.collector (world h).collecting s.collecting short)))
    (begun_acted d readings old is.between h k is.moment act 2 s is.begun (record { fault = refl; store = refl })
    (cut_shown k (is.between).collector (world h).collecting (ap open_in (is.begun).collector ∙ s.collecting))) is.entered

refusal_is : (o : Option ℕ) (first : ℕ) → o ≡ Some first → fault_refusal o ≡ Halted first
refusal_is o first is = ap fault_refusal is

fault_stays : (n : ℕ) (o : Option ℕ) (first : ℕ) → o ≡ Some first → first_fault n o ≡ o
fault_stays n o first is = ap (first_fault n) is ∙ sym is

-- a command, a step of a job, a read of the remote, or the start of a collector
abbrev pub IsAsked : Class → Type 0
IsAsked stepping = Unit {0}
IsAsked starting = Unit {0}
IsAsked reaching = Unit {0}
IsAsked _ = ⊥

asked_no_end : (c : Class) → IsAsked c → c ≡ ending → ⊥
asked_no_end stepping asked e = cc
asked_no_end starting asked e = cc
asked_no_end reaching asked e = cc
asked_no_end c asked e = absurd asked

asked_no_sweep : (c : Class) → IsAsked c → c ≡ sweeping → ⊥
asked_no_sweep stepping asked e = cc
asked_no_sweep starting asked e = cc
asked_no_sweep reaching asked e = cc
asked_no_sweep c asked e = absurd asked

right_halted : (h : History) (k m : ℕ) (act : Act) (c : Class) → IsAsked c → {r : Option Reply} → r ≡ Some (Refused (fault_refusal (world h).fault)) → Right h.remote (world h) k m act r c fault_kind
right_halted h k m act stepping asked is = is
right_halted h k m act starting asked is = is
right_halted h k m act reaching asked is = is
right_halted h k m act c asked is = absurd asked

pub halted_stands : {D E C : Type 0} (d : Ghosts D) (readings : C → Option Readings) (old new : Core D E C) (h : History) (k : ℕ) (act : Act) (answer : Answer)
    → StandsFor d readings old h → k < 64 → IsWellFormed act → IsAsked (class_of act)
    → IsHalted d readings old new k answer
    → StandsFor d readings new (then_event h (event_of act answer (d.calls (new.parts).disk)))
unfolding moved
halted_stands d readings old new h k act answer s inside formed step is =
    let w = world h in
    let fault : w.fault ≡ Some is.first = sym s.fault ∙ is.fault in
    entered_stands d readings old is.between new h k is.moment act 5 (Some (Refused (Halted is.first))) answer s inside formed
    (right_halted h k is.moment act (class_of act) step (ap (λ r. Some (Refused r)) (sym (refusal_is w.fault is.first fault))))
    (begun_acted d readings old is.between h k is.moment act 5 s is.begun
    (record { fault = fault_stays w.events w.fault is.first fault; store = refl })
    (fault_shown h.remote w k is.moment act (asked_no_sweep (class_of act) step) (is.between).collector (ap open_in (is.begun).collector ∙ s.collecting))) is.entered

pub refused_stands : {D E C : Type 0} (d : Ghosts D) (readings : C → Option Readings) (old new : Core D E C) (h : History) (k : ℕ) (act : Act) (answer : Answer)
    → StandsFor d readings old h → k < 64 → IsWellFormed act → IsAsked (class_of act)
    → Refuses d readings old new k answer → (is_closing old k act ≡ true → (answer.entry).kind ≡ MEMORY_KIND → ⊥)
    → StandsFor d readings new (then_event h (event_of act answer (d.calls (new.parts).disk)))
refused_stands d readings old new h k act answer s inside formed step (short is) memory =
    short_stands d readings old new h k act answer s inside formed (asked_no_end (class_of act) step) (λ _ closing. memory closing (ap (λ x. x.kind) (is.entered).entry))
    (λ e. absurd (asked_no_sweep (class_of act) step e)) is
refused_stands d readings old new h k act answer s inside formed step (halted is) memory =
    halted_stands d readings old new h k act answer s inside formed step is

-- ---- acts that were done

-- what an act is done on, and what has changed since: the parts alone
pub record IsDone {D E C : Type 0} (d : Ghosts D) (readings : C → Option Readings) (old mid acted : Core D E C) (k m : ℕ) : Type 0 where
  pub ready : IsReady readings old mid k m
  pub journal : acted.journal ≡ mid.journal
  pub clock : acted.clock ≡ mid.clock
  pub fault : acted.fault ≡ mid.fault
  pub remote : acted.remote ≡ mid.remote
  pub collector : acted.collector ≡ mid.collector
  pub later : d.calls (mid.parts).disk ≤ d.calls (acted.parts).disk

-- The core before the entry, with a fault or without.
pub acted_by : {D E C : Type 0} (g : Ghosts D) (readings : C → Option Readings) (old mid acted : Core D E C) (h : History) (k m : ℕ) (act : Act) (n : ℕ) (fault : Option ℕ)
    → IsDone g readings old mid acted k m → open_in (collector_by n k mid.collector) ≡ shown_collecting (moves h k m act n).collecting
    → fault ≡ (moves h k m act n).fault → g.honest (acted.parts).disk → Shows acted.parts (moves h k m act n).store
    → ((moves h k m act n).fault ≡ None → IsOnDisk (g.content (acted.parts).disk) (moves h k m act n).store)
    → ((moves h k m act n).fault ≡ None → HoldsOnly (g.content (acted.parts).disk) (pieces_of h ++ sent_by act))
    → IsActed g readings old (record acted { fault = fault }) h k m act n
acted_by g readings old mid acted h k m act n fault d shown is honest shows files chunks =
    let b = (d.ready).begun in record {
      clock = subst (λ c. Rattle.core_state.specs.Begins.ReadsClock readings old.clock c old.last m) (sym d.clock) b.clock;
      entries = ap (λ j. j.entries.items) d.journal ∙ (b.entries).entries;
      calls = ap (λ j. j.calls.items) d.journal ∙ (b.entries).calls;
      later = let e = ap (λ p. g.calls p.disk) b.parts in let l = d.later in omega (arith, e, l);
      honest = honest;
      remote = ap is_some (d.remote ∙ b.remote);
      fault = is;
      shows = shows;
      collecting = ap (λ c. open_in (collector_by n k c)) d.collector ∙ shown;
      files = files;
      chunks = chunks;
    }

none_some : (n : ℕ) → Some n ≡ None → ⊥
none_some n e = cc

step_no_sweep : stepping ≡ sweeping → ⊥
step_no_sweep e = cc

pub done_stands : {D E C : Type 0} (g : Ghosts D) (readings : C → Option Readings) (old mid acted new : Core D E C) (h : History)
    (k m : ℕ) (act : Act) (outcome_of : Store → Outcome) (result : Result Reply DiskError) (answer : Answer)
    → StandsFor g readings old h → k < 64 → IsWellFormed act → class_of act ≡ stepping
    → outcome_of (world h).store ≡ act_outcome h.remote (world h) k m act
    → IsDone g readings old mid acted k m
    → (IsSafe (g.content (mid.parts).disk) act → Acts g mid.parts acted.parts outcome_of result)
    → Adds g mid.parts acted.parts act result → (closes act (session_at mid.parts k) ≡ true → HasClosed acted.parts k result) → Settles g acted new k m result answer
    → (HasWholeChunks (g.content (mid.parts).disk) → HoldsOnly (g.content (mid.parts).disk) (pieces_of h) → IsSafe (g.content (mid.parts).disk) act)
    → StandsFor g readings new (then_event h (event_of act answer (g.calls (new.parts).disk)))
unfolding moved
done_stands g readings old mid acted new h k m act outcome_of result answer s inside formed step same d acts adds closed settles may =
    by_result result does (adds (world h).store held) closed settles
  where
    fault : (world h).fault ≡ None
    fault = sym s.fault ∙ (d.ready).no_fault

    begun : open_in mid.collector ≡ shown_collecting (world h).collecting
    begun = ap open_in ((d.ready).begun).collector ∙ s.collecting

    no_sweep : class_of act ≡ sweeping → ⊥
    no_sweep e = step_no_sweep (sym step ∙ e)

    acted_fault : acted.fault ≡ None
    acted_fault = d.fault ∙ ((d.ready).begun).fault ∙ (d.ready).no_fault

    held : Holds g mid.parts (world h).store
    held = subst (λ p. Holds g p (world h).store) (sym ((d.ready).begun).parts) (record { honest = s.honest; shows = s.shows; files = s.files fault })

    only : HoldsOnly (g.content (mid.parts).disk) (pieces_of h)
    only = subst (λ p. HoldsOnly (g.content p.disk) (pieces_of h)) (sym ((d.ready).begun).parts) (s.chunks fault)

    is_safe : IsSafe (g.content (mid.parts).disk) act
    is_safe = may ((held.files).snapshots).chunks only

    does : Does g acted.parts (world h).store (answered (world h).store (act_outcome h.remote (world h) k m act)) result
    does = subst (λ o. Does g acted.parts (world h).store (answered (world h).store o) result) same (acts is_safe (world h).store held)

    place : length (acted.journal).entries.items ≡ (world h).events
    place = ap (λ j. length j.entries.items) d.journal ∙ ap length (((d.ready).begun).entries).entries ∙ ap length s.entries ∙ length-map h.events entry ∙ sym (events_are h)

    by_result : (r : Result Reply DiskError) → Does g acted.parts (world h).store (answered (world h).store (act_outcome h.remote (world h) k m act)) r
        → AddsUnless (g.content (mid.parts).disk) (g.content (acted.parts).disk) act r → (closes act (session_at mid.parts k) ≡ true → HasClosed acted.parts k r)
        → Settles g acted new k m r answer
        → StandsFor g readings new (then_event h (event_of act answer (g.calls (new.parts).disk)))
    by_result (Ok reply) does added closed e = let held = does.1 in
        entered_stands g readings old (record acted { fault = acted.fault }) new h k m act 0 (Some reply) answer s inside formed
        (subst (λ c. Right h.remote (world h) k m act (Some reply) c step_kind) (sym step) (fault, ap (λ x. Some x) does.0))
        (acted_by g readings old mid acted h k m act 0 acted.fault d (step_shown h.remote (world h) k m act no_sweep mid.collector begun) (acted_fault ∙ sym fault) held.honest held.shows (λ _. held.files)
        (λ _. only_added (g.content (mid.parts).disk) (g.content (acted.parts).disk) (pieces_of h) act only added)) e
    by_result (Err DiskMemory) does added closed e =
        entered_stands g readings old (record acted { fault = acted.fault }) new h k m act 2 (Some (Refused NoMemory)) answer s inside formed
        (subst (λ c. Right h.remote (world h) k m act (Some (Refused NoMemory)) c short_kind) (sym step)
        (refl, λ c. closed (closes_found (mid.parts).sessions.items (world h).store k act (held.shows).sessions c.1)))
        (acted_by g readings old mid acted h k m act 2 acted.fault d (short_shown h.remote (world h) k m act no_sweep mid.collector begun) (acted_fault ∙ sym fault) does.honest does.shows (λ _. does.files)
        (λ _. only_added (g.content (mid.parts).disk) (g.content (acted.parts).disk) (pieces_of h) act only added)) e
    by_result (Err DiskFailed) does added closed e = let first = ap (first_fault (world h).events) fault in
        entered_stands g readings old (record acted { fault = Some (length (acted.journal).entries.items) }) new h k m act 5 (Some (Refused DiskFault)) answer s inside formed
        (subst (λ c. Right h.remote (world h) k m act (Some (Refused DiskFault)) c fault_kind) (sym step) (ap (λ f. Some (Refused (fault_refusal f))) (sym fault)))
        (acted_by g readings old mid acted h k m act 5 (Some (length (acted.journal).entries.items)) d (fault_shown h.remote (world h) k m act no_sweep mid.collector begun) (ap (λ n. Some n) place ∙ sym first) does.0 does.1
        (λ none. absurd (none_some (world h).events (sym first ∙ none))) (λ none. absurd (none_some (world h).events (sym first ∙ none)))) e

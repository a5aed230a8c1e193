-- What an act promises of the core: the two records of its command, behind the turn.
use Rattle.std.specs.Prelude.{◌≡◌, ℕ, true, false, Some, None, IfSome}
use Rattle.disk_trait.specs.Effects.{SameContent}
use Rattle.disk_trait.specs.declared.disk.Disk.{Ghosts}
use Rattle.port_traits.specs.declared.clock.Clock as clocks
use Rattle.store_types.specs.declared.refusal.Refusal.TheVariants.{DiskFault}
use Rattle.store_types.specs.declared.order.TheConstants.{MEMORY_KIND}
use Rattle.wire_commands.specs.declared.reply.Reply.TheVariants.{Refused}
use Rattle.store_history.specs.declared.act.Act.{Act}
use Rattle.store_history.specs.declared.act.Answer.{Answer}
use Rattle.store_history.specs.Acts.{Class, class_of, sent_chunk, sweeping}
use Rattle.store_history.specs.LastTouches.{SameTouches, touches_by_entry}
use Rattle.core_state.specs.declared.state.Core.{Core}
use Rattle.core_state.specs.Answers.{IsAnswered, IsCaused, IsTold}
use Rattle.core_state.specs.Catalogue.{Lists}
use Rattle.core_state.specs.Changes.{IsFirm, LeavesChange, after, by_reply}
use Rattle.core_state.specs.Closing.{HasEnded, is_closing, is_writer}
use Rattle.core_state.specs.Collectors.{collector_by}
use Rattle.core_state.specs.Commands.{IsNoRefusal, OthersStay, RowsStay, change_at, ends_session, is_collectors, calls_no_disk, is_step, is_still, leaves_writer, reads_only, row_stays_by}
use Rattle.core_state.specs.PassedTests.{PassedItsTestsAt}
use Rattle.core_state.specs.History.{History, IsClear, StandsFor, then_event, event_of}
use Rattle.core_state.specs.KeepsTouches.{KeepsTouches}
use Rattle.core_state.specs.Passes.{StepLeaves}
use Rattle.core_state.specs.Records.{IsTimely, Records}
use Rattle.core_state.specs.Recovers.{Recovers, TellsMoments}
use Rattle.core_state.specs.Remotes.{RemoteServes}
use Rattle.store_history.specs.RemoteDisk.{ShowsRemote, reads_remote}
use Rattle.core_state.specs.Reserved.{Keeps}
use Rattle.core_state.specs.Unchanged.{Unchanged}
use Rattle.core_state.specs.Upkeeps.{touches_kept}
use Rattle.core_state.specs.Wanted.{session_at}

-- the act was done: it has no reply, or one that is no refusal
abbrev pub IsDone : Answer → Type 0
IsDone answer = IfSome answer.reply IsNoRefusal

-- a CHUNK asks that no two pieces of the history have one digest
abbrev pub IsClearFor : Act → History → Type 0
IsClearFor act h = IfSome (sent_chunk act) (λ _. IsClear h)

-- a mark, a visit or the end of a collector asks that the core's book is that of the history
abbrev pub IsKeptBy : {D E C : Type 0} → Ghosts D → Core D E C → Class → History → Type 0
IsKeptBy d old sweeping h = KeepsTouches d old h
IsKeptBy d old class h = Unit {0}

abbrev pub IsKeptFor : {D E C : Type 0} → Ghosts D → Core D E C → Act → History → Type 0
IsKeptFor d old act h = IsKeptBy d old (class_of act) h

-- The core stands for each history that it stood for with this act's event more, of a CHUNK where no two of the pieces of that one have one
-- digest, and of a collector's act where its book is that of the history. On any disk it keeps the event behind those that it kept, and
-- its answer has a cause.
pub record ActApplies {D E C : Type 0} (d : Ghosts D) (clock : clocks.Ghosts C) (old new : Core D E C) (lane : ℕ) (act : Act) (answer : Answer) : Type 0 where
  pub history : (h : History) → StandsFor d clock.readings old h → IsKeptFor d old act h → IsClearFor act (then_event h (event_of act answer (d.calls (new.parts).disk)))
      → StandsFor d clock.readings new (then_event h (event_of act answer (d.calls (new.parts).disk)))
  pub records : (h : History) → Records clock.readings old h → Records clock.readings new (then_event h (event_of act answer (d.calls (new.parts).disk)))
  -- what a crash leaves since a moment of the opening stands for what the history gives by then, with this act's event more too
  pub recovers : TellsMoments d → (start : ℕ) (h : History) → StandsFor d clock.readings old h → IsClear (then_event h (event_of act answer (d.calls (new.parts).disk)))
      → IsKeptFor d old act h → Recovers d start old h → Recovers d start new (then_event h (event_of act answer (d.calls (new.parts).disk)))
  -- the core's book is that of the history, and until the disk failed its chunks are the chunk files
  pub touches : (h : History) → StandsFor d clock.readings old h → KeepsTouches d old h → IsClearFor act (then_event h (event_of act answer (d.calls (new.parts).disk)))
      → KeepsTouches d new (then_event h (event_of act answer (d.calls (new.parts).disk)))
  pub answers : IsAnswered d old new lane answer
  pub timely : IsTimely clock.readings old new answer
  pub told : IsTold act answer
  pub cause : IsCaused d old new act answer

-- And beside its remote: where this stood for what the history's has, an answer that it gave is that of the history. It was read alone, and
-- as many reads are entered as failed at most as its count of faults rose by.
pub record CoreApplies {D E C : Type 0} (d : Ghosts D) (e : Ghosts E) (clock : clocks.Ghosts C) (old new : Core D E C) (lane : ℕ) (act : Act) (answer : Answer) : Type 0 where
  pub history : (h : History) → StandsFor d clock.readings old h → ShowsRemote e old.remote h.remote → IsKeptFor d old act h
      → IsClearFor act (then_event h (event_of act answer (d.calls (new.parts).disk))) → StandsFor d clock.readings new (then_event h (event_of act answer (d.calls (new.parts).disk)))
  pub records : (h : History) → Records clock.readings old h → Records clock.readings new (then_event h (event_of act answer (d.calls (new.parts).disk)))
  pub recovers : TellsMoments d → (start : ℕ) (h : History) → StandsFor d clock.readings old h → ShowsRemote e old.remote h.remote
      → IsClear (then_event h (event_of act answer (d.calls (new.parts).disk)))
      → IsKeptFor d old act h → Recovers d start old h → Recovers d start new (then_event h (event_of act answer (d.calls (new.parts).disk)))
  pub touches : (h : History) → StandsFor d clock.readings old h → ShowsRemote e old.remote h.remote → KeepsTouches d old h
      → IsClearFor act (then_event h (event_of act answer (d.calls (new.parts).disk))) → KeepsTouches d new (then_event h (event_of act answer (d.calls (new.parts).disk)))
  pub answers : IsAnswered d old new lane answer
  pub timely : IsTimely clock.readings old new answer
  pub told : IsTold act answer
  pub cause : IsCaused d old new act answer
  pub remote : RemoteServes e old new

-- What the act leaves of the core, on any disk but for what is said of an honest one.
pub record ActKeeps {D E C : Type 0} (d : Ghosts D) (old new : Core D E C) (lane : ℕ) (act : Act) (answer : Answer) : Type 0 where
  -- a refused act has changed nothing of catalogue, sessions, locks, and of the disk as it reads; of what is kept of indexes see below
  pub unchanged : IfSome answer.reply (Unchanged d old.parts new.parts)
  pub no_disk_call : calls_no_disk act ≡ true → (new.parts).disk ≡ (old.parts).disk
  -- an honest disk reads as before, whatever it held, in any case
  pub reads : reads_only act ≡ true → SameContent d (old.parts).disk (new.parts).disk
  -- Unless it failed in this act or before, an honest disk reads then as the act's change makes it of what it read before, whatever that
  -- was. A refusal and want of memory change nothing. Of the collector's acts see below.
  pub content : is_step act ≡ false → old.fault ≡ None → (answer.reply ≡ Some (Refused DiskFault) → ⊥) → d.honest (old.parts).disk
      → d.content (new.parts).disk ≡ after (by_reply (change_at old.parts lane act) answer.reply) (d.content (old.parts).disk)
  pub crash : is_step act ≡ false → LeavesChange d (old.parts).disk (new.parts).disk (by_reply (change_at old.parts lane act) answer.reply)
  -- where the disk failed in it, a FINISH or a FORGET had passed its tests, and a CHUNK was to put a piece's blob
  pub passed_its_tests : PassedItsTestsAt d old lane act answer
  pub firm : old.fault ≡ None → IsDone answer → IsFirm d (old.parts).disk (new.parts).disk (change_at old.parts lane act)
  pub listed : Lists old new lane act answer
  -- the acts on the store as a whole, the reads of a VERIFY, GET_CHUNK, RANGE, and the collector's acts leave sessions and locks as they are
  pub admin : is_still act ≡ true → ((new.parts).sessions.items ≡ (old.parts).sessions.items) × ((new.parts).locks ≡ (old.parts).locks)
  -- the lane has no session any more, and nothing is kept of indexes for it
  pub ended : ends_session act ≡ true → IsDone answer → HasEnded new.parts lane
  -- What is kept of indexes for another lane stays, whatever the act and its reply. The lane's own stays too where the act is refused, but
  -- by a damaged chunk in a VERIFY's read, and where it is done, but for such a read, a PREVIOUS, a RANGE and a session's end.
  pub rows : RowsStay old.parts new.parts lane (row_stays_by answer.reply act)
  -- after the disk failed no call of it is made
  pub halted : IfSome old.fault (λ _. (new.parts).disk ≡ (old.parts).disk)
  pub others : OthersStay old.parts new.parts lane
  -- the lane has a writer, once it was begun and until it is ended
  pub writes : leaves_writer act ≡ true → IsDone answer → is_writer (session_at new.parts lane) ≡ true
  -- the remote is called only by an act that reads it
  pub remote : reads_remote act answer ≡ false → new.remote ≡ old.remote
  -- the last touches are as the act's reply makes them of those before: a refused act touches nothing
  pub upkeep : is_step act ≡ false → SameTouches (touches_kept new.upkeep) (touches_by_entry act answer.reply (answer.entry).moment (touches_kept old.upkeep))
  -- want of memory ends the lane's collector early, and the lane's end closes it; no other act but the collector's own changes it
  pub collector : is_collectors act ≡ false → new.collector ≡ collector_by (answer.entry).kind lane old.collector
  -- what a mark, a visit or the end of a collector leaves of disk, book and collector
  pub stepped : is_step act ≡ true → StepLeaves d old new lane answer
  -- an ABORT or a CLOSE_READER that ends a session wants no memory
  pub memory : is_closing old lane act ≡ true → (answer.entry).kind ≡ MEMORY_KIND → ⊥
  pub reserve : Keeps act old new lane answer

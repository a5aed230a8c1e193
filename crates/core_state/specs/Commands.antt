-- What a command over the parts promises of its act: two records, functions of the act, so that a command's clause is the instance at
-- its constructor.
use Rattle.std.specs.Prelude.{◌≡◌, ℕ, Bool, true, not, List, Option, Some, Result, Ok, Err, IfOk, IsErrOf, IsTrue}
use Rattle.disk_trait.specs.Disk.{Serves}
use Rattle.disk_trait.specs.Effects.{SameContent}
use Rattle.disk_trait.specs.declared.disk.Disk.{Ghosts}
use Rattle.store_files.specs.Archive.{Snapshot}
use Rattle.store_types.specs.declared.refusal.Refusal.TheVariants.{Damaged}
use Rattle.wire_commands.specs.HasText.{ReplyHasText}
use Rattle.wire_commands.specs.declared.reply.Reply.{Reply}
use Rattle.wire_commands.specs.declared.reply.Reply.TheVariants.{Refused}
use Rattle.wire_commands.specs.declared.command.Command.{Command}
use Rattle.store_model.specs.Store.{Store}
use Rattle.store_history.specs.declared.act.Act.{Act}
use Rattle.store_history.specs.declared.act.Act.TheVariants.{Plain}
use Rattle.store_history.specs.Acts.{class_of, family_of, is_collecting, is_managing, is_sweeping}
use Rattle.store_history.specs.History.{World, act_outcome}
use Rattle.store_history.specs.Profile.{are_ended, are_same, have_writer, is_called, is_changed, is_paged, is_same_row, profile}
use Rattle.core_state.specs.declared.entering.Place.{Place}
use Rattle.core_state.specs.declared.parts.Parts.{Parts}
use Rattle.store_stops.specs.declared.stop.Stop.{Stop}
use Rattle.store_stops.specs.declared.stop.Stop.TheVariants as stops
use Rattle.store_stops.specs.declared.stop.Stop.TheVariants.{DiskFailed}
use Rattle.core_state.specs.Catalogue.{listed_by}
use Rattle.core_state.specs.Changes.{Change, IsFirm, LeavesChange, after, by_stop, change_of}
use Rattle.core_state.specs.Chunks.{Adds, IsSafe}
use Rattle.core_state.specs.Closing.{HasClosed, HasEnded, closes, is_writer}
use Rattle.core_state.specs.PassedTests.{PassesItsTests}
use Rattle.core_state.specs.Holds.{Acts, Holds}
use Rattle.core_state.specs.Indexed.{row_at}
use Rattle.core_state.specs.Kept.{kept_at}
use Rattle.store_history.specs.Replies.{may_answer}
use Rattle.core_state.specs.Settles.{reply_by}
use Rattle.core_state.specs.Stops.{told}
use Rattle.core_state.specs.Unchanged.{Unchanged}
use Rattle.core_state.specs.Wanted.{session_at}

-- ---- what the row of an act tells

-- the acts that make no call of the disk
abbrev pub calls_no_disk : Act → Bool
calls_no_disk act = not (is_called (profile act).disk)

-- the acts that change nothing on the disk
abbrev pub reads_only : Act → Bool
reads_only act = not (is_changed (profile act).disk)

-- the acts that leave sessions and locks as they are
abbrev pub is_still : Act → Bool
is_still act = are_same (profile act).sessions

-- the acts after which the lane has no session, once they are done
abbrev pub ends_session : Act → Bool
ends_session act = are_ended (profile act).sessions

-- the acts after which the lane has a writer, once they are done
abbrev pub leaves_writer : Act → Bool
leaves_writer act = have_writer (profile act).sessions

-- the acts after which, done, the lane keeps of indexes what it kept
abbrev pub keeps_row : Act → Bool
keeps_row act = is_same_row (profile act).row

-- the reads of a VERIFY that go by an index
abbrev pub reads_chunk : Act → Bool
reads_chunk act = is_paged (profile act).row

-- ---- and its class and family

-- a mark, a visit, or the end of a collector
abbrev pub is_step : Act → Bool
is_step act = is_sweeping (class_of act)

-- the acts on the store as a whole
abbrev pub is_admins : Act → Bool
is_admins act = is_managing (family_of act)

-- the acts of a collector
abbrev pub is_collectors : Act → Bool
is_collectors act = is_collecting (family_of act)

-- ---- what stays of the rows

-- By how the act ended: where it was done, by the act; where it was refused the lane keeps what it kept, but behind a read of a chunk
-- that is damaged.
abbrev pub row_stays : Result Reply Stop → Act → Bool
row_stays (Ok reply) act = keeps_row act
row_stays (Err (stops.Refused (Damaged digest fault))) act = not (reads_chunk act)
row_stays (Err stop) act = true

-- the same by its reply
abbrev pub row_stays_by : Option Reply → Act → Bool
row_stays_by (Some (Refused (Damaged digest fault))) act = not (reads_chunk act)
row_stays_by (Some (Refused refusal)) act = true
row_stays_by reply act = keeps_row act

-- All other lanes keep what they kept; the lane too, where what it keeps stays.
abbrev pub RowsStay : {D : Type 0} → Parts D → Parts D → ℕ → Bool → Type 0
RowsStay old new lane stays = (i : ℕ) → (i ≡ lane → stays ≡ true) → row_at new i ≡ row_at old i

-- no other lane's session has changed
abbrev pub OthersStay : {D : Type 0} → Parts D → Parts D → ℕ → Type 0
OthersStay old new lane = (i : ℕ) → (i ≡ lane → ⊥) → session_at new i ≡ session_at old i

-- so it is after an act that was done
abbrev pub LeavesRows : {D : Type 0} → Parts D → Parts D → ℕ → Act → Type 0
LeavesRows old new lane act = RowsStay old new lane (keeps_row act)

abbrev pub IsNoRefusal : Reply → Type 0
IsNoRefusal (Refused refusal) = ⊥
IsNoRefusal _ = Unit {0}

-- the act's change of the disk, by what the core keeps before it
abbrev pub change_at : {D : Type 0} → Parts D → ℕ → Act → Change
change_at old lane act = change_of act (kept_at old lane)

-- The act is the plain store's. What is answered, on any disk, is one of the act's replies, and has a spelling.
pub record ActDoes {D : Type 0} (d : Ghosts D) (old new : Parts D) (at : Place) (act : Act) (result : Result Reply Stop) : Type 0 where
  pub serves : Serves d.honest d.faults old.disk new.disk (IsErrOf result DiskFailed)
  pub text : IfOk (told result) ReplyHasText
  pub answers : IfOk (told result) (λ reply. IsTrue (may_answer act reply))
  -- an Ok result is no refusal: that is a stop
  pub plain : IfOk result IsNoRefusal
  pub step : IsSafe (d.content old.disk) act → (remote : Option (List Snapshot)) (w : World)
      → Acts d old new (λ s. act_outcome remote (record w { store = s }) at.lane at.moment act) (told result)

-- What the act leaves, on any disk but for what is said of an honest one.
pub record ActLeaves {D : Type 0} (d : Ghosts D) (old new : Parts D) (at : Place) (act : Act) (result : Result Reply Stop) : Type 0 where
  -- refused it has changed nothing of catalogue, sessions, locks, and of the disk as it reads
  pub unchanged : Unchanged d old new (reply_by (told result))
  pub no_disk_call : calls_no_disk act ≡ true → new.disk ≡ old.disk
  -- an honest disk reads as before, whatever it held, in any case
  pub reads : reads_only act ≡ true → SameContent d old.disk new.disk
  -- Unless it failed, an honest disk reads then as the act's change makes it of what it read before, whatever that was. A refusal and
  -- want of memory change nothing.
  pub content : (IsErrOf result DiskFailed → ⊥) → d.honest old.disk → d.content new.disk ≡ after (by_stop (change_at old at.lane act) result) (d.content old.disk)
  pub crash : LeavesChange d old.disk new.disk (by_stop (change_at old at.lane act) result)
  pub firm : IfOk result (λ _. IsFirm d old.disk new.disk (change_at old at.lane act))
  pub listed : new.catalogue.listed ≡ listed_by act (Some (reply_by (told result))) at.number (kept_at old at.lane)
  pub admin : is_still act ≡ true → (new.sessions.items ≡ old.sessions.items) × (new.locks ≡ old.locks)
  -- Which chunk files there are more. It follows from `content`; that the core stands for the longer history is shown by it.
  pub adds : Adds d old new act (told result)
  -- Where the disk failed, a FINISH or a FORGET had passed its tests, and a CHUNK was to put a piece's blob.
  pub passed_its_tests : IsErrOf result DiskFailed → (s : Store) → Holds d old s → PassesItsTests act s at.lane
  -- an act that ends the session wants no memory
  pub closed : closes act (session_at old at.lane) ≡ true → HasClosed new at.lane (told result)
  pub ended : ends_session act ≡ true → IfOk result (λ _. HasEnded new at.lane)
  pub writes : leaves_writer act ≡ true → IfOk result (λ _. is_writer (session_at new at.lane) ≡ true)
  pub others : OthersStay old new at.lane
  -- what the lanes keep of indexes
  pub rows : RowsStay old new at.lane (row_stays result act)

-- ---- the two of a plain command

abbrev pub PlainDoes : {D : Type 0} → Ghosts D → Parts D → Parts D → Place → Command → Result Reply Stop → Type 0
PlainDoes d old new at command result = ActDoes d old new at (Plain command) result

abbrev pub PlainLeaves : {D : Type 0} → Ghosts D → Parts D → Parts D → Place → Command → Result Reply Stop → Type 0
PlainLeaves d old new at command result = ActLeaves d old new at (Plain command) result

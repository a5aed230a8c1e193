-- What an act tells: the third record of a command, beside what it does and what it leaves.
use Rattle.disk_trait.specs.declared.disk.Disk.{Ghosts}
use Rattle.std.specs.Prelude.{◌≡◌, ◌≤◌, ◌+◌, ℕ, List, Option, Some, None, IfSome, IsSomeAnd, Result, IfOk}
use Rattle.std.specs.FinMap.{get}
use Rattle.disk_trait.specs.Files.{Files}
use Rattle.store_types.specs.declared.names.Digest32.{Digest32}
use Rattle.store_types.specs.declared.order.TheConstants.{COMMAND_KIND}
use Rattle.store_types.specs.declared.refusal.ChunkFault.{ChunkFault}
use Rattle.store_types.specs.declared.refusal.Refusal.{Refusal}
use Rattle.wire_commands.specs.declared.reply.Reply.{Reply}
use Rattle.store_history.specs.declared.act.Answer.{Answer}
use Rattle.snapshot_files.specs.Calls.{part_calls}
use Rattle.store_stops.specs.declared.stop.Stop.{Stop}
use Rattle.core_state.specs.declared.entering.Place.{Place}
use Rattle.core_state.specs.declared.parts.Parts.{Parts}
use Rattle.core_state.specs.declared.state.Core.{Core}
use Rattle.core_state.specs.Damages.{TellsDamaged}
use Rattle.core_state.specs.Kept.{KeptAt, kept_at}
use Rattle.store_history.specs.Replies.{reply_told}
use Rattle.core_state.specs.Settles.{kind_by, reply_by}
use Rattle.core_state.specs.Stops.{ended_by, told}
use Rattle.core_state.specs.Unreadables.{Asked, TellsUnreadable, Way, from_offset}

-- ---- the words of an act

pub record Words (D : Type 0) : Type 1 where
  -- what it may be answered, by its disk and what it finds
  pub answers : Ghosts D → D → KeptAt → Reply → Type 0
  -- the file that it asks for
  pub asked : KeptAt → Option Asked
  -- the chunk that it needs and that is damaged, by what stands there; and which it may name on any disk
  pub damage : KeptAt → Files → Option (Digest32 × ChunkFault)
  pub may_name : KeptAt → Digest32 → Type 0
  -- how often it calls an honest disk at most, where that is said
  pub calls : KeptAt → Files → Option ℕ
  -- what it leaves of what its lane keeps of indexes, and in its session, by how it ended
  pub notes : Ghosts D → Parts D → Parts D → ℕ → Result Reply Stop → Type 0

-- an act of which no more than its answers is told: it asks for no file, and needs no chunk
abbrev pub plain_words : {D : Type 0} → (Ghosts D → D → KeptAt → Reply → Type 0) → Words D
plain_words answers = record {
  answers = answers;
  asked = λ k. None;
  damage = λ k files. None;
  may_name = λ k digest. ⊥;
  calls = λ k files. None;
  notes = λ d old new lane result. Unit {0};
}

-- ---- what it is answered

-- nothing is said
abbrev pub untold : {D : Type 0} → Ghosts D → D → KeptAt → Reply → Type 0
untold d disk k reply = Unit {0}

-- by what it finds, on any disk
abbrev pub by_state : {D : Type 0} → (KeptAt → Result Reply Refusal) → Ghosts D → D → KeptAt → Reply → Type 0
by_state wanted d disk k reply = reply ≡ reply_told (wanted k)

-- by that and what stands on an honest disk, whatever it holds
abbrev pub by_disk : {D : Type 0} → (KeptAt → Files → Result Reply Refusal) → Ghosts D → D → KeptAt → Reply → Type 0
by_disk wanted d disk k reply = d.honest disk → reply ≡ reply_told (wanted k (d.content disk))

-- ---- how often it calls the disk

abbrev pub CallsBy : {D : Type 0} → Ghosts D → D → D → (Files → Option ℕ) → Type 0
CallsBy d old new most = d.honest old → IfSome (most (d.content old)) (λ count. d.calls new ≤ d.calls old + count)

-- not at all where no file is asked for, and else as often as for a part of the file
abbrev pub way_calls : Way → Option (List ℕ) → Option ℕ
way_calls (from_offset whole offset) text = Some (part_calls whole text)
way_calls way text = None

abbrev pub asked_calls : Option Asked → Files → Option ℕ
asked_calls None files = Some 0
asked_calls (Some a) files = way_calls a.way (get files a.path)

-- ---- the record

-- by how the command ended: unless memory is wanting or the disk failed it is answered so; the file and the chunk that it needs are told to
-- be unreadable and damaged so
pub record ActTells {D : Type 0} (words : Words D) (d : Ghosts D) (old new : Parts D) (at : Place) (result : Result Reply Stop) : Type 0 where
  pub answers : IfOk (told result) (words.answers d old.disk (kept_at old at.lane))
  pub unreadable : TellsUnreadable d old.disk (words.asked (kept_at old at.lane)) (kind_by (told result)) (Some (reply_by (told result)))
  pub damaged : TellsDamaged d old.disk (words.may_name (kept_at old at.lane)) (words.damage (kept_at old at.lane)) (kind_by (told result)) (Some (reply_by (told result)))
  pub calls : CallsBy d old.disk new.disk (words.calls (kept_at old at.lane))
  pub notes : words.notes d old new at.lane result

-- and by the core's answer
pub record CoreTells {D E C : Type 0} (words : Words D) (d : Ghosts D) (old new : Core D E C) (lane : ℕ) (answer : Answer) : Type 0 where
  pub answers : (answer.entry).kind ≡ COMMAND_KIND → IsSomeAnd answer.reply (words.answers d (old.parts).disk (kept_at old.parts lane))
  pub unreadable : TellsUnreadable d (old.parts).disk (words.asked (kept_at old.parts lane)) (answer.entry).kind answer.reply
  pub damaged : TellsDamaged d (old.parts).disk (words.may_name (kept_at old.parts lane)) (words.damage (kept_at old.parts lane)) (answer.entry).kind answer.reply
  pub calls : CallsBy d (old.parts).disk (new.parts).disk (words.calls (kept_at old.parts lane))
  pub notes : (answer.entry).kind ≡ COMMAND_KIND → words.notes d old.parts new.parts lane (ended_by answer.reply)

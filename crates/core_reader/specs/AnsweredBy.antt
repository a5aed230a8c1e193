-- What OPEN_READER answers by what the core keeps, on any disk, and that it opens; what a RANGE and a VERIFY's reads answer by what stands on
-- an honest one.
use Rattle.disk_trait.specs.declared.disk.Disk.{Ghosts}
use Rattle.std.specs.Prelude.{◌≡◌, ℕ, true, List, Result, Ok, OnOk}
use Rattle.disk_trait.specs.Files.{Files}
use Rattle.store_types.specs.declared.refusal.Refusal.{Refusal}
use Rattle.store_types.specs.Chain.Refusing.{◌>>=◌}
use Rattle.wire_commands.specs.declared.command.Command.TheVariants.{OpenReader, Range}
use Rattle.wire_commands.specs.declared.reply.Reply.{Reply}
use Rattle.wire_commands.specs.declared.reply.Reply.TheVariants.{Data, Done}
use Rattle.store_history.specs.declared.act.Act.{Act}
use Rattle.store_history.specs.declared.act.Act.TheVariants.{Plain, ReadFile, ReadChunk}
use Rattle.store_history.specs.declared.act.Answer.{Answer}
use Rattle.snapshot_files.specs.Parts.{part_at}
use Rattle.core_state.specs.Kept.{KeptAt}
use Rattle.core_state.specs.declared.entering.Place.{Place}
use Rattle.core_state.specs.declared.parts.Parts.{Parts}
use Rattle.core_state.specs.declared.state.Core.{Core}
use Rattle.store_stops.specs.declared.stop.Stop.{Stop}
use Rattle.core_state.specs.FromState.{ActTells, FromState, CoreTells}
use Rattle.core_state.specs.Closing.{is_reader}
use Rattle.core_state.specs.Wanted.{session_at}
use Rattle.core_reader.specs.Asked.{index_of, place_of, to_open}
use Rattle.core_reader.specs.Chunks.{bytes_at}
use Rattle.core_reader.specs.Entries.{entry_by}
use Rattle.core_reader.specs.Ranges.{range_told}

-- the snapshot is to be read and whole, or the refusal
abbrev pub reader_told : List ℕ → KeptAt → Result Reply Refusal
reader_told text k = to_open text k >>= λ key. Ok Done

-- a part of a file of the lane's snapshot, as it stands there, or the refusal
abbrev pub part_told : List ℕ → ℕ → Files → KeptAt → Result Reply Refusal
part_told name offset files k = place_of name k >>= λ path. part_at files path offset

-- the bytes of the chunk at an entry of one of its indexes, as they stand there, or the refusal
abbrev pub chunk_told : List ℕ → ℕ → Files → KeptAt → Result Reply Refusal
chunk_told name place files k = do
  path ← index_of name k
  digest ← entry_by k.row name place files path
  bytes ← bytes_at files digest
  Ok (Data bytes)

-- the bytes of a range, by its index as it was opened and by what stands there, or the refusal
abbrev pub bytes_told : List ℕ → ℕ → ℕ → Files → KeptAt → Result Reply Refusal
bytes_told file offset len files k = range_told file offset len files k >>= λ bytes. Ok (Data bytes)

-- an OPEN_READER that is done is answered by what the core keeps, on any disk, and the lane then has a reader
pub record ActOpens {D : Type 0} (snapshot : List ℕ) (old new : Parts D) (at : Place) (result : Result Reply Stop) : Type 0 where
  pub answers : ActTells (reader_told snapshot) old at result
  pub opened : OnOk result (is_reader (session_at new at.lane) ≡ true)

-- a read is answered by what stands on an honest disk, whatever it holds
abbrev pub ActReads : {D : Type 0} → Ghosts D → (Files → FromState) → Parts D → Place → Result Reply Stop → Type 0
ActReads d wanted old at result = d.honest old.disk → ActTells (wanted (d.content old.disk)) old at result

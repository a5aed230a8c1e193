-- When a chunk is told to be damaged.
use Rattle.disk_trait.specs.declared.disk.Disk.{Ghosts}
use Rattle.std.specs.Prelude.{◌≡◌, ℕ, ◌+◌, List, [], ◌∷◌, length, nat_lt, Option, None, Some, if◌then◌else◌, Result, Ok, Err}
use Rattle.std.specs.FinMap.{get}
use Rattle.std.specs.List.{Contains}
use Rattle.disk_trait.specs.Files.{Files}
use Rattle.store_types.specs.declared.names.Digest32.{Digest32}
use Rattle.store_types.specs.declared.refusal.ChunkFault.{ChunkFault}
use Rattle.store_types.specs.declared.refusal.ChunkFault.TheVariants.{Nothing, NotABlob}
use Rattle.store_files.specs.Folder.{chunk_name}
use Rattle.store_types.specs.declared.refusal.Refusal.{Refusal}
use Rattle.store_types.specs.declared.refusal.Refusal.TheVariants.{Damaged}
use Rattle.store_types.specs.declared.order.TheConstants.{COMMAND_KIND}
use Rattle.blob_codec.specs.Blob.{blob_limit}
use Rattle.wire_commands.specs.declared.command.Command.TheVariants.{GetChunk, Range}
use Rattle.wire_commands.specs.declared.reply.Reply.{Reply}
use Rattle.wire_commands.specs.declared.reply.Reply.TheVariants.{Refused}
use Rattle.store_history.specs.declared.act.Act.{Act}
use Rattle.store_history.specs.declared.act.Act.TheVariants.{Plain, ReadChunk}
use Rattle.store_history.specs.declared.act.Answer.{Answer}
use Rattle.restore_reader.specs.Steps.{is_allowed}
use Rattle.chunk_store.specs.Pieces.{found_at}
use Rattle.core_state.specs.Damages.{TellsDamaged}
use Rattle.core_state.specs.Kept.{KeptAt, kept_at}
use Rattle.core_state.specs.declared.kept.Session.{Session}
use Rattle.core_state.specs.declared.kept.Session.TheVariants.{Reader}
use Rattle.core_state.specs.declared.entering.Place.{Place}
use Rattle.core_state.specs.declared.parts.Parts.{Parts}
use Rattle.core_state.specs.declared.state.Core.{Core}
use Rattle.store_stops.specs.declared.stop.Stop.{Stop}
use Rattle.core_state.specs.Settles.{kind_by, reply_by}
use Rattle.core_state.specs.Stops.{told}
use Rattle.core_state.specs.Unreadables.{Asked, Way, at_entry}
use Rattle.core_reader.specs.Asked.{asked_entry}
use Rattle.core_reader.specs.Ranges.{AskedNeeds, RangeAsked, range_asked, range_told}

-- ---- the chunks that an answer needs, in order

-- of a GET_CHUNK, where the lane's reader may ask for it
abbrev pub chunk_needed : Digest32 → Session → List Digest32
chunk_needed digest (Reader r) = if is_allowed r digest.0 then digest ∷ [] else []
chunk_needed digest session = []

-- ---- what is told

-- A VERIFY's read needs the chunk of an entry, of which the index tells the digest. Its bytes are not tested: nothing stands there, or
-- more than a blob may have.
abbrev pub bytes_damage : Digest32 → Option (List ℕ) → Option (Digest32 × ChunkFault)
bytes_damage digest None = Some (digest, Nothing)
bytes_damage digest (Some bytes) = if nat_lt blob_limit (length bytes) then Some (digest, NotABlob) else None

abbrev pub entry_damage : Files → Result Digest32 Refusal → Option (Digest32 × ChunkFault)
entry_damage files (Ok digest) = bytes_damage digest (get files (chunk_name digest.0))
entry_damage files (Err refusal) = None

abbrev pub damage_so : Way → Files → List ℕ → Option (Digest32 × ChunkFault)
damage_so (at_entry telling) files path = entry_damage files (telling files path)
damage_so way files path = None

-- of a read that was refused
abbrev pub damage_in : Result (List ℕ) Refusal → Option (Digest32 × ChunkFault)
damage_in (Err (Damaged digest found)) = Some (digest, found)
damage_in told = None

abbrev pub asked_damage : Files → Option Asked → Option (Digest32 × ChunkFault)
asked_damage files None = None
asked_damage files (Some a) = damage_so a.way files a.path

-- one that is needed, by what is found there
abbrev pub first_damage : Files → List Digest32 → Option (Digest32 × ChunkFault)
first_damage files [] = None
first_damage files (d ∷ ds) = elim (found_at files d.0) [ Ok piece ↦ first_damage files ds | Err found ↦ Some (d, found) ]

-- what an act's chunks are found to be
abbrev pub damage_by : Act → KeptAt → Files → Option (Digest32 × ChunkFault)
damage_by (Plain (GetChunk digest)) k files = first_damage files (chunk_needed digest k.session)
damage_by (Plain (Range file offset len)) k files = damage_in (range_told file offset len files k)
damage_by (ReadChunk name entry) k files = asked_damage files (asked_entry name entry k)
damage_by act k files = None

-- of a range that is read
abbrev pub MayNeed : Result RangeAsked Refusal → ℕ → ℕ → Digest32 → Type 0
MayNeed (Ok q) from to digest = AskedNeeds q from to digest
MayNeed (Err refusal) from to digest = ⊥

-- A chunk that an act may tell of: on any disk one that it needs, a RANGE by the page at hand or by a page's bytes with the SHA-256 that
-- was kept. A VERIFY's read learns which one from the disk.
abbrev pub MayName : Act → KeptAt → Digest32 → Type 0
MayName (Plain (GetChunk needed)) k digest = Contains (chunk_needed needed k.session) digest
MayName (Plain (Range file offset len)) k digest = MayNeed (range_asked file offset len k) offset (offset + len) digest
MayName (ReadChunk name entry) k digest = Unit {0}
MayName act k digest = ⊥

-- a chunk that it needs is told to be damaged so, by how its command ended
abbrev pub ActDamaged : {D : Type 0} → Ghosts D → Parts D → Place → Act → Result Reply Stop → Type 0
ActDamaged d old at act result =
    TellsDamaged d old.disk (MayName act (kept_at old at.lane)) (damage_by act (kept_at old at.lane)) (kind_by (told result)) (Some (reply_by (told result)))

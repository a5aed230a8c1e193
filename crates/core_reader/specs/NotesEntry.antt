-- What a lane keeps of indexes behind a VERIFY's read of a chunk.
use Rattle.std.specs.Prelude.{◌≡◌, ℕ, Bool, true, false, if◌then◌else◌, List, Result, Ok, Err}
use Rattle.disk_trait.specs.declared.disk.Disk.{Ghosts}
use Rattle.store_types.specs.declared.refusal.Refusal.TheVariants.{Damaged}
use Rattle.wire_commands.specs.declared.reply.Reply.{Reply}
use Rattle.store_stops.specs.declared.stop.Stop.{Stop}
use Rattle.store_stops.specs.declared.stop.Stop.TheVariants.{Refused}
use Rattle.core_state.specs.Kept.{kept_at}
use Rattle.core_state.specs.declared.indexes.Indexes.{Indexes}
use Rattle.core_state.specs.declared.parts.Parts.{Parts}
use Rattle.core_state.specs.Indexed.{row_at}
use Rattle.core_reader.specs.declared.entries.Turn.{Turn}
use Rattle.core_reader.specs.Asked.{index_of}
use Rattle.core_reader.specs.Entries.{IsTurn, ReadsTurn, turned}

-- the chunk was read, or is damaged
abbrev pub is_found : {A : Type 0} → Result A Stop → Bool
is_found (Ok x) = true
is_found (Err (Refused (Damaged digest found))) = true
is_found (Err stop) = false

abbrev pub kept_by : Bool → Turn → Indexes → Indexes
kept_by found turn row = if found then turned turn row else row

-- it turned to what was opened and read for the entry
pub record Turns {D : Type 0} (d : Ghosts D) (disk : D) (path name : List ℕ) (place : ℕ) (old new : Indexes) : Type 0 where
  pub turn : Turn
  pub is : new ≡ turned turn old
  pub only : IsTurn old name place turn
  pub reads : d.honest disk → ReadsTurn old (d.content disk) path name turn

-- Where its chunk was found the lane keeps the index and the page; after any other refusal, what it kept before.
pub record NotesEntry {D : Type 0} (d : Ghosts D) (old new : Parts D) (lane : ℕ) (name : List ℕ) (place : ℕ) (result : Result Reply Stop) : Type 0 where
  pub stays : is_found result ≡ false → row_at new lane ≡ row_at old lane
  pub turns : is_found result ≡ true → (path : List ℕ) × (index_of name (kept_at old lane) ≡ Ok path) × Turns d old.disk path name place (row_at old lane) (row_at new lane)

-- What is read of an index.
use Rattle.std.specs.Prelude.{◌≡◌, ◌⊎◌, ℕ, ◌-◌, List, [], ◌∷◌, Option, Some, None, if◌then◌else◌, Result, Ok, Err}
use Rattle.std.specs.FinMap.{get}
use Rattle.disk_trait.specs.declared.disk.Disk.{Ghosts}
use Rattle.disk_trait.specs.Files.{Files}
use Rattle.store_types.specs.FileNames.{is_fixed_name, is_dynamic_name}
use Rattle.store_types.specs.Chain.Refusing.{◌>>=◌, or_else}
use Rattle.store_types.specs.declared.refusal.Refusal.{Refusal}
use Rattle.store_types.specs.declared.refusal.Refusal.TheVariants.{Unreadable}
use Rattle.wire_commands.specs.declared.reply.Reply.{Reply}
use Rattle.store_files.specs.DynamicIndex.{Ended}
use Rattle.store_files.specs.Archive.{Layout, dynamic, fixed}
use Rattle.index_pages.specs.declared.fault.PageFault.{PageFault}
use Rattle.index_pages.specs.declared.fault.PageFault.TheVariants as faults
use Rattle.paged_indexes.specs.declared.kinds.IndexKind.{IndexKind}
use Rattle.paged_indexes.specs.declared.kinds.IndexKind.TheVariants.{Fixed, Dynamic}
use Rattle.paged_indexes.specs.declared.index.IndexPages.{IndexPages}
use Rattle.paged_indexes.specs.Handing.{HandsOn}
use Rattle.paged_indexes.specs.Index.{entries_in, opened, start_by, told_at}
use Rattle.snapshot_files.specs.declared.index.IndexPart.{IndexPart}
use Rattle.store_stops.specs.declared.stop.Stop.{Stop}
use Rattle.store_stops.specs.declared.stop.Stop.TheVariants as stops
use Rattle.snapshot_files.specs.Parts.{part_from, part_reply}
use Rattle.store_stops.specs.Stops.{Gives}

-- ---- kinds

-- of a file with this name
abbrev pub kind_named : List ℕ → Option IndexKind
kind_named name = if is_fixed_name name then Some Fixed else (if is_dynamic_name name then Some Dynamic else None)

-- of a file with this name of an index
abbrev pub kind_of_index : List ℕ → IndexKind
kind_of_index name = if is_fixed_name name then Fixed else Dynamic

abbrev pub layout_kind : Layout → IndexKind
layout_kind dynamic = Dynamic
layout_kind (fixed size chunk_size) = Fixed

-- ---- an index that is opened

-- the call stops for this fault; memory may be wanting to tell it
abbrev pub StopsBy : List ℕ → PageFault → Stop → Type 0
StopsBy path faults.Failed stop = stop ≡ stops.DiskFailed
StopsBy path faults.NoMemory stop = stop ≡ stops.NoMemory
StopsBy path fault stop = (stop ≡ stops.NoMemory) ⊎ (stop ≡ stops.Refused (Unreadable path))

-- what is kept, or that there is no index
abbrev pub pages_at : List ℕ → Result IndexPages PageFault → Result IndexPages Refusal
pages_at path (Ok pages) = Ok pages
pages_at path (Err fault) = Err (Unreadable path)

-- of the file that stands at the path
unfoldable pub index_opened : Files → List ℕ → IndexKind → Result IndexPages Refusal
index_opened content path kind = pages_at path (opened content path kind)

-- on an honest disk it is opened so
abbrev pub OpensIndex : {D : Type 0} → Ghosts D → D → List ℕ → IndexKind → Result IndexPages Stop → Type 0
OpensIndex d disk path kind result = d.honest disk → Gives (λ (p : IndexPages). p) result (index_opened (d.content disk) path kind)

-- ---- a page of one that was opened

abbrev pub entries_or : List ℕ → Result (List Ended) PageFault → Result (List Ended) Refusal
entries_or path (Ok entries) = Ok entries
entries_or path (Err fault) = Err (Unreadable path)

-- the entries of a page, which is unreadable where it is not as it was opened
unfoldable pub page_entries : Files → List ℕ → IndexPages → ℕ → Result (List Ended) Refusal
page_entries content path pages i = entries_or path (told_at content pages i)

-- they are handed on behind those that were taken
pub record IsPage {T : Type 0} (content : Files) (path : List ℕ) (pages : IndexPages) (i : ℕ) (taken : T → ℕ → List Ended → Type 0) (old new : T) : Type 0 where
  pub entries : List Ended
  pub read : page_entries content path pages i ≡ Ok entries
  pub hands : HandsOn taken (start_by pages i) entries old new

-- or the refusal is told
abbrev pub GivesPage : {T : Type 0} → Files → List ℕ → IndexPages → ℕ → (T → ℕ → List Ended → Type 0) → T → T → Result (Unit {0}) Stop → Type 0
GivesPage content path pages i taken old new (Ok x) = IsPage content path pages i taken old new
GivesPage content path pages i taken old new (Err (stops.Refused refusal)) = page_entries content path pages i ≡ Err refusal
GivesPage content path pages i taken old new (Err stop) = Unit {0}

abbrev pub ReadsPage : {D T : Type 0} → Ghosts D → D → List ℕ → IndexPages → ℕ → (T → ℕ → List Ended → Type 0) → T → T → Result (Unit {0}) Stop → Type 0
ReadsPage d disk path pages i taken old new result = d.honest disk → GivesPage (d.content disk) path pages i taken old new result

-- ---- an index that is read

-- a part of its text, and its entries
pub record Indexed : Type 0 where
  pub part : Reply
  pub entries : List Ended

-- the refusals in their order: the offset is beyond the text, the text is no index
unfoldable pub index_in : List ℕ → IndexKind → List ℕ → ℕ → Result Indexed Refusal
index_in path kind text offset = do
  part ← part_from text offset
  entries ← or_else (Unreadable path) (entries_in kind text)
  Ok (record { part = part; entries = entries })

-- of the file that stands at the path
unfoldable pub index_at : Files → List ℕ → IndexKind → ℕ → Result Indexed Refusal
index_at content path kind offset = or_else (Unreadable path) (get content path) >>= λ text. index_in path kind text offset

-- the part is that of the index at the path, what is kept is the index's, and its entries are handed on
pub record IsRead {T : Type 0} (content : Files) (path : List ℕ) (kind : IndexKind) (offset : ℕ) (taken : T → ℕ → List Ended → Type 0) (old new : T) (i : IndexPart) : Type 0 where
  pub entries : List Ended
  pub read : index_at content path kind offset ≡ Ok (record { part = part_reply i.part; entries = entries })
  pub opened : index_opened content path kind ≡ Ok i.pages
  pub hands : HandsOn taken 0 entries old new

-- it is read, or its refusal is told
abbrev pub GivesIndex : {T : Type 0} → Files → List ℕ → IndexKind → ℕ → (T → ℕ → List Ended → Type 0) → T → T → Result IndexPart Stop → Type 0
GivesIndex content path kind offset taken old new (Ok i) = IsRead content path kind offset taken old new i
GivesIndex content path kind offset taken old new (Err (stops.Refused refusal)) = index_at content path kind offset ≡ Err refusal
GivesIndex content path kind offset taken old new (Err stop) = Unit {0}

abbrev pub ReadsIndex : {D T : Type 0} → Ghosts D → D → List ℕ → IndexKind → ℕ → (T → ℕ → List Ended → Type 0) → T → T → Result IndexPart Stop → Type 0
ReadsIndex d disk path kind offset taken old new result = d.honest disk → GivesIndex (d.content disk) path kind offset taken old new result

-- ---- lengths

-- of each piece the digest and the length, where the first begins at the start
abbrev pub lengths_from : ℕ → List Ended → List (List ℕ × ℕ)
lengths_from start [] = []
lengths_from start (e ∷ es) = (e.digest, e.end - start) ∷ lengths_from e.end es

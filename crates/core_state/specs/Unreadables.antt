-- When a file of a snapshot is told to be unreadable.
use Rattle.disk_trait.specs.declared.disk.Disk.{Ghosts}
use Rattle.std.specs.Prelude.{◌≡◌, ℕ, List, Option, None, Some, option_map, Result, Ok, Err}
use Rattle.std.specs.FinMap.{get}
use Rattle.disk_trait.specs.Files.{Files}
use Rattle.store_types.specs.Chain.Refusing.{◌>>=◌, or_else}
use Rattle.store_types.specs.declared.names.Digest32.{Digest32}
use Rattle.store_types.specs.declared.refusal.Refusal.{Refusal}
use Rattle.store_types.specs.declared.refusal.Refusal.TheVariants.{Unreadable}
use Rattle.store_types.specs.declared.order.TheConstants.{COMMAND_KIND}
use Rattle.wire_commands.specs.declared.reply.Reply.{Reply}
use Rattle.wire_commands.specs.declared.reply.Reply.TheVariants.{Done, Refused}
use Rattle.store_history.specs.declared.act.Answer.{Answer}
use Rattle.paged_indexes.specs.declared.kinds.IndexKind.{IndexKind}
use Rattle.snapshot_files.specs.Parts.{part_from}
use Rattle.snapshot_files.specs.Indexes.{index_at}
use Rattle.core_state.specs.declared.entering.Place.{Place}
use Rattle.core_state.specs.declared.parts.Parts.{Parts}
use Rattle.core_state.specs.declared.state.Core.{Core}
use Rattle.store_stops.specs.declared.stop.Stop.{Stop}
use Rattle.core_state.specs.Kept.{KeptAt, kept_at}
use Rattle.core_state.specs.Listing.{listing_at}
use Rattle.core_state.specs.Settles.{kind_by, reply_by}
use Rattle.core_state.specs.Stops.{told}

-- how a file is read that an act asks for
pub data Way : Type 0 where
  -- a part of it from an offset; of an index that is read whole, and then of which kind
  from_offset : Option IndexKind → ℕ → Way
  -- an entry of an index, of which this tells the digest
  at_entry : (Files → List ℕ → Result Digest32 Refusal) → Way
  -- by this reading of what stands on the disk
  read_with : (Files → List ℕ → Result Reply Refusal) → Way
  -- whole, as a manifest
  as_listing : Way
  -- not at all: it makes its snapshot damaged, which was found at opening
  known : Way

-- a file that an act asks for: where it stands, and how it is read
pub record Asked : Type 0 where
  pub path : List ℕ
  pub way : Way

abbrev pub read_by : Option IndexKind → Files → List ℕ → ℕ → Result Reply Refusal
read_by None m path offset = or_else (Unreadable path) (get m path) >>= λ text. part_from text offset
read_by (Some kind) m path offset = index_at m path kind offset >>= λ x. Ok x.part

abbrev pub read_so : Way → Files → List ℕ → Result Reply Refusal
read_so (from_offset whole offset) m path = read_by whole m path offset
read_so (at_entry telling) m path = telling m path >>= λ digest. Ok Done
read_so (read_with reading) m path = reading m path
read_so as_listing m path = or_else (Unreadable path) (listing_at m path) >>= λ read. Ok Done
read_so known m path = Err (Unreadable path)

-- The part, or that it was read, or the refusal, of what stands there: unreadable where nothing does, or where what is read whole is not
-- what it is read as.
abbrev pub part_read : Files → Asked → Result Reply Refusal
part_read m a = read_so a.way m a.path

-- The file that was asked for is told to be unreadable, by its name in the datastore folder. On an honest disk, whatever it holds,
-- that is so exactly where it is: want of memory and faults of the disk, which have kinds of their own, apart.
pub record TellsUnreadable {D : Type 0} (d : Ghosts D) (disk : D) (asked : Option Asked) (kind : ℕ) (reply : Option Reply) : Type 0 where
  pub named : (name : List ℕ) → reply ≡ Some (Refused (Unreadable name)) → option_map (λ a. a.path) asked ≡ Some name
  pub cause : (name : List ℕ) (a : Asked) → reply ≡ Some (Refused (Unreadable name)) → asked ≡ Some a → d.honest disk → part_read (d.content disk) a ≡ Err (Unreadable name)
  pub missing : (name : List ℕ) (a : Asked) → kind ≡ COMMAND_KIND → asked ≡ Some a → d.honest disk → part_read (d.content disk) a ≡ Err (Unreadable name) → reply ≡ Some (Refused (Unreadable name))

-- the file that an act asks for, by what it finds, is told so, by how its command ended
abbrev pub ActUnreadable : {D : Type 0} → Ghosts D → (KeptAt → Option Asked) → Parts D → Place → Result Reply Stop → Type 0
ActUnreadable d asked old at result =
    TellsUnreadable d old.disk (asked (kept_at old at.lane)) (kind_by (told result)) (Some (reply_by (told result)))

-- and by the core's answer
abbrev pub CoreUnreadable : {D E C : Type 0} → Ghosts D → (KeptAt → Option Asked) → Core D E C → ℕ → Answer → Type 0
CoreUnreadable d asked old lane answer =
    TellsUnreadable d (old.parts).disk (asked (kept_at old.parts lane)) (answer.entry).kind answer.reply

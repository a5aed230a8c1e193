-- What is known of an act in which the disk failed.
use Rattle.std.specs.Prelude.{◌≡◌, ℕ, Some, None, Ok, IsOk}
use Rattle.disk_trait.specs.declared.disk.Disk.{Ghosts}
use Rattle.store_types.specs.declared.refusal.Refusal.TheVariants.{DiskFault}
use Rattle.chunk_store.specs.Pieces.{IsChunk}
use Rattle.wire_commands.specs.declared.reply.Reply.TheVariants.{Refused}
use Rattle.store_model.specs.AdminSteps.{forget}
use Rattle.store_model.specs.Store.{Store}
use Rattle.store_model.specs.WriterSteps.{finish}
use Rattle.store_history.specs.declared.act.Act.{Act}
use Rattle.store_history.specs.declared.act.Answer.{Answer}
use Rattle.store_history.specs.Profile.{new_chunk, new_manifest, no_snapshot, OnDisk, disk_change, profile}
use Rattle.core_state.specs.declared.state.Core.{Core}
use Rattle.core_state.specs.Holds.{Holds}

-- the tests of a FINISH or a FORGET had passed, and a CHUNK was to put a piece's blob
abbrev pub PassesFor : OnDisk → Store → ℕ → Type 0
PassesFor (disk_change new_manifest) s lane = IsOk (finish s lane)
PassesFor (disk_change (no_snapshot snapshot)) s lane = IsOk (forget s lane snapshot)
PassesFor (disk_change (new_chunk digest (Ok bytes))) s lane = IsChunk digest.0 bytes
PassesFor disk s lane = Unit {0}

abbrev pub PassesItsTests : Act → Store → ℕ → Type 0
PassesItsTests act s lane = PassesFor (profile act).disk s lane

-- it is so where the disk failed in this act, and had not before
abbrev pub PassedItsTestsAt : {D E C : Type 0} → Ghosts D → Core D E C → ℕ → Act → Answer → Type 0
PassedItsTestsAt d old lane act answer = old.fault ≡ None → answer.reply ≡ Some (Refused DiskFault) → (s : Store) → Holds d old.parts s → PassesItsTests act s lane

-- Why a chunk isn't loaded, by what the disk answered.
use Rattle.std.specs.Prelude.{◌≡◌, ℕ, List, length, nat_lt, if◌then◌else◌, Option, None, Some, Result, Ok, Err, IsOk, OnOk, IfOk, IfErr, IsErrOf, MatchResult, Vec}
use Rattle.std.specs.declared.alloc.Global.{Global}
use Rattle.std.specs.FinMap.{get}
use Rattle.sha2.specs.Sha256.{sha256}
use Rattle.disk_trait.specs.Disk.{one_up}
use Rattle.disk_trait.specs.declared.disk.Disk.{Ghosts}
use Rattle.disk_trait.specs.declared.disk.DiskError.{DiskError}
use Rattle.disk_trait.specs.declared.disk.DiskError.TheVariants as disk
use Rattle.store_types.specs.declared.names.Digest32.{Digest32}
use Rattle.store_types.specs.declared.refusal.ChunkFault.{ChunkFault}
use Rattle.store_types.specs.declared.refusal.ChunkFault.TheVariants.{Nothing, NotABlob}
use Rattle.blob_codec.specs.Blob.{blob_limit}
use Rattle.store_files.specs.Folder.{chunk_name}
use Rattle.chunk_store.specs.Pieces.{found_at, IsHeld}
use Rattle.chunk_store.specs.declared.chunk.LoadFault.{LoadFault}
use Rattle.chunk_store.specs.declared.chunk.LoadFault.TheVariants.{Damaged, Failed, NoMemory}

abbrev pub load_fault : DiskError → LoadFault
load_fault disk.Failed = Failed
load_fault disk.NoMemory = NoMemory

-- by memory or disk alone
abbrev pub IsNotDamaged : LoadFault → Type 0
IsNotDamaged (Damaged digest found) = ⊥
IsNotDamaged fault = Unit {0}

-- where it is told that a chunk is damaged, it is the one that was asked for
abbrev pub IsDamageAsked : Digest32 → LoadFault → Type 0
IsDamageAsked digest fault = (asked : Digest32) (found : ChunkFault) → fault ≡ Damaged asked found → asked ≡ digest

-- and what is told is what stands there
abbrev pub TellsDamage : {D A : Type 0} → Ghosts D → D → Digest32 → Result A LoadFault → Type 0
TellsDamage d disk digest result = d.honest disk → IfErr result (λ e. (asked : Digest32) (found : ChunkFault) → e ≡ Damaged asked found →
    (asked ≡ digest) × (found_at (d.content disk) digest.0 ≡ Err found))

-- the chunk is the piece with this digest
abbrev pub LoadsPiece : {D E : Type 0} → Ghosts D → D → List ℕ → Result (List ℕ) E → Type 0
LoadsPiece d disk digest result = d.honest disk → IfOk result (λ chunk. found_at (d.content disk) digest ≡ Ok chunk)

-- the bytes of a chunk's file, or why it is not read: nothing is there, or it is too long for a blob
unfoldable pub bytes_in : Option (List ℕ) → Result (List ℕ) ChunkFault
bytes_in None = Err Nothing
bytes_in (Some bytes) = if nat_lt blob_limit (length bytes) then Err NotABlob else Ok bytes

-- the bytes are those of the file under the digest, or what is told is why it is not read
abbrev pub ReadsBytes : {D : Type 0} → Ghosts D → D → Digest32 → Result (Vec ℕ Global) LoadFault → Type 0
ReadsBytes d disk digest result = d.honest disk → MatchResult result
    (λ bytes. bytes_in (get (d.content disk) (chunk_name digest.0)) ≡ Ok bytes.items)
    (λ e. (asked : Digest32) (found : ChunkFault) → e ≡ Damaged asked found → bytes_in (get (d.content disk) (chunk_name digest.0)) ≡ Err found)

-- One call of the disk tells that nothing is there, or that it is too long; what is given took one more. Memory is wanting only for a file
-- that is read.
pub record CallsBySize {D A : Type 0} (d : Ghosts D) (old new : D) (digest : Digest32) (result : Result A LoadFault) : Type 0 where
  pub given : d.honest old → OnOk result (d.calls new ≡ one_up (one_up (d.calls old)))
  pub damaged : d.honest old → IfErr result (λ e. (asked : Digest32) (found : ChunkFault) → e ≡ Damaged asked found → d.calls new ≡ one_up (d.calls old))
  pub wanting : d.honest old → IsErrOf result NoMemory → IsOk (bytes_in (get (d.content old) (chunk_name digest.0)))

-- a piece that stands there is loaded
abbrev pub LoadsHeld : {D : Type 0} → Ghosts D → D → List ℕ → Result (List ℕ) LoadFault → Type 0
LoadsHeld d disk digest result = d.honest disk → (p : List ℕ) → IsHeld (d.content disk) p → sha256 p ≡ digest → MatchResult result (λ chunk. chunk ≡ p) IsNotDamaged

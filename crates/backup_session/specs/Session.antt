-- A writer with digests in place of pieces.
use Rattle.std.specs.Prelude.{◌≡◌, ℕ, ◌≤◌, List, [], ◌∷◌, if◌then◌else◌, Option, Some, None, Result, Err, is_some}
use Rattle.std.specs.FinMap.{FinMap, find, put, remove, entries, from_entries}
use Rattle.store_types.specs.declared.names.SnapshotKey.{SnapshotKey}
use Rattle.store_types.specs.declared.refusal.Refusal.{Refusal}
use Rattle.store_types.specs.Names.{text_cmp}
use Rattle.store_stops.specs.Outcomes.{OnCause}
use Rattle.manifest.specs.declared.facts.FileFact.{FileFact}
use Rattle.backup_session.specs.declared.index.OpenIndex.{OpenIndex}

-- the lengths of the pieces that were sent, by the bytes of their digests: a finite map's entries
abbrev pub Pool : Type 0
Pool = List (List ℕ × ℕ)

abbrev pub lengths_in : Pool → FinMap text_cmp ℕ
lengths_in pool = from_entries pool

-- a piece has 1 to 16,777,216 bytes
abbrev pub IsLength : List ℕ × ℕ → Type 0
IsLength k = (1 ≤ k.1) × (k.1 ≤ 16_777_216)

-- a finite map has these entries
abbrev pub IsPool : Pool → Type 0
IsPool pool = (m : FinMap text_cmp ℕ) × (pool ≡ entries m)

-- the length that is kept of a digest
abbrev pub length_at : Pool → List ℕ → Option ℕ
length_at pool digest = find text_cmp digest pool

-- a length that is there already stays
abbrev pub with_length : Pool → List ℕ → ℕ → Pool
with_length pool digest len = if is_some (length_at pool digest) then pool else put text_cmp digest len pool

-- several, one after another
abbrev pub with_lengths : Pool → Pool → Pool
with_lengths pool [] = pool
with_lengths pool (k ∷ ks) = with_lengths (with_length pool k.0 k.1) ks

-- without the length of the digest
abbrev pub without_length : Pool → List ℕ → Pool
without_length pool digest = entries (remove (lengths_in pool) digest)

-- an index that was begun
pub record Open : Type 0 where
  pub number : ℕ
  pub name : List ℕ
  pub index : OpenIndex

-- The open indexes stand as they were begun, and the files in byte order. Of the manifest its file's text is kept.
pub record Writing : Type 0 where
  pub key : SnapshotKey
  pub start : ℕ
  pub base : Option SnapshotKey
  pub pool : Pool
  pub begun : List Open
  pub files : List FileFact
  pub manifest : Option (List ℕ)

-- the writer, and what it becomes where the pending file is kept
pub record Session : Type 0 where
  pub writer : Writing
  pub pending : Option Writing

-- no file is pending
abbrev pub settled : Writing → Session
settled w = record { writer = w; pending = None }

-- a file is
abbrev pub held : Writing → Writing → Session
held w after = record { writer = w; pending = Some after }

-- A call stops by the step's refusal, or since memory is wanting. All is as it was.
abbrev pub StopsBy : {S B : Type 0} → S → S → Result (Writing × B) Refusal → Refusal → Type 0
StopsBy old new step refusal = OnCause (λ cause. step ≡ Err cause) refusal × (new ≡ old)

-- what keeping the pending file makes of a session
abbrev pub kept : Session → Session
kept s = elim s.pending [ None ↦ s | Some after ↦ settled after ]

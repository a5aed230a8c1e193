-- Where a batch of chunks ends.
use Rattle.std.specs.Prelude.{◌≡◌, ◌⊎◌, ◌+◌, ◌≤◌, ◌<◌, ℕ, length, Option, is_some, MatchBool}
use Rattle.wire_commands.specs.declared.rows.FileFault.{FileFault}
use Rattle.job_steps.specs.declared.chunks.Chunks.{Chunks}
use Rattle.job_steps.specs.Visits.{HasNext, IsRead, IsSettled, next_piece}

-- how many chunks of the batch were read, and what they have together by the index
abbrev pub batch_count : Chunks → ℕ
batch_count c = c.batch_chunks + length c.waiting.chunks.items

abbrev pub batch_len : Chunks → ℕ
batch_len c = c.batch_bytes + c.bytes

-- it ends at 4,096 chunks, at 64 MiB or more, or with its index
abbrev pub IsBatch : Chunks → Type 0
IsBatch c = (4096 ≤ batch_count c) ⊎ ((67_108_864 ≤ batch_len c) ⊎ IsRead c)

abbrev pub GoesOn : Chunks → Type 0
GoesOn c = (batch_count c < 4096) × (batch_len c < 67_108_864) × HasNext c

-- the batch has what it had, and so much more
pub record BatchHas (old new : Chunks) (count bytes : ℕ) : Type 0 where
  pub chunks : batch_count new ≡ batch_count old + count
  pub len : batch_len new ≡ batch_len old + bytes

-- a chunk that was read joins the batch, unless the file has a fault already
abbrev pub PutsOne : Option FileFault → Chunks → Chunks → Type 0
PutsOne fault old new =
    MatchBool (is_some fault) (BatchHas old new 0 0) (BatchHas old new 1 (next_piece old).length)

-- all that was read is tested, and a batch begins
pub record BeginsBatch (c : Chunks) : Type 0 where
  pub settled : IsSettled c
  pub chunks : batch_count c ≡ 0
  pub len : batch_len c ≡ 0

-- a batch that has ended is tested whole, and one that goes on has what it had
pub record SettlesBatch (old new : Chunks) : Type 0 where
  pub ended : IsBatch old → BeginsBatch new
  pub goes_on : GoesOn old → BatchHas old new 0 0

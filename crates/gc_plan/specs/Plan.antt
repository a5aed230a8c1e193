-- The plan of a collection of unused chunks.
use Rattle.std.specs.Prelude.{ℕ, ◌+◌, ◌-◌, ◌*◌, ◌^◌, ◌≤◌, min, Bool, true, false, List, [], ◌∷◌, length, nat_lt, ◌==◌, if◌then◌else◌, Option, Some, None, IsSomeAnd, slice_get}
use Rattle.store_types.specs.declared.names.Digest32.{Digest32}
use Rattle.atime_book.specs.Touches.{cutoff_of}
use Rattle.gc_plan.specs.declared.IndexAt.{IndexAt}
use Rattle.gc_plan.specs.declared.GcReport.{GcReport}

-- what comes next
pub data Stage : Type 0 where
  -- the index at this place of the list is to be marked, from this entry on; past the last place nothing is to be marked
  marking : ℕ → ℕ → Stage
  -- these chunks are to be visited
  sweeping : List Digest32 → Stage

-- A collection: the moment of its start, the cutoff, the indexes of all snapshots that were finished then, and how many chunks it removed.
pub record Plan : Type 0 where
  pub start : ℕ
  pub cutoff : ℕ
  pub indexes : List IndexAt
  pub stage : Stage
  pub removed : ℕ

-- so many entries of one index are marked at a time, and an index has so many
abbrev pub mark_limit : ℕ
mark_limit = 1_000

abbrev pub entry_limit : ℕ
entry_limit = 1_048_576

abbrev pub begun : ℕ → Option ℕ → List IndexAt → Plan
begun moment oldest indexes =
    record { start = moment; cutoff = cutoff_of moment oldest; indexes = indexes; stage = marking 0 0; removed = 0 }

-- ---- marking

abbrev pub mark_in : List IndexAt → Stage → Option (ℕ × ℕ)
mark_in indexes (marking place first) = if nat_lt place (length indexes) then Some (place, first) else None
mark_in indexes (sweeping names) = None

-- the place of the index that is next, and its first unmarked entry
abbrev pub next_mark : Plan → Option (ℕ × ℕ)
next_mark p = mark_in p.indexes p.stage

abbrev pub index_in : List IndexAt → Stage → Option IndexAt
index_in indexes (marking place first) = slice_get indexes place
index_in indexes (sweeping names) = None

abbrev pub next_index : Plan → Option IndexAt
next_index p = index_in p.indexes p.stage

-- an index is next, and with those that are marked now and those that are left it has no more entries than one can have
abbrev pub FitsMark : Plan → ℕ → ℕ → Type 0
FitsMark p count left = IsSomeAnd (next_mark p) (λ mark. mark.1 + count + left ≤ entry_limit)

-- so many entries were marked; where none is left the next index follows
abbrev pub marked_at : Stage → ℕ → ℕ → Stage
marked_at (marking place first) count left = if left == 0 then marking (place + 1) 0 else marking place (first + count)
marked_at (sweeping names) count left = sweeping names

abbrev pub with_mark : Plan → ℕ → ℕ → Plan
with_mark p count left = record p { stage = marked_at p.stage count left }

-- ---- visiting

abbrev pub with_names : Plan → List Digest32 → Plan
with_names p names = record p { stage = sweeping names }

abbrev pub is_sweeping : Stage → Bool
is_sweeping (marking place first) = false
is_sweeping (sweeping names) = true

abbrev pub has_names : Plan → Bool
has_names p = is_sweeping p.stage

abbrev pub visit_in : Stage → Option Digest32
visit_in (marking place first) = None
visit_in (sweeping []) = None
visit_in (sweeping (d ∷ ds)) = Some d

-- the chunk that is next
abbrev pub next_visit : Plan → Option Digest32
next_visit p = visit_in p.stage

abbrev pub behind_visit : Stage → Stage
behind_visit (marking place first) = marking place first
behind_visit (sweeping []) = sweeping []
behind_visit (sweeping (d ∷ ds)) = sweeping ds

abbrev pub visited : Plan → Plan
visited p = record p { stage = behind_visit p.stage }

-- a number of 64 bits goes no further
abbrev pub with_removal : Plan → Plan
with_removal p = record p { removed = min (p.removed + 1) 18_446_744_073_709_551_615 }

-- ---- what is left

-- A number that each step lowers: indexes, entries of the first, and a list of chunks that is still to come, or the chunks.
abbrev pub left_in : List IndexAt → Stage → ℕ
left_in indexes (marking place first) = 2 ^ 63 + (length indexes - place) * 2_097_152 + (entry_limit - first)
left_in indexes (sweeping names) = length names

abbrev pub left_of : Plan → ℕ
left_of p = left_in p.indexes p.stage

-- ---- the end

abbrev pub ends_at : Stage → Bool
ends_at (marking place first) = false
ends_at (sweeping []) = true
ends_at (sweeping (d ∷ ds)) = false

-- the chunks were listed, and each was visited
abbrev pub is_over : Plan → Bool
is_over p = ends_at p.stage

abbrev pub report_of : Plan → ℕ → ℕ → GcReport
report_of p used pending = record { start = p.start; cutoff = p.cutoff; used = used; pending = pending; removed = p.removed }

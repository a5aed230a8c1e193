-- The index that a collector marks.
use Rattle.std.specs.Prelude.{◌<◌, ◌≤◌, ℕ, Option, Some, None, IsSome, IsTrue}
use Rattle.std.specs.List.{All}
use Rattle.store_types.specs.FileNames.{is_index_name}
use Rattle.gc_plan.specs.Plan.{Plan, Stage, marking, sweeping, entry_limit}
use Rattle.paged_indexes.specs.Index.{pages_by}
use Rattle.core_state.specs.declared.marked.MarkedPages.{MarkedPages}

-- how many entries of the index that is next are marked
abbrev pub marked_in : Stage → ℕ
marked_in (marking place first) = first
marked_in (sweeping names) = 0

-- how many entries the index has whose pages are at hand
abbrev pub count_at_hand : Option MarkedPages → ℕ
count_at_hand None = 0
count_at_hand (Some p) = (pages_by p.kept).count

-- Each index has the name of one. Where some entries are marked, no more than an index may have, the index's pages are at hand. Of the one
-- whose pages are at hand some entries are left.
pub record FitsPages (plan : Plan) (pages : Option MarkedPages) : Type 0 where
  pub named : All (λ i. IsTrue (is_index_name i.name)) plan.indexes
  pub begun : 0 < marked_in plan.stage → IsSome pages
  pub within : IsSome pages → marked_in plan.stage < count_at_hand pages
  pub few : marked_in plan.stage ≤ entry_limit

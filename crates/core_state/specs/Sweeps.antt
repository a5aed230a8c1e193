-- When the plan of the open collector is the sweep of a history.
use Rattle.std.specs.Prelude.{◌≡◌, ◌≤◌, ◌<◌, ◌+◌, ◌^◌, ◌⊎◌, ◌==◌, ℕ, List, [], ◌∷◌, ◌++◌, map, drop, length, Option, Some, None, option_map, IfSome, IsSomeAnd}
use Rattle.std.specs.List.{All, find, flat_map}
use Rattle.store_types.specs.declared.names.SnapshotKey.{SnapshotKey}
use Rattle.store_files.specs.Archive.{File, Snapshot, file_named, file_text}
use Rattle.store_files.specs.Folder.{file_path}
use Rattle.restore_reader.specs.Shown.{pages_of}
use Rattle.gc_plan.specs.Plan.{Stage, marking, sweeping, next_index}
use Rattle.gc_plan.specs.declared.IndexAt.{IndexAt}
use Rattle.store_history.specs.Sweeping.{Sweep, Unmarked, digests_of, unmarked_of}
use Rattle.core_state.specs.declared.collector.Collector.{Collector}
use Rattle.core_state.specs.declared.kept.Kept.{Kept}
use Rattle.core_state.specs.declared.kept.Listed.{Listed}
use Rattle.core_state.specs.declared.marked.MarkedPages.{MarkedPages}
use Rattle.core_state.specs.MarkedPage.{IsPageOfText}
use Rattle.core_state.specs.Numbers.{first_number}
use Rattle.core_state.specs.Shown.{files_named}

-- ---- an index of the plan

-- the snapshot of the catalogue with this number
abbrev pub by_number : ℕ → List Listed → Option Kept
by_number number catalogue = option_map (λ x. x.kept) (find (λ x. x.number == number) catalogue)

abbrev pub digests_in : Option File → List (List ℕ)
digests_in None = []
digests_in (Some f) = digests_of f.content

-- the digests of the entries of a finished snapshot's index
abbrev pub digests_named : SnapshotKey → List ℕ → List Snapshot → List (List ℕ)
digests_named key name snapshots = digests_in (file_named name (files_named key snapshots))

-- what is left of it from this entry on: nothing, where its snapshot was forgotten
abbrev pub left_of_kept : List Snapshot → List ℕ → ℕ → Option Kept → List Unmarked
left_of_kept snapshots name first None = []
left_of_kept snapshots name first (Some k) = unmarked_of k.key name (drop first (digests_named k.key name snapshots))

abbrev pub left_at : List Listed → List Snapshot → ℕ → IndexAt → List Unmarked
left_at catalogue snapshots first i = left_of_kept snapshots i.name first (by_number i.snapshot catalogue)

-- of these indexes, the first of which is marked up to this entry
abbrev pub left_in : List Listed → List Snapshot → ℕ → List IndexAt → List Unmarked
left_in catalogue snapshots first [] = []
left_in catalogue snapshots first (i ∷ is) = left_at catalogue snapshots first i ++ flat_map (left_at catalogue snapshots 0) is

-- ---- the plan

-- what is still to be marked
abbrev pub unmarked_by : List Listed → List Snapshot → List IndexAt → Stage → List Unmarked
unmarked_by catalogue snapshots indexes (marking place first) = left_in catalogue snapshots first (drop place indexes)
unmarked_by catalogue snapshots indexes (sweeping names) = []

-- the digests of the chunks that are still to be visited, once they are listed
abbrev pub visits_by : Stage → Option (List (List ℕ))
visits_by (marking place first) = None
visits_by (sweeping names) = Some (map (λ d. d.0) names)

-- how many were taken out: none before the chunks are listed, and no more than were listed
abbrev pub FitsRemoved : Stage → ℕ → Type 0
FitsRemoved (marking place first) removed = removed ≡ 0
FitsRemoved (sweeping names) removed = removed + length names < 2 ^ 63

-- what is at hand is of the index of this name with this text: what its opening at the path keeps, and the page that was read last
pub record AreOfText (name path text : List ℕ) (p : MarkedPages) : Type 0 where
  pub kept : p.kept ≡ pages_of name path text
  pub last : IfSome p.last (IsPageOfText p.kept text)

-- the pages at hand are those of the index's file, where its snapshot is still there
abbrev pub ArePages : List Snapshot → List ℕ → MarkedPages → Option Kept → Type 0
ArePages snapshots name p None = Unit {0}
ArePages snapshots name p (Some k) =
    IsSomeAnd (file_named name (files_named k.key snapshots)) (λ f. AreOfText name (file_path k.key name) (file_text f.content) p)

abbrev pub HasPages : List Listed → List Snapshot → MarkedPages → Option IndexAt → Type 0
HasPages catalogue snapshots p None = Unit {0}
HasPages catalogue snapshots p (Some i) = ArePages snapshots i.name p (by_number i.snapshot catalogue)

-- no act after so many gives a snapshot the number of this index's
abbrev pub HasNumber : ℕ → IndexAt → Type 0
HasNumber acts i = (i.snapshot < acts) ⊎ (first_number ≤ i.snapshot)

-- The collector's plan, after so many acts, over this catalogue of these snapshots, is the sweep.
pub record ShowsSweep (acts : ℕ) (catalogue : List Listed) (snapshots : List Snapshot) (c : Collector) (sweep : Sweep) : Type 0 where
  pub start : (c.plan).start ≡ sweep.start
  pub cutoff : (c.plan).cutoff ≡ sweep.cutoff
  pub unmarked : unmarked_by catalogue snapshots (c.plan).indexes (c.plan).stage ≡ sweep.unmarked
  pub to_visit : visits_by (c.plan).stage ≡ sweep.to_visit
  pub removed : (c.plan).removed ≡ sweep.removed
  pub few : FitsRemoved (c.plan).stage (c.plan).removed
  -- where pages are at hand they are those of the index that is next
  pub pages : IfSome c.pages (λ p. HasPages catalogue snapshots p (next_index c.plan))
  pub numbers : All (HasNumber acts) (c.plan).indexes

-- no collector is open, and there is no sweep
abbrev pub ShowsOpen : ℕ → List Listed → List Snapshot → Option Collector → Option Sweep → Type 0
ShowsOpen acts catalogue snapshots None sweep = sweep ≡ None
ShowsOpen acts catalogue snapshots (Some c) sweep = IsSomeAnd sweep (ShowsSweep acts catalogue snapshots c)

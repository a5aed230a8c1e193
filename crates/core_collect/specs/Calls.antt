-- How often the marks call an honest disk.
use Rattle.std.specs.Prelude.{◌≡◌, ◌+◌, ◌/◌, ◌==◌, if◌then◌else◌, ℕ, List, [], ◌∷◌, Option, Some, None}
use Rattle.std.specs.FinMap.{get}
use Rattle.disk_trait.specs.Files.{Files}
use Rattle.disk_trait.specs.declared.disk.Disk.{Ghosts}
use Rattle.gc_plan.specs.Plan.{next_index}
use Rattle.gc_plan.specs.declared.IndexAt.{IndexAt}
use Rattle.index_pages.specs.Calls.{CallsAtMost, opening_calls}
use Rattle.paged_indexes.specs.Calls.{entry_width}
use Rattle.paged_indexes.specs.Index.{pages_by}
use Rattle.paged_indexes.specs.declared.index.IndexPages.{IndexPages}
use Rattle.paged_indexes.specs.declared.kinds.IndexKind.{IndexKind}
use Rattle.snapshot_files.specs.Indexes.{kind_of_index}
use Rattle.core_state.specs.declared.collector.Collector.{Collector}
use Rattle.core_state.specs.declared.kept.Listed.{Listed}
use Rattle.core_state.specs.declared.marked.MarkedPage.{MarkedPage}
use Rattle.core_state.specs.declared.marked.MarkedPages.{MarkedPages}
use Rattle.core_state.specs.declared.parts.Parts.{Parts}
use Rattle.core_state.specs.Entries.{marked_in}
use Rattle.core_collect.specs.Entries.{reaches_on}
use Rattle.core_collect.specs.Marking.{Standing, indexes_left, marked_next, passed_over, path_at, standing, unreadable}

-- for page i: once, or not at all where it is at hand
abbrev pub page_calls : Option MarkedPage → ℕ → ℕ
page_calls None i = 1
page_calls (Some q) i = if q.number == i then 0 else 1

-- for the page of this entry, and for the next one where the entries that are marked reach on: two pages at most
abbrev pub pages_calls : IndexPages → Option MarkedPage → ℕ → ℕ
pages_calls p at_hand first = page_calls at_hand (first / 1024) + (if reaches_on (pages_by p).count first then 1 else 0)

-- for an index: its next entries where its pages are at hand, else its opening, and nothing where it was forgotten
abbrev pub calls_at : Files → IndexKind → Option MarkedPages → ℕ → Option (List ℕ) → ℕ
calls_at m kind pages first None = 0
calls_at m kind None first (Some path) = opening_calls (entry_width kind) (get m path)
calls_at m kind (Some p) first (Some path) = pages_calls p.kept p.last first

abbrev pub calls_of : Files → List Listed → Option MarkedPages → ℕ → IndexAt → ℕ
calls_of m catalogue pages first i = calls_at m (kind_of_index i.name) pages first (path_at i catalogue)

-- for the one that is next, if one is
abbrev pub calls_next : Files → List Listed → Collector → Option IndexAt → ℕ
calls_next m catalogue c None = 0
calls_next m catalogue c (Some i) = calls_of m catalogue c.pages (marked_in (c.plan).stage) i

-- once it is passed over
abbrev pub calls_then : Standing → ℕ → ℕ
calls_then passed_over later = later
calls_then (marked_next p digests) later = 0
calls_then (unreadable path) later = 0

-- for the first of these that is not passed over, and for each before it
abbrev pub calls_in : Files → List Listed → Option MarkedPages → ℕ → List IndexAt → ℕ
calls_in m catalogue pages first [] = 0
calls_in m catalogue pages first (i ∷ is) =
    calls_of m catalogue pages first i + calls_then (standing m catalogue pages first i) (calls_in m catalogue None 0 is)

abbrev pub search_calls : Files → List Listed → Collector → ℕ
search_calls m catalogue c = calls_in m catalogue c.pages (marked_in (c.plan).stage) (indexes_left (c.plan).indexes (c.plan).stage)

-- as the index is read that is next, whose pages are at hand: two pages at most
abbrev pub OpenCalls : {D : Type 0} → Ghosts D → Parts D → Parts D → Collector → Type 0
OpenCalls d old new c = (i : IndexAt) (path : List ℕ) (p : MarkedPages) → next_index c.plan ≡ Some i → path_at i old.catalogue.listed ≡ Some path → c.pages ≡ Some p
    → CallsAtMost d old.disk new.disk (pages_calls p.kept p.last (marked_in (c.plan).stage))

-- as the index that is next is settled, and as the one is searched that is marked
abbrev pub SettleCalls : {D : Type 0} → Ghosts D → Parts D → Parts D → Collector → Type 0
SettleCalls d old new c = CallsAtMost d old.disk new.disk (calls_next (d.content old.disk) old.catalogue.listed c (next_index c.plan))

abbrev pub SearchCalls : {D : Type 0} → Ghosts D → Parts D → Parts D → Collector → Type 0
SearchCalls d old new c = CallsAtMost d old.disk new.disk (search_calls (d.content old.disk) old.catalogue.listed c)

-- The marks of a collector: the index that is next, and what is marked of it.
use Rattle.std.specs.Prelude.{◌≡◌, ◌<◌, ◌≤◌, ◌-◌, ◌⊎◌, ◌==◌, if◌then◌else◌, ℕ, zero, suc, min, false, List, [], ◌∷◌, drop, length, Option, Some, None, option_map, IfSome, IsSome, IsSomeAnd, Result, Ok, Err, IfOk, Vec}
use Rattle.std.specs.declared.alloc.Global.{Global}
use Rattle.disk_trait.specs.Files.{Files}
use Rattle.disk_trait.specs.declared.disk.Disk.{Ghosts}
use Rattle.store_types.specs.declared.names.Digest32.{Digest32}
use Rattle.store_types.specs.declared.refusal.Refusal.{Refusal}
use Rattle.store_files.specs.Book.{Book}
use Rattle.gc_plan.specs.Plan.{Plan, Stage, marking, sweeping, is_over, left_of, mark_limit, marked_at, next_index, next_mark, with_mark}
use Rattle.gc_plan.specs.declared.IndexAt.{IndexAt}
use Rattle.index_pages.specs.declared.fault.PageFault.{PageFault}
use Rattle.index_pages.specs.declared.fault.PageFault.TheVariants as faults
use Rattle.paged_indexes.specs.declared.index.IndexPages.{IndexPages}
use Rattle.paged_indexes.specs.declared.kinds.IndexKind.{IndexKind}
use Rattle.paged_indexes.specs.Index.{pages_by}
use Rattle.snapshot_files.specs.Indexes.{index_opened, kind_of_index}
use Rattle.store_files.specs.Archive.{Snapshot}
use Rattle.store_model.specs.Store.{Store}
use Rattle.store_history.specs.Sweeping.{Sweep, Unmarked}
use Rattle.core_state.specs.declared.collector.Collector.{Collector}
use Rattle.core_state.specs.declared.kept.Kept.{Kept}
use Rattle.core_state.specs.declared.kept.Listed.{Listed}
use Rattle.core_state.specs.declared.marked.MarkedPages.{MarkedPages}
use Rattle.core_state.specs.declared.parts.Parts.{Parts}
use Rattle.core_collect.specs.declared.marking.Opened.{Opened}
use Rattle.core_collect.specs.declared.marking.Unread.{Unread}
use Rattle.core_collect.specs.declared.marking.Unread.TheVariants.{DiskFailed, NoMemory, Unreadable}
use Rattle.core_state.specs.Entries.{count_at_hand, marked_in}
use Rattle.core_state.specs.Found.{path_of_kept}
use Rattle.core_state.specs.Holds.{Holds}
use Rattle.core_state.specs.Sweeps.{ArePages, ShowsSweep, by_number, digests_named, unmarked_by}
use Rattle.core_state.specs.Upkeeps.{TouchesEach}
use Rattle.core_collect.specs.Entries.{AreNext, IsHad, IsThePage, bytes_of, last_page, marked_from, next_read}

-- ---- an index

-- where it stands, if its snapshot was not forgotten
abbrev pub path_at : IndexAt → List Listed → Option (List ℕ)
path_at i catalogue = path_of_kept i.name (by_number i.snapshot catalogue)

-- an index that is unreadable has this path
abbrev pub IfUnreadable : (List ℕ → Type 0) → Unread → Type 0
IfUnreadable P (Unreadable path) = P path
IfUnreadable P unread = Unit {0}

-- it is not read for this fault; memory may be wanting to tell it
abbrev pub UnreadBy : List ℕ → PageFault → Unread → Type 0
UnreadBy path faults.Failed unread = unread ≡ DiskFailed
UnreadBy path faults.NoMemory unread = unread ≡ NoMemory
UnreadBy path fault unread = (unread ≡ NoMemory) ⊎ (unread ≡ Unreadable path)

-- ---- how an index stands

-- an index that was forgotten or has no entries, one with these pages of which these digests are marked next, and one that does not decode
-- or is not as it was opened
pub data Standing : Type 0 where
  passed_over : Standing
  marked_next : IndexPages → List (List ℕ) → Standing
  unreadable : List ℕ → Standing

-- by its next entries
abbrev pub standing_by : List ℕ → IndexPages → Result (List (List ℕ)) Refusal → Standing
standing_by path p (Ok digests) = marked_next p digests
standing_by path p (Err refusal) = unreadable path

-- as it is opened
abbrev pub standing_as : Files → List ℕ → Result IndexPages Refusal → Standing
standing_as m path (Ok p) = if (pages_by p).count == 0 then passed_over else standing_by path p (next_read m path p None 0)
standing_as m path (Err refusal) = unreadable path

-- where its pages are at hand it is not opened, and is read from its first unmarked entry on, but for the page at hand
abbrev pub standing_at : Files → IndexKind → Option MarkedPages → ℕ → Option (List ℕ) → Standing
standing_at m kind pages first None = passed_over
standing_at m kind None first (Some path) = standing_as m path (index_opened m path kind)
standing_at m kind (Some p) first (Some path) = standing_by path p.kept (next_read m path p.kept p.last first)

abbrev pub standing : Files → List Listed → Option MarkedPages → ℕ → IndexAt → Standing
standing m catalogue pages first i = standing_at m (kind_of_index i.name) pages first (path_at i catalogue)

-- a call tells that it stands so, but for want of memory and a failed disk
abbrev pub TellsStanding : {A : Type 0} → (A → Standing) → Standing → Result A Unread → Type 0
TellsStanding how stands (Ok x) = stands ≡ how x
TellsStanding how stands (Err (Unreadable path)) = stands ≡ unreadable path
TellsStanding how stands (Err unread) = Unit {0}

-- one that was opened with these first digests
abbrev pub first_standing : Opened → Standing
first_standing x = if (pages_by x.pages).count == 0 then passed_over else marked_next x.pages (bytes_of x.digests.items)

-- on any disk these are the digests of bytes as the opening read them, where there are entries
abbrev pub AreFirst : Opened → Type 0
AreFirst x = 0 < (pages_by x.pages).count → AreNext x.pages 0 x.digests.items

-- of an honest disk's file
abbrev pub OpensFirst : {D : Type 0} → Ghosts D → D → List ℕ → IndexKind → Result Opened Unread → Type 0
OpensFirst d disk path kind result =
    d.honest disk → TellsStanding first_standing (standing_as (d.content disk) path (index_opened (d.content disk) path kind)) result

abbrev pub ReadsNext : {D : Type 0} → Ghosts D → D → List ℕ → MarkedPages → ℕ → Result (Vec Digest32 Global) Unread → Type 0
ReadsNext d disk path p first result =
    d.honest disk → TellsStanding (λ digests. marked_next p.kept (bytes_of digests.items)) (standing_by path p.kept (next_read (d.content disk) path p.kept p.last first)) result

-- What the opening kept stays. Of the entries that are read the last one's page is at hand then, on any disk; on an honest one it was before,
-- or is the file's.
pub record KeepsLast {D : Type 0} (d : Ghosts D) (disk : D) (old new : MarkedPages) (first : ℕ) (result : Result (Vec Digest32 Global) Unread) : Type 0 where
  pub kept : new.kept ≡ old.kept
  pub last : IfOk result (λ _. IsSomeAnd new.last (IsThePage old.kept (last_page old.kept first)))
  pub had : d.honest disk → IfSome new.last (IsHad (d.content disk) old.kept old.last)

-- ---- the next one that is unreadable

abbrev pub unless_passed : Standing → Option (List ℕ) → Option (List ℕ)
unless_passed passed_over later = later
unless_passed (marked_next p digests) later = None
unless_passed (unreadable path) later = Some path

-- The path of the first of these indexes that is not passed over, where it does not decode or is not as it was opened. The pages at hand are
-- the first's, of which so many entries are marked.
abbrev pub unreadable_in : Files → List Listed → Option MarkedPages → ℕ → List IndexAt → Option (List ℕ)
unreadable_in m catalogue pages first [] = None
unreadable_in m catalogue pages first (i ∷ is) = unless_passed (standing m catalogue pages first i) (unreadable_in m catalogue None 0 is)

abbrev pub indexes_left : List IndexAt → Stage → List IndexAt
indexes_left indexes (marking place first) = drop place indexes
indexes_left indexes (sweeping names) = []

-- the path of the index that is to be marked next, where it does not decode or is not as it was opened
abbrev pub next_unreadable : Files → List Listed → Collector → Option (List ℕ)
next_unreadable m catalogue c = unreadable_in m catalogue c.pages (marked_in (c.plan).stage) (indexes_left (c.plan).indexes (c.plan).stage)

-- ---- the indexes that are passed over

-- the plan once so many are passed over
abbrev pub passed_by : ℕ → Plan → Plan
passed_by zero p = p
passed_by (suc n) p = with_mark (passed_by n p) 0 0

-- and the pages at hand then, of those that were
abbrev pub at_hand_after : ℕ → Option MarkedPages → Option MarkedPages
at_hand_after zero pages = pages
at_hand_after (suc n) pages = None

-- of pages at hand what their opening kept, and the number of the one that was read last
abbrev pub opening_of : Option MarkedPages → Option IndexPages
opening_of pages = option_map (λ p. p.kept) pages

abbrev pub page_at_hand : Option MarkedPages → Option ℕ
page_at_hand None = None
page_at_hand (Some p) = option_map (λ q. q.number) p.last

-- which page is at hand once those from this entry on are read: none where the index was opened for them
abbrev pub page_then : Option MarkedPages → ℕ → Option ℕ
page_then pages first = option_map (λ p. last_page p.kept first) pages

-- how the index stands that is next then, if one is
abbrev pub StandsAt : Files → List Listed → Collector → ℕ → Standing → Type 0
StandsAt m catalogue c n how =
    (i : IndexAt) → next_index (passed_by n c.plan) ≡ Some i
    → standing m catalogue (at_hand_after n c.pages) (marked_in (passed_by n c.plan).stage) i ≡ how

-- the index that is next was forgotten, or its pages are not at hand
abbrev pub MayPass : List Listed → Collector → Type 0
MayPass catalogue c = (i : IndexAt) → next_index c.plan ≡ Some i → (path_at i catalogue ≡ None) ⊎ (c.pages ≡ None)

-- So many indexes are passed over: of an honest disk those that were forgotten or have no entries. Then these digests are marked of the next
-- one: those of an honest disk's file and of the page at hand, and on any disk those of bytes as the opening read them. Of pages that were at
-- hand the last one's page is at hand then. Pages at hand are let go only with an index that was forgotten.
pub record FindsAfter {D : Type 0} (d : Ghosts D) (disk : D) (catalogue : List Listed) (passed : ℕ) (c e : Collector) (digests : List Digest32) : Type 0 where
  pub lane : e.lane ≡ c.lane
  pub plan : e.plan ≡ passed_by passed c.plan
  pub skipped : d.honest disk → (n : ℕ) → n < passed → StandsAt (d.content disk) catalogue c n passed_over
  pub let_go : 0 < passed → MayPass catalogue c
  pub had : IsSome (at_hand_after passed c.pages) → opening_of e.pages ≡ opening_of (at_hand_after passed c.pages)
  pub last : IsSome (next_index e.plan) → page_at_hand e.pages ≡ page_then (at_hand_after passed c.pages) (marked_in (e.plan).stage)
  pub kept : IsSome (next_index e.plan) → IfSome e.pages (λ p. AreNext p.kept (marked_in (e.plan).stage) digests)
  pub read : d.honest disk → IfSome e.pages (λ p. StandsAt (d.content disk) catalogue c passed (marked_next p.kept (bytes_of digests)))

-- ---- the index that is next

-- how many entries of the index that is next are not marked, are marked now, and are left then
abbrev pub entries_left : Collector → ℕ
entries_left c = count_at_hand c.pages - marked_in (c.plan).stage

abbrev pub marked_now : Collector → ℕ
marked_now c = min mark_limit (entries_left c)

abbrev pub left_then : Collector → ℕ
left_then c = entries_left c - mark_limit

-- an index is next, its pages are at hand, and there is a digest for each entry that is marked now
pub record AtHand (c : Collector) (digests : List Digest32) : Type 0 where
  pub next : IsSome (next_index c.plan)
  pub pages : IsSome c.pages
  pub all : length digests ≡ marked_now c

-- the index that is next is passed over
pub record PassesOver (old new : Collector) : Type 0 where
  pub lane : new.lane ≡ old.lane
  pub ended : new.ended ≡ old.ended
  pub plan : new.plan ≡ with_mark old.plan 0 0
  pub none : new.pages ≡ None
  pub less : left_of new.plan < left_of old.plan

-- which on an honest disk was forgotten or has no entries, and on any disk was forgotten or has no pages at hand
abbrev pub PassesNext : {D : Type 0} → Ghosts D → Parts D → Collector → Collector → Type 0
PassesNext d parts old new = PassesOver old new × (d.honest parts.disk → StandsAt (d.content parts.disk) parts.catalogue.listed old 0 passed_over)
    × MayPass parts.catalogue.listed old

-- what is unmarked but for the index that is next
abbrev pub behind_next : List Listed → List Snapshot → Plan → List Unmarked
behind_next catalogue snapshots plan = unmarked_by catalogue snapshots plan.indexes (marked_at plan.stage 0 0)

-- all digests of the index
abbrev pub all_of : Kept → IndexAt → List Snapshot → List (List ℕ)
all_of k i snapshots = digests_named k.key i.name snapshots

-- as many as its pages at hand say, which are those of its file
pub record HasAll (snapshots : List Snapshot) (k : Kept) (i : IndexAt) (p : MarkedPages) : Type 0 where
  pub count : (pages_by p.kept).count ≡ length (all_of k i snapshots)
  pub pages : ArePages snapshots i.name p (Some k)

-- The snapshot of the index that is next is still there, the pages at hand are the index's, and these are its next digests. With those that
-- are not marked begins what is unmarked.
pub record BeginsWith (catalogue : List Listed) (snapshots : List Snapshot) (c : Collector) (digests : List Digest32) (unmarked : List Unmarked) : Type 0 where
  pub index : IndexAt
  pub kept : Kept
  pub next : next_index c.plan ≡ Some index
  pub there : by_number index.snapshot catalogue ≡ Some kept
  pub all : IsSomeAnd c.pages (HasAll snapshots kept index)
  pub digests_are : bytes_of digests ≡ marked_from (marked_in (c.plan).stage) (all_of kept index snapshots)
  pub begins : unmarked ≡ record { key = kept.key; name = index.name; digests = drop (marked_in (c.plan).stage) (all_of kept index snapshots) } ∷ behind_next catalogue snapshots c.plan

-- For each store and sweep that the collector showed it shows them still, and this is known of them.
abbrev pub ShowsStill : {D : Type 0} → Ghosts D → Parts D → Collector → Collector → (List Snapshot → Sweep → Type 0) → Type 0
ShowsStill d parts old new known = (acts : ℕ) (s : Store) (sweep : Sweep) → Holds d parts s → ShowsSweep acts parts.catalogue.listed s.snapshots old sweep
    → ShowsSweep acts parts.catalogue.listed s.snapshots new sweep × known s.snapshots sweep

-- each index of a plain store decodes
abbrev pub IsSettled : List Listed → Collector → Result (Option (Vec Digest32 Global)) Unread → List Snapshot → Sweep → Type 0
IsSettled catalogue c (Ok (Some digests)) snapshots sweep = BeginsWith catalogue snapshots c digests.items sweep.unmarked
IsSettled catalogue c (Ok None) snapshots sweep = Unit {0}
IsSettled catalogue c (Err (Unreadable path)) snapshots sweep = ⊥
IsSettled catalogue c (Err unread) snapshots sweep = Unit {0}

abbrev pub IsFound : List Listed → Collector → Result (Option (Vec Digest32 Global)) Unread → List Snapshot → Sweep → Type 0
IsFound catalogue c (Ok None) snapshots sweep = sweep.unmarked ≡ []
IsFound catalogue c result snapshots sweep = IsSettled catalogue c result snapshots sweep

-- On an honest disk, whatever it holds, the next one is told to be unreadable exactly where it is.
abbrev pub SettlesUnread : Option (List ℕ) → Option (List ℕ) → Result (Option (Vec Digest32 Global)) Unread → Type 0
SettlesUnread before after (Ok (Some digests)) = before ≡ None
SettlesUnread before after (Ok None) = before ≡ after
SettlesUnread before after (Err (Unreadable path)) = before ≡ Some path
SettlesUnread before after (Err unread) = Unit {0}

abbrev pub TellsUnread : Option (List ℕ) → Result (Option (Vec Digest32 Global)) Unread → Type 0
TellsUnread next (Ok found) = next ≡ None
TellsUnread next (Err (Unreadable path)) = next ≡ Some path
TellsUnread next (Err unread) = Unit {0}

-- the lane, what ended it early and what its start fixed are as before, no more is to be done, and it is over no sooner
pub record GoesFurther (old new : Collector) : Type 0 where
  pub lane : new.lane ≡ old.lane
  pub ended : new.ended ≡ old.ended
  pub start : (new.plan).start ≡ (old.plan).start
  pub cutoff : (new.plan).cutoff ≡ (old.plan).cutoff
  pub indexes : (new.plan).indexes ≡ (old.plan).indexes
  pub over : is_over old.plan ≡ false → is_over new.plan ≡ false
  pub not_more : left_of new.plan ≤ left_of old.plan

-- what was found
abbrev pub found_in : Option (Vec Digest32 Global) → List Digest32
found_in None = []
found_in (Some digests) = digests.items

pub record SettlesNext {D : Type 0} (d : Ghosts D) (parts : Parts D) (old new : Collector) (result : Result (Option (Vec Digest32 Global)) Unread) : Type 0 where
  pub further : GoesFurther old new
  pub shows : ShowsStill d parts old new (IsSettled parts.catalogue.listed new result)
  pub at_hand : (digests : Vec Digest32 Global) → result ≡ Ok (Some digests) → AtHand new digests.items
  pub passes : result ≡ Ok None → IsSome (next_mark old.plan) → PassesNext d parts old new
  pub found : (digests : Vec Digest32 Global) → result ≡ Ok (Some digests) → FindsAfter d parts.disk parts.catalogue.listed 0 old new digests.items
  pub unread : d.honest parts.disk
      → SettlesUnread (next_unreadable (d.content parts.disk) parts.catalogue.listed old) (next_unreadable (d.content parts.disk) parts.catalogue.listed new) result

pub record FindsNext {D : Type 0} (d : Ghosts D) (parts : Parts D) (old new : Collector) (result : Result (Option (Vec Digest32 Global)) Unread) : Type 0 where
  pub further : GoesFurther old new
  pub shows : ShowsStill d parts old new (IsFound parts.catalogue.listed new result)
  pub at_hand : (digests : Vec Digest32 Global) → result ≡ Ok (Some digests) → AtHand new digests.items
  pub all_marked : result ≡ Ok None → next_mark new.plan ≡ None
  pub found : IfOk result (λ found. (passed : ℕ) × FindsAfter d parts.disk parts.catalogue.listed passed old new (found_in found))
  pub unread : d.honest parts.disk → TellsUnread (next_unreadable (d.content parts.disk) parts.catalogue.listed old) result

-- ---- a mark

-- its pages stay at hand where some are
abbrev pub at_hand_then : ℕ → Option MarkedPages → Option MarkedPages
at_hand_then left pages = if left == 0 then None else pages

-- these are touched
pub record MarksSome (before after : Book) (old new : Collector) (digests : List Digest32) (moment : ℕ) : Type 0 where
  pub touches : TouchesEach before after digests moment
  pub lane : new.lane ≡ old.lane
  pub ended : new.ended ≡ old.ended
  pub plan : new.plan ≡ with_mark old.plan (marked_now old) (left_then old)
  pub pages : new.pages ≡ at_hand_then (left_then old) old.pages
  pub less : left_of new.plan < left_of old.plan

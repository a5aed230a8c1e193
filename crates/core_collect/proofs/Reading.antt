-- What the calls tell that read an index to be marked.
use Rattle.disk_trait.specs.declared.disk.Disk.{Ghosts}
use Rattle.std.proofs.Common.{◌≡◌, ◌<◌, ◌≤◌, ◌⊎◌, ◌+◌, ◌*◌, ◌/◌, ◌%◌, inl, inr, ℕ, min, true, false, cond, List, [], ◌++◌, drop, take, Option, Some, None, Result, Ok, Err, IfOk, IsErrAnd, IsErrOf, IsTrue, Vec, Global, refl, sym, ap, subst, ◌∙◌, arith}
use Rattle.std.proofs.lemmas.Bool.{le-ltb, lt-ltb}
use Rattle.disk_trait.specs.Effects.{OnlyReads}
use Rattle.disk_trait.specs.Files.{Files}
use Rattle.disk_trait.proofs.OnlyReading.{reads_as}
use Rattle.store_types.specs.declared.names.Digest32.{Digest32}
use Rattle.store_types.specs.declared.refusal.Refusal.{Refusal}
use Rattle.store_types.specs.declared.refusal.Refusal.TheVariants as refusals
use Rattle.index_pages.specs.declared.fault.PageFault.{PageFault}
use Rattle.index_pages.specs.declared.fault.PageFault.TheVariants as faults
use Rattle.index_pages.specs.Gives.{Gives}
use Rattle.index_pages.specs.Paged.{is_kept}
use Rattle.paged_indexes.specs.declared.index.IndexPages.{IndexPages}
use Rattle.paged_indexes.specs.declared.kinds.IndexKind.{IndexKind}
use Rattle.paged_indexes.specs.Handing.{AreSpelled}
use Rattle.paged_indexes.specs.Index.{opened, pages_by, told_by}
use Rattle.store_files.specs.DynamicIndex.{Ended}
use Rattle.gc_plan.specs.Plan.{mark_limit}
use Rattle.snapshot_files.specs.Indexes.{index_opened, pages_at}
use Rattle.core_state.specs.declared.marked.MarkedPages.{MarkedPages}
use Rattle.core_state.specs.declared.marked.MarkedPage.{MarkedPage}
use Rattle.core_collect.specs.declared.marking.Batch.{Batch}
use Rattle.core_collect.specs.declared.marking.Unread.{Unread}
use Rattle.core_collect.specs.declared.marking.Unread.TheVariants.{DiskFailed, NoMemory, Unreadable}
use Rattle.core_collect.specs.Entries.{AreKept, AreKeptIf, AreNext, GivesPage, IsThePage, ReadsPage, ReadsPages, TakesKept, TakesNext, TakesPage, bytes_at, bytes_of, entry_digests, marked_from, next_read, reaches_on}
use Rattle.core_collect.specs.Marking.{IfUnreadable, TellsStanding, UnreadBy, first_standing, marked_next, standing_as, standing_by, unreadable}
use Rattle.core_collect.proofs.Batches.{first_page, next_none, next_one, next_stops, next_two, read_of, takes_both, takes_none, told_is, whole_batch}
use Rattle.core_collect.proofs.LastPages.{gives_other}

-- ---- why it is not read

no_memory_apart : NoMemory ≡ DiskFailed → ⊥
no_memory_apart e = cc

unreadable_apart : (path : List ℕ) → Unreadable path ≡ DiskFailed → ⊥
unreadable_apart path e = cc

module _ (path : List ℕ) (unread : Unread) where
  -- whatever comes of it but a failed disk
  not_failed : (unread ≡ NoMemory) ⊎ (unread ≡ Unreadable path) → unread ≡ DiskFailed → ⊥
  not_failed (inl is) failed = no_memory_apart (sym is ∙ failed)
  not_failed (inr is) failed = unreadable_apart path (sym is ∙ failed)

  named : (unread ≡ NoMemory) ⊎ (unread ≡ Unreadable path) → IfUnreadable (λ name. name ≡ path) unread
  named (inl is) = subst (IfUnreadable (λ name. name ≡ path)) (sym is) tt
  named (inr is) = subst (IfUnreadable (λ name. name ≡ path)) (sym is) refl

  pub unread_failed : (fault : PageFault) → UnreadBy path fault unread → unread ≡ DiskFailed → fault ≡ faults.Failed
  unread_failed faults.Missing by failed = absurd (not_failed by failed)
  unread_failed (faults.BadIndex cause) by failed = absurd (not_failed by failed)
  unread_failed (faults.Changed page) by failed = absurd (not_failed by failed)
  unread_failed faults.Failed by failed = refl
  unread_failed faults.NoMemory by failed = absurd (no_memory_apart (sym by ∙ failed))

  pub unread_named : (fault : PageFault) → UnreadBy path fault unread → IfUnreadable (λ name. name ≡ path) unread
  unread_named faults.Missing by = named by
  unread_named (faults.BadIndex cause) by = named by
  unread_named (faults.Changed page) by = named by
  unread_named faults.Failed by = subst (IfUnreadable (λ name. name ≡ path)) (sym by) tt
  unread_named faults.NoMemory by = subst (IfUnreadable (λ name. name ≡ path)) (sym by) tt

err_same : {A E : Type 0} (x y : E) → ◌≡◌ {A = Result A E} (Err x) (Err y) → x ≡ y
err_same x y e = cc

pub unread_reads : {D A B : Type 0} (d : Ghosts D) (old new : D) (path : List ℕ) (fault : PageFault) (unread : Unread) → UnreadBy path fault unread → OnlyReads d old new (IsErrOf {T = A} (Err fault) faults.Failed)
    → OnlyReads d old new (IsErrOf {T = B} (Err unread) DiskFailed)
unread_reads {D} {A} {B} d old new path fault unread by reads =
    reads_as d old new (IsErrOf {T = A} (Err fault) faults.Failed) (IsErrOf {T = B} (Err unread) DiskFailed)
    (λ failed. ap (λ s. let r : Result A PageFault = Err s in r) (unread_failed path unread fault by (err_same {A = B} unread DiskFailed failed))) reads

-- ---- an index that is opened

-- it is not
unopened_as : (m : Files) (path : List ℕ) (kind : IndexKind) (fault : PageFault) → opened m path kind ≡ Err fault → standing_as m path (index_opened m path kind) ≡ unreadable path
unfolding index_opened
unopened_as m path kind fault is = ap (λ r. standing_as m path (pages_at path r)) is

pub opened_as : (m : Files) (path : List ℕ) (kind : IndexKind) (p : IndexPages) → opened m path kind ≡ Ok p → index_opened m path kind ≡ Ok p
unfolding index_opened
opened_as m path kind p is = ap (pages_at path) is

module _ (m : Files) (path : List ℕ) (kind : IndexKind) (unread : Unread) where
  abbrev Told : Unread → Type 0
  Told u = TellsStanding first_standing (standing_as m path (index_opened m path kind)) (Err u)

  no_memory_told : unread ≡ NoMemory → Told unread
  no_memory_told is = subst Told (sym is) tt

  told_as : (fault : PageFault) → (unread ≡ NoMemory) ⊎ (unread ≡ Unreadable path) → opened m path kind ≡ Err fault → Told unread
  told_as fault (inl is) gives = no_memory_told is
  told_as fault (inr is) gives = subst Told (sym is) (unopened_as m path kind fault gives)

  by_fault : (fault : PageFault) → UnreadBy path fault unread → Gives {A = IndexPages} (λ p. p) (Err fault) (opened m path kind) → Told unread
  by_fault faults.Missing by gives = told_as faults.Missing by gives
  by_fault (faults.BadIndex cause) by gives = told_as (faults.BadIndex cause) by gives
  by_fault (faults.Changed page) by gives = told_as (faults.Changed page) by gives
  by_fault faults.Failed by gives = subst Told (sym by) tt
  by_fault faults.NoMemory by gives = no_memory_told by

-- as the call tells, which has the path as a text
pub unopened_stands : (m : Files) (path q : List ℕ) (kind : IndexKind) (fault : PageFault) (unread : Unread) → q ≡ path → UnreadBy path fault unread → Gives {A = IndexPages} (λ p. p) (Err fault) (opened m q kind)
    → TellsStanding first_standing (standing_as m path (index_opened m path kind)) (Err unread)
unopened_stands m path q kind fault unread same by gives =
    by_fault m path kind unread fault by (subst (λ r. Gives {A = IndexPages} (λ p. p) (Err fault) (opened m r kind)) same gives)

-- ---- a page or two

abbrev Many : Type 0
Many = Result (Vec Digest32 Global) Unread

module _ (m : Files) (path : List ℕ) (p : IndexPages) (at_hand : Option MarkedPage) (first : ℕ) (old mid new : Batch) where
  -- the first is not read
  first_stops : (unread : Unread) → GivesPage m path p at_hand (first / 1024) (Err unread) → TakesNext m path p at_hand first old new (Err unread)
  first_stops (Unreadable name) told = next_none m path p at_hand first (refusals.Unreadable name) told
  first_stops NoMemory told = tt
  first_stops DiskFailed told = tt

  -- both are read
  second_gives : (q : MarkedPage) → TakesPage p (first / 1024) old mid q → GivesPage m path p at_hand (first / 1024) (Ok q) → reaches_on (pages_by p).count first ≡ true
      → (r : Result MarkedPage Unread) → IfOk r (TakesPage p (first / 1024 + 1) mid new) → GivesPage m path p None (first / 1024 + 1) r → TakesNext m path p at_hand first old new r
  second_gives q x one on (Ok b) y two =
      let xs = told_is m path p at_hand (first / 1024) q.bytes x.entries one x.told in
      let ys = told_is m path p None (first / 1024 + 1) b.bytes y.entries two y.told in (
        (x.entries ++ y.entries, next_two m path p at_hand first x.entries y.entries xs on ys, takes_both old mid new x.entries y.entries x.takes y.takes),
        inr (subst (λ n. bytes_at m p None n ≡ Ok b.bytes) (sym (y.page).number) two),
      )
  second_gives q x one on (Err (Unreadable name)) y two =
      let xs = told_is m path p at_hand (first / 1024) q.bytes x.entries one x.told in
      next_stops m path p at_hand first x.entries (refusals.Unreadable name) xs on two
  second_gives q x one on (Err NoMemory) y two = tt
  second_gives q x one on (Err DiskFailed) y two = tt

one_read : (m : Files) (path : List ℕ) (p : IndexPages) (at_hand : Option MarkedPage) (first : ℕ) (old new : Batch) (q : MarkedPage) → TakesPage p (first / 1024) old new q → GivesPage m path p at_hand (first / 1024) (Ok q)
    → reaches_on (pages_by p).count first ≡ false → TakesNext m path p at_hand first old new (Ok q)
one_read m path p at_hand first old new q x one off =
    let xs = told_is m path p at_hand (first / 1024) q.bytes x.entries one x.told in
    ((x.entries ++ [], next_one m path p at_hand first x.entries xs off, takes_none old new x.entries x.takes), inl (subst (λ n. bytes_at m p at_hand n ≡ Ok q.bytes) (sym (x.page).number) one))

module _ {D : Type 0} (d : Ghosts D) (disk : D) (path : List ℕ) (p : IndexPages) (at_hand : Option MarkedPage) (first : ℕ) (old mid : Batch) where
  pub stops_first : (new : Batch) (unread : Unread) (r : Result MarkedPage Unread) → IsErrAnd r (λ x. x ≡ unread) → ReadsPage d disk path p at_hand (first / 1024) (Err unread) → ReadsPages d disk path p at_hand first old new r
  stops_first new unread (Ok x) is reads = absurd is
  stops_first new unread (Err x) is reads = λ honest.
      subst (λ s. TakesNext (d.content disk) path p at_hand first old new (Err s)) (sym is) (first_stops (d.content disk) path p at_hand first old mid new unread (reads honest))

  pub reads_one : (q : MarkedPage) → TakesPage p (first / 1024) old mid q → ReadsPage d disk path p at_hand (first / 1024) (Ok q) → reaches_on (pages_by p).count first ≡ false → ReadsPages d disk path p at_hand first old mid (Ok q)
  reads_one q x reads off = λ honest. one_read (d.content disk) path p at_hand first old mid q x (reads honest) off

  pub reads_both : (disk' : D) (failed : Type 0) (new : Batch) (q : MarkedPage) (r : Result MarkedPage Unread) → TakesPage p (first / 1024) old mid q → ReadsPage d disk path p at_hand (first / 1024) (Ok q) → OnlyReads d disk disk' failed
      → reaches_on (pages_by p).count first ≡ true → IfOk r (TakesPage p (first / 1024 + 1) mid new) → ReadsPage d disk' path p (Some q) (first / 1024 + 1) r → ReadsPages d disk path p at_hand first old new r
  reads_both disk' failed new q r x one reads on y two = λ honest.
      second_gives (d.content disk) path p at_hand first old mid new q x (one honest) on r y
      (gives_other (d.content disk) path p q (first / 1024 + 1) (λ same. absurd (omega (arith, same, (x.page).number))) r
      (subst (λ m. GivesPage m path p (Some q) (first / 1024 + 1) r) (reads.same honest) (two ((reads.serves).kept.0 honest))))

-- on any disk
kept_page : (p : IndexPages) (i : ℕ) (old new : Batch) (q : MarkedPage) (x : TakesPage p i old new q) → AreKept p i x.entries
kept_page p i old new q x = record {
  bytes = q.bytes;
  kept = subst (λ n. IsTrue (is_kept (pages_by p) n q.bytes)) (x.page).number ((x.page).read).kept;
  told = x.told;
}

pub one_kept : (p : IndexPages) (first : ℕ) (old new : Batch) (q : MarkedPage) → reaches_on (pages_by p).count first ≡ false → TakesPage p (first / 1024) old new q → TakesKept p first old new q
one_kept p first old new q off x = record {
  entries = x.entries ++ [];
  kept = record {
    page = x.entries;
    next = [];
    page_is = kept_page p (first / 1024) old new q x;
    next_is = subst (λ b. AreKeptIf b p (first / 1024 + 1) []) (sym off) refl;
    entries_are = refl;
  };
  takes = takes_none old new x.entries x.takes;
  last = subst (λ b. IsThePage p (cond b (first / 1024 + 1) (first / 1024)) q) (sym off) x.page;
}

pub both_kept : (p : IndexPages) (first : ℕ) (old mid new : Batch) (q : MarkedPage) (r : Result MarkedPage Unread) → reaches_on (pages_by p).count first ≡ true → TakesPage p (first / 1024) old mid q
    → IfOk r (TakesPage p (first / 1024 + 1) mid new) → IfOk r (TakesKept p first old new)
both_kept p first old mid new q (Ok b) on x y = record {
  entries = x.entries ++ y.entries;
  kept = record {
    page = x.entries;
    next = y.entries;
    page_is = kept_page p (first / 1024) old mid q x;
    next_is = subst (λ t. AreKeptIf t p (first / 1024 + 1) y.entries) (sym on) (kept_page p (first / 1024 + 1) mid new b y);
    entries_are = refl;
  };
  takes = takes_both old mid new x.entries y.entries x.takes y.takes;
  last = subst (λ t. IsThePage p (cond t (first / 1024 + 1) (first / 1024)) b) (sym on) y.page;
}
both_kept p first old mid new q (Err unread) on x y = tt

-- ---- where they end

-- of so many entries they end in the first one's page
pub ends_here : (count first end : ℕ) → end ≡ min count (first + mark_limit) → end ≤ (first / 1024 + 1) * 1024 → reaches_on count first ≡ false
ends_here count first end is within = le-ltb ((first / 1024 + 1) * 1024) (min (first + mark_limit) count) (omega (arith, is, within))

-- or reach into the next
pub reaches_next : (count first end : ℕ) → end ≡ min count (first + mark_limit) → (first / 1024 + 1) * 1024 < end → reaches_on count first ≡ true
reaches_next count first end is beyond = lt-ltb ((first / 1024 + 1) * 1024) (min (first + mark_limit) count) (omega (arith, is, beyond))

-- ---- their digests

abbrev Next : Files → List ℕ → MarkedPages → ℕ → Many → Type 0
Next m path p first r = TellsStanding (λ (digests : Vec Digest32 Global). marked_next p.kept (bytes_of digests.items)) (standing_by path p.kept (next_read m path p.kept p.last first)) r

module _ (m : Files) (path : List ℕ) (p : MarkedPages) (first : ℕ) (old new : Batch) where
  pub next_stands : first % 1024 ≤ 1024 → old.skip ≡ first % 1024 → old.digests.items ≡ [] → (q : MarkedPage) → TakesNext m path p.kept p.last first old new (Ok q)
      → standing_by path p.kept (next_read m path p.kept p.last first) ≡ marked_next p.kept (bytes_of new.digests.items)
  next_stands few skip none q (x, had) =
      ap (standing_by path p.kept)
      (read_of m path p.kept p.last first (Ok x.0) x.1
      ∙ ap (λ ds. let r : Result (List (List ℕ)) Refusal = Ok ds in r) (sym (whole_batch old new (first % 1024) x.0 few skip none x.2)))

  by_unread : (unread : Unread) → IfUnreadable (λ name. name ≡ path) unread → TakesNext m path p.kept p.last first old new (Err unread) → Next m path p first (Err unread)
  by_unread (Unreadable name) same told =
      ap (standing_by path p.kept) (read_of m path p.kept p.last first (Err (refusals.Unreadable name)) told) ∙ ap unreadable (sym same)
  by_unread NoMemory same told = tt
  by_unread DiskFailed same told = tt

  pub unread_stands : (unread : Unread) (r : Many) → IsErrAnd r (λ x. x ≡ unread) → IfUnreadable (λ name. name ≡ path) unread → TakesNext m path p.kept p.last first old new (Err unread) → Next m path p first r
  unread_stands unread (Ok digests) is same told = absurd is
  unread_stands unread (Err x) is same told = subst (λ u. Next m path p first (Err u)) (sym is) (by_unread unread same told)

-- of an index that was opened, whose pages are spelled by what was kept
pub first_kept : (p : IndexPages) (digests : List Digest32) (es : List Ended) → bytes_of digests ≡ marked_from 0 (entry_digests es) → AreSpelled (pages_by p) (told_by p) es 0 → AreNext p 0 digests
first_kept p digests es are spelled = (
  page ++ [],
  record {
    page = page;
    next = [];
    page_is = record { bytes = spelled.bytes; kept = spelled.kept; told = spelled.told };
    next_is = subst (λ b. AreKeptIf b p 1 []) (sym off) refl;
    entries_are = refl;
  },
  are ∙ sym (first_page es),
)
  where
    page : List Ended
    page = take 1024 (drop 0 es)

    off : reaches_on (pages_by p).count 0 ≡ false
    off = ends_here (pages_by p).count 0 (min (pages_by p).count (0 + mark_limit)) refl (omega arith)

pub next_kept : (p : IndexPages) (first : ℕ) (old new : Batch) (q : MarkedPage) → first % 1024 ≤ 1024 → old.skip ≡ first % 1024 → old.digests.items ≡ [] → TakesKept p first old new q → AreNext p first new.digests.items
next_kept p first old new q few skip none x = (x.entries, x.kept, whole_batch old new (first % 1024) x.entries few skip none x.takes)

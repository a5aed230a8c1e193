-- A range of an archive: its front by the page at hand, the rest as it is read page by page.
use Rattle.std.specs.Prelude.{◌≡◌, ◌⊎◌, ◌<◌, ◌≤◌, ℕ, zero, suc, ◌+◌, ◌-◌, ◌*◌, min, max, List, [], length, take, drop, nat_le, if◌then◌else◌, IsTrue, Option, None, Some, Result, Ok, Err, Vec, string_bytes}
use Rattle.std.specs.declared.alloc.Global.{Global}
use Rattle.std.specs.List.{All, Contains}
use Rattle.disk_trait.specs.Files.{Files}
use Rattle.disk_trait.specs.declared.disk.Disk.{Ghosts}
use Rattle.store_types.specs.declared.names.Digest32.{Digest32}
use Rattle.store_types.specs.declared.refusal.Refusal.{Refusal}
use Rattle.store_types.specs.declared.refusal.Refusal.TheVariants.{BadName, NoFile, Damaged, Unreadable}
use Rattle.store_types.specs.Chain.Refusing.{◌>>=◌, unless, or_else}
use Rattle.store_types.specs.FileNames.{is_index_name}
use Rattle.store_files.specs.Archive.{ends_from}
use Rattle.store_files.specs.DynamicIndex.{Ended, steps_fit}
use Rattle.chunk_store.specs.Pieces.{IsHeld}
use Rattle.index_pages.specs.Paged.{is_kept, page_count}
use Rattle.paged_indexes.specs.declared.index.IndexPages.{IndexPages}
use Rattle.paged_indexes.specs.declared.kinds.IndexEntry.{IndexEntry}
use Rattle.paged_indexes.specs.Index.{page_with, pages_by, start_by, stop_by, told_by}
use Rattle.snapshot_files.specs.Indexes.{page_entries}
use Rattle.restore_reader.specs.declared.ranges.Part.{Part}
use Rattle.restore_reader.specs.Plan.{ends_of, parts_in}
use Rattle.restore_reader.specs.Steps as steps
use Rattle.core_state.specs.Kept.{KeptAt, kept_at}
use Rattle.core_state.specs.declared.pages.ReadPage.{ReadPage}
use Rattle.core_state.specs.Found.{path_in}
use Rattle.core_state.specs.Indexed.{ranged_of}
use Rattle.core_state.specs.declared.parts.Parts.{Parts}
use Rattle.core_state.specs.Wanted.{reader_in}
use Rattle.store_stops.specs.declared.stop.Stop.{Stop}
use Rattle.store_stops.specs.Stops.{Gives}
use Rattle.core_reader.specs.declared.paging.RangeRead.{RangeRead}
use Rattle.core_reader.specs.declared.ranges.AskedIndex.{AskedIndex}
use Rattle.paged_indexes.specs.Laws.{IsIndex}
use Rattle.core_reader.specs.Chunks.{HoldsParts, IsUnrefused, behind, digests_of, parts_at}

-- ---- what is asked for

-- where the index stands of which the lane's reader asks a range, or the refusal before that
unfoldable pub range_place : List ℕ → KeptAt → Result (List ℕ) Refusal
range_place file k = do
  r ← reader_in k.session
  _ ← unless BadName (is_index_name file)
  or_else NoFile (path_in r.key file k.catalogue)

-- an index that is read: where it stands, and what is kept of it
pub record Ranged : Type 0 where
  pub path : List ℕ
  pub pages : IndexPages

-- that of a range, and its page that is at hand
pub record RangeAsked : Type 0 where
  pub index : Ranged
  pub at_hand : Option ReadPage

abbrev pub ranged : List ℕ → IndexPages → Ranged
ranged path pages = record { path = path; pages = pages }

abbrev pub asking : List ℕ → IndexPages → Option ReadPage → RangeAsked
asking path pages page = record { index = ranged path pages; at_hand = page }

-- what a range asks for, or the refusal before a page is read
unfoldable pub range_asked : List ℕ → ℕ → ℕ → KeptAt → Result RangeAsked Refusal
range_asked file offset len k = do
  path ← range_place file k
  r ← reader_in k.session
  pages ← steps.range_plan r file offset len
  Ok (asking path pages (ranged_of file k.row))

-- ---- what is read

-- what the range from one offset up to another has of page i: the page is read, and then its chunks
unfoldable pub page_range : Files → Ranged → ℕ → ℕ → ℕ → Result (List ℕ) Refusal
page_range m a i from to = page_entries m a.path a.pages i >>= λ entries. parts_at m (parts_in from to (start_by a.pages i) entries)

-- of so many pages from page i on, but for those that begin where the range ends or behind it
unfoldable pub range_from : Files → Ranged → ℕ → ℕ → ℕ → ℕ → Result (List ℕ) Refusal
range_from m a from to zero i = Ok []
range_from m a from to (suc n) i =
    if nat_le to (start_by a.pages i) then Ok [] else (page_range m a i from to >>= λ bytes. behind bytes (range_from m a from to n (i + 1)))

abbrev pub range_by : Files → Ranged → ℕ → ℕ → Option ℕ → Result (List ℕ) Refusal
range_by m a from to None = Ok []
range_by m a from to (Some i) = range_from m a from to (page_count (pages_by a.pages).count - i) i

-- from the first page on that ends behind its front: the bytes, or the first refusal of a page or of a chunk; of no bytes no page is read
abbrev pub range_at : Files → Ranged → ℕ → ℕ → Result (List ℕ) Refusal
range_at m a from to = if nat_le to from then Ok [] else range_by m a from to (page_with a.pages from)

-- what it has of a page that was read
abbrev pub parts_on : ℕ → ℕ → ReadPage → List Part
parts_on from to p = parts_in from to p.start (ends_of p.entries.items)

-- what the page at hand has of its front, where it begins there or before: the chunks alone are read
abbrev pub front_at : Files → Option ReadPage → ℕ → ℕ → Result (List ℕ) Refusal
front_at m None from to = Ok []
front_at m (Some p) from to = if nat_le p.start from then parts_at m (parts_on from to p) else Ok []

-- behind it the rest, from the place that it reaches
abbrev pub rest_at : Files → Ranged → ℕ → ℕ → List ℕ → Result (List ℕ) Refusal
rest_at m a from to front = behind front (range_at m a (from + length front) to)

unfoldable pub range_with : Files → RangeAsked → ℕ → ℕ → Result (List ℕ) Refusal
range_with m q from to = front_at m q.at_hand from to >>= rest_at m q.index from to

-- the bytes that a RANGE gives, or its refusal
abbrev pub range_told : List ℕ → ℕ → ℕ → Files → KeptAt → Result (List ℕ) Refusal
range_told file offset len m k = range_asked file offset len k >>= λ q. range_with m q offset (offset + len)

-- ---- an index of pieces that stand there

-- its pages are those of an index of these pieces
pub record StandsWhole (m : Files) (p : IndexPages) : Type 0 where
  pub pieces : List (List ℕ)
  pub index : IsIndex m p (ends_from 0 pieces)
  pub steps : IsTrue (steps_fit 0 (ends_from 0 pieces))
  pub held : All (IsHeld m) pieces

-- a page of an index of these pieces
pub record IsHandOf (p : IndexPages) (es : List Ended) (x : ReadPage) : Type 0 where
  pub below : x.number < page_count (length es)
  pub start : x.start ≡ start_by p x.number
  pub entries : ends_of x.entries.items ≡ take 1024 (drop (x.number * 1024) es)

-- what is at hand is one
abbrev pub FitsHand : IndexPages → List Ended → Option ReadPage → Type 0
FitsHand p es None = Unit {0}
FitsHand p es (Some x) = IsHandOf p es x

-- its parts are of pieces that stand there
abbrev pub HoldsFront : Files → Option ReadPage → ℕ → ℕ → Type 0
HoldsFront m None from to = Unit {0}
HoldsFront m (Some x) from to = HoldsParts m (parts_on from to x)

-- the index of a range stands there, and its page at hand is of it
pub record StandsAsked (m : Files) (q : RangeAsked) : Type 0 where
  pub whole : StandsWhole m (q.index).pages
  pub hand : FitsHand (q.index).pages (ends_from 0 whole.pieces) q.at_hand

-- of an honest disk on which it is so nothing is refused
abbrev pub ReadsWhole : {A D : Type 0} → Ghosts D → D → IndexPages → Result A Stop → Type 0
ReadsWhole d disk p result = d.honest disk → StandsWhole (d.content disk) p → IsUnrefused result

abbrev pub ReadsAsked : {A D : Type 0} → Ghosts D → D → RangeAsked → Result A Stop → Type 0
ReadsAsked d disk q result = d.honest disk → StandsAsked (d.content disk) q → IsUnrefused result

-- ---- on any disk

-- bytes of page i with the SHA-256 that was kept spell these entries
pub record AreKept (p : IndexPages) (i : ℕ) (entries : List Ended) : Type 0 where
  pub bytes : List ℕ
  pub kept : IsTrue (is_kept (pages_by p) i bytes)
  pub told : told_by p i bytes ≡ Ok entries

-- of such entries of a page the range has a part of a piece with this digest
pub record NeedsChunk (p : IndexPages) (from to : ℕ) (digest : Digest32) : Type 0 where
  pub place : ℕ
  pub entries : List Ended
  pub kept : AreKept p place entries
  pub has : Contains (digests_of (parts_in from to (start_by p place) entries)) digest

-- or of those of the page at hand
abbrev pub HandNeeds : Option ReadPage → ℕ → ℕ → Digest32 → Type 0
HandNeeds None from to digest = ⊥
HandNeeds (Some p) from to digest = Contains (digests_of (parts_on from to p)) digest

abbrev pub AskedNeeds : RangeAsked → ℕ → ℕ → Digest32 → Type 0
AskedNeeds q from to digest = HandNeeds q.at_hand from to digest ⊎ NeedsChunk (q.index).pages from to digest

-- a page is unreadable, or a chunk that is needed is damaged
abbrev pub RefusesRead : Ranged → ℕ → ℕ → Refusal → Type 0
RefusesRead a from to (Unreadable name) = name ≡ a.path
RefusesRead a from to (Damaged digest found) = NeedsChunk a.pages from to digest
RefusesRead a from to refusal = ⊥

abbrev pub RefusesFront : Option ReadPage → ℕ → ℕ → Refusal → Type 0
RefusesFront page from to (Damaged digest found) = HandNeeds page from to digest
RefusesFront page from to refusal = ⊥

abbrev pub RefusesAsked : RangeAsked → ℕ → ℕ → Refusal → Type 0
RefusesAsked q from to (Unreadable name) = name ≡ (q.index).path
RefusesAsked q from to (Damaged digest found) = AskedNeeds q from to digest
RefusesAsked q from to refusal = ⊥

-- so, where it was read; else by what was asked for
abbrev pub RangeRefuses : Result RangeAsked Refusal → ℕ → ℕ → Refusal → Type 0
RangeRefuses (Ok q) from to refusal = RefusesAsked q from to refusal
RangeRefuses (Err told) from to refusal = refusal ≡ told

-- ---- the page that is read last

-- Page i as it was read. On any disk bytes of it with the SHA-256 that was kept spell its entries.
pub record IsPageRead (p : IndexPages) (i : ℕ) (x : ReadPage) : Type 0 where
  pub number : x.number ≡ i
  pub start : x.start ≡ start_by p i
  pub spelled : AreKept p i (ends_of x.entries.items)

-- an honest disk gave it
abbrev pub ReadsPage : Files → Ranged → ReadPage → Type 0
ReadsPage m a x = page_entries m a.path a.pages x.number ≡ Ok (ends_of x.entries.items)

abbrev pub ReadsLast : Files → Ranged → Option ReadPage → Type 0
ReadsLast m a None = Unit {0}
ReadsLast m a (Some x) = ReadsPage m a x

-- the range has bytes, and ends on this page, which begins before its end
pub record EndsOn (p : IndexPages) (from to : ℕ) (x : ReadPage) : Type 0 where
  pub some : from < to
  pub first : ℕ
  pub begun : page_with p from ≡ Some first
  pub low : first ≤ x.number
  pub below : x.number < page_count (pages_by p).count
  pub reached : start_by p x.number < to
  pub last : x.number + 1 < page_count (pages_by p).count → to ≤ start_by p (x.number + 1)
  pub is : IsPageRead p x.number x

-- it has no bytes of a page
abbrev pub HasNoPage : IndexPages → ℕ → ℕ → Type 0
HasNoPage p from to = (i : ℕ) → from < to → page_with p from ≡ Some i → i < page_count (pages_by p).count → to ≤ start_by p i

-- the page that was read last, where one was
abbrev pub IsLast : IndexPages → ℕ → ℕ → Option ReadPage → Type 0
IsLast p from to None = HasNoPage p from to
IsLast p from to (Some x) = EndsOn p from to x

-- and where the page at hand reaches so far
pub record LastRead {D : Type 0} (d : Ghosts D) (disk : D) (q : RangeAsked) (from to : ℕ) (last : Option ReadPage) : Type 0 where
  pub reached : ℕ
  pub low : from ≤ reached
  pub high : reached ≤ to
  pub front : d.honest disk → (front : List ℕ) × (front_at (d.content disk) q.at_hand from to ≡ Ok front) × (reached ≡ from + length front)
  pub only : IsLast (q.index).pages reached to last
  pub reads : d.honest disk → ReadsLast (d.content disk) q.index last

-- ---- what the calls give

-- where the index stands, or the refusal
abbrev pub FindsIndex : {D : Type 0} → Parts D → ℕ → List ℕ → Result AskedIndex Stop → Type 0
FindsIndex parts lane file result = Gives (λ (a : AskedIndex). string_bytes a.path) result (range_place file (kept_at parts lane))

-- of an honest disk: the entries of a page
abbrev pub GivesEntries : {D : Type 0} → Ghosts D → D → List ℕ → IndexPages → ℕ → Result (Vec IndexEntry Global) Stop → Type 0
GivesEntries d disk path pages i result = d.honest disk → Gives (λ (entries : Vec IndexEntry Global). ends_of entries.items) result (page_entries (d.content disk) path pages i)

-- the page
abbrev pub GivesReadPage : {D : Type 0} → Ghosts D → D → Ranged → ℕ → Result ReadPage Stop → Type 0
GivesReadPage d disk a i result = d.honest disk → Gives (λ (x : ReadPage). ends_of x.entries.items) result (page_entries (d.content disk) a.path a.pages i)

-- what the range has of it, behind what was read before
abbrev pub GivesPageRange : {D : Type 0} → Ghosts D → D → Ranged → ℕ → ℕ → ℕ → List ℕ → List ℕ → Result ReadPage Stop → Type 0
GivesPageRange d disk a i from to old new result = d.honest disk → Gives (λ _. new) result (behind old (page_range (d.content disk) a i from to))

-- what is read of a range, behind what was read before
abbrev pub GivesPages : {D : Type 0} → Ghosts D → D → Ranged → ℕ → ℕ → List ℕ → List ℕ → Result (Option ReadPage) Stop → Type 0
GivesPages d disk a from to old new result = d.honest disk → Gives (λ _. new) result (behind old (range_at (d.content disk) a from to))

-- what the page at hand has of its front
abbrev pub GivesFront : {D : Type 0} → Ghosts D → D → Option ReadPage → ℕ → ℕ → List ℕ → List ℕ → Result (Unit {0}) Stop → Type 0
GivesFront d disk page from to old new result = d.honest disk → Gives (λ _. new) result (behind old (front_at (d.content disk) page from to))

-- the range's bytes
abbrev pub GivesAsked : {D : Type 0} → Ghosts D → D → RangeAsked → ℕ → ℕ → Result RangeRead Stop → Type 0
GivesAsked d disk q from to result = d.honest disk → Gives (λ (r : RangeRead). r.bytes.items) result (range_with (d.content disk) q from to)

-- of the archive that is asked for
abbrev pub GivesRange : {D : Type 0} → Ghosts D → Parts D → ℕ → List ℕ → ℕ → ℕ → Result (Vec ℕ Global) Stop → Type 0
GivesRange d parts lane file offset len result =
    d.honest parts.disk → Gives (λ (bytes : Vec ℕ Global). bytes.items) result (range_told file offset len (d.content parts.disk) (kept_at parts lane))

-- what the range has of page i is no more than what both have
pub record Grows (p : IndexPages) (i from to : ℕ) (old new : List ℕ) : Type 0 where
  pub size : length new ≤ length old + (min to (stop_by p i) - max from (start_by p i))
  pub rises : start_by p i ≤ stop_by p i

-- no more bytes than a range may have
pub record FitsRange (len : ℕ) (bytes : Vec ℕ Global) : Type 0 where
  pub size : length bytes.items ≤ len
  pub limit : len ≤ 4_194_304

-- and nothing is refused where the index that is asked for stands there, and its pieces do
abbrev pub ReadsRange : {D : Type 0} → Ghosts D → Parts D → ℕ → List ℕ → ℕ → ℕ → Result (Vec ℕ Global) Stop → Type 0
ReadsRange d parts lane file offset len result =
    (q : RangeAsked) → range_asked file offset len (kept_at parts lane) ≡ Ok q → ReadsAsked d parts.disk q result

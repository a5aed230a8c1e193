-- What holds of sweeps in every legal history.
use Rattle.std.specs.Prelude.{◌≡◌, ◌≢◌, ◌≤◌, ◌⊎◌, ◌↔◌, ℕ, true, List, [], ◌∷◌, ◌++◌, length, Option, Some, None, IfSome, IsSome, IsSomeAnd, option_to_list}
use Rattle.std.specs.List.{AllPairs, Contains, flat_map}
use Rattle.store_types.specs.Names.{name_lt}
use Rattle.store_files.specs.Archive.{Snapshot}
use Rattle.wire_commands.specs.declared.reply.Reply.{Reply}
use Rattle.store_types.specs.declared.refusal.Refusal.TheVariants.{NoMemory}
use Rattle.store_types.specs.declared.order.TheConstants.{PART_KIND, START_KIND, STOP_KIND}
use Rattle.wire_commands.specs.declared.reply.Reply.TheVariants.{Done, Refused}
use Rattle.store_model.specs.Store.{Session, Writer, writer, session}
use Rattle.atime_book.specs.Touches.{cutoff_of}
use Rattle.store_history.specs.declared.act.Act.{Act}
use Rattle.store_history.specs.declared.act.Act.TheVariants.{Chunk, Start, Step}
use Rattle.store_history.specs.declared.act.Event.{Event}
use Rattle.store_history.specs.History.{World, Opening, opened, after, lane, moment, kind, reply}
use Rattle.store_history.specs.Legal.{IsLegal}
use Rattle.store_history.specs.LastTouches.{LastTouches, touches_at_opening}
use Rattle.store_history.specs.Sweeping.{Sweep, Swept, swept_at, chunks, oldest_in, is_over, taken_by, touched_after, swept_after, swept_all, world, swept, used_among, pending_among, report_of, IsSwept}
use Rattle.store_upkeep.specs.Safety.{In, MayAppend, IsNeeded, IsSafe, IsThere, IsStocked, OpensStocked}

-- ---- nothing that is needed is lost

-- what holds beside a sweep holds at all times
abbrev pub HistoriesAreSafe : Type 0
HistoriesAreSafe = (remote : Option (List Snapshot)) (o : Opening) (es : List Event) → IsLegal remote (opened o) es → IsSafe (world remote o es) (swept remote o es)

-- a chunk that is taken out is of no finished snapshot, and no running writer may append it
abbrev pub TakenIsNotNeeded : Type 0
TakenIsNotNeeded =
    (remote : Option (List Snapshot)) (o : Opening) (es : List Event) (e : Event) (d : List ℕ) → IsLegal remote (opened o) es
    → taken_by (swept remote o es) e ≡ Some d → IsNeeded (world remote o es).store d → ⊥

-- Each chunk of a finished snapshot is there, and each that a running writer may append, where those of the snapshots at opening were.
abbrev pub NeededIsThere : Type 0
NeededIsThere =
    (remote : Option (List Snapshot)) (o : Opening) (es : List Event) → IsLegal remote (opened o) es → OpensStocked o
    → IsStocked (world remote o es).store (swept remote o es).touches

-- while some is still to be marked, no chunk was listed or taken out
abbrev pub IsUnvisited : Option Sweep → Type 0
IsUnvisited o = (sweep : Sweep) → o ≡ Some sweep → (sweep.unmarked ≡ [] → ⊥) → (sweep.to_visit ≡ None) × (sweep.removed ≡ 0)

abbrev pub VisitsComeLast : Type 0
VisitsComeLast = (remote : Option (List Snapshot)) (o : Opening) (es : List Event) → IsUnvisited (swept remote o es).sweep

-- only a visit takes a chunk out
abbrev pub OnlyVisitsTake : Type 0
OnlyVisitsTake =
    (remote : Option (List Snapshot)) (w : World) (s : Swept) (e : Event) (d : List ℕ) → IsThere s.touches d
    → (IsThere (swept_after remote w s e).touches d → ⊥) → (taken_by s e ≡ Some d) × (e.act ≡ Step) × (kind e ≡ PART_KIND)

-- ---- what was sent

abbrev pub sent_in : Act → Option Reply → List (List ℕ)
sent_in (Chunk digest checked) (Some Done) = digest.0 ∷ []
sent_in act r = []

-- Since a CHUNK that was done its chunk was last touched at that moment or later, whenever it is there.
abbrev pub SentStays : Type 0
SentStays =
    (remote : Option (List Snapshot)) (o : Opening) (es : List Event) (e : Event) (since : List Event) (d : List ℕ)
    → IsLegal remote (opened o) (es ++ e ∷ since) → In d (sent_in e.act (reply e))
    → IfSome ((swept remote o (es ++ e ∷ since)).touches.last d) (λ when. moment e ≤ when)

-- the lane's writer runs in this world, and behind each of the events
abbrev pub IsWriting : Session → Type 0
IsWriting (writer x) = Unit {0}
IsWriting _ = ⊥

abbrev pub RunsOn : Option (List Snapshot) → World → ℕ → List Event → Type 0
RunsOn remote w k [] = IsWriting (session w.store k)
RunsOn remote w k (e ∷ es) = IsWriting (session w.store k) × RunsOn remote (after remote w e) k es

-- And while the writer that sent it runs, it is there, and that writer may append it.
abbrev pub SentIsThere : Type 0
SentIsThere =
    (remote : Option (List Snapshot)) (o : Opening) (es : List Event) (e : Event) (since : List Event) (d : List ℕ)
    → IsLegal remote (opened o) (es ++ e ∷ since) → OpensStocked o → In d (sent_in e.act (reply e)) → RunsOn remote (after remote (world remote o es) e) (lane e) since
    → IsSomeAnd ((swept remote o (es ++ e ∷ since)).touches.last d) (λ when. moment e ≤ when)
    × (x : Writer) × (session (world remote o (es ++ e ∷ since)).store (lane e) ≡ writer x) × MayAppend x d

-- ---- a whole sweep

-- the sweep is open before each of these events and behind the last
abbrev pub StaysOpen : Option (List Snapshot) → World → Swept → List Event → Type 0
StaysOpen remote w s [] = IsSome s.sweep
StaysOpen remote w s (e ∷ es) = IsSome s.sweep × StaysOpen remote (after remote w e) (swept_after remote w s e) es

-- the last touches behind these events, as though none of these chunks were taken out
unfoldable pub touched_all : Option (List Snapshot) → World → Swept → LastTouches → List Event → LastTouches
touched_all remote w s touches [] = touches
touched_all remote w s touches (e ∷ es) = touched_all remote (after remote w e) (swept_after remote w s e) (touched_after s e touches) es

-- the chunks that they take out
unfoldable pub taken_all : Option (List Snapshot) → World → Swept → List Event → List (List ℕ)
taken_all remote w s [] = []
taken_all remote w s (e ∷ es) = option_to_list (taken_by s e) ++ taken_all remote (after remote w e) (swept_after remote w s e) es

-- A collector starts with the first event, in this world. It is open through those behind it, and at their end its sweep is over.
pub record IsWhole (remote : Option (List Snapshot)) (w : World) (s : Swept) (start : Event) (since : List Event) (sweep : Sweep) : Type 0 where
  pub act : start.act ≡ Start
  pub kind_is : kind start ≡ START_KIND
  pub stays : StaysOpen remote (after remote w start) (swept_after remote w s start) since
  pub sweep_is : (swept_all remote w s (start ∷ since)).sweep ≡ Some sweep
  pub over : is_over sweep ≡ true

-- What it leaves: exactly those of the chunks that were there at its start, or were sent since, whose last touch is not before the cutoff. The
-- cutoff is by the writers that ran at its start.
pub record LeavesRight (remote : Option (List Snapshot)) (w : World) (s : Swept) (start : Event) (since : List Event) (sweep : Sweep) : Type 0 where
  pub started : sweep.start ≡ moment start
  pub cutoff : sweep.cutoff ≡ cutoff_of (moment start) (oldest_in (w.store).sessions)
  pub removed : sweep.removed ≡ length (taken_all remote w s (start ∷ since))
  pub chunks : (d : List ℕ) (when : ℕ)
      → ((swept_all remote w s (start ∷ since)).touches.last d ≡ Some when)
      ↔ (((touched_all remote w s s.touches (start ∷ since)).last d ≡ Some when) × (sweep.cutoff ≤ when))

abbrev pub WholeSweepsLeaveRight : Type 0
WholeSweepsLeaveRight =
    (remote : Option (List Snapshot)) (o : Opening) (before : List Event) (start : Event) (since : List Event) (sweep : Sweep)
    → IsLegal remote (opened o) (before ++ start ∷ since) → OpensStocked o → IsWhole remote (world remote o before) (swept remote o before) start since sweep
    → LeavesRight remote (world remote o before) (swept remote o before) start since sweep

-- ---- which chunks have a last touch

-- the digests that a CHUNK sent
abbrev pub digests_sent : List Event → List (List ℕ)
digests_sent es = flat_map (λ e. sent_in e.act (reply e)) es

-- had none been taken out, those that were there at first would be, and those that were sent since
abbrev pub ThereOrSent : Type 0
ThereOrSent =
    (remote : Option (List Snapshot)) (w : World) (s : Swept) (touches : LastTouches) (es : List Event) (d : List ℕ)
    → IsThere (touched_all remote w s touches es) d ↔ (IsThere touches d ⊎ In d (digests_sent es))

-- A removal erases no last touch: that of a chunk that is there is as though none had ever been taken out.
abbrev pub LastTouchesStay : Type 0
LastTouchesStay =
    (remote : Option (List Snapshot)) (o : Opening) (es : List Event) (d : List ℕ) (when : ℕ) → IsLegal remote (opened o) es → OpensStocked o
    → (swept remote o es).touches.last d ≡ Some when → (touched_all remote (opened o) (swept_at o) (touches_at_opening o) es).last d ≡ Some when

-- ---- the report

-- The end of a collector, in a history whose collectors sweep: where it does not reply want of memory or a fault, its sweep is over, and it
-- replies the report.
abbrev pub EndsAreReported : Type 0
EndsAreReported =
    (remote : Option (List Snapshot)) (o : Opening) (es : List Event) (e : Event)
    → IsLegal remote (opened o) (es ++ e ∷ []) → IsSwept remote (opened o) (swept_at o) (es ++ e ∷ []) → kind e ≡ STOP_KIND → (reply e ≡ Some (Refused NoMemory) → ⊥)
    → IsSomeAnd (swept remote o es).sweep (λ sweep. (is_over sweep ≡ true) × (reply e ≡ Some (report_of (swept remote o es) sweep)))

-- The collector that ends behind these events, by e, started among them, on its lane. It has swept the whole since, and replies that sweep's report.
pub record ReportsWhole (remote : Option (List Snapshot)) (o : Opening) (es : List Event) (e : Event) : Type 0 where
  pub before : List Event
  pub start : Event
  pub since : List Event
  pub sweep : Sweep
  pub parts : es ≡ before ++ start ∷ since
  pub own : lane start ≡ lane e
  pub whole : IsWhole remote (world remote o before) (swept remote o before) start since sweep
  pub started : sweep.start ≡ moment start
  pub cutoff : sweep.cutoff ≡ cutoff_of (moment start) (oldest_in ((world remote o before).store).sessions)
  pub leaves : OpensStocked o → LeavesRight remote (world remote o before) (swept remote o before) start since sweep
  pub reported : reply e ≡ Some (report_of (swept remote o es) sweep)

abbrev pub ReportsAreRight : Type 0
ReportsAreRight =
    (remote : Option (List Snapshot)) (o : Opening) (es : List Event) (e : Event)
    → IsLegal remote (opened o) (es ++ e ∷ []) → IsSwept remote (opened o) (swept_at o) (es ++ e ∷ []) → kind e ≡ STOP_KIND → (reply e ≡ Some (Refused NoMemory) → ⊥)
    → ReportsWhole remote o es e

-- the digests of the chunks that are there, each once
pub record Lists (touches : LastTouches) (digests : List (List ℕ)) : Type 0 where
  pub once : AllPairs (λ a b. a ≢ b) digests
  pub each : (d : List ℕ) → IsThere touches d ↔ Contains digests d

-- in byte order: each of these is above it, and each is above those before it
abbrev pub Above : List ℕ → List (List ℕ) → Type 0
Above x digests = (y : List ℕ) → In y digests → name_lt x y ≡ true

abbrev pub Rising : List (List ℕ) → Type 0
Rising [] = Unit {0}
Rising (x ∷ xs) = Above x xs × Rising xs

-- the chunks that a collector lists and counts are those that are there
abbrev pub ListsChunks : Type 0
ListsChunks = (remote : Option (List Snapshot)) (o : Opening) (es : List Event) → Lists (swept remote o es).touches (chunks (swept remote o es))

-- in whatever order they are counted, as many are used and as many are pending
abbrev pub CountsAreOne : Type 0
CountsAreOne =
    (touches : LastTouches) (start : ℕ) (a b : List (List ℕ)) → Lists touches a → Lists touches b
    → (used_among touches start a ≡ used_among touches start b) × (pending_among touches start a ≡ pending_among touches start b)

-- The sweep of an open collector in the course of a history: what it marks, which chunks it visits, and which of them it takes out.
use Rattle.std.specs.Prelude.{◌≡◌, ℕ, ◌+◌, Bool, true, false, not, min, List, [], ◌∷◌, ◌++◌, map, filter, length, take, drop, if◌then◌else◌, Option, Some, None, option_map, is_some, unwrap_or, IsSomeAnd, Result}
use Rattle.std.specs.List.{flat_map}
use Rattle.std.specs.Str.{bytes_eq}
use Rattle.sha2.specs.Sha256.{sha256}
use Rattle.store_types.specs.declared.names.Digest32.{Digest32}
use Rattle.store_types.specs.declared.names.SnapshotKey.{SnapshotKey}
use Rattle.store_types.specs.declared.refusal.Refusal.{Refusal}
use Rattle.store_types.specs.Names.{same_key, key_of, name_lt}
use Rattle.store_files.specs.Archive.{Content, Snapshot, pieces_of}
use Rattle.wire_commands.specs.declared.reply.Reply.{Reply}
use Rattle.wire_commands.specs.declared.reply.Reply.TheVariants.{Done, Collected}
use Rattle.store_model.specs.Store.{Session, writer, Store}
use Rattle.store_model.specs.Lanes.{Collecting}
use Rattle.atime_book.specs.Touches.{cutoff_of, is_stale}
use Rattle.atime_book.specs.Counts.{is_since}
use Rattle.store_history.specs.declared.act.Act.{Act}
use Rattle.store_history.specs.declared.act.Event.{Event}
use Rattle.store_history.specs.Acts.{Class, starting, sweeping, class_of, sent_chunk}
use Rattle.store_history.specs.History.{World, Opening, opened, after, after_all, lane, moment, kind, reply, EntryKind, kind_of, pass_kind, start_kind, close_kind}
use Rattle.store_history.specs.Legal.{collecting_on}
use Rattle.store_history.specs.LastTouches.{LastTouches, is_one_of, touches_at_opening, touched, touches_after}
use Rattle.store_history.specs.Profile.{OnList, takes_out, profile}

-- ---- what is to be marked

abbrev pub digests_of : Content → List (List ℕ)
digests_of content = map sha256 (pieces_of content)

-- an index of a snapshot, or what is left of it: the digests of its entries, which are never none
pub record Unmarked : Type 0 where
  pub key : SnapshotKey
  pub name : List ℕ
  pub digests : List (List ℕ)

-- where there are digests
abbrev pub unmarked_of : SnapshotKey → List ℕ → List (List ℕ) → List Unmarked
unmarked_of key name [] = []
unmarked_of key name (d ∷ ds) = record { key = key; name = name; digests = d ∷ ds } ∷ []

abbrev pub indexes_of : Snapshot → List Unmarked
indexes_of x = flat_map (λ f. unmarked_of x.key f.name (digests_of f.content)) x.files

-- the indexes of these snapshots, each snapshot's in byte order of their names
abbrev pub indexes_in : List Snapshot → List Unmarked
indexes_in snapshots = flat_map indexes_of snapshots

-- so many digests of one index are marked at a time
abbrev pub mark_limit : ℕ
mark_limit = 1_000

-- ---- the state

-- The moment of its start, and its cutoff. The indexes that are still to be marked, the first of them in part. The digests of the chunks
-- that are still to be visited, once they are listed. How many chunks it has taken out.
pub record Sweep : Type 0 where
  pub start : ℕ
  pub cutoff : ℕ
  pub unmarked : List Unmarked
  pub to_visit : Option (List (List ℕ))
  pub removed : ℕ

-- The last touch of each chunk that is there. The digests of the chunks that were there at opening or were sent since, in byte order.
-- The sweep of the open collector.
pub record Swept : Type 0 where
  pub touches : LastTouches
  pub known : List (List ℕ)
  pub sweep : Option Sweep

-- at its place in byte order, once
abbrev pub insert_digest : List ℕ → List (List ℕ) → List (List ℕ)
insert_digest new [] = new ∷ []
insert_digest new (d ∷ ds) =
    if bytes_eq new d then d ∷ ds else
    if name_lt new d then new ∷ d ∷ ds else
    d ∷ insert_digest new ds

abbrev pub in_order : List (List ℕ) → List (List ℕ)
in_order [] = []
in_order (d ∷ ds) = insert_digest d (in_order ds)

abbrev pub swept_at : Opening → Swept
swept_at o = record { touches = touches_at_opening o; known = in_order (map sha256 o.chunks); sweep = None }

abbrev pub is_there : LastTouches → List ℕ → Bool
is_there touches digest = is_some (touches.last digest)

-- the digests of the chunks that are there, in byte order
abbrev pub chunks : Swept → List (List ℕ)
chunks s = filter (is_there s.touches) s.known

-- ---- the start

abbrev pub earlier : Option ℕ → ℕ → Option ℕ
earlier None start = Some start
earlier (Some other) start = Some (min other start)

-- the start of the oldest writer among these sessions
abbrev pub oldest_in : List Session → Option ℕ
oldest_in [] = None
oldest_in (writer w ∷ sessions) = earlier (oldest_in sessions) w.start
oldest_in (session ∷ sessions) = oldest_in sessions

-- a collector starts at this moment: the indexes of all finished snapshots are to be marked
abbrev pub new_sweep : Store → ℕ → Sweep
new_sweep s when = record {
  start = when;
  cutoff = cutoff_of when (oldest_in s.sessions);
  unmarked = indexes_in s.snapshots;
  to_visit = None;
  removed = 0;
}

-- ---- marks and visits

-- the next mark is of the first index: of so many of its digests, or of all that are left
abbrev pub next_marks : List Unmarked → List (List ℕ)
next_marks [] = []
next_marks (u ∷ us) = take mark_limit u.digests

-- what is left to be visited; the chunks are listed now where they were not
abbrev pub left_of : Swept → Sweep → List (List ℕ)
left_of s sweep = unwrap_or sweep.to_visit (chunks s)

-- the first of these chunks is visited: it is taken out exactly where its last touch is before the cutoff
abbrev pub first_taken : LastTouches → ℕ → List (List ℕ) → Option (List ℕ)
first_taken touches cutoff [] = None
first_taken touches cutoff (d ∷ ds) = if is_stale (touches.last d) cutoff then Some d else None

abbrev pub behind_first : List (List ℕ) → List (List ℕ)
behind_first [] = []
behind_first (d ∷ ds) = ds

-- chunks are visited once all is marked
abbrev pub next_taken : Swept → Sweep → List Unmarked → Option (List ℕ)
next_taken s sweep [] = first_taken s.touches sweep.cutoff (left_of s sweep)
next_taken s sweep (u ∷ us) = None

abbrev pub one_more : Option (List ℕ) → ℕ → ℕ
one_more None removed = removed
one_more (Some digest) removed = removed + 1

-- after its next mark, or its next visit
abbrev pub passed : Swept → Sweep → List Unmarked → Sweep
passed s sweep [] = record sweep {
  to_visit = Some (behind_first (left_of s sweep));
  removed = one_more (next_taken s sweep []) sweep.removed;
}
passed s sweep (u ∷ us) = record sweep { unmarked = unmarked_of u.key u.name (drop mark_limit u.digests) ++ us }

-- all is marked, and each chunk that was listed has been visited
abbrev pub has_visited : Option (List (List ℕ)) → Bool
has_visited None = false
has_visited (Some []) = true
has_visited (Some (d ∷ ds)) = false

abbrev pub is_done : List Unmarked → Option (List (List ℕ)) → Bool
is_done [] to_visit = has_visited to_visit
is_done (u ∷ us) to_visit = false

abbrev pub is_over : Sweep → Bool
is_over sweep = is_done sweep.unmarked sweep.to_visit

-- ---- an event

-- an act of a collector whose entry is of kind 1 is a mark or a visit
abbrev pub is_pass : Class → EntryKind → Bool
is_pass sweeping pass_kind = true
is_pass _ _ = false

-- the sweep whose mark or visit the event is
abbrev pub sweep_of : Option Sweep → Bool → Option Sweep
sweep_of sweep true = sweep
sweep_of sweep false = None

abbrev pub passing : Swept → Event → Option Sweep
passing s e = sweep_of s.sweep (is_pass (class_of e.act) (kind_of (kind e)))

-- the digests that the event marks, and the chunk that it takes out
abbrev pub marks_in : Option Sweep → List (List ℕ)
marks_in None = []
marks_in (Some sweep) = next_marks sweep.unmarked

abbrev pub taken_in : Swept → Option Sweep → Option (List ℕ)
taken_in s None = None
taken_in s (Some sweep) = next_taken s sweep sweep.unmarked

abbrev pub taken_by : Swept → Event → Option (List ℕ)
taken_by s e = taken_in s (passing s e)

-- The last touches after the event, where none is taken out: a mark touches too.
abbrev pub touched_after : Swept → Event → LastTouches → LastTouches
touched_after s e touches = touched (λ d. is_one_of d (marks_in (passing s e))) (moment e) (touches_after touches e)

-- without the chunk that is taken out
abbrev pub without : Option (List ℕ) → LastTouches → LastTouches
without None touches = touches
without (Some digest) touches = record touches { last = λ d. if bytes_eq digest d then None else touches.last d }

-- a CHUNK that was done has sent its chunk
abbrev pub known_with : Option (Digest32 × Result (List ℕ) Refusal) → Option Reply → List (List ℕ) → List (List ℕ)
known_with (Some c) (Some Done) known = insert_digest (c.0).0 known
known_with c reply known = known

abbrev pub known_after : Act → Option Reply → List (List ℕ) → List (List ℕ)
known_after act reply known = known_with (sent_chunk act) reply known

-- the text names the snapshot
abbrev pub names_key : Option SnapshotKey → SnapshotKey → Bool
names_key None key = false
names_key (Some named) key = same_key key named

-- a FORGET of the snapshot was done
abbrev pub takes_key : OnList → Option Reply → SnapshotKey → Bool
takes_key (takes_out text) (Some Done) key = names_key (key_of text) key
takes_key other reply key = false

abbrev pub forgets : Act → Option Reply → SnapshotKey → Bool
forgets act reply key = takes_key (profile act).list reply key

-- the indexes of a snapshot that was forgotten are passed over
abbrev pub spared : Act → Option Reply → Sweep → Sweep
spared act reply sweep = record sweep { unmarked = filter (λ u. not (forgets act reply u.key)) sweep.unmarked }

-- the sweep after an event of this class and kind
abbrev pub swept_by : World → Swept → Event → Class → EntryKind → Option Sweep
swept_by w s e starting start_kind = Some (new_sweep w.store (moment e))
swept_by w s e sweeping pass_kind = option_map (λ sweep. passed s sweep sweep.unmarked) s.sweep
swept_by w s e _ _ = option_map (spared e.act (reply e)) s.sweep

-- the sweep ends as its collector closes: at its end, at a fault of its act, or at its lane's end
abbrev pub while_open : Option Collecting → Option Sweep → Option Sweep
while_open None sweep = None
while_open (Some collecting) sweep = sweep

-- ---- a history

unfoldable pub swept_after : Option (List Snapshot) → World → Swept → Event → Swept
swept_after remote w s e = record {
  touches = without (taken_by s e) (touched_after s e s.touches);
  known = known_after e.act (reply e) s.known;
  sweep = while_open (after remote w e).collecting (swept_by w s e (class_of e.act) (kind_of (kind e)));
}

unfoldable pub swept_all : Option (List Snapshot) → World → Swept → List Event → Swept
swept_all remote w s [] = s
swept_all remote w s (e ∷ es) = swept_all remote (after remote w e) (swept_after remote w s e) es

-- ---- from an opening

-- the world after these events, and the sweep
abbrev pub world : Option (List Snapshot) → Opening → List Event → World
world remote o es = after_all remote (opened o) es

abbrev pub swept : Option (List Snapshot) → Opening → List Event → Swept
swept remote o es = swept_all remote (opened o) (swept_at o) es

-- ---- the report

-- of these chunks, those that were touched at the start or later, and the others
abbrev pub used_among : LastTouches → ℕ → List (List ℕ) → ℕ
used_among touches start digests = length (filter (λ d. is_since start (touches.last d)) digests)

abbrev pub pending_among : LastTouches → ℕ → List (List ℕ) → ℕ
pending_among touches start digests = length (filter (λ d. not (is_since start (touches.last d))) digests)

abbrev pub report_of : Swept → Sweep → Reply
report_of s sweep =
    Collected sweep.start sweep.cutoff (used_among s.touches sweep.start (chunks s)) (pending_among s.touches sweep.start (chunks s)) sweep.removed

-- ---- which events the sweep allows

-- the collector's end, where no memory was wanting: the sweep is over, and this is its report
abbrev pub EndsSweep : Swept → Option Reply → Option Bool → Type 0
EndsSweep s r (Some false) = IsSomeAnd s.sweep (λ sweep. (is_over sweep ≡ true) × (r ≡ Some (report_of s sweep)))
EndsSweep s r _ = Unit {0}

abbrev pub FitsSweep : World → Swept → ℕ → Option Reply → Class → EntryKind → Type 0
-- a mark or a visit: the sweep is not over
FitsSweep w s k r sweeping pass_kind = IsSomeAnd s.sweep (λ sweep. is_over sweep ≡ false)
FitsSweep w s k r sweeping close_kind = EndsSweep s r (collecting_on w k)
FitsSweep w s k r _ _ = Unit {0}

-- Beside a legal history: its collectors mark and visit until their sweep is over or memory was wanting, and then end.
abbrev pub IsSwept : Option (List Snapshot) → World → Swept → List Event → Type 0
IsSwept remote w s [] = Unit {0}
IsSwept remote w s (e ∷ es) =
    FitsSweep w s (lane e) (reply e) (class_of e.act) (kind_of (kind e)) × IsSwept remote (after remote w e) (swept_after remote w s e) es

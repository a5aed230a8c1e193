-- Rows of a listing, and chunks of them.
use Rattle.std.specs.Prelude.{◌≡◌, ◌≤◌, ◌+◌, ◌⊎◌, ℕ, Bool, true, false, not, List, [], ◌∷◌, ◌++◌, drop, filter, length, take, if◌then◌else◌, option_map, Option, Some, None}
use Rattle.std.specs.Borrow.{Bor}
use Rattle.std.specs.List.{list_any}
use Rattle.std.specs.Arc.{arc_value}
use Rattle.std.specs.declared.sync.Arc.{Arc}
use Rattle.std.specs.declared.alloc.Global.{Global}
use Rattle.store_types.specs.declared.limits.TheConstants.{LIST_LIMIT}
use Rattle.store_types.specs.declared.names.SnapshotKey.{SnapshotKey}
use Rattle.store_types.specs.Names.{key_lt, same_key}
use Rattle.listing_views.specs.declared.chunk.Chunk.{Chunk}
use Rattle.listing_views.specs.declared.listed.Listed.{Listed}

-- a row at its place: before the first that is behind it
abbrev pub insert_row : Listed → List Listed → List Listed
insert_row new [] = new ∷ []
insert_row new (x ∷ xs) = if key_lt new.key x.key then new ∷ x ∷ xs else x ∷ insert_row new xs

-- without the row of a key
abbrev pub rows_without : SnapshotKey → List Listed → List Listed
rows_without key rows = filter (λ x. not (same_key x.key key)) rows

abbrev pub lent_key : Option (Bor SnapshotKey) → Option SnapshotKey
lent_key key = option_map (λ k. k.now) key

-- behind a key, if there is one
abbrev pub is_behind : Option SnapshotKey → Listed → Bool
is_behind None x = true
is_behind (Some key) x = key_lt key x.key

-- a row is behind the key
abbrev pub any_behind : SnapshotKey → List Listed → Bool
any_behind key rows = list_any (λ x. key_lt key x.key) rows

-- the first 1,024 behind a key
abbrev pub rows_behind : Option SnapshotKey → List Listed → List Listed
rows_behind after rows = take LIST_LIMIT (filter (is_behind after) rows)

abbrev pub chunk_rows : Arc Chunk Global → List Listed
chunk_rows chunk = (arc_value chunk).rows.items

-- one chunk's rows after the other's
abbrev pub all_rows : List (Arc Chunk Global) → List Listed
all_rows [] = []
all_rows (c ∷ cs) = chunk_rows c ++ all_rows cs

-- The chunk at this place is the first with a row behind the key, or it is the last.
pub record GoesInto (key : SnapshotKey) (chunks : List (Arc Chunk Global)) (place : ℕ) : Type 0 where
  pub within : place ≤ length chunks
  pub before : any_behind key (all_rows (take place chunks)) ≡ false
  pub here : (length chunks ≤ place + 1) ⊎ ((c : Arc Chunk Global) → (cs : List (Arc Chunk Global)) → drop place chunks ≡ c ∷ cs → any_behind key (chunk_rows c) ≡ true)

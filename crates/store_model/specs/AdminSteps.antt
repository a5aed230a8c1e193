-- The commands on the store as a whole, with their refusals in order.
use Rattle.std.specs.Prelude.{ℕ, Bool, true, false, List, [], map, length, filter, take, nat_le, if◌then◌else◌, Option, Some, None, Result, Ok, Err}
use Rattle.std.specs.Str.{bytes_eq}
use Rattle.std.specs.List.{filter_map, list_all}
use Rattle.store_types.specs.declared.names.Keep.{Keep}
use Rattle.store_types.specs.declared.names.SnapshotKey.{SnapshotKey}
use Rattle.store_types.specs.declared.names.GroupKey.{GroupKey}
use Rattle.store_types.specs.declared.refusal.Refusal.{Refusal}
use Rattle.store_types.specs.declared.refusal.Refusal.TheVariants.{NoSnapshot, SnapshotBusy, TooMany}
use Rattle.store_types.specs.Chain.Refusing.{◌>>=◌, unless, or_else, if_none}
use Rattle.store_types.specs.FileNames.{manifest_name}
use Rattle.store_types.specs.Names.{key_text, key_lt}
use Rattle.store_files.specs.Archive.{File, Snapshot}
use Rattle.store_files.specs.Manifest.{manifest_of}
use Rattle.store_files.specs.Manifest.Fields.{Fact}
use Rattle.store_files.specs.Manifest.Mismatch.{fact_named}
use Rattle.prune_rules.specs.Prune.{choices}
use Rattle.wire_commands.specs.declared.rows.ListRow.{ListRow}
use Rattle.wire_commands.specs.declared.rows.FileRow.{FileRow}
use Rattle.wire_commands.specs.declared.reply.Reply.TheVariants.{Done, Listing, Files, Keys}
use Rattle.store_model.specs.Stands.{group_limit}
use Rattle.store_model.specs.Store.{Store, Outcome, snapshot_named, snapshot_holder, keys_in, without_snapshot}
use Rattle.store_model.specs.Heads.{key_in, group_in, after_in, idle_key, idle_group}
use Rattle.store_model.specs.Manifests.{fact_of, manifest_data}

-- ---- LIST

-- so many snapshots are listed at once
abbrev pub list_limit : ℕ
list_limit = 1024

abbrev pub is_after : Option SnapshotKey → Snapshot → Bool
is_after None x = true
is_after (Some key) x = key_lt key x.key

-- a finished snapshot is whole here
abbrev pub list_row : Snapshot → ListRow
list_row x = record { snapshot = key_text x.key; damaged = false; files = length x.files }

-- the first snapshots after a key
abbrev pub listed : List Snapshot → Option SnapshotKey → List ListRow
listed snapshots after = map list_row (take list_limit (filter (is_after after) snapshots))

unfoldable pub list : Store → ℕ → List ℕ → Outcome
list s lane text = do
  after ← after_in s lane text
  Ok (s, Listing (listed s.snapshots after))

-- ---- FILES

-- what the manifest among the files lists
abbrev pub facts_in : List File → List Fact
facts_in files =
    elim (manifest_data files) [
      | None ↦ []
      | Some bytes ↦ elim (manifest_of bytes) [ Ok m ↦ m.files | Err cause ↦ [] ]
    ]

-- of the manifest its own size and checksum, of another file those that the manifest lists
abbrev pub fact_shown : List Fact → File → Option Fact
fact_shown facts f = if bytes_eq f.name manifest_name then Some (fact_of f) else fact_named f.name facts

abbrev pub file_row : Fact → FileRow
file_row x = record { file = x.name; size = x.size; csum = x.csum }

abbrev pub file_rows : List File → List FileRow
file_rows files = map file_row (filter_map (fact_shown (facts_in files)) files)

unfoldable pub files : Store → ℕ → List ℕ → Outcome
files s lane text = do
  key ← key_in s lane text
  x ← or_else NoSnapshot (snapshot_named key s.snapshots)
  Ok (s, Files (file_rows x.files))

-- ---- FORGET

-- the snapshot is there, and no lane holds it
unfoldable pub want_free : Store → SnapshotKey → Result (Unit {0}) Refusal
want_free s key = do
  _ ← or_else NoSnapshot (snapshot_named key s.snapshots)
  if_none SnapshotBusy (snapshot_holder s key)

unfoldable pub forget : Store → ℕ → List ℕ → Outcome
forget s lane text = do
  key ← idle_key s lane text
  _ ← want_free s key
  Ok (record s { snapshots = without_snapshot key s.snapshots }, Done)

-- ---- GROUP

-- the oldest of the group's snapshots, the oldest first
abbrev pub group_texts : GroupKey → List Snapshot → List (List ℕ)
group_texts g snapshots = map key_text (take group_limit (keys_in g snapshots))

unfoldable pub group : Store → ℕ → List ℕ → Outcome
group s lane text = do
  g ← group_in s lane text
  Ok (s, Keys (group_texts g s.snapshots))

-- ---- the GROUP of a PRUNE

-- each option's count is within the limit
abbrev pub counts_fit : Keep → Bool
counts_fit keep = list_all (λ c. nat_le c.count 1000) (choices keep)

unfoldable pub prune_group : Store → ℕ → List ℕ → Keep → Outcome
prune_group s lane text keep = do
  g ← idle_group s lane text
  _ ← unless (TooMany 1000) (counts_fit keep)
  Ok (s, Keys (group_texts g s.snapshots))

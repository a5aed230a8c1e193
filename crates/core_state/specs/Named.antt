-- Snapshots whose keys have a text in the grammar, and writers between two acts.
use Rattle.std.specs.Prelude.{ℕ, Bool, true, not, ◌&&◌, nat_le, is_some, List, length, Option, None, Some}
use Rattle.store_types.specs.declared.names.SnapshotKey.{SnapshotKey}
use Rattle.store_types.specs.FileNames.{is_id}
use Rattle.store_types.specs.Times.{last_moment}
use Rattle.core_state.specs.declared.kept.Listed.{Listed}
use Rattle.core_state.specs.declared.kept.Session.{Session}
use Rattle.core_state.specs.declared.kept.Session.TheVariants.{Idle, Writer, Reader}

abbrev pub has_text : SnapshotKey → Bool
has_text k = is_id k.id && nat_le k.time last_moment

-- a full name that leaves room for a temporary one's ending, if any
abbrev pub is_short_name : Option (List ℕ) → Bool
is_short_name None = true
is_short_name (Some name) = nat_le (length name) 251

abbrev pub is_named_snapshot : Listed → Bool
is_named_snapshot x = has_text (x.kept).key && is_short_name (x.kept).unreadable

-- a writer's snapshot, and no file of it is pending
abbrev pub is_named : Session → Bool
is_named Idle = true
is_named (Writer w) = has_text ((w.session).writer).key && not (is_some (w.session).pending)
is_named (Reader r) = true

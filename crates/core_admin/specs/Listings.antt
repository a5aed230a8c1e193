-- LIST, GROUP and the first step of a PRUNE, by what they find.
use Rattle.std.specs.Prelude.{◌≡◌, ◌<◌, ◌≤◌, ℕ, List, map, filter, length, take, Option, is_some, Result, Ok, IsTrue}
use Rattle.store_types.specs.declared.names.Keep.{Keep}
use Rattle.store_types.specs.declared.names.SnapshotKey.{SnapshotKey}
use Rattle.store_types.specs.declared.names.GroupKey.{GroupKey}
use Rattle.store_types.specs.declared.refusal.Refusal.{Refusal}
use Rattle.store_types.specs.declared.refusal.Refusal.TheVariants.{TooMany}
use Rattle.store_types.specs.Chain.Refusing.{◌>>=◌, unless}
use Rattle.store_types.specs.Names.{key_text}
use Rattle.wire_commands.specs.declared.rows.ListRow.{ListRow}
use Rattle.wire_commands.specs.declared.reply.Reply.{Reply}
use Rattle.wire_commands.specs.declared.reply.Reply.TheVariants.{Listing, Keys}
use Rattle.wire_commands.specs.ReplyText.{files_fit}
use Rattle.store_model.specs.AdminSteps.{list_limit, counts_fit}
use Rattle.store_model.specs.Stands.{group_limit}
use Rattle.core_state.specs.Found.{is_behind, is_in}
use Rattle.core_state.specs.declared.kept.Kept.{Kept}
use Rattle.core_state.specs.declared.kept.Listed.{Listed}
use Rattle.core_state.specs.Heads.{after_in, group_in, idle_group}
use Rattle.core_state.specs.Kept.{KeptAt}
use Rattle.core_state.specs.ListedRows.{files_counted}

-- ---- LIST

abbrev pub row_of : Kept → ListRow
row_of k = record { snapshot = key_text k.key; damaged = is_some k.unreadable; files = files_counted k }

-- of the first snapshots
abbrev pub rows_of : List Listed → List ListRow
rows_of listed = map (λ x. row_of x.kept) (take list_limit listed)

-- of the first behind a key
abbrev pub rows_behind : Option SnapshotKey → List Listed → List ListRow
rows_behind after catalogue = rows_of (filter (λ x. is_behind after x.kept) catalogue)

-- a snapshot's text
abbrev pub IsShort : List ℕ → Type 0
IsShort snapshot = length snapshot ≤ 90

-- a row that has a spelling
abbrev pub IsListable : ListRow → Type 0
IsListable r = IsShort r.snapshot × (r.files < 256) × IsTrue (files_fit r.damaged r.files)

abbrev pub list_told : List ℕ → KeptAt → Result Reply Refusal
list_told text k = after_in text k >>= λ after. Ok (Listing (rows_behind after k.catalogue))

-- ---- GROUP

-- of the first snapshots
abbrev pub texts_of : List Listed → List (List ℕ)
texts_of listed = map (λ x. key_text (x.kept).key) (take group_limit listed)

-- of the group's oldest, the oldest first
abbrev pub texts_in : GroupKey → List Listed → List (List ℕ)
texts_in group catalogue = texts_of (filter (λ x. is_in group x.kept) catalogue)

abbrev pub group_told : List ℕ → KeptAt → Result Reply Refusal
group_told text k = group_in text k >>= λ group. Ok (Keys (texts_in group k.catalogue))

-- ---- the first step of a PRUNE

-- the group, or the refusal
unfoldable pub to_prune : List ℕ → Keep → KeptAt → Result GroupKey Refusal
to_prune text keep k = do
  group ← idle_group text k
  _ ← unless (TooMany 1000) (counts_fit keep)
  Ok group

abbrev pub prune_told : List ℕ → Keep → KeptAt → Result Reply Refusal
prune_told text keep k = to_prune text keep k >>= λ group. Ok (Keys (texts_in group k.catalogue))

-- How commands begin, by what they find: what is tested first, in order. Each head is given all that its act finds, also where today's tests
-- look at the text alone.
use Rattle.std.specs.Prelude.{◌==◌, ℕ, List, length, Option, Some, None, if◌then◌else◌, Result, Ok}
use Rattle.store_types.specs.declared.names.GroupKey.{GroupKey}
use Rattle.store_types.specs.declared.names.SnapshotKey.{SnapshotKey}
use Rattle.store_types.specs.declared.refusal.Refusal.{Refusal}
use Rattle.store_types.specs.declared.refusal.Refusal.TheVariants.{BadName, NoSnapshot}
use Rattle.store_types.specs.Chain.Refusing.{◌>>=◌, or_else}
use Rattle.store_types.specs.Names.{group_of, key_of}
use Rattle.core_state.specs.declared.kept.Kept.{Kept}
use Rattle.core_state.specs.Found.{kept_named}
use Rattle.core_state.specs.Kept.{KeptAt}
use Rattle.core_state.specs.Wanted.{want_idle}

-- ---- a text that names something

-- a snapshot
unfoldable pub key_in : List ℕ → KeptAt → Result SnapshotKey Refusal
key_in text k = or_else BadName (key_of text)

-- and that is finished
unfoldable pub named_kept : List ℕ → KeptAt → Result Kept Refusal
named_kept text k = do
  key ← key_in text k
  or_else NoSnapshot (kept_named key k.catalogue)

-- a group
unfoldable pub group_in : List ℕ → KeptAt → Result GroupKey Refusal
group_in text k = or_else BadName (group_of text)

-- a snapshot, or none where it is empty
unfoldable pub after_in : List ℕ → KeptAt → Result (Option SnapshotKey) Refusal
after_in text k = if length text == 0 then Ok None else (key_in text k >>= λ key. Ok (Some key))

-- ---- on a lane without a session

unfoldable pub idle_in : KeptAt → Result (Unit {0}) Refusal
idle_in k = want_idle k.session

-- and a text that names a snapshot
unfoldable pub idle_key : List ℕ → KeptAt → Result SnapshotKey Refusal
idle_key text k = do
  _ ← idle_in k
  key_in text k

-- and one that names a group
unfoldable pub idle_group : List ℕ → KeptAt → Result GroupKey Refusal
idle_group text k = do
  _ ← idle_in k
  group_in text k

-- How commands begin: what is tested first, in order. Each head is given the store, the lane and the command's text, also where today's
-- tests look at the text alone.
use Rattle.std.specs.Prelude.{ℕ, List, length, ◌==◌, if◌then◌else◌, Option, Some, None, Result, Ok}
use Rattle.store_types.specs.declared.names.SnapshotKey.{SnapshotKey}
use Rattle.store_types.specs.declared.names.GroupKey.{GroupKey}
use Rattle.store_types.specs.declared.refusal.Refusal.{Refusal}
use Rattle.store_types.specs.declared.refusal.Refusal.TheVariants.{BadName}
use Rattle.store_types.specs.Chain.Refusing.{◌>>=◌, or_else}
use Rattle.store_types.specs.Names.{key_of, group_of}
use Rattle.store_model.specs.Store.{Store, session, want_idle}

-- ---- a text that names something

-- a snapshot
unfoldable pub key_in : Store → ℕ → List ℕ → Result SnapshotKey Refusal
key_in s lane text = or_else BadName (key_of text)

-- a group
unfoldable pub group_in : Store → ℕ → List ℕ → Result GroupKey Refusal
group_in s lane text = or_else BadName (group_of text)

-- a snapshot, or none where it is empty
abbrev pub want_after : List ℕ → Result (Option SnapshotKey) Refusal
want_after text =
    if length text == 0 then Ok None else
    (or_else BadName (key_of text) >>= (λ key. Ok (Some key)))

unfoldable pub after_in : Store → ℕ → List ℕ → Result (Option SnapshotKey) Refusal
after_in s lane text = want_after text

-- ---- on a lane without a session

unfoldable pub idle_in : Store → ℕ → Result (Unit {0}) Refusal
idle_in s lane = want_idle (session s lane)

-- a text that names a snapshot
unfoldable pub idle_key : Store → ℕ → List ℕ → Result SnapshotKey Refusal
idle_key s lane text = do
  _ ← idle_in s lane
  key_in s lane text

-- a text that names a group
unfoldable pub idle_group : Store → ℕ → List ℕ → Result GroupKey Refusal
idle_group s lane text = do
  _ ← idle_in s lane
  group_in s lane text

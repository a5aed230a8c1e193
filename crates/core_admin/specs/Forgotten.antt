-- FORGET, by what it finds.
use Rattle.std.specs.Prelude.{ℕ, List, Result, Ok}
use Rattle.store_types.specs.declared.names.SnapshotKey.{SnapshotKey}
use Rattle.store_types.specs.declared.refusal.Refusal.{Refusal}
use Rattle.store_types.specs.declared.refusal.Refusal.TheVariants.{NoSnapshot, SnapshotBusy}
use Rattle.store_types.specs.Chain.Refusing.{◌>>=◌, or_else, if_none}
use Rattle.lock_book.specs.Locks.{least_sharer}
use Rattle.wire_commands.specs.declared.reply.Reply.{Reply}
use Rattle.wire_commands.specs.declared.reply.Reply.TheVariants.{Done}
use Rattle.core_state.specs.Found.{kept_named}
use Rattle.core_state.specs.Heads.{idle_key}
use Rattle.core_state.specs.Kept.{KeptAt}

-- the snapshot that may be taken out, or the refusal
unfoldable pub to_forget : List ℕ → KeptAt → Result SnapshotKey Refusal
to_forget text k = do
  key ← idle_key text k
  _ ← or_else NoSnapshot (kept_named key k.catalogue)
  _ ← if_none SnapshotBusy (least_sharer k.locks key)
  Ok key

abbrev pub forget_told : List ℕ → KeptAt → Result Reply Refusal
forget_told text k = to_forget text k >>= λ key. Ok Done

-- What an act leaves: the shape of the store and the reply, whatever it is, and the shape after its entry, whatever its kind.
use Rattle.std.proofs.Common.{◌≡◌, ℕ, List, Option, Ok, refl, subst}
use Rattle.store_files.specs.Archive.{Snapshot}
use Rattle.wire_commands.specs.declared.reply.Reply.{Reply}
use Rattle.store_model.specs.Store.{none, Store, ended}
use Rattle.store_model.specs.Steps.{answered}
use Rattle.store_model.specs.Done.{Effect, nothing, sends, effect_of, ends, Shape, same, turned, IsAnswer, Leaves}
use Rattle.store_model.proofs.Done.{ok_same, err_ok, command_left, blob_left, chunk_left, part_left, entry_left, answered_shape}
use Rattle.store_history.specs.declared.act.Act.{Act}
use Rattle.store_history.specs.declared.act.Act.TheVariants as acts
use Rattle.store_history.specs.History.{World, EntryKind, step_kind, pass_kind, short_kind, start_kind, close_kind, fault_kind, end_kind, remote_kind, no_kind, act_outcome, data_in, moved}

abbrev pub act_effect : Act → Effect
act_effect (acts.Plain c) = effect_of c
act_effect (acts.JobGroup c) = effect_of c
act_effect (acts.Chunk digest checked) = sends
act_effect a = nothing

-- the lane's session ends
pub ends_lane : (s : Store) (k m : ℕ) (e : Effect) → Shape s k m e (ended s k)
ends_lane s k m e = turned none (ends refl) refl

module _ (R : Option (List Snapshot)) (w : World) (k m : ℕ) where
  -- an act that was done
  pub act_left : (a : Act) (after : Store × Reply) → act_outcome R w k m a ≡ Ok after → Leaves w.store k m (act_effect a) after
  unfolding act_outcome
  act_left (acts.Plain c) after is = command_left w.store k m after c is
  act_left (acts.JobGroup c) after is = command_left w.store k m after c is
  act_left (acts.Blob name checked) after is = blob_left w.store k m after name (data_in checked) is
  act_left (acts.Chunk digest checked) after is = chunk_left w.store k m after (data_in checked) is
  act_left (acts.ReadFile name offset) after is = part_left w.store k m after name offset is
  act_left (acts.ReadChunk name entry) after is = entry_left w.store k m after name entry is
  act_left acts.End after is = record {
    store = subst (λ (x : Store × Reply). Shape w.store k m nothing x.0) (ok_same _ after is) (ends_lane w.store k m nothing);
    reply = subst (λ (x : Store × Reply). IsAnswer x.1) (ok_same _ after is) tt;
  }
  act_left a after is = absurd (err_ok _ after is)

  pub answered_act : (a : Act) → Shape w.store k m (act_effect a) (answered w.store (act_outcome R w k m a)).0
  answered_act a = answered_shape w.store k m (act_effect a) (act_outcome R w k m a) (act_left a)

  pub moved_shape : (a : Act) (n : EntryKind) → Shape w.store k m (act_effect a) (moved R w k m a n).store
  unfolding moved
  moved_shape a step_kind = answered_act a
  moved_shape a pass_kind = same refl
  moved_shape a short_kind = same refl
  moved_shape a start_kind = same refl
  moved_shape a close_kind = same refl
  moved_shape a fault_kind = same refl
  moved_shape a end_kind = ends_lane w.store k m (act_effect a)
  moved_shape a remote_kind = same refl
  moved_shape a no_kind = same refl

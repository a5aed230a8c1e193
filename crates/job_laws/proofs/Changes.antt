-- What an act does to the list of snapshots: it leaves it, puts one in, or takes those of a key out that no session holds.
use Rattle.std.proofs.Common.{◌≡◌, ◌⊎◌, inl, inr, ℕ, List, length, Option, None, refl, sym, subst}
use Rattle.std.proofs.lemmas.List.{length-set}
use Rattle.store_types.specs.declared.names.SnapshotKey.{SnapshotKey}
use Rattle.store_files.specs.Archive.{Snapshot}
use Rattle.store_model.specs.declared.step.Step.{Step}
use Rattle.store_model.specs.declared.step.Step.TheVariants as steps
use Rattle.store_model.specs.Store.{none, Store, snapshot_holder, insert_snapshot, without_snapshot}
use Rattle.store_model.specs.WriterSteps.{snapshot_of}
use Rattle.store_model.specs.ReaderSteps.{read_file, read_chunk}
use Rattle.store_model.specs.Steps.{outcome, answered}
use Rattle.store_model.specs.JobSteps.{step_outcome}
use Rattle.store_model.specs.Done.{Effect, nothing, effect_of, Shape, same, turned, more, less}
use Rattle.store_model.proofs.Done.{command_left, part_left, entry_left, answered_shape}
use Rattle.store_history.specs.declared.act.Act.{Act}
use Rattle.store_history.specs.History.{World, EntryKind, moved}
use Rattle.store_history.proofs.ActShapes.{act_effect, moved_shape}

abbrev pub Lists : Store → List Snapshot → Type 0
Lists s xs =
    (xs ≡ s.snapshots) ⊎ ((new : Snapshot) × (xs ≡ insert_snapshot new s.snapshots)) ⊎ ((key : SnapshotKey) × (snapshot_holder s key ≡ None) × (xs ≡ without_snapshot key s.snapshots))

pub record Changes (s t : Store) : Type 0 where
  pub lanes : length t.sessions ≡ length s.sessions
  pub lists : Lists s t.snapshots

changes : (s : Store) (k m : ℕ) (e : Effect) (t : Store) → Shape s k m e t → Changes s t
changes s k m e t (same is) = subst (Changes s) (sym is) (record { lanes = refl; lists = inl refl })
changes s k m e t (turned x next is) = subst (Changes s) (sym is) (record { lanes = length-set s.sessions k x; lists = inl refl })
changes s k m e t (more v finishes runs is) = subst (Changes s) (sym is) (record { lanes = length-set s.sessions k none; lists = inr (inl (snapshot_of v, refl)) })
changes s k m e t (less text key forgets named free is) = subst (Changes s) (sym is) (record { lanes = refl; lists = inr (inr (key, free, refl)) })

-- what a step of a job leaves
pub step_changes : (s : Store) (k m : ℕ) (a : Step) → Changes s (answered s (step_outcome s k m a)).0
step_changes s k m (steps.Command c) =
    changes s k m (effect_of c) _ (answered_shape s k m (effect_of c) (outcome s k m c) (λ after is. command_left s k m after c is))
step_changes s k m (steps.ReadFile name offset) = changes s k m nothing _ (answered_shape s k m nothing (read_file s k name offset) (λ after is. part_left s k m after name offset is))
step_changes s k m (steps.ReadChunk name entry) = changes s k m nothing _ (answered_shape s k m nothing (read_chunk s k name entry) (λ after is. entry_left s k m after name entry is))

-- so an event does
pub moved_changes : (R : Option (List Snapshot)) (w : World) (k m : ℕ) (a : Act) (n : EntryKind) → Changes w.store (moved R w k m a n).store
moved_changes R w k m a n = changes w.store k m (act_effect a) (moved R w k m a n).store (moved_shape R w k m a n)

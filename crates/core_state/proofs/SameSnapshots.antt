-- Every act but a FINISH and a FORGET leaves the plain store's finished snapshots as they are.
use Rattle.std.proofs.Common.{◌≡◌, ℕ, Bool, true, false, List, Option, ap, true≢false, if◌then◌else◌, ◌==◌}
use Rattle.store_files.specs.Archive.{Snapshot}
use Rattle.wire_commands.specs.declared.command.Command.TheVariants as commands
use Rattle.store_model.specs.Store.{Store}
use Rattle.store_model.specs.Steps.{answered}
use Rattle.store_model.specs.Done.{Effect, finishes, forgets, Shape, same, turned, more, less}
use Rattle.store_history.specs.declared.act.Act.{Act}
use Rattle.store_history.specs.declared.act.Act.TheVariants as acts
use Rattle.store_history.specs.Acts.{IsWellFormed}
use Rattle.store_history.specs.History.{World, EntryKind, kind_of, act_outcome, moved}
use Rattle.store_history.proofs.ActShapes.{act_effect, answered_act, moved_shape}

-- a FINISH or a FORGET
abbrev pub moves_manifest : Act → Bool
moves_manifest (acts.Plain commands.Finish) = true
moves_manifest (acts.Plain (commands.Forget snapshot)) = true
moves_manifest act = false

-- no other act may put a snapshot in or take one out
record IsUnmoving (e : Effect) : Type 0 where
  finishing : e ≡ finishes → ⊥
  forgetting : (text : List ℕ) → e ≡ forgets text → ⊥

unmoving : (a : Act) → IsWellFormed a → moves_manifest a ≡ false → IsUnmoving (act_effect a)
unmoving (acts.Plain commands.Finish) formed off = absurd (true≢false off)
unmoving (acts.Plain (commands.Forget text)) formed off = absurd (true≢false off)
unmoving (acts.JobGroup (commands.Prune name keep dry)) formed off = record { finishing = λ e. cc; forgetting = λ text e. cc }
unmoving (acts.JobGroup c) formed off = absurd formed
unmoving a formed off = record { finishing = λ e. cc; forgetting = λ text e. cc }

keeps : (s : Store) (k m : ℕ) (e : Effect) (t : Store) → IsUnmoving e → Shape s k m e t → t.snapshots ≡ s.snapshots
keeps s k m e t none (same is) = ap (λ (x : Store). x.snapshots) is
keeps s k m e t none (turned x next is) = ap (λ (x : Store). x.snapshots) is
keeps s k m e t none (more v ends runs is) = absurd (none.finishing ends)
keeps s k m e t none (less text key takes named free is) = absurd (none.forgetting text takes)

-- ---- and an entry of any kind

-- the store after an entry of this kind, or, where it is a fault's, what the act gives without it
abbrev pub next_store : Option (List Snapshot) → World → ℕ → ℕ → Act → ℕ → Store
next_store R w k m a n = if n == 5 then (answered w.store (act_outcome R w k m a)).0 else (moved R w k m a (kind_of n)).store

pub moved_keeps : (R : Option (List Snapshot)) (w : World) (k m : ℕ) (a : Act) (n : EntryKind) → IsWellFormed a → moves_manifest a ≡ false → ((moved R w k m a n).store).snapshots ≡ (w.store).snapshots
moved_keeps R w k m a n formed off = keeps w.store k m (act_effect a) _ (unmoving a formed off) (moved_shape R w k m a n)

pub next_keeps : (R : Option (List Snapshot)) (w : World) (k m : ℕ) (a : Act) (n : ℕ) → IsWellFormed a → moves_manifest a ≡ false → (next_store R w k m a n).snapshots ≡ (w.store).snapshots
next_keeps R w k m a n formed off = by_test (n == 5)
  where
    by_test : (b : Bool) → (if b then (answered w.store (act_outcome R w k m a)).0 else (moved R w k m a (kind_of n)).store).snapshots ≡ (w.store).snapshots
    by_test true = keeps w.store k m (act_effect a) _ (unmoving a formed off) (answered_act R w k m a)
    by_test false = moved_keeps R w k m a (kind_of n) formed off

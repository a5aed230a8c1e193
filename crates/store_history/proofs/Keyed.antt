-- The snapshots and the writers of a store have keys of the grammar, whatever is done.
use Rattle.std.proofs.Common.{◌≡◌, ℕ, zero, suc, Bool, true, false, List, [], ◌∷◌, Option, sym, subst, slice_index_or, if◌then◌else◌, not}
use Rattle.std.specs.List.{All}
use Rattle.std.proofs.lemmas.List.Elements.{All-cons, All-filter, All-head, All-replicate, All-set, All-tail}
use Rattle.store_types.specs.Names.{IsKey, key_lt, same_key}
use Rattle.store_types.proofs.KeyLaws.{key_one}
use Rattle.store_files.specs.Archive.{Snapshot}
use Rattle.store_model.specs.Store.{none, writer, Session, Writer, Store, session, store_of, insert_snapshot}
use Rattle.store_model.specs.WriterSteps.{snapshot_of}
use Rattle.store_model.specs.Done.{Effect, IsNext, ends, opens, writes, enters, reads, Shape, same, turned, more, less}
use Rattle.store_model.proofs.Done.{grown_key}
use Rattle.store_model.proofs.HeadLemmas.{idle_key_found}
use Rattle.store_history.specs.declared.act.Act.{Act}
use Rattle.store_history.specs.History.{World, EntryKind, moved}
use Rattle.store_history.proofs.ActShapes.{act_effect, moved_shape}

-- ---- what is kept

abbrev WriterKey : Session → Type 0
WriterKey (writer w) = IsKey w.key
WriterKey _ = Unit {0}

pub record HasKeys (s : Store) : Type 0 where
  pub snapshots : All (λ x. IsKey x.key) s.snapshots
  pub writers : All WriterKey s.sessions

-- ---- a session

key_at : (xs : List Session) (k : ℕ) → All WriterKey xs → WriterKey (slice_index_or xs k none)
key_at [] k h = tt
key_at (x ∷ xs) zero h = All-head WriterKey x xs h
key_at (x ∷ xs) (suc k) h = key_at xs k (All-tail WriterKey x xs h)

-- a writer's own key
own_key : (s : Store) (k : ℕ) (v : Writer) → HasKeys s → session s k ≡ writer v → IsKey v.key
own_key s k v h runs = subst WriterKey runs (key_at s.sessions k h.writers)

next_key : (s : Store) (k m : ℕ) (e : Effect) (x : Session) → HasKeys s → IsNext s k m e x → WriterKey x
next_key s k m e x h (ends is) = subst WriterKey (sym is) tt
next_key s k m e x h (opens text key named alone newer is) = subst WriterKey (sym is) (key_one text key (idle_key_found s k text key named).1).0
next_key s k m e x h (writes v w runs grows is) = subst WriterKey (sym is) (subst IsKey (sym (grown_key s v e w grows)) (own_key s k v h runs))
next_key s k m e x h (enters y r there is) = subst WriterKey (sym is) tt
next_key s k m e x h (reads q r reading kept is) = subst WriterKey (sym is) tt

-- ---- snapshots

inserted : (new : Snapshot) (xs : List Snapshot) → IsKey new.key → All (λ x. IsKey x.key) xs → All (λ x. IsKey x.key) (insert_snapshot new xs)
inserted new [] fine h = All-cons (λ x. IsKey x.key) new [] fine h
inserted new (x ∷ xs) fine h = by_test (key_lt new.key x.key) (inserted new xs fine (All-tail (λ y. IsKey y.key) x xs h))
  where
    by_test : (b : Bool) → All (λ y. IsKey y.key) (insert_snapshot new xs) → All (λ y. IsKey y.key) (if b then new ∷ x ∷ xs else x ∷ insert_snapshot new xs)
    by_test true rest = All-cons (λ y. IsKey y.key) new (x ∷ xs) fine h
    by_test false rest = All-cons (λ y. IsKey y.key) x (insert_snapshot new xs) (All-head (λ y. IsKey y.key) x xs h) rest

-- ---- what an act leaves

keyed : (s : Store) (k m : ℕ) (e : Effect) (t : Store) → HasKeys s → Shape s k m e t → HasKeys t
keyed s k m e t h (same is) = subst HasKeys (sym is) h
keyed s k m e t h (turned x next is) =
    subst HasKeys (sym is) (record { snapshots = h.snapshots; writers = All-set WriterKey s.sessions k x (next_key s k m e x h next) h.writers })
keyed s k m e t h (more v finishes runs is) = subst HasKeys (sym is) (record {
  snapshots = inserted (snapshot_of v) s.snapshots (own_key s k v h runs) h.snapshots;
  writers = All-set WriterKey s.sessions k none tt h.writers;
})
keyed s k m e t h (less text key forgets named free is) =
    subst HasKeys (sym is) (record { snapshots = All-filter (λ y. not (same_key y.key key)) (λ y. IsKey y.key) s.snapshots h.snapshots; writers = h.writers })

-- so an event does
pub moved_keyed : (R : Option (List Snapshot)) (w : World) (k m : ℕ) (a : Act) (n : EntryKind) → HasKeys w.store → HasKeys (moved R w k m a n).store
moved_keyed R w k m a n h = keyed w.store k m (act_effect a) (moved R w k m a n).store h (moved_shape R w k m a n)

-- and a store that is opened has them
pub keys_opened : (xs : List Snapshot) → All (λ x. IsKey x.key) xs → HasKeys (store_of xs)
keys_opened xs h = record { snapshots = h; writers = All-replicate WriterKey 64 none tt }

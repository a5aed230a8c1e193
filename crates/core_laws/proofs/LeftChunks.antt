-- The chunk files that a whole sweep leaves.
use Rattle.std.proofs.Common.{◌≡◌, ◌↔◌, ℕ, List, [], ◌∷◌, ◌++◌, Option, Some, None, refl, sym, ap, subst, ◌∙◌}
use Rattle.std.specs.Option.{IsSome}
use Rattle.std.specs.FinMap.{get}
use Rattle.disk_trait.specs.declared.disk.Disk.{Ghosts}
use Rattle.port_traits.specs.Readings.{Readings}
use Rattle.store_files.specs.Archive.{Snapshot}
use Rattle.store_files.specs.Folder.{chunk_name}
use Rattle.store_history.specs.declared.act.Event.{Event}
use Rattle.store_history.specs.History.{World, after, after_all}
use Rattle.store_history.specs.Sweeping.{Swept, swept_after, swept_all}
use Rattle.store_upkeep.specs.Laws.{LeavesRight}
use Rattle.store_upkeep.proofs.Whole.{sweeps_leave}
use Rattle.core_state.specs.declared.state.Core.{Core}
use Rattle.core_state.specs.History.{world}
use Rattle.core_state.specs.KeepsTouches.{swept_of, touches_of_history}
use Rattle.core_laws.specs.Laws.{IsRecent, SweepsLeaveChunkFiles}
use Rattle.core_laws.specs.Playing.{with_more}

swept_joined : (R : Option (List Snapshot)) (w : World) (s : Swept) (es fs : List Event) → swept_all R w s (es ++ fs) ≡ swept_all R (after_all R w es) (swept_all R w s es) fs
unfolding swept_all after_all
swept_joined R w s [] fs = refl
swept_joined R w s (e ∷ es) fs = swept_joined R (after R w e) (swept_after R w s e) es fs

some_is : (o : Option ℕ) → IsSome o → (when : ℕ) × (o ≡ Some when)
some_is None some = absurd cc
some_is (Some when) some = (when, refl)

is_some : (o : Option ℕ) (when : ℕ) → o ≡ Some when → IsSome o
is_some o when is = subst (λ (x : Option ℕ). IsSome x) (sym is) refl

pub left_chunks : {D E C : Type 0} (d : Ghosts D) (readings : C → Option Readings) (core : Core D E C) → SweepsLeaveChunkFiles d readings core
left_chunks d readings core h start since sweep s m none stocked whole x digest = (recent, present)
  where
    leaves : LeavesRight h.remote (world h) (swept_of h) start since sweep
    leaves = sweeps_leave h.remote h.opening h.events start since sweep s.legal stocked whole

    there : IsSome (get (d.content (core.parts).disk) (chunk_name x)) ↔ IsSome ((touches_of_history (with_more h (start ∷ since))).last x)
    there = m.present none x digest

    same : touches_of_history (with_more h (start ∷ since)) ≡ (swept_all h.remote (world h) (swept_of h) (start ∷ since)).touches
    same = ap (λ (v : Swept). v.touches) (swept_joined h.remote _ _ h.events (start ∷ since))

    recent : IsSome (get (d.content (core.parts).disk) (chunk_name x)) → IsRecent h start since sweep x
    recent some =
        let last = some_is _ (there.0 some) in
        let both = (leaves.chunks x last.0).0 (ap (λ t. t.last x) (sym same) ∙ last.1) in
        (last.0, both.0, both.1)

    present : IsRecent h start since sweep x → IsSome (get (d.content (core.parts).disk) (chunk_name x))
    present is = there.1 (is_some _ is.0 (ap (λ t. t.last x) same ∙ (leaves.chunks x is.0).1 (is.1, is.2)))

-- What an order makes, with the places of its replies that are free.
use Rattle.std.specs.Prelude.{◌≡◌, ℕ, List, Option, option_map, Result, Ok, Err, MatchResult, IfOk}
use Rattle.store_types.specs.declared.order.Entry.{Entry}
use Rattle.store_model.specs.declared.ending.Ending.{Ending}
use Rattle.store_model.specs.Store.{Store}
use Rattle.store_model.specs.Weave.{Misfit, known, weave}
use Rattle.plain_store.specs.declared.weave.Replayed.{Replayed}
use Rattle.plain_store.specs.Frees.{frees}

-- where memory is not wanting, what these inputs and endings make in this order, or the first entry that does not fit
abbrev pub Replays : {R E : Type 0} → Store → Option R → (R → Store) → List Entry → List (List ℕ) → List Ending → Result (Result Replayed Misfit) E → Type 0
Replays s remote shown order inputs endings result =
    let beside = option_map (λ p. (shown p).snapshots) remote in
    IfOk result (λ replayed. MatchResult replayed
    (λ r. (Ok r.woven ≡ weave s.snapshots beside order inputs endings)
    × (r.frees.items ≡ frees (known endings) s.snapshots beside order inputs))
    (λ misfit. Err misfit ≡ weave s.snapshots beside order inputs endings))

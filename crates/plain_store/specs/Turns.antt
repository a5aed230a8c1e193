-- What one entry of an order leaves of the rest.
use Rattle.std.specs.Prelude.{◌≡◌, ℕ, ◌+◌, List, ◌++◌, drop, Option, Some, None, Err}
use Rattle.store_types.specs.declared.order.Entry.{Entry}
use Rattle.store_model.specs.Lanes.{Run}
use Rattle.store_model.specs.Weave.{Endings, Misfit, run_from}
use Rattle.plain_store.specs.declared.frees.Free.{Free}
use Rattle.plain_store.specs.Frees.{frees_from}

-- the entry at the place was taken, and what its reply leaves free is noted behind these; or it does not fit
abbrev pub Turns : Endings → List Entry → ℕ → Run → Run → List Free → List Free → Option Misfit → Type 0
Turns E order place old new before noted None =
    (run_from E old place (drop place order) ≡ run_from E new (place + 1) (drop (place + 1) order))
    × (noted ++ frees_from E new (place + 1) (drop (place + 1) order) ≡ before ++ frees_from E old place (drop place order))
Turns E order place old new before noted (Some misfit) = run_from E old place (drop place order) ≡ Err misfit

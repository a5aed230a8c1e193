-- Where the replies of an order have the five numbers of a collection's report, which the plain store leaves free.
use Rattle.std.specs.Prelude.{ℕ, ◌+◌, Bool, true, false, List, [], ◌∷◌, length, ◌==◌, if◌then◌else◌, Option, None, Some}
use Rattle.std.specs.List.{cons_option}
use Rattle.store_types.specs.declared.order.Entry.{Entry}
use Rattle.store_types.specs.declared.order.TheConstants.{STOP_KIND}
use Rattle.store_files.specs.Archive.{Snapshot}
use Rattle.store_model.specs.Lanes.{Run, lane_at, new_run}
use Rattle.store_model.specs.Weave.{Endings, entered}
use Rattle.plain_store.specs.Runs.{own_collector}
use Rattle.plain_store.specs.declared.frees.Free.{Free}

-- in what a lane is told next, where its collector closes: behind the length and the code
abbrev pub free_behind : Option Bool → ℕ → ℕ → Option Free
free_behind None lane told = None
free_behind (Some true) lane told = None
free_behind (Some false) lane told = Some (record { lane = lane; place = told + 5 })

-- in the reply to an entry
abbrev pub freed : Run → Entry → Option Free
freed r e = if e.kind == STOP_KIND then free_behind (own_collector r e.lane) e.lane (length (lane_at r e.lane).told) else None

-- in the replies to the entries from a place on, up to the first that does not fit
unfoldable pub frees_from : Endings → Run → ℕ → List Entry → List Free
frees_from ending_of r place [] = []
frees_from ending_of r place (e ∷ later) =
    elim (entered ending_of r place e later) [
      | None ↦ []
      | Some after ↦ cons_option (freed r e) (frees_from ending_of after (place + 1) later)
    ]

-- in all replies of an order
abbrev pub frees : Endings → List Snapshot → Option (List Snapshot) → List Entry → List (List ℕ) → List Free
frees ending_of snapshots remote order inputs = frees_from ending_of (new_run snapshots remote inputs) 0 order

-- What a run and its replay have to do with each other.
use Rattle.std.specs.Prelude.{◌≡◌, ℕ, false, List, length, replicate, Option, Ok}
use Rattle.store_types.specs.declared.order.Entry.{Entry}
use Rattle.store_files.specs.Archive.{Snapshot}
use Rattle.store_model.specs.declared.ending.Ending.TheVariants.{Clean}
use Rattle.store_model.specs.Weave.{Woven, weave, woven, told_by_input}
use Rattle.replay.specs.Orders.{has_faults}

-- Where the disk did not fail and every lane ended cleanly, the replay makes what the run made.
abbrev pub CleanRunsAreReplayed : Type 0
CleanRunsAreReplayed =
    (snapshots : List Snapshot) (remote : Option (List Snapshot)) (order : List Entry) (inputs : List (List ℕ)) (run : Woven) →
    has_faults order ≡ false →
    weave snapshots remote order inputs (replicate (length inputs) Clean) ≡ Ok run → woven told_by_input snapshots remote order inputs ≡ Ok run

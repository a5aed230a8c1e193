-- Sessions that were served, and their replay.
use Rattle.std.specs.Prelude.{◌≡◌, ℕ, false, List, length, map, replicate, Option, None}
use Rattle.store_files.specs.Archive.{Snapshot}
use Rattle.wire_commands.specs.declared.reply.Reply.{Reply}
use Rattle.store_model.specs.declared.ending.Ending.TheVariants.{Clean}
use Rattle.store_model.specs.Weave.{told_by_input, woven}
use Rattle.store_history.specs.declared.act.Event.{Event}
use Rattle.store_history.specs.History.{Opening, entries}
use Rattle.store_history.specs.LaneRun.{text}
use Rattle.store_history.specs.Woven.{IsServed}
use Rattle.plain_store.specs.Frees.{frees}
use Rattle.replay.specs.Compare.{compare}
use Rattle.replay.specs.Orders.{has_faults}

-- Where every lane ended cleanly, and the disk did not fail, what the lanes told differs nowhere from the replay, but for bytes that are free.
abbrev pub CleanRunsReplayEqual : Type 0
CleanRunsReplayEqual =
    (o : Opening) (remote : Option (List Snapshot)) (h : List Event) (inputs : List (List ℕ)) (told : List (List Reply)) →
    has_faults (entries h) ≡ false → IsServed o remote h inputs (replicate (length inputs) Clean) told →
    compare (woven told_by_input o.snapshots remote (entries h) inputs) (frees told_by_input o.snapshots remote (entries h) inputs) (map text told) ≡ None

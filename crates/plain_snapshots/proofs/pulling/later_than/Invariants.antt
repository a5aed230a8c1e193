use Rattle.std.proofs.Common.{◌≡◌, take, filter}
use Rattle.std.specs.Prelude.{option_map}
use Rattle.store_model.specs.SyncJob.{is_later}
use Rattle.plain_snapshots.proofs.pulling.later_than.Given as goal

abbrev pub invariant-loop-snapshot : goal.invariant-loop-snapshot
invariant-loop-snapshot l = l.later.items ≡ filter (is_later (option_map (λ key. key.now) l.newest)) (take l.snapshot-index l.members)

use Rattle.std.proofs.Common.{◌≡◌, take}
use Rattle.shared_store.specs.Views.{rows_of}
use Rattle.shared_store.proofs.board.rows_of.Given as goal

abbrev pub invariant-loop-snapshot : goal.invariant-loop-snapshot
invariant-loop-snapshot l = l.rows.items ≡ rows_of (take l.snapshot-index l.listed)

use Rattle.std.proofs.Common.{◌≡◌, map, drop, vec_len}
use Rattle.store_model.specs.ArchiveSteps.{named}
use Rattle.plain_snapshots.specs.Shown.{shown_layout}
use Rattle.plain_sessions.specs.Archiving.{pieces_from}
use Rattle.plain_sessions.proofs.Naming.{behind}
use Rattle.plain_sessions.proofs.entries.pieces_named.Given as goal

abbrev pub invariant-loop-entry : goal.invariant-loop-entry
invariant-loop-entry l = record {
  so_far : pieces_from l.pool (shown_layout l.layout) 0 l.fn.start (map named l.entries)
      ≡ behind l.pool (shown_layout l.layout) l.pieces.items l.entry-index l.end (drop l.entry-index (map named l.entries));
  count : vec_len l.pieces ≡ l.entry-index;
}

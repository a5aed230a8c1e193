use Rattle.std.proofs.Common.{◌≡◌, ◌≤◌, ◌+◌, length, drop}
use Rattle.disk_trait.specs.Effects.{OnlyReads}
use Rattle.restore_reader.specs.Cutting.{total_of}
use Rattle.core_reader.specs.Chunks.{behind, parts_at}
use Rattle.core_reader.proofs.loading.read_parts.Given as goal

abbrev pub invariant-loop-part : goal.invariant-loop-part
invariant-loop-part g l = let d = g.D.Disk in record {
  reads : OnlyReads d l.initial.disk l.disk ⊥;
  value : d.honest l.initial.disk → behind l.initial.bytes.items (parts_at (d.content l.initial.disk) l.parts)
      ≡ behind l.bytes.items (parts_at (d.content l.initial.disk) (drop l.part-index l.parts));
  size : length l.bytes.items + total_of (drop l.part-index l.parts) ≤ length l.initial.bytes.items + total_of l.parts;
}

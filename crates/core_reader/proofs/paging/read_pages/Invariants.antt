use Rattle.std.proofs.Common.{◌≡◌, ◌≤◌, ◌+◌, ◌-◌, min, max, length}
use Rattle.disk_trait.specs.Effects.{OnlyReads}
use Rattle.index_pages.specs.Paged.{page_count}
use Rattle.paged_indexes.specs.Index.{pages_by, start_by}
use Rattle.core_reader.specs.Chunks.{behind}
use Rattle.core_reader.specs.Ranges.{ReadsLast, range_at, range_from, ranged}
use Rattle.core_reader.proofs.LastPages.{LastBefore}
use Rattle.core_reader.proofs.paging.read_pages.Given as goal

abbrev pub invariant-loop-i : goal.invariant-loop-i
invariant-loop-i g l = let d = g.D.Disk in record {
  reads : OnlyReads d l.initial.disk l.disk ⊥;
  count : l.count ≡ page_count (pages_by l.pages).count;
  value : d.honest l.initial.disk → behind l.initial.bytes.items (range_at (d.content l.initial.disk) (ranged l.path l.pages) l.from l.to)
      ≡ behind l.bytes.items (range_from (d.content l.initial.disk) (ranged l.path l.pages) l.from l.to (l.count - l.i) l.i);
  given : d.honest l.initial.disk → ReadsLast (d.content l.initial.disk) (ranged l.path l.pages) l.last;
  last : LastBefore l.pages l.to l.first l.i l.last;
  size : length l.bytes.items ≤ length l.initial.bytes.items + (min l.to (max l.from (start_by l.pages l.i)) - l.from);
}

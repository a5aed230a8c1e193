use Rattle.std.proofs.Common.{◌≡◌, ◌+◌, ◌-◌, ◌*◌, ℕ, List, Some, length, drop}
use Rattle.std.specs.FinMap.{get}
use Rattle.disk_trait.specs.Effects.{OnlyReads}
use Rattle.index_pages.specs.Opening.{HasPages}
use Rattle.index_pages.specs.Paged.{page_count}
use Rattle.store_files.specs.Cells.{cells}
use Rattle.paged_indexes.specs.Fixed.{Cuts, ends_in, fixed_ends_from}
use Rattle.paged_indexes.proofs.AnyDisk.{SomeFixed}
use Rattle.paged_indexes.proofs.Handed.{HandsRest}
use Rattle.index_pages.specs.Calls.{CallsAtMost}
use Rattle.paged_indexes.proofs.fixed.read_body.Given as goal

abbrev pub invariant-loop-i : goal.invariant-loop-i
invariant-loop-i g l = let d = g.D.Disk in record {
  reads : OnlyReads d l.initial.disk l.disk ⊥;
  calls : CallsAtMost d l.initial.disk l.disk l.i;
  sums : length l.opening.sums.items ≡ l.i;
  pages : l.pages ≡ page_count l.count;
  progress : d.honest l.initial.disk → (text : List ℕ) → get (d.content l.initial.disk) l.name ≡ Some text → length text ≡ 4096 + l.count * 32
      → HasPages 32 l.i (drop 4096 text) l.opening;
  cuts : Cuts l.cut l.start (l.count - l.i * 1024);
  some : SomeFixed g.T.TakesEntries.taken l.cut l.count l.i l.start l.opening l.initial.taker l.taker;
  those : d.honest l.initial.disk → (text : List ℕ) → get (d.content l.initial.disk) l.name ≡ Some text → length text ≡ 4096 + l.count * 32
      → HandsRest g.T.TakesEntries.taken 0 (ends_in l.cut 0 (drop 4096 text)) l.initial.taker l.start
      (fixed_ends_from (l.cut).size (l.cut).chunk_size l.start (drop (l.i * 1024) (cells 32 (drop 4096 text)))) l.taker;
}

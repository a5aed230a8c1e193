use Rattle.std.proofs.Common.{◌≡◌, ◌+◌, ◌*◌, ℕ, List, Some, length, drop}
use Rattle.std.specs.FinMap.{get}
use Rattle.disk_trait.specs.Effects.{OnlyReads}
use Rattle.index_pages.specs.Paged.{page_count}
use Rattle.paged_indexes.specs.Reading.{EndsRise}
use Rattle.paged_indexes.specs.Steps.{entries_of}
use Rattle.paged_indexes.proofs.AnyDisk.{SomeRead}
use Rattle.paged_indexes.proofs.Handed.{HandsRest}
use Rattle.paged_indexes.proofs.Stepping.{Progress}
use Rattle.index_pages.specs.Calls.{CallsAtMost}
use Rattle.paged_indexes.proofs.reading.read_body.Given as goal

abbrev pub invariant-loop-i : goal.invariant-loop-i
invariant-loop-i g l = let d = g.D.Disk in record {
  reads : OnlyReads d l.initial.disk l.disk ⊥;
  calls : CallsAtMost d l.initial.disk l.disk l.i;
  sums : length l.reading.opening.sums.items ≡ l.i;
  ends : length l.reading.ends.items ≡ l.i;
  rises : EndsRise l.reading;
  pages : l.pages ≡ page_count l.count;
  progress : d.honest l.initial.disk → (text : List ℕ) → get (d.content l.initial.disk) l.name ≡ Some text → length text ≡ 4096 + l.count * 40
      → Progress (drop 4096 text) l.i l.reading;
  some : SomeRead g.T.TakesEntries.taken l.count l.i l.reading l.initial.taker l.taker;
  those : d.honest l.initial.disk → (text : List ℕ) → get (d.content l.initial.disk) l.name ≡ Some text → length text ≡ 4096 + l.count * 40
      → HandsRest g.T.TakesEntries.taken 0 (entries_of (drop 4096 text)) l.initial.taker l.reading.end (drop (l.i * 1024) (entries_of (drop 4096 text))) l.taker;
}

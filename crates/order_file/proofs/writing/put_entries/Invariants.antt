use Rattle.std.proofs.Common.{ℕ, ◌≤◌, List, length, Option, Bool}
use Rattle.std.specs.List.{flat_map}
use Rattle.port_traits.specs.Bytes.{Writes}
use Rattle.store_files.specs.Order.{entry_text}
use Rattle.order_file.proofs.writing.put_entries.Given as goal

-- what is still to be written ends what was
abbrev pub invariant-loop-rest : goal.invariant-loop-rest
invariant-loop-rest g l = record {
  ends : (c : Option (List ℕ)) (all : Bool) → Writes (g.K.Sink.taken l.sink) c (flat_map entry_text l.rest) all →
      Writes (g.K.Sink.taken l.fn.sink) c (flat_map entry_text l.fn.entries) all;
  later : g.K.Sink.faults l.fn.sink ≤ g.K.Sink.faults l.sink;
}

abbrev pub decreases-loop-rest : goal.decreases-loop-rest
decreases-loop-rest g l = length l.rest

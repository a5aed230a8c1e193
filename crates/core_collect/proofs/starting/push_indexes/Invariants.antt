use Rattle.std.proofs.Common.{◌≡◌, ◌++◌, filter, map, take}
use Rattle.store_types.specs.FileNames.{is_index_name}
use Rattle.core_collect.proofs.StartLemmas.{index_of}
use Rattle.core_collect.proofs.starting.push_indexes.Given as goal

abbrev pub invariant-loop-file : goal.invariant-loop-file
invariant-loop-file l =
    l.indexes.items ≡ l.fn.indexes.items ++ map (index_of (l.listed).number) (filter (λ f. is_index_name f.name) (take l.file-index l.file-items))

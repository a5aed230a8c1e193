use Rattle.std.proofs.Common.{◌≡◌, string_bytes, take}
use Rattle.std.specs.List.{filter_map}
use Rattle.chunk_store.specs.Listed.{digest_named}
use Rattle.chunk_store.proofs.listing.digests_named.Given as goal

abbrev pub invariant-loop-name : goal.invariant-loop-name
invariant-loop-name l = l.digests.items ≡ filter_map (λ n. digest_named (string_bytes n)) (take l.name-index l.names)

use Rattle.std.proofs.Common.{◌≡◌, ℕ, ◌<◌, ◌*◌, [], drop, slice_index, slice_index_or}
use Rattle.sha2.specs.Sha256.{hash_after}
use Rattle.hash_states.specs.Lanes.{lane_of}
use Rattle.hash_states.proofs.blocks.after_quarters.Given as goal

abbrev pub invariant-blocks-2 : goal.invariant-blocks-2
invariant-blocks-2 l = (j : ℕ) → j < 4
    → lane_of slice_index j l.lanes ≡ hash_after (slice_index_or l.values j []) (drop (j * l.len) l.bytes) l.i

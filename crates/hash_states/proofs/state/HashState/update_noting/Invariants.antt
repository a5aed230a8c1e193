use Rattle.std.proofs.Common.{◌≡◌, ℕ, ◌<◌, ◌*◌, List, [], ◌++◌, length, take, slice_index_or}
use Rattle.hash_states.specs.States.{absorb, quarters_to}
use Rattle.hash_states.proofs.state.HashState.update_noting.Given as goal

abbrev pub invariant-quarters : goal.invariant-quarters
invariant-quarters l =
    ((x : List ℕ) → absorb l.self x ≡ absorb l.fn.self (take (l.len * l.i) l.bytes ++ x)) × (length l.values ≡ 4)
    × ((i : ℕ) → i < l.i → slice_index_or l.values i [] ≡ (absorb l.fn.self (quarters_to i l.bytes)).hash)

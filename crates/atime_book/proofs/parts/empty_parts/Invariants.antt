use Rattle.std.proofs.Common.{◌≡◌, ◌-◌, ◌≤◌, [], length, All}
use Rattle.atime_book.proofs.parts.empty_parts.Given as goal

abbrev pub invariant-loop-alloc : goal.invariant-loop-alloc
invariant-loop-alloc l = record { most : length l.parts.items ≤ 256; empty : All (λ part. part.items ≡ []) l.parts.items }

abbrev pub decreases-loop-alloc : goal.decreases-loop-alloc
decreases-loop-alloc l = 256 - length l.parts.items

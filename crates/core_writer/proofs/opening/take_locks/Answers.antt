use Rattle.std.proofs.Common.{◌≡◌, ◌∙◌, ℕ, ap, sym, Result, Option, Some, None, Err}
use Rattle.std.specs.Prelude.{option_map}
use Rattle.std.specs.Result.{result_err}
use Rattle.lock_book.specs.declared.LaneHolds.{LaneHolds}
use Rattle.core_writer.proofs.opening.take_locks.Goals as goal

some_none : (n : ℕ) → (let o : Option ℕ = Some n in o ≡ None) → ⊥
some_none n e = cc

-- what was free before is not held
not_held : (t : Result (Unit {0}) LaneHolds) (e : LaneHolds) (holder : Option ℕ) → t ≡ Err e → option_map (λ x. x.lane) (result_err t) ≡ holder → holder ≡ None → ⊥
not_held t e holder is held free =
    some_none e.lane (sym (ap (λ (r : Result (Unit {0}) LaneHolds). option_map (λ (x : LaneHolds). x.lane) (result_err r)) is) ∙ held ∙ free)

pub unreachable-requires : goal.unreachable-requires
unreachable-requires c = not_held _ _ _ c.in-Err.is c.in_ok-writer_take.ensures.held c.requires

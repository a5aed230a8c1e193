-- What comes next, by the fields of a plan.
use Rattle.std.specs.Vec.Iter.{into_iter_items}
use Rattle.gc_plan.specs.declared.Stage.{Stage as Kept}
use Rattle.gc_plan.specs.declared.Stage.TheVariants.{Marking, Sweeping}
use Rattle.gc_plan.specs.Plan.{Stage, marking, sweeping}

abbrev pub stage_of : Kept → Stage
stage_of (Marking place first) = marking place first
stage_of (Sweeping left) = sweeping (into_iter_items left)

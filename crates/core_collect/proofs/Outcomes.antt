-- What the outcome of a visit or of an end is for the act.
use Rattle.std.specs.Prelude.{Some, None, Result, Ok, Err}
use Rattle.disk_trait.specs.declared.disk.DiskError.{DiskError}
use Rattle.gc_plan.specs.declared.GcReport.{GcReport}
use Rattle.store_stops.specs.Stops.{stop_of}
use Rattle.core_collect.specs.Stepping.{Outcome}

abbrev pub visit_outcome : Result (Unit {0}) DiskError → Outcome
visit_outcome (Ok done) = Ok None
visit_outcome (Err error) = Err (stop_of error)

abbrev pub end_outcome : Result GcReport DiskError → Outcome
end_outcome (Ok report) = Ok (Some report)
end_outcome (Err error) = Err (stop_of error)

-- What a call leaves in which nothing failed, by what else is told of it.
use Rattle.disk_trait.specs.declared.disk.Disk.{Ghosts}
use Rattle.std.proofs.Common.{List, Option, length}
use Rattle.std.specs.Prelude.{String}
use Rattle.std.specs.declared.alloc.Global.{Global}
use Rattle.port_traits.specs.declared.sink.Sink as sinks
use Rattle.port_traits.specs.declared.source.Source as sources
use Rattle.port_traits.specs.Readings.{Readings}
use Rattle.store_history.specs.declared.port.Port.{Port}
use Rattle.pbs_server.specs.declared.served.Served.{Served}
use Rattle.pbs_server.specs.declared.status.Status.TheVariants as statuses
use Rattle.pbs_server.specs.Asking.{LeavesBy}
use Rattle.pbs_server.specs.Completeness.{IsComplete}
use Rattle.pbs_server.specs.Words.{AsksTooMany, IsMisused, TellsJust}
use Rattle.pbs_server.proofs.CompleteChecked.{all_checked}
use Rattle.pbs_server.proofs.CompleteServed.{all_well}

pub complete_by : {D E S K J : Type 0} (d : Ghosts D) (e : Ghosts E) (source : sources.Ghosts S) (sink : sinks.Ghosts K) (journal : sinks.Ghosts J) (readings : Option Readings)
    (words : List (String Global)) (disk : D) (remote : Option E) (old new : List (Port S K)) (before after : J) (result : Served D E)
    → LeavesBy d e source sink journal readings words disk remote old new before after result
    → TellsJust result statuses.Usage (IsMisused words (length old)) → TellsJust result statuses.TooManyLanes (AsksTooMany words (length old))
    → IsComplete d e source sink journal words disk remote old new before after result
complete_by d e source sink journal readings words disk remote old new before after result leaves usage many = record {
  served = λ can none. all_well d e source sink journal readings words disk remote old new before after result usage many none can leaves;
  checked = λ can none. all_checked d e source sink journal words disk remote old new before after result can none readings leaves;
}

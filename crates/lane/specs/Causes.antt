-- Why a lane's commands come to an end.
use Rattle.std.specs.Prelude.{ℕ, ◌≡◌, ◌≤◌, ◌^◌, Option, Some}
use Rattle.port_traits.specs.declared.source.Source as sources
use Rattle.port_traits.specs.declared.sink.Sink as sinks
use Rattle.port_traits.specs.Faults.{Rose}
use Rattle.store_model.specs.declared.ending.Ending.{Ending}
use Rattle.store_model.specs.declared.ending.Ending.TheVariants.{SourceFault, SinkFault, SourceTooLong}
use Rattle.store_history.specs.declared.port.LaneReport.{LaneReport}
use Rattle.store_history.specs.declared.port.Port.{Port}

-- a source or a sink fails only where its own count rose, and too much is 2^40 bytes
abbrev pub IsCaused : ℕ → ℕ → ℕ → ℕ → ℕ → Option Ending → Type 0
IsCaused source source' sink sink' size (Some SourceFault) = Rose source source'
IsCaused source source' sink sink' size (Some SinkFault) = Rose sink sink'
IsCaused source source' sink sink' size (Some SourceTooLong) = size ≡ 2 ^ 40
IsCaused source source' sink sink' size _ = Unit {0}

-- The counts of faults of a source and a sink never fall, and the ending has its cause in them.
pub record HasCauses (source source' sink sink' size : ℕ) (ending : Option Ending) : Type 0 where
  pub source_later : source ≤ source'
  pub sink_later : sink ≤ sink'
  pub cause : IsCaused source source' sink sink' size ending

-- ---- of ports

-- a lane that was served
abbrev pub LaneHasCauses : {S K : Type 0} → sources.Ghosts S → sinks.Ghosts K → Port S K → Port S K → LaneReport → Type 0
LaneHasCauses source sink port later report =
    HasCauses (source.faults port.source) (source.faults later.source) (sink.faults port.sink) (sink.faults later.sink) report.taken (Some report.ending)

-- the sink alone, beside any source
abbrev pub SinkHasCauses : {K : Type 0} → sinks.Ghosts K → K → K → Option Ending → Type 0
SinkHasCauses sink into later ending =
    (source size : ℕ) → HasCauses source source (sink.faults into) (sink.faults later) size ending

-- what caused the last ending of a lane's commands, or this sink, caused the lane's
abbrev pub EndHasCauses : {K : Type 0} → sinks.Ghosts K → K → K → Ending → Ending → Type 0
EndHasCauses sink into later last ending =
    (source source' sink_before size : ℕ) → HasCauses source source' sink_before (sink.faults into) size (Some last)
    → HasCauses source source' sink_before (sink.faults later) size (Some ending)

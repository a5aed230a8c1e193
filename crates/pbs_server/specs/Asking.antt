-- What the program's call leaves, by what the words ask for.
use Rattle.disk_trait.specs.declared.disk.Disk.{Ghosts}
use Rattle.std.specs.Prelude.{◌≡◌, ◌⊎◌, ℕ, List, [], length, Option, String}
use Rattle.std.specs.declared.alloc.Global.{Global}
use Rattle.port_traits.specs.declared.sink.Sink as sinks
use Rattle.port_traits.specs.declared.source.Source as sources
use Rattle.port_traits.specs.Readings.{Readings}
use Rattle.command_line.specs.Reading.{texts}
use Rattle.store_history.specs.declared.port.Port.{Port}
use Rattle.pbs_server.specs.declared.served.Served.{Served}
use Rattle.pbs_server.specs.Checking.{HasChecked}
use Rattle.pbs_server.specs.Generating.{HasGenerated}
use Rattle.pbs_server.specs.Headline.{Leaves}
use Rattle.pbs_server.specs.Journal.{TellsOrder}
use Rattle.pbs_server.specs.Words.{AsksMade, IsCheck, IsMade, IsUnread}

module _ {D E S K J : Type 0} (d : Ghosts D) (e : Ghosts E) (source : sources.Ghosts S) (sink : sinks.Ghosts K) (journal : sinks.Ghosts J) (readings : Option Readings)
    (words : List (String Global)) (disk : D) (remote : Option E) (old new : List (Port S K)) (before after : J) (result : Served D E) where
  -- they ask for sessions that the program makes, and these were served
  pub record LeavesMade : Type 0 where
    pub n : ℕ
    pub asks : AsksMade (texts words) (length old) n
    pub generated : HasGenerated d e journal n disk remote before after result
    pub ports : new ≡ old

  -- they ask for a check of a run, and it was made
  pub record LeavesChecked : Type 0 where
    pub asks : IsCheck words (length old)
    pub checked : HasChecked d e source journal disk remote old new before after result

  -- else the sessions of the ports were served, or none was
  pub record LeavesHanded : Type 0 where
    pub others : IsMade (texts words) (length old) → ((result.report).lanes).items ≡ []
    pub no_check : IsCheck words (length old) → IsUnread result
    pub leaves : Leaves d e source sink readings disk remote result old new ((result.report).lanes).items
    pub journal_is : TellsOrder journal words (length old) before after result

  abbrev pub LeavesBy : Type 0
  LeavesBy = LeavesMade ⊎ (LeavesChecked ⊎ LeavesHanded)

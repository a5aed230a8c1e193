-- What a crash leaves of a disk that was opened.
use Rattle.std.proofs.Common.{Option, refl}
use Rattle.disk_trait.specs.declared.disk.Disk.{Ghosts}
use Rattle.port_traits.specs.Readings.{Readings}
use Rattle.snapshot_files.specs.Opened.{Opens}
use Rattle.snapshot_files.proofs.Leavers.{stands_cleaned}
use Rattle.core_state.specs.declared.state.Core.{Core}
use Rattle.core_opening.specs.Opening.{RecoversOpened}

-- from the opening's sync on it stands for the list that the disk stood for
pub recovers_opened : {D E C : Type 0} (d : Ghosts D) (readings : C → Option Readings) (disk : D) (core : Core D E C) (clock : C) → Opens d disk (core.parts).disk
    → RecoversOpened d readings disk clock core
recovers_opened d readings disk core clock opens = record {
  opens = opens;
  recovers = λ L R stands. record {
    begun = (opens.started).1;
    each = λ t c from image. (L, stands_cleaned (d.content disk) c L stands (opens.since t c from image), refl);
  };
}

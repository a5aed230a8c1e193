-- What a call gives that may stop before its end.
use Rattle.std.specs.Prelude.{◌≡◌, Result, Ok, Err}
use Rattle.disk_trait.specs.declared.disk.DiskError.{DiskError}
use Rattle.disk_trait.specs.declared.disk.DiskError.TheVariants as disks
use Rattle.store_types.specs.declared.refusal.Refusal.{Refusal}
use Rattle.store_types.specs.declared.refusal.Refusal.TheVariants as refusals
use Rattle.store_stops.specs.declared.stop.Stop.{Stop}
use Rattle.store_stops.specs.declared.stop.Stop.TheVariants.{Refused, NoMemory, DiskFailed}

-- ---- by what a call within stops

abbrev pub stop_of : DiskError → Stop
stop_of disks.NoMemory = NoMemory
stop_of disks.Failed = DiskFailed

-- want of memory is no refusal to the caller
abbrev pub stop_by : Refusal → Stop
stop_by refusals.NoMemory = NoMemory
stop_by cause = Refused cause

abbrev pub answered_of : {A : Type 0} → Result A Refusal → Result A Stop
answered_of (Ok x) = Ok x
answered_of (Err refusal) = Err (stop_by refusal)

-- ---- what it gives

-- The value, or the refusal. Where memory is wanting or the disk failed nothing is said.
abbrev pub Gives : {A B : Type 0} → (A → B) → Result A Stop → Result B Refusal → Type 0
Gives f (Ok x) wanted = wanted ≡ Ok (f x)
Gives f (Err (Refused refusal)) wanted = wanted ≡ Err refusal
Gives f (Err NoMemory) wanted = Unit {0}
Gives f (Err DiskFailed) wanted = Unit {0}

-- a refusal has this
abbrev pub IfRefused : (Refusal → Type 0) → Stop → Type 0
IfRefused P (Refused refusal) = P refusal
IfRefused P NoMemory = Unit {0}
IfRefused P DiskFailed = Unit {0}

-- What a read of a file or of a page gives, and why it gives nothing.
use Rattle.std.specs.Prelude.{◌≡◌, ℕ, ◌-◌, List, length, take, drop, nat_lt, if◌then◌else◌, Option, Some, None, Result, Ok, Err}
use Rattle.std.specs.FinMap.{get}
use Rattle.disk_trait.specs.declared.disk.Disk.{Ghosts}
use Rattle.index_pages.specs.declared.fault.PageFault.{PageFault}
use Rattle.index_pages.specs.declared.fault.PageFault.TheVariants.{Missing, Failed, NoMemory}

-- The value, or the fault. Where memory is wanting or the disk failed nothing is said.
abbrev pub Gives : {A B : Type 0} → (A → B) → Result A PageFault → Result B PageFault → Type 0
Gives f (Ok x) wanted = wanted ≡ Ok (f x)
Gives f (Err Failed) wanted = Unit {0}
Gives f (Err NoMemory) wanted = Unit {0}
Gives f (Err fault) wanted = wanted ≡ Err fault

-- so many bytes of a file from an offset
abbrev pub part_in : ℕ → ℕ → PageFault → Option (List ℕ) → Result (List ℕ) PageFault
part_in offset len fewer None = Err Missing
part_in offset len fewer (Some text) = if nat_lt (length text - offset) len then Err fewer else Ok (take len (drop offset text))

-- on an honest disk they are read into these, or the fault is told
abbrev pub ReadsPart : {D A : Type 0} → Ghosts D → D → List ℕ → ℕ → ℕ → PageFault → List ℕ → Result A PageFault → Type 0
ReadsPart d disk name offset len fewer into result = d.honest disk → Gives (λ _. into) result (part_in offset len fewer (get (d.content disk) name))

-- a fault that neither the disk nor want of memory makes
abbrev pub IsTold : PageFault → Type 0
IsTold Failed = ⊥
IsTold NoMemory = ⊥
IsTold fault = Unit {0}

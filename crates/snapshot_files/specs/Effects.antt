-- What calls on the files of snapshots do to the disk.
use Rattle.std.specs.Prelude.{◌≡◌, ◌⊎◌, ℕ, List, None, Result, OnOk}
use Rattle.std.specs.FinMap.{get}
use Rattle.disk_trait.specs.declared.disk.Disk.{Ghosts}
use Rattle.disk_trait.specs.Disk.{LeavesOnly, Now}
use Rattle.disk_trait.specs.Files.{Files}
use Rattle.file_install.specs.Install.{installed}

-- after Ok an honest disk reads as this of what it read
abbrev pub Makes : {D A E : Type 0} → Ghosts D → D → D → Result A E → (Files → Files) → Type 0
Makes d old new result step = d.honest old → OnOk result (d.content new ≡ step (d.content old))

-- where there was no such file, a crash leaves none, or the whole one with all that was read
abbrev pub PutsNoneOrWhole : {D : Type 0} → Ghosts D → D → D → List ℕ → List ℕ → Type 0
PutsNoneOrWhole d old new path text =
    Now d.calls d.images old (λ c. get c path ≡ None)
    → LeavesOnly d.calls d.images old new (λ c. (get c path ≡ None) ⊎ (c ≡ installed (d.content old) path text))

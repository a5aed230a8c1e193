-- What a read of a file gives, and why it gives nothing.
use Rattle.std.specs.Prelude.{◌≡◌, ℕ, List, length, map, Some, Result, IfOk, IsErrOf, String, string_bytes, Vec}
use Rattle.std.specs.declared.alloc.Global.{Global}
use Rattle.std.specs.FinMap.{get}
use Rattle.disk_trait.specs.Disk.{one_up}
use Rattle.disk_trait.specs.declared.disk.Disk.{Ghosts}
use Rattle.disk_trait.specs.declared.disk.DiskError.{DiskError}
use Rattle.disk_trait.specs.declared.disk.DiskError.TheVariants as disks
use Rattle.disk_trait.specs.Files.{Files}
use Rattle.wire_commands.specs.HasText.{ReplyHasText}
use Rattle.wire_commands.specs.declared.reply.Reply.TheVariants as replies
use Rattle.store_stops.specs.declared.stop.Stop.{Stop}
use Rattle.store_stops.specs.Stops.{IfRefused}

-- a refusal has a spelling
abbrev pub StopHasText : Stop → Type 0
StopHasText e = IfRefused (λ refusal. ReplyHasText (replies.Refused refusal)) e

-- ---- what an honest disk holds, where it is read

-- the value is this of it
abbrev pub ReadsThere : {D A E : Type 0} → Ghosts D → D → Result A E → (Files → A) → Type 0
ReadsThere d disk result value = d.honest disk → IfOk result (λ a. a ≡ value (d.content disk))

-- the items are
abbrev pub ReadsItems : {D A E : Type 0} → Ghosts D → D → Result (Vec A Global) E → (Files → List A) → Type 0
ReadsItems d disk result value = d.honest disk → IfOk result (λ all. all.items ≡ value (d.content disk))

-- the texts are
abbrev pub ReadsTexts : {D E : Type 0} → Ghosts D → D → Result (Vec (String Global) Global) E → (Files → List (List ℕ)) → Type 0
ReadsTexts d disk result value = d.honest disk → IfOk result (λ texts. map string_bytes texts.items ≡ value (d.content disk))

-- of an honest disk: one call tells of a file of such a length
abbrev pub OneCallWhere : {D : Type 0} → Ghosts D → D → D → List ℕ → (ℕ → Type 0) → Type 0
OneCallWhere d old new path long =
    d.honest old → (text : List ℕ) → get (d.content old) path ≡ Some text → long (length text) → d.calls new ≡ one_up (d.calls old)

-- and no memory is wanting for it
abbrev pub NoneWantedWhere : {D A : Type 0} → Ghosts D → D → List ℕ → (ℕ → Type 0) → Result A DiskError → Type 0
NoneWantedWhere d disk path long result =
    d.honest disk → IsErrOf result disks.NoMemory → (text : List ℕ) → get (d.content disk) path ≡ Some text → long (length text) → ⊥

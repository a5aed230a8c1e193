-- What a list of steps has made of a disk that was empty and on the disk, and the images that it leaves.
use Rattle.std.specs.Prelude.{◌≡◌, ◌<◌, ◌≤◌, ◌-◌, ◌^◌, ℕ, List, [], ◌∷◌, Bool, true, leb, T, Some, None, length, string_bytes}
use Rattle.std.specs.List.{filter, list_all}
use Rattle.std.specs.FinMap.{empty}
use Rattle.disk_trait.specs.Files.{Files, placed, renamed, SameBut}
use Rattle.disk_trait.specs.Disk.{MayMove, MayGo}
use Rattle.disk_trait.specs.declared.step_log.Step.{Step}
use Rattle.disk_trait.specs.declared.step_log.Step.TheVariants.{Put, Rename, Remove, Sync}
use Rattle.disk_trait.specs.declared.step_log.LoggedStep.{LoggedStep}

-- as it reads after a step
abbrev pub done : Files → Step → Files
done files (Put name bytes) = placed files (string_bytes name) (Some bytes.items)
done files (Rename from to) = renamed files (string_bytes from) (string_bytes to)
done files (Remove name) = placed files (string_bytes name) None
done files Sync = files

abbrev pub played : Files → List LoggedStep → Files
played files [] = files
played files (e ∷ es) = played (done files e.step) es

-- the images after a step, of a disk that reads so and leaves these
abbrev pub stepped : Step → Files → (Files → Type 0) → Files → Type 0
stepped (Put name bytes) files P c = (b : Files) × P b × SameBut (string_bytes name) b c
stepped (Rename from to) files P c = (b : Files) × P b × MayMove (string_bytes from) (string_bytes to) b c
stepped (Remove name) files P c = (b : Files) × P b × MayGo (string_bytes name) b c
stepped Sync files P c = c ≡ files

abbrev pub leaves : List LoggedStep → Files → (Files → Type 0) → Files → Type 0
leaves [] files P c = P c
leaves (e ∷ es) files P c = leaves es (done files e.step) (stepped e.step files P) c

-- those that had been done by a moment
abbrev pub until : ℕ → List LoggedStep → List LoggedStep
until t log = filter (λ e. leb e.at t) log

abbrev pub all_by : ℕ → List LoggedStep → Type 0
all_by t log = T (list_all (λ e. leb e.at t) log)

-- a step that gives no name of more than 255 bytes
abbrev pub gives_short : Step → Bool
gives_short (Put name bytes) = leb (length (string_bytes name)) 255
gives_short (Rename from to) = leb (length (string_bytes to)) 255
gives_short (Remove name) = true
gives_short Sync = true

abbrev pub KeepsShort : Step → Type 0
KeepsShort step = T (gives_short step)

abbrev pub all_short : List LoggedStep → Type 0
all_short log = T (list_all (λ e. gives_short e.step) log)

-- the images of a moment up to now, below the greatest number
abbrev pub images_of : ℕ → List LoggedStep → ℕ → Files → Type 0
images_of now log t c = (t ≤ now) × (t < 2 ^ 64 - 1) × leaves (until t log) empty (λ b. b ≡ empty) c

abbrev pub IsPut : Step → List ℕ → List ℕ → Type 0
IsPut (Put name bytes) n b = (string_bytes name ≡ n) × (bytes.items ≡ b)
IsPut _ n b = ⊥

abbrev pub IsRename : Step → List ℕ → List ℕ → Type 0
IsRename (Rename from to) f t = (string_bytes from ≡ f) × (string_bytes to ≡ t)
IsRename _ f t = ⊥

abbrev pub IsRemove : Step → List ℕ → Type 0
IsRemove (Remove name) n = string_bytes name ≡ n
IsRemove _ n = ⊥

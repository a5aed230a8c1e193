-- What each kind of step does to a disk and to its images.
use Rattle.std.proofs.Common.{◌≡◌, ℕ, List, Some, ◌∙◌, ap, subst, string_bytes}
use Rattle.std.specs.FinMap.{remove}
use Rattle.disk_trait.specs.Files.{Files, placed, renamed, SameBut}
use Rattle.disk_trait.specs.Disk.{MayMove, MayGo}
use Rattle.disk_trait.specs.Replay.{done, stepped, IsPut, IsRename, IsRemove}
use Rattle.disk_trait.specs.declared.step_log.Step.{Step}
use Rattle.disk_trait.specs.declared.step_log.Step.TheVariants.{Put, Rename, Remove, Sync}

pub put_done : (s : Step) (name bytes : List ℕ) (files : Files) → IsPut s name bytes → done files s ≡ placed files name (Some bytes)
put_done (Put n v) name bytes files is = ap (λ q. placed files q (Some v.items)) is.0 ∙ ap (λ b. placed files name (Some b)) is.1
put_done (Rename f t) name bytes files is = absurd is
put_done (Remove n) name bytes files is = absurd is
put_done Sync name bytes files is = absurd is

pub put_stepped : (s : Step) (name bytes : List ℕ) (files : Files) (P : Files → Type 0) (c : Files) → IsPut s name bytes → stepped s files P c → (b : Files) × P b × SameBut name b c
put_stepped (Put n v) name bytes files P c is x = (x.0, x.1, subst (λ q. SameBut q x.0 c) is.0 x.2)
put_stepped (Rename f t) name bytes files P c is x = absurd is
put_stepped (Remove n) name bytes files P c is x = absurd is
put_stepped Sync name bytes files P c is x = absurd is

pub rename_done : (s : Step) (from to : List ℕ) (files : Files) → IsRename s from to → done files s ≡ renamed files from to
rename_done (Put n v) from to files is = absurd is
rename_done (Rename f t) from to files is = ap (λ q. renamed files q (string_bytes t)) is.0 ∙ ap (λ q. renamed files from q) is.1
rename_done (Remove n) from to files is = absurd is
rename_done Sync from to files is = absurd is

pub rename_stepped : (s : Step) (from to : List ℕ) (files : Files) (P : Files → Type 0) (c : Files) → IsRename s from to → stepped s files P c → (b : Files) × P b × MayMove from to b c
rename_stepped (Put n v) from to files P c is x = absurd is
rename_stepped (Rename f t) from to files P c is x = (x.0, x.1, subst (λ q. MayMove from q x.0 c) is.1 (subst (λ q. MayMove q (string_bytes t) x.0 c) is.0 x.2))
rename_stepped (Remove n) from to files P c is x = absurd is
rename_stepped Sync from to files P c is x = absurd is

pub remove_done : (s : Step) (name : List ℕ) (files : Files) → IsRemove s name → done files s ≡ remove files name
remove_done (Put n v) name files is = absurd is
remove_done (Rename f t) name files is = absurd is
remove_done (Remove n) name files is = ap (λ q. remove files q) is
remove_done Sync name files is = absurd is

pub remove_stepped : (s : Step) (name : List ℕ) (files : Files) (P : Files → Type 0) (c : Files) → IsRemove s name → stepped s files P c → (b : Files) × P b × MayGo name b c
remove_stepped (Put n v) name files P c is x = absurd is
remove_stepped (Rename f t) name files P c is x = absurd is
remove_stepped (Remove n) name files P c is x = (x.0, x.1, subst (λ q. MayGo q x.0 c) is x.2)
remove_stepped Sync name files P c is x = absurd is

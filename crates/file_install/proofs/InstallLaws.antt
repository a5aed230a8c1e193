-- What an installed file leaves at each name.
use Rattle.std.proofs.Common.{◌≡◌, ◌≢◌, inl, inr, ℕ, List, ◌+◌, length, Some, None, arith, ◌∙◌, ap}
use Rattle.std.specs.Prelude.{codes}
use Rattle.std.proofs.Common.{length-append}
use Rattle.std.specs.FinMap.{get, remove}
use Rattle.disk_trait.specs.Files.{Files}
use Rattle.disk_trait.specs.Laws.{placed_same, placed_other}
use Rattle.file_install.specs.Install.{temporary, installed, Installs}

-- a name is not its temporary name
pub name_not_temporary : (name : List ℕ) → name ≢ temporary name
name_not_temporary name e =
    let longer : length (temporary name) ≡ length name + 4 = length-append name (codes ".tmp") in
    let same : length name ≡ length (temporary name) = ap length e in
    omega arith

pub installed_name : (files : Files) (name bytes : List ℕ) → get (installed files name bytes) name ≡ Some bytes
installed_name files name bytes = placed_same (remove files (temporary name)) name (Some bytes)

pub installed_other : (files : Files) (name bytes q : List ℕ) → q ≢ name → q ≢ temporary name → get (installed files name bytes) q ≡ get files q
installed_other files name bytes q not_name not_temporary =
    placed_other (remove files (temporary name)) name (Some bytes) q not_name ∙ placed_other files (temporary name) None q not_temporary

pub installs_other : (read : Files) (name bytes : List ℕ) (old new : Files) (q : List ℕ) → Installs read name bytes old new → q ≢ name → q ≢ temporary name → get new q ≡ get old q
installs_other read name bytes old new q (inl same) not_name not_temporary = same q not_temporary
installs_other read name bytes old new q (inr is) not_name not_temporary = ap (λ f. get f q) is.1 ∙ installed_other old name bytes q not_name not_temporary

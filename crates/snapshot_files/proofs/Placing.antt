-- What a file leaves that is put, and a call that makes none of the disk's.
use Rattle.std.proofs.Common.{◌≡◌, ◌⊎◌, ◌-◌, ◌^◌, ◌<◌, ◌≤◌, inl, inr, ℕ, List, None, arith, refl, ap, subst, ◌∙◌}
use Rattle.std.specs.FinMap.{get}
use Rattle.disk_trait.specs.Files.{Files}
use Rattle.disk_trait.specs.Disk.{Steps, Same}
use Rattle.disk_trait.specs.Runs.{none_leaves}
use Rattle.file_install.specs.Install.{installed, Installs}
use Rattle.file_install.proofs.InstallLaws.{name_not_temporary}

module _ {D : Type 0} (calls : D → ℕ) (images : D → ℕ → Files → Type 0) (honest : D → Type 0)
    (told : (d : D) (t : ℕ) (c : Files) → images d t c → honest d × (t ≤ calls d) × (t < 2 ^ 64 - 1)) (d : D) where
  -- no call is made
  pub none_is : Steps calls images d d Same
  none_is = none_leaves (calls d) (images d) _ (λ t c le i. let e : t ≡ calls d = omega (arith, le, (told d t c i).1) in (c, subst (λ n. images d n c) e i, refl))

-- no manifest, or the whole one with all that was read
pub no_part : (read : Files) (name bytes : List ℕ) (b c : Files) → get b name ≡ None → Installs read name bytes b c → (get c name ≡ None) ⊎ (c ≡ installed read name bytes)
no_part read name bytes b c none (inl same) = inl (same name (name_not_temporary name) ∙ none)
no_part read name bytes b c none (inr is) = inr (is.1 ∙ ap (λ m. installed m name bytes) is.0)

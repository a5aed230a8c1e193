-- What a run of calls leaves, of which one at most changes a chunk's file.
use Rattle.std.proofs.Common.{◌≡◌, ◌-◌, ◌^◌, ◌<◌, ◌≤◌, ◌↔◌, inl, inr, ℕ, List, None, arith, refl, subst, ◌∙◌}
use Rattle.std.specs.FinMap.{get}
use Rattle.disk_trait.specs.Files.{Files}
use Rattle.disk_trait.specs.declared.disk.Disk.{Ghosts}
use Rattle.disk_trait.specs.Disk.{Leaves, Serves, Steps, Same}
use Rattle.disk_trait.specs.Effects.{OnlyReads, SameContent}
use Rattle.disk_trait.specs.Runs.{both_serve, none_leaves, leaves_as, now_leaves, both_leave, step_after}
use Rattle.file_install.specs.Install.{Installs}
use Rattle.store_files.specs.Folder.{chunk_name}
use Rattle.chunk_store.specs.Pieces.{Stores}

module _ {D : Type 0} (calls : D → ℕ) (images : D → ℕ → Files → Type 0) (honest : D → Type 0)
    (told : (d : D) (t : ℕ) (c : Files) → images d t c → honest d × (t ≤ calls d) × (t < 2 ^ 64 - 1)) where
  pub none_is : (d : D) → Steps calls images d d Same
  none_is d = none_leaves (calls d) (images d) _ (λ t c le i. let e : t ≡ calls d = omega (arith, le, (told d t c i).1) in (c, subst (λ n. images d n c) e i, refl))

  -- a read that finds nothing, and then an install
  pub reads_then_installs : (digest bytes name : List ℕ) → name ≡ chunk_name digest → (content : D → Files) (old mid new : D) → (honest old ↔ honest mid)
      → (honest old → content mid ≡ content old) → (honest old → get (content old) (chunk_name digest) ≡ None)
      → Steps calls images old mid Same → Steps calls images mid new (Installs (content mid) name bytes) → Steps calls images old new (Stores digest bytes (content old))
  reads_then_installs digest bytes name is content old mid new kept same none one two =
      both_leave (leaves_as one (λ c x. (x.0, x.1, inl x.2))) two
      (λ c y. let x = now_leaves one y.0 y.1 in let h = kept.1 (told mid (calls mid) y.0 y.1).0 in (
        x.0,
        x.1,
        inr (
          none h,
          subst (λ m. Installs m (chunk_name digest) bytes x.0 c) (same h)
              (subst (λ f. Installs (content mid) (chunk_name digest) bytes f c) x.2 (subst (λ n. Installs (content mid) n bytes y.0 c) is y.2)),
        ),
      ))

abbrev Since : (ℕ → Files → Type 0) → ℕ → (Files → Files → Type 0) → Files → Type 0
Since images before step c = (f : Files) × images before f × step f c

module _ {a b : ℕ} {I J : ℕ → Files → Type 0} (digest bytes : List ℕ) (read : Files) where
  -- nothing is written
  pub only_reads : Leaves a I b J (Since I a Same) → Leaves a I b J (Since I a (Stores digest bytes read))
  only_reads one = leaves_as one (λ c x. (x.0, x.1, inl x.2))

module _ {a b e : ℕ} {I J K : ℕ → Files → Type 0} where
  -- a read, and then a call that changes nothing
  pub reads_then_reads : Leaves a I b J (Since I a Same) → Leaves b J e K (Since J b Same) → Leaves a I e K (Since I a Same)
  reads_then_reads one two = step_after Same one two (λ f c same. same) (λ f g c first second. second ∙ first)

-- the size of a file, and then the file
pub size_then_read : {D : Type 0} (d : Ghosts D) (old mid new : D) (F G H : Type 0) → Serves d.honest d.faults old mid F → Serves d.honest d.faults mid new G
    → Steps d.calls d.images old mid Same → Steps d.calls d.images mid new Same → SameContent d old mid → SameContent d mid new → (H → G) → OnlyReads d old new H
size_then_read d old mid new F G H one two first second same read why = record {
  serves = both_serve d.honest d.faults old mid new F G H one two (λ h. inr (why h));
  crash = inr (reads_then_reads first second);
  same = λ h. read (one.kept.0 h) ∙ same h;
}

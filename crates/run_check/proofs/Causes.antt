-- Why a run was not compared.
use Rattle.std.proofs.Common.{◌≡◌, ◌⊎◌, ℕ, ◌+◌, ◌*◌, List, Option, Some, None, Result, Err, refl, sym, ap, subst, inl, inr, arith}
use Rattle.disk_trait.specs.declared.disk.Disk.{Ghosts}
use Rattle.disk_trait.proofs.OnlyReading.{reads_as, reads_none}
use Rattle.port_traits.specs.declared.source.Source as sources
use Rattle.store_history.specs.declared.port.Port.{Port}
use Rattle.run_check.specs.declared.fault.CheckFault.{CheckFault}
use Rattle.run_check.specs.declared.fault.CheckFault.TheVariants as faults
use Rattle.run_check.specs.Checks.{Checks, RemoteIsOnlyRead}
use Rattle.run_check.specs.Sessions.{IsWhy, TellsOrder}

-- a fault that neither disk has
pub IsPorts : CheckFault → Type 0
IsPorts faults.DiskFault = ⊥
IsPorts faults.RemoteFault = ⊥
IsPorts other = Unit {0}

same_fault : {A : Type 0} (f g : CheckFault) → (let r : Result A CheckFault = Err f in r ≡ Err g) → f ≡ g
same_fault f g is = cc

pub no_disk : {A : Type 0} (f : CheckFault) → IsPorts f → (let r : Result A CheckFault = Err f in r ≡ Err faults.DiskFault) → ⊥
unfolding IsPorts
no_disk f ports is = subst IsPorts (same_fault f faults.DiskFault is) ports

pub no_remote : {A : Type 0} (f : CheckFault) → IsPorts f → (let r : Result A CheckFault = Err f in r ≡ Err faults.RemoteFault) → ⊥
unfolding IsPorts
no_remote f ports is = subst IsPorts (same_fault f faults.RemoteFault is) ports

pub one_fault : {A B : Type 0} (f g : CheckFault) → (let r : Result A CheckFault = Err f in r ≡ Err g) → (let r : Result B CheckFault = Err f in r ≡ Err g)
one_fault f g is = ap (λ (x : CheckFault). Err x) (same_fault f g is)

-- ---- the disks

module _ {D : Type 0} (d : Ghosts D) where
  pub remote_untouched : (remote : Option D) (Q : Type 0) → (Q → ⊥) → RemoteIsOnlyRead d remote remote Q
  remote_untouched None Q none = none
  remote_untouched (Some r) Q none = reads_none d r Q none

  pub remote_read : (old new : Option D) (P Q : Type 0) → (Q → P) → RemoteIsOnlyRead d old new P → RemoteIsOnlyRead d old new Q
  remote_read None None P Q by read = λ q. read (by q)
  remote_read (Some a) (Some b) P Q by read = reads_as d a b P Q by read
  remote_read None (Some b) P Q by read = absurd read
  remote_read (Some a) None P Q by read = absurd read

-- ---- the ports

module _ {D E S K : Type 0} (d : Ghosts D) (e : Ghosts E) (source : sources.Ghosts S) (disk : D) (remote : Option E) (old new : List (Port S K)) where
  pub why_ports : (first : ℕ) (f : CheckFault) → IsWhy source first old new f → IsPorts f
  unfolding IsPorts
  why_ports first faults.DiskFault why = why
  why_ports first faults.RemoteFault why = why
  why_ports first faults.NoMemory why = tt
  why_ports first faults.SourceFault why = tt
  why_ports first faults.SourceTooLong why = tt
  why_ports first faults.BadOrder why = tt

  pub why_checks : (first : ℕ) (f : CheckFault) → IsWhy source first old new f → Checks d e source disk remote old new (Err f)
  why_checks first faults.SourceFault why = why
  why_checks first faults.SourceTooLong why = record { place = first + 2 * why.nth; here = why.here; long = why.long }
  why_checks first faults.NoMemory why = tt
  why_checks first faults.DiskFault why = tt
  why_checks first faults.RemoteFault why = tt
  why_checks first faults.BadOrder why = absurd why

  -- of the order's port
  pub order_ports : (f : CheckFault) → TellsOrder source old new (Err f) → IsPorts f
  unfolding IsPorts
  order_ports faults.BadOrder why = tt
  order_ports faults.DiskFault why = why
  order_ports faults.RemoteFault why = why
  order_ports faults.NoMemory why = tt
  order_ports faults.SourceFault why = tt
  order_ports faults.SourceTooLong why = tt

  pub order_checks : (f : CheckFault) → TellsOrder source old new (Err f) → Checks d e source disk remote old new (Err f)
  order_checks faults.BadOrder why = inr why
  order_checks faults.SourceFault why = why_checks 0 faults.SourceFault why
  order_checks faults.SourceTooLong why = why_checks 0 faults.SourceTooLong why
  order_checks faults.NoMemory why = tt
  order_checks faults.DiskFault why = tt
  order_checks faults.RemoteFault why = tt

  -- and of the disks
  pub disk_checks : (f : CheckFault) → (f ≡ faults.DiskFault) ⊎ (f ≡ faults.NoMemory) → Checks d e source disk remote old new (Err f)
  disk_checks f (inl is) = subst (λ g. Checks d e source disk remote old new (Err g)) (sym is) tt
  disk_checks f (inr is) = subst (λ g. Checks d e source disk remote old new (Err g)) (sym is) tt

  pub remote_checks : (f : CheckFault) → (f ≡ faults.RemoteFault) ⊎ (f ≡ faults.NoMemory) → Checks d e source disk remote old new (Err f)
  remote_checks f (inl is) = subst (λ g. Checks d e source disk remote old new (Err g)) (sym is) tt
  remote_checks f (inr is) = subst (λ g. Checks d e source disk remote old new (Err g)) (sym is) tt

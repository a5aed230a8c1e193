-- What holds of the remote between two cores, and of the failed reads in the order.
use Rattle.std.proofs.Common.{◌≡◌, ◌≤◌, ◌+◌, ◌==◌, Bool, true, false, List, [], ◌∷◌, ◌++◌, if◌then◌else◌, filter, length, length-append, is_some, Option, Some, None, refl, sym, ap, subst, ◌∙◌, inl, arith}
use Rattle.std.proofs.lemmas.Bool.{eqb-true}
use Rattle.std.proofs.lemmas.List.Elements.{filter-append}
use Rattle.disk_trait.specs.Disk.{Rose}
use Rattle.disk_trait.specs.declared.disk.Disk.{Ghosts}
use Rattle.store_types.specs.declared.order.Entry.{Entry}
use Rattle.store_types.specs.declared.order.TheConstants.{REMOTE_FAULT_KIND}
use Rattle.store_files.specs.Archive.{Snapshot}
use Rattle.store_model.specs.Stands.{StandsFor as Stands}
use Rattle.disk_trait.proofs.OnlyReading.{same_then}
use Rattle.core_state.specs.declared.state.Core.{Core}
use Rattle.core_state.specs.Remotes.{RemoteServes}
use Rattle.store_history.specs.RemoteDisk.{IsRead, RemoteStays, ShowsRemote, failed_reads, faults_of}

-- ---- the failed reads in the order

failed_more : (xs : List Entry) (x : Entry) → failed_reads (xs ++ x ∷ []) ≡ failed_reads xs + failed_reads (x ∷ [])
failed_more xs x =
    ap length (filter-append (λ (y : Entry). y.kind == REMOTE_FAULT_KIND) xs (x ∷ []))
    ∙ length-append (filter (λ (y : Entry). y.kind == REMOTE_FAULT_KIND) xs) (filter (λ (y : Entry). y.kind == REMOTE_FAULT_KIND) (x ∷ []))

other_read : (x : Entry) → (x.kind ≡ REMOTE_FAULT_KIND → ⊥) → failed_reads (x ∷ []) ≡ 0
other_read x other = by_test (x.kind == REMOTE_FAULT_KIND) refl
  where
    by_test : (b : Bool) → (x.kind == REMOTE_FAULT_KIND) ≡ b → failed_reads (x ∷ []) ≡ 0
    by_test true e = absurd (other (eqb-true x.kind 7 e))
    by_test false e = ap (λ b. length (if b then x ∷ [] else [])) e

failed_once : (x : Entry) → failed_reads (x ∷ []) ≤ 1
failed_once x = by_test (x.kind == REMOTE_FAULT_KIND) refl
  where
    by_test : (b : Bool) → (x.kind == REMOTE_FAULT_KIND) ≡ b → failed_reads (x ∷ []) ≤ 1
    by_test true e = let is : failed_reads (x ∷ []) ≡ 1 = ap (λ b. length (if b then x ∷ [] else [])) e in omega arith
    by_test false e = let is : failed_reads (x ∷ []) ≡ 0 = ap (λ b. length (if b then x ∷ [] else [])) e in omega arith

-- ---- the remote

module _ {E : Type 0} (e : Ghosts E) where
  read_same : (a : E) → IsRead e a a
  read_same a = record { kept = (λ h. h, λ h. h); same = λ h. refl; crash = inl refl; count = omega arith }

  read_then : (a b c : E) → IsRead e a b → IsRead e b c → IsRead e a c
  read_then a b c x y = record {
    kept = (λ h. y.kept.0 (x.kept.0 h), λ h. x.kept.1 (y.kept.1 h));
    same = λ h. y.same (x.kept.0 h) ∙ x.same h;
    crash = same_then e a b c x.crash y.crash;
    count = let one = x.count in let two = y.count in omega (arith, one, two);
  }

  pub stays_same : (r : Option E) → RemoteStays e r r
  stays_same None = tt
  stays_same (Some r) = read_same r

  pub stays_then : (a b c : Option E) → RemoteStays e a b → RemoteStays e b c → RemoteStays e a c
  stays_then None None c x y = y
  stays_then (Some a) (Some b) (Some c) x y = read_then a b c x y
  stays_then (Some a) (Some b) None x y = absurd y
  stays_then None (Some b) c x y = absurd x
  stays_then (Some a) None c x y = absurd x

  -- its count never falls
  pub stays_count : (a b : Option E) → RemoteStays e a b → faults_of e a ≤ faults_of e b
  stays_count None None x = omega arith
  stays_count (Some a) (Some b) x = x.count
  stays_count None (Some b) x = absurd x
  stays_count (Some a) None x = absurd x

  -- and it is there as before
  pub stays_there : (a b : Option E) → RemoteStays e a b → is_some b ≡ is_some a
  stays_there None None x = refl
  stays_there (Some a) (Some b) x = refl
  stays_there None (Some b) x = absurd x
  stays_there (Some a) None x = absurd x

  -- it stands for what it stood for
  pub shows_still : (a b : Option E) (R : Option (List Snapshot)) → RemoteStays e a b → ShowsRemote e a R → ShowsRemote e b R
  shows_still None None R x s = s
  shows_still (Some a) (Some b) (Some snapshots) x s = (x.kept.0 s.0, subst (λ m. Stands m snapshots) (sym (x.same s.0)) s.1)
  shows_still (Some a) (Some b) None x s = absurd s
  shows_still None (Some b) R x s = absurd x
  shows_still (Some a) None R x s = absurd x

  module _ {D C : Type 0} where
    pub serves_none : (core : Core D E C) → RemoteServes e core core
    serves_none core = record { stays = stays_same core.remote; failed = λ lt. omega arith }

    pub serves_then : (a b c : Core D E C) → RemoteServes e a b → RemoteServes e b c → RemoteServes e a c
    serves_then a b c x y = record {
      stays = stays_then a.remote b.remote c.remote x.stays y.stays;
      failed = λ lt.
          let up = stays_count b.remote c.remote y.stays in
          let first = x.failed (omega (arith, up, lt)) in
          let second = y.failed lt in
          omega (arith, first, second);
    }

    -- with one entry more, of no failed read
    pub serves_other : (old new : Core D E C) (x : Entry) → (new.journal).entries.items ≡ (old.journal).entries.items ++ x ∷ [] → (x.kind ≡ REMOTE_FAULT_KIND → ⊥)
        → RemoteStays e old.remote new.remote → RemoteServes e old new
    serves_other old new x more other stays = record {
      stays = stays;
      failed = λ _.
          let up = stays_count old.remote new.remote stays in
          let is : failed_reads (new.journal).entries.items ≡ failed_reads (old.journal).entries.items = by_more in
          omega (arith, is, up);
    }
      where
        by_more : failed_reads (new.journal).entries.items ≡ failed_reads (old.journal).entries.items
        by_more =
            let none = other_read x other in
            let whole = ap failed_reads more ∙ failed_more (old.journal).entries.items x in
            omega (arith, none, whole)

    -- of one that failed, where the count rose
    pub serves_failed : (old new : Core D E C) (x : Entry) → (new.journal).entries.items ≡ (old.journal).entries.items ++ x ∷ []
        → RemoteStays e old.remote new.remote → Rose (faults_of e old.remote) (faults_of e new.remote) → RemoteServes e old new
    serves_failed old new x more stays rose = record {
      stays = stays;
      failed = λ lt.
          let up : faults_of e old.remote + 1 ≤ faults_of e new.remote = omega (arith, rose, lt) in
          let once = failed_once x in
          let whole = ap failed_reads more ∙ failed_more (old.journal).entries.items x in
          omega (arith, up, once, whole);
    }

    -- the remote was let alone
    pub serves_alone : (old new : Core D E C) (x : Entry) → (new.journal).entries.items ≡ (old.journal).entries.items ++ x ∷ [] → (x.kind ≡ REMOTE_FAULT_KIND → ⊥)
        → new.remote ≡ old.remote → RemoteServes e old new
    serves_alone old new x more other same = serves_other old new x more other (subst (RemoteStays e old.remote) (sym same) (stays_same old.remote))

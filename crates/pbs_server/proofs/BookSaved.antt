-- The book is saved as a run ends.
use Rattle.disk_trait.specs.declared.disk.Disk.{Ghosts}
use Rattle.disk_trait.specs.declared.disk.DiskError.{DiskError}
use Rattle.disk_trait.specs.declared.disk.DiskError.TheVariants.{NoMemory, Failed}
use Rattle.disk_trait.specs.Disk.{Serves}
use Rattle.disk_trait.specs.Effects.{DiskWantKeeps}
use Rattle.std.proofs.Common.{◌≡◌, ◌≤◌, ◌+◌, inl, inr, ℕ, Bool, true, false, List, [], ◌∷◌, ◌||◌, ◌==◌, if◌then◌else◌, Option, Some, None, IfSome, IsSome, Result, Ok, Err, OnOk, refl, sym, ap, subst, ◌∙◌, arith}
use Rattle.std.specs.Prelude.{IsErrOf, is_some}
use Rattle.std.specs.Result.{result_err}
use Rattle.std.specs.FinMap.{get}
use Rattle.store_types.specs.declared.order.Entry.{Entry}
use Rattle.store_types.specs.declared.order.TheConstants.{FAULT_KIND}
use Rattle.file_install.proofs.InstallLaws.{installed_other}
use Rattle.store_model.specs.Weave.{first_fault}
use Rattle.atime_book.specs.Touches.{NoneAfter, as_of}
use Rattle.pbs_server.proofs.Tests.{neither}
use Rattle.store_history.specs.declared.act.Event.{Event}
use Rattle.store_history.specs.History.{entries, kind}
use Rattle.store_history.specs.Saved.{book_name}
use Rattle.core_state.specs.declared.state.Core.{Core}
use Rattle.store_history.specs.Answered.{fault_after, fault_in}
use Rattle.store_history.specs.Foreign.{IsForeign}
use Rattle.core_state.specs.Upkeeps.{touches_kept}
use Rattle.core_state.specs.Saving.{HasSaved, KeepsRest, LeavesBook, SavesBook, text_of_book}
use Rattle.lane.specs.Entries.{has_kind}
use Rattle.pbs_server.specs.AtRest.{SaveLeaves}
use Rattle.pbs_server.specs.Saving.{EndsSaved, saving_of}

-- ---- what the saving came to

failed_none : None ≡ Some Failed → ⊥
failed_none e = cc

failed_want : Some NoMemory ≡ Some Failed → ⊥
failed_want e = cc

none_told : (e : DiskError) → IsErrOf (saving_of None) e → ⊥
none_told e is = cc

-- the disk failed in it
pub saving_failed : (o : Option DiskError) → IsErrOf (saving_of o) Failed → o ≡ Some Failed
saving_failed None is = cc
saving_failed (Some NoMemory) is = cc
saving_failed (Some Failed) is = refl

if_some : (P : Type 0) (o : Option ℕ) → P → IfSome o (λ _. P)
if_some P None p = tt
if_some P (Some place) p = p

pub none_is : (o : Option ℕ) → is_some o ≡ false → o ≡ None
none_is None is = refl
none_is (Some place) is = cc

-- ---- the book was saved, or it could not be

module _ {D E C : Type 0} (d : Ghosts D) (old new : Core D E C) where
  -- names that are none of the store's
  installed_foreign : HasSaved d old new → d.honest (old.parts).disk → (q : List ℕ) → IsForeign q
      → get (d.content (new.parts).disk) q ≡ get (d.content (old.parts).disk) q
  installed_foreign saved honest q own =
      ap (λ m. get m q) (saved.content honest) ∙ installed_other (d.content (old.parts).disk) book_name (text_of_book old) q own.book (own.lasting book_name)

  later_by : LeavesBook d old new → d.calls (old.parts).disk ≤ d.calls (new.parts).disk
  later_by (inl same) = subst (λ x. d.calls (old.parts).disk ≤ d.calls x) (sym same) (omega arith)
  later_by (inr steps) = steps.later

  not_halted : (P : Type 0) → old.fault ≡ None → IfSome old.fault (λ _. P)
  not_halted P none = subst (λ (o : Option ℕ). IfSome o (λ _. P)) (sym none) tt

  -- by what save_book answered
  saved_so : (r : Result (Unit {0}) DiskError) → old.fault ≡ None
      → Serves d.honest d.faults (old.parts).disk (new.parts).disk (IsErrOf r Failed) → KeepsRest old new → LeavesBook d old new
      → OnOk r (HasSaved d old new) → DiskWantKeeps d (old.parts).disk (new.parts).disk r → SavesBook d old new r
      → EndsSaved d old new (result_err r)
  saved_so (Ok u) none serves rest crash saved unchanged history = record {
    rest = rest;
    halted = not_halted _ none;
    serves = record { kept = serves.kept; count = serves.count; cause = λ is. absurd (failed_none is) };
    later = later_by crash;
    crash = crash;
    wanting = unchanged;
    saved = λ _. saved;
    foreign = λ honest calm. installed_foreign saved honest;
    history = history;
  }
  saved_so (Err NoMemory) none serves rest crash saved unchanged history = record {
    rest = rest;
    halted = not_halted _ none;
    serves = record { kept = serves.kept; count = serves.count; cause = λ is. absurd (failed_want is) };
    later = later_by crash;
    crash = crash;
    wanting = unchanged;
    saved = λ _. saved;
    foreign = λ honest calm q own. ap (λ m. get m q) ((unchanged refl).0 honest);
    history = history;
  }
  saved_so (Err Failed) none serves rest crash saved unchanged history = record {
    rest = rest;
    halted = not_halted _ none;
    serves = record { kept = serves.kept; count = serves.count; cause = λ is. serves.cause refl };
    later = later_by crash;
    crash = crash;
    wanting = unchanged;
    saved = λ _. saved;
    foreign = λ honest calm. absurd (calm refl);
    history = history;
  }

  pub ends_saved : (r : Result (Unit {0}) DiskError) (o : Option DiskError) → o ≡ result_err r → old.fault ≡ None
      → Serves d.honest d.faults (old.parts).disk (new.parts).disk (IsErrOf r Failed) → KeepsRest old new → LeavesBook d old new
      → OnOk r (HasSaved d old new) → DiskWantKeeps d (old.parts).disk (new.parts).disk r → SavesBook d old new r
      → EndsSaved d old new o
  ends_saved r o is none serves rest crash saved unchanged history =
      subst (EndsSaved d old new) (sym is) (saved_so r none serves rest crash saved unchanged history)

-- ---- the disk had failed

pub not_tried : {D E C : Type 0} (d : Ghosts D) (core : Core D E C) → IsSome core.fault → EndsSaved d core core None
not_tried d core failed = record {
  rest = refl;
  halted = if_some _ core.fault (refl, refl);
  serves = record { kept = (λ h. h, λ h. h); count = omega arith; cause = λ is. absurd (failed_none is) };
  later = omega arith;
  crash = inl refl;
  wanting = λ is. absurd (none_told NoMemory is);
  saved = λ none. absurd (some_none core.fault failed none);
  foreign = λ honest calm q own. refl;
  history = record {
    stands = λ readings calm h s. s;
    touches = λ readings calm h s m. m;
    holds = λ readings h none s m. absurd (some_none core.fault failed none);
    recovers = λ readings start h s r. r;
  };
}
  where
    some_none : (o : Option ℕ) → IsSome o → o ≡ None → ⊥
    some_none None some none = cc
    some_none (Some place) some none = cc

-- ---- after an entry of kind 5 the disk has failed

pub first_some : (place : ℕ) (o : Option ℕ) → IsSome (first_fault place o)
first_some place None = refl
first_some place (Some first) = refl

after_some : (place k : ℕ) (fault : Option ℕ) → IsSome fault → IsSome (fault_after place k fault)
after_some place k fault some = by_test (k == 5)
  where
    by_test : (b : Bool) → IsSome (if b then first_fault place fault else fault)
    by_test true = first_some place fault
    by_test false = some

stays_some : (place : ℕ) (fault : Option ℕ) (h : List Event) → IsSome fault → IsSome (fault_in place fault h)
stays_some place fault [] some = some
stays_some place fault (v ∷ vs) some = stays_some (place + 1) (fault_after place (kind v) fault) vs (after_some place (kind v) fault some)

pub five_fails : (place : ℕ) (fault : Option ℕ) (h : List Event) → has_kind 5 (entries h) ≡ true → IsSome (fault_in place fault h)
five_fails place fault [] five = cc
five_fails place fault (v ∷ vs) five = by_test (λ more. five_fails (place + 1) fault vs more) (kind v == FAULT_KIND) five
  where
    by_test : (has_kind 5 (entries vs) ≡ true → IsSome (fault_in (place + 1) fault vs)) → (b : Bool) → b || has_kind 5 (entries vs) ≡ true
        → IsSome (fault_in (place + 1) (if b then first_fault place fault else fault) vs)
    by_test more true five = stays_some (place + 1) (first_fault place fault) vs (first_some place fault)
    by_test more false five = more five

-- and without one it has not
pub no_five : (place : ℕ) (h : List Event) → has_kind 5 (entries h) ≡ false → fault_in place None h ≡ None
no_five place [] none = refl
no_five place (v ∷ vs) none =
    let both = neither (kind v == FAULT_KIND) (has_kind 5 (entries vs)) none in
    ap (λ b. fault_in (place + 1) (if b then first_fault place None else None) vs) both.0 ∙ no_five (place + 1) vs both.1

-- so the book was not saved
pub halted_by : {P : Type 0} (o : Option ℕ) → IsSome o → IfSome o (λ _. P) → P
halted_by None some p = absurd (false_true some)
  where
    false_true : false ≡ true → ⊥
    false_true e = cc
halted_by (Some place) some p = p

-- what it leaves, by the order of a run and its last moment
pub save_leaves : {D E C : Type 0} (d : Ghosts D) (old new : Core D E C) (order : List Entry) (not_saved : Option DiskError) → EndsSaved d old new not_saved
    → (has_kind 5 order ≡ true → IsSome old.fault) → (has_kind 5 order ≡ false → old.fault ≡ None) → NoneAfter (old.upkeep).book old.last → (m : ℕ) → old.last ≡ m
    → SaveLeaves d order not_saved m (touches_kept old.upkeep) (old.parts).disk (new.parts).disk
save_leaves {D} {E} {C} d old new order not_saved ends failed calm early m last = record {
  book = as_of old.last (old.upkeep).book;
  moment_is = last;
  touches_are = λ x. refl;
  early = early;
  halted = λ five.
      let both : (new ≡ old) × (not_saved ≡ None) = halted_by old.fault (failed five) ends.halted in
      (ap (λ (c : Core D E C). (c.parts).disk) both.0, both.1);
  serves = ends.serves;
  later = ends.later;
  leaves = ends.crash;
  wanting = ends.wanting;
  fits = λ five none. (has five none).fits;
  saved = λ five none. (has five none).content;
}
  where
    has : has_kind 5 order ≡ false → not_saved ≡ None → HasSaved d old new
    has five is = subst (λ o. OnOk (saving_of o) (HasSaved d old new)) is (ends.saved (calm five))

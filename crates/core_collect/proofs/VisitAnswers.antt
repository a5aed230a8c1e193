-- What visits leave of disk, book and plan.
use Rattle.disk_trait.specs.declared.disk.Disk.{Ghosts}
use Rattle.std.proofs.Common.{◌≡◌, inl, inr, ℕ, Bool, true, false, List, [], ◌∷◌, Some, None, Result, Ok, Err, refl, sym, subst, ap, ◌∙◌, arith, true≢false}
use Rattle.std.specs.Prelude.{IsErr, IsErrOf, OnOk, is_err, is_ok}
use Rattle.std.specs.FinMap.{get, remove}
use Rattle.disk_trait.specs.Disk.{MayGo, Steps}
use Rattle.disk_trait.specs.Effects.{LeavesBy, LeavesSame, OnlyReads, StepsOn}
use Rattle.disk_trait.specs.Files.{Files}
use Rattle.disk_trait.specs.Runs.{leaves_as, serves_as, step_after}
use Rattle.disk_trait.specs.declared.disk.DiskError.{DiskError}
use Rattle.disk_trait.specs.declared.disk.DiskError.TheVariants.{NoMemory, Failed}
use Rattle.store_types.specs.declared.names.Digest32.{Digest32}
use Rattle.store_files.specs.Book.{Book}
use Rattle.store_files.specs.Folder.{chunk_name}
use Rattle.atime_book.specs.Touches.{SweptAt}
use Rattle.snapshot_files.specs.Forgotten.{MayLose}
use Rattle.snapshot_files.proofs.Losing.{loses_one}
use Rattle.gc_plan.specs.Plan.{Plan, next_visit, visited, with_removal}
use Rattle.core_state.specs.Changes.{drops, stays}
use Rattle.core_state.specs.Entries.{FitsPages}
use Rattle.core_collect.specs.Visiting.{DropsFirst, IsListed, ListsPlan, VisitedFirst, VisitsNext, VisitsOne, goes}
use Rattle.core_collect.proofs.Fitting.{first_fits}
use Rattle.core_collect.proofs.VisitLemmas.{goes_so, visited_less}

-- ---- results

pub ok_error : false ≡ true → ⊥
ok_error e = true≢false (sym e)

pub on_error : {A E : Type 0} (r : Result A E) (P : Type 0) → IsErr r → OnOk r P
on_error (Ok x) P e = absurd (ok_error e)
on_error (Err error) P e = tt

pub ok_apart : {A E : Type 0} (x : A) (error : E) → ◌≡◌ {A = Result A E} (Ok x) (Err error) → ⊥
ok_apart x error e = cc

failed_apart : (r : Result (Unit {0}) DiskError) → r ≡ Err Failed → r ≡ Err NoMemory → ⊥
failed_apart r is other = cc

pub is_error : {A E : Type 0} (r : Result A E) (error : E) → r ≡ Err error → IsErr r
is_error r error is = ap is_err is

-- ---- one chunk

module _ {D : Type 0} (d : Ghosts D) where
  pub visits_fresh : {E : Type 0} (disk : D) (book : Book) (p : Plan) (digest : Digest32) → goes book p digest ≡ false → VisitsOne {E = E} d disk disk book book p p digest (Ok tt)
  visits_fresh disk book p digest fresh = record {
    stays = λ no. (refl, refl, refl, refl);
    crash = λ stale. absurd (true≢false (sym stale ∙ fresh));
    dropped = λ stale. absurd (true≢false (sym stale ∙ fresh));
    taken = λ stale. absurd (true≢false (sym stale ∙ fresh));
    failed = λ e. absurd (ok_error e);
  }

  pub visits_taken : {E : Type 0} (old new : D) (before after_ : Book) (p q : Plan) (digest : Digest32) → goes before p digest ≡ true → StepsOn d old new (MayGo (chunk_name digest.0))
      → (d.honest old → d.content new ≡ remove (d.content old) (chunk_name digest.0)) → SweptAt before after_ digest.0 true → q ≡ with_removal p
      → VisitsOne {E = E} d old new before after_ p q digest (Ok tt)
  visits_taken old new before after_ p q digest stale crash dropped swept plan_is = record {
    stays = λ fresh. absurd (true≢false (sym stale ∙ fresh));
    crash = λ _. crash;
    dropped = λ _. dropped;
    taken = λ _. (swept, plan_is);
    failed = λ e. absurd (ok_error e);
  }

  pub visits_failed : {E : Type 0} (old new : D) (book : Book) (p : Plan) (digest : Digest32) (r : Result (Unit {0}) E) → IsErr r → goes book p digest ≡ true
      → StepsOn d old new (MayGo (chunk_name digest.0)) → VisitsOne d old new book book p p digest r
  visits_failed old new book p digest r failed stale crash = record {
    stays = λ fresh. absurd (true≢false (sym stale ∙ fresh));
    crash = λ _. crash;
    dropped = λ _ honest. on_error r _ failed;
    taken = λ _. on_error r _ failed;
    failed = λ _. (refl, refl);
  }

  -- ---- the list

  pub reads_so : (old new : D) (F G : Type 0) → OnlyReads d old new F → (G → F) → OnlyReads d old new G
  reads_so old new F G reads why = record { serves = serves_as d.honest d.faults old new F G reads.serves why; crash = reads.crash; same = reads.same }

  pub lists_failed : (old new : D) (p : Plan) (F : Type 0) (r : Result (Unit {0}) DiskError) → IsErr r → OnlyReads d old new F → (IsErrOf r Failed → F) → ListsPlan d old new p p r
  lists_failed old new p F r failed reads why = record {
    reads = reads_so old new F (IsErrOf r Failed) reads why;
    listed = on_error r _ failed;
    failed = λ _. refl;
  }

  -- ---- the next visit

  -- one name may be gone
  lost_stays : (names : List (List ℕ)) (b c : Files) → c ≡ b → MayLose names b c
  lost_stays names b c same q = inl (ap (λ (m : Files). get m q) same)

  lost_here : (name : List ℕ) (b x c : Files) → x ≡ b → MayGo name x c → MayLose (name ∷ []) b c
  lost_here name b x c same go = subst (λ (m : Files). MayLose (name ∷ []) m c) same (loses_one (name ∷ []) name x c (0, omega arith, refl) go)

  reads_then_goes : (old mid new : D) (name : List ℕ) → LeavesSame d old mid → StepsOn d mid new (MayGo name) → LeavesBy d old new (MayLose (name ∷ []))
  reads_then_goes old mid new name (inl e) two =
      inr (subst (λ (x : D). Steps d.calls d.images x new (MayLose (name ∷ []))) e (leaves_as two (λ c x. (x.0, x.1, lost_here name x.0 x.0 c refl x.2))))
  reads_then_goes old mid new name (inr one) two =
      inr (step_after (MayLose (name ∷ [])) one two (λ b c same. lost_stays (name ∷ []) b c same) (λ b x c same go. lost_here name b x c same go))

module _ {D : Type 0} (d : Ghosts D) (old mid : D) (book : Book) (p listed : Plan) where
  -- the chunks were not listed
  pub next_unlisted : (l r : Result (Unit {0}) DiskError) → ListsPlan d old mid p listed l → IsErr l → IsErr r → VisitsNext d old mid book book p listed r
  next_unlisted l r lists unlisted failed = record {
    fits = λ pages fits. subst (λ x. FitsPages x pages) (sym (lists.failed unlisted)) fits;
    change = stays;
    going = inl refl;
    crash = (lists.reads).crash;
    content = λ unfailed honest. (lists.reads).same honest;
    done = on_error r _ failed;
    want = λ wanting. (lists.failed unlisted, refl);
    unswept = λ _. refl;
    less = λ ahead. on_error r _ failed;
  }

  module _ (F : Type 0) (reads : OnlyReads d old mid F) (are : IsListed d old p listed) where
    -- none is left
    pub next_none : (q : Plan) → next_visit listed ≡ None → q ≡ visited listed → VisitsNext d old mid book book p q (Ok tt)
    next_none q none plan_is = record {
      fits = λ pages fits. first_fits pages d old p listed q are (inl plan_is) fits;
      change = stays;
      going = inl refl;
      crash = reads.crash;
      content = λ unfailed honest. reads.same honest;
      done = (listed, are, subst (VisitedFirst book book listed q stays) (sym none) (refl, plan_is, refl));
      want = λ wanting. absurd (ok_apart tt NoMemory wanting);
      unswept = λ e. absurd (ok_error e);
      less = λ ahead. visited_less d old p listed q ahead are (inl plan_is);
    }

    module _ (new : D) (after_ : Book) (behind q : Plan) (digest : Digest32) (first : next_visit listed ≡ Some digest) (behind_is : behind ≡ visited listed) where
      stale_listed : goes book behind digest ≡ true → goes book listed digest ≡ true
      stale_listed stale = goes_so book listed behind digest (ap (λ (x : Plan). x.cutoff) behind_is) stale

      fresh_listed : goes book behind digest ≡ false → goes book listed digest ≡ false
      fresh_listed fresh = subst (λ (x : Plan). goes book x digest ≡ false) behind_is fresh

      drops_first : goes book behind digest ≡ true → DropsFirst d old book p (drops (chunk_name digest.0 ∷ []))
      drops_first stale = record { listed = listed; digest = digest; is_listed = are; first = first; stale = stale_listed stale; change_is = refl }

      -- the disk failed as the chunk was to go
      pub next_failed : {E : Type 0} (v : Result (Unit {0}) E) (r : Result (Unit {0}) DiskError) → VisitsOne d mid new book after_ behind q digest v → IsErr v → r ≡ Err Failed
          → VisitsNext d old new book after_ p q r
      next_failed {E} v r visit unvisited is = by_goes (goes book behind digest) refl
        where
          ok_both : (x : Result (Unit {0}) E) → is_err x ≡ true → is_ok x ≡ true → ⊥
          ok_both (Ok y) bad good = true≢false (sym bad)
          ok_both (Err y) bad good = true≢false (sym good)

          by_goes : (b : Bool) → goes book behind digest ≡ b → VisitsNext d old new book after_ p q r
          by_goes false fresh = absurd (ok_both v unvisited ((visit.stays fresh).3))
          by_goes true stale = record {
            fits = λ pages fits. first_fits pages d old p listed q are (inl ((visit.failed unvisited).1 ∙ behind_is)) fits;
            change = drops (chunk_name digest.0 ∷ []);
            going = inr (drops_first stale);
            crash = reads_then_goes d old mid new (chunk_name digest.0) reads.crash (visit.crash stale);
            content = λ unfailed honest. absurd (unfailed is);
            done = on_error r _ (is_error r Failed is);
            want = λ wanting. absurd (failed_apart r is wanting);
            unswept = λ _. (visit.failed unvisited).0;
            less = λ ahead. on_error r _ (is_error r Failed is);
          }

      pub next_done : {E : Type 0} → VisitsOne {E = E} d mid new book after_ behind q digest (Ok tt) → VisitsNext d old new book after_ p q (Ok tt)
      next_done visit = by_goes (goes book behind digest) refl
        where
          by_goes : (b : Bool) → goes book behind digest ≡ b → VisitsNext d old new book after_ p q (Ok tt)
          by_goes false fresh =
              let same = visit.stays fresh in
              record {
                fits = λ pages fits. first_fits pages d old p listed q are (inl (same.2 ∙ behind_is)) fits;
                change = stays;
                going = inl refl;
                crash = subst (λ (x : D). LeavesSame d old x) (sym same.0) reads.crash;
                content = λ unfailed honest. ap d.content same.0 ∙ reads.same honest;
                done = (listed, are, subst (VisitedFirst book after_ listed q stays) (sym first) (inl (fresh_listed fresh, same.1, same.2 ∙ behind_is, refl)));
                want = λ wanting. absurd (ok_apart tt NoMemory wanting);
                unswept = λ e. absurd (ok_error e);
                less = λ ahead. visited_less d old p listed q ahead are (inl (same.2 ∙ behind_is));
              }
          by_goes true stale =
              let taken = visit.taken stale in
              let plan_is : q ≡ with_removal (visited listed) = taken.1 ∙ ap with_removal behind_is in
              record {
                fits = λ pages fits. first_fits pages d old p listed q are (inr plan_is) fits;
                change = drops (chunk_name digest.0 ∷ []);
                going = inr (drops_first stale);
                crash = reads_then_goes d old mid new (chunk_name digest.0) reads.crash (visit.crash stale);
                content = λ unfailed honest. visit.dropped stale ((reads.serves).kept.0 honest) ∙ ap (λ (m : Files). remove m (chunk_name digest.0)) (reads.same honest);
                done = (listed, are, subst (VisitedFirst book after_ listed q (drops (chunk_name digest.0 ∷ []))) (sym first) (inr (stale_listed stale, taken.0, plan_is, refl)));
                want = λ wanting. absurd (ok_apart tt NoMemory wanting);
                unswept = λ e. absurd (ok_error e);
                less = λ ahead. visited_less d old p listed q ahead are (inr plan_is);
              }

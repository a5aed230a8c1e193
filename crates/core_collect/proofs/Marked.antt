-- What a mark leaves shows the sweep of the history after its next mark.
use Rattle.disk_trait.specs.declared.disk.Disk.{Ghosts}
use Rattle.std.proofs.Common.{◌≡◌, ◌↔◌, ◌||◌, ℕ, max, Bool, true, false, cond, List, [], ◌∷◌, drop, map, option_map, Option, Some, None, Ok, IsSome, is_some, IsSomeAnd, Vec, Global, refl, sym, ap, subst, ◌∙◌}
use Rattle.std.specs.FinMap.{get}
use Rattle.std.specs.Str.{bytes_eq}
use Rattle.disk_trait.specs.Effects.{OnlyReads}
use Rattle.store_types.specs.declared.names.Digest32.{Digest32}
use Rattle.store_files.specs.Folder.{chunk_name}
use Rattle.store_model.specs.Store.{Store}
use Rattle.atime_book.specs.Present.{is_among}
use Rattle.gc_plan.specs.Plan.{is_over}
use Rattle.store_history.specs.LastTouches.{LastTouches, SameTouches, is_one_of, touched}
use Rattle.store_history.specs.Sweeping.{Sweep, Swept, Unmarked, is_done, next_marks, next_taken, passed, without}
use Rattle.core_state.specs.declared.collector.Collector.{Collector}
use Rattle.core_state.specs.declared.parts.Parts.{Parts}
use Rattle.core_state.specs.declared.upkeep.Upkeep.{Upkeep}
use Rattle.core_state.specs.Entries.{marked_in}
use Rattle.core_state.specs.Sweeps.{ShowsSweep}
use Rattle.core_state.specs.Unchanged.{SameKept}
use Rattle.core_state.specs.Upkeeps.{touches_kept}
use Rattle.core_state.proofs.Acting.{holds_same}
use Rattle.core_collect.specs.Beside.{IsPresent, StandsBeside}
use Rattle.core_collect.specs.Marking.{BeginsWith, FindsNext, MarksSome, all_of, behind_next}
use Rattle.core_collect.specs.Stepping.{IsTheSweeps}
use Rattle.core_collect.proofs.MarkLemmas.{marked_shows}

-- ---- which chunks

pub among_is : (q : List ℕ) (ds : List Digest32) → is_among q ds ≡ is_one_of q (map (λ (d : Digest32). d.0) ds)
among_is q [] = refl
among_is q (d ∷ ds) = ap (λ b. bytes_eq d.0 q || b) (among_is q ds)

touched_last : (which also : Bool) (when : ℕ) (a b : Option ℕ) → which ≡ also → a ≡ b
    → cond which (option_map (λ last. max last when) a) a ≡ cond also (option_map (λ last. max last when) b) b
touched_last which also when a b is same =
    ap (λ w. cond w (option_map (λ last. max last when) a) a) is ∙ ap (λ o. cond also (option_map (λ last. max last when) o) o) same

-- a touch leaves each chunk there
still_there : (which : Bool) (when : ℕ) (a : Option ℕ) → is_some (cond which (option_map (λ last. max last when) a) a) ≡ is_some a
still_there true when None = refl
still_there true when (Some last) = refl
still_there false when a = refl

-- ---- a mark

module _ {D : Type 0} (d : Ghosts D) (old new : Parts D) (u v : Upkeep) (c e f : Collector) (failed : Type 0) (moment : ℕ)
    (reads : OnlyReads d old.disk new.disk failed) (kept : SameKept old new) (digests : Vec Digest32 Global) (finds : FindsNext d old c e (Ok (Some digests))) (marks : MarksSome u.book v.book e f digests.items moment) (upkeep : v ≡ record u { book = v.book })
    (goes : c.ended ≡ None) (acts : ℕ) (s : Store) (w : Swept) (beside : StandsBeside d old u acts (Some c) s w.touches w.sweep) where
  -- as the sweep would be whose unmarked indexes are these
  abbrev touches_by : Sweep → List Unmarked → LastTouches
  touches_by sweep us = without (next_taken w sweep us) (touched (λ x. is_one_of x (next_marks us)) moment w.touches)

  abbrev StandsBy : Sweep → List Unmarked → Type 0
  StandsBy sweep us = StandsBeside d new v acts (Some f) s (touches_by sweep us) (Some (passed w sweep us))

  module _ (sweep : Sweep) (shown : ShowsSweep acts old.catalogue.listed s.snapshots e sweep) (b : BeginsWith old.catalogue.listed s.snapshots e digests.items sweep.unmarked) where
    abbrev first : Unmarked
    first = record { key = (b.kept).key; name = (b.index).name; digests = drop (marked_in (e.plan).stage) (all_of b.kept b.index s.snapshots) }

    abbrev us : List Unmarked
    us = first ∷ behind_next old.catalogue.listed s.snapshots e.plan

    which : (q : List ℕ) → is_among q digests.items ≡ is_one_of q (next_marks us)
    which q = among_is q digests.items ∙ ap (is_one_of q) b.digests_are

    touches : SameTouches (touches_kept v) (touches_by sweep us)
    touches = record {
      last = λ q.
          marks.touches q
          ∙ touched_last (is_among q digests.items) (is_one_of q (next_marks us)) moment ((touches_kept u).last q) (w.touches.last q) (which q) (beside.touches_are.last q);
      undated = λ q. ap (λ (x : Upkeep). is_among q x.undated.items) upkeep ∙ beside.touches_are.undated q;
    }

    present : IsPresent (d.content new.disk) (touches_by sweep us)
    present = subst (λ m. IsPresent m (touches_by sweep us)) (sym (reads.same beside.holds.honest)) (λ q is.
        let there : is_some ((touches_by sweep us).last q) ≡ is_some (w.touches.last q) = still_there (is_one_of q (next_marks us)) moment (w.touches.last q) in
        subst (λ t. IsSome (get (d.content old.disk) (chunk_name q)) ↔ (t ≡ true)) (sym there) (beside.present q is))

    stands : StandsBy sweep us
    stands = record {
      holds = holds_same d old new s reads.serves.kept reads.same kept beside.holds;
      touches_are = touches;
      present = present;
      shows = subst (λ q. ShowsSweep acts q s.snapshots f (passed w sweep us)) (sym kept.catalogue)
          (marked_shows old.catalogue.listed s.snapshots acts w sweep u.book v.book e f digests.items moment marks shown b);
    }

    not_over : is_done sweep.unmarked sweep.to_visit ≡ false
    not_over = ap (λ xs. is_done xs sweep.to_visit) b.begins

    is_next : StandsBy sweep sweep.unmarked
    is_next = subst (StandsBy sweep) (sym b.begins) stands

  by_sweep : (o : Option Sweep) → IsSomeAnd o (ShowsSweep acts old.catalogue.listed s.snapshots c)
      → IsSomeAnd o (λ sweep. (is_done sweep.unmarked sweep.to_visit ≡ false) × (f.ended ≡ None) × StandsBy sweep sweep.unmarked)
  by_sweep None none = none
  by_sweep (Some sweep) shown =
      let found = finds.shows acts s sweep beside.holds shown in
      (not_over sweep found.0 found.1, marks.ended ∙ finds.further.ended ∙ goes, is_next sweep found.0 found.1)

  tells : IsTheSweeps d new v acts f s w moment (Ok None)
  tells = by_sweep w.sweep beside.shows

-- the act of a mark is the next of the history's sweep
pub marked_tells : {D : Type 0} (d : Ghosts D) (old new : Parts D) (u v : Upkeep) (c e f : Collector) (failed : Type 0) (moment : ℕ)
    → OnlyReads d old.disk new.disk failed → SameKept old new → (digests : Vec Digest32 Global) → FindsNext d old c e (Ok (Some digests)) → MarksSome u.book v.book e f digests.items moment → v ≡ record u { book = v.book }
    → is_over c.plan ≡ false → c.ended ≡ None → (acts : ℕ) (s : Store) (w : Swept) → StandsBeside d old u acts (Some c) s w.touches w.sweep
    → IsTheSweeps d new v acts f s w moment (Ok None)
marked_tells d old new u v c e f failed moment reads kept digests finds marks upkeep over goes acts s w beside =
    tells d old new u v c e f failed moment reads kept digests finds marks upkeep goes acts s w beside

-- What the acts of a run did, from what each did to the core.
use Rattle.disk_trait.specs.declared.disk.Disk.{Ghosts}
use Rattle.std.proofs.Common.{◌≡◌, ◌⊎◌, inl, inr, ℕ, Bool, true, false, ◌||◌, ◌==◌, if◌then◌else◌, List, [], ◌∷◌, length, Option, None, refl, sym, ap, subst, ◌∙◌}
use Rattle.std.specs.Prelude.{is_some}
use Rattle.port_traits.specs.declared.clock.Clock as clocks
use Rattle.store_types.specs.declared.order.TheConstants.{FAULT_KIND}
use Rattle.store_model.specs.Weave.{first_fault}
use Rattle.atime_book.specs.Touches.{as_of}
use Rattle.store_history.specs.declared.act.Event.{Event}
use Rattle.store_history.specs.Answered.{fault_after}
use Rattle.store_history.specs.History.{kind, moment, reply}
use Rattle.core_state.specs.declared.parts.Parts.{Parts}
use Rattle.core_state.specs.declared.state.Core.{Core}
use Rattle.core_state.specs.declared.upkeep.Upkeep.{Upkeep}
use Rattle.core_state.specs.Changes.{Change, by_reply}
use Rattle.core_state.specs.Commands.{calls_no_disk, change_at, is_step}
use Rattle.core_state.specs.Kept.{kept_at}
use Rattle.core_state.specs.Passes.{MayChange}
use Rattle.core_state.specs.Upkeeps.{touches_kept}
use Rattle.shared_store.specs.Applied.{HasApplied}
use Rattle.shared_store.specs.Comes.{WasDone, WereDone}
use Rattle.pbs_server.specs.ActByAct.{ActLeaves, AllLeave, IsChange}
use Rattle.pbs_server.proofs.BookSaved.{first_some, halted_by, none_is}

true_false : true ≡ false → ⊥
true_false e = cc

clash : {P : Type 0} (b : Bool) → b ≡ true → b ≡ false → P
clash b is differs = absurd (true_false (sym is ∙ differs))

-- after an entry of a fault the disk has failed
failed_on : (place k : ℕ) (o : Option ℕ) → ((k == FAULT_KIND) || is_some o) ≡ is_some (fault_after place k o)
failed_on place k o = by_test (k == FAULT_KIND)
  where
    by_test : (b : Bool) → (b || is_some o) ≡ is_some (if b then first_fault place o else o)
    by_test true = sym (first_some place o)
    by_test false = refl

module _ {D E C : Type 0} (d : Ghosts D) (e : Ghosts E) (clock : clocks.Ghosts C) where
  module _ (old new : Core D E C) (v : Event) (lane : ℕ) (failed : Bool) (is : failed ≡ is_some old.fault) (x : HasApplied d e clock old new lane v.act v.answer)
      (calls : v.calls ≡ d.calls (new.parts).disk) where
    abbrev Left : Type 0
    Left = ActLeaves d failed (old.parts).disk (touches_kept old.upkeep) v (new.parts).disk (touches_kept new.upkeep)

    none : failed ≡ false → old.fault ≡ None
    none calm = none_is old.fault (sym is ∙ calm)

    uncalled : (calls_no_disk v.act ≡ true) ⊎ (failed ≡ true) → (new.parts).disk ≡ (old.parts).disk
    uncalled (inl makes_none) = (x.keeps).no_disk_call makes_none
    uncalled (inr has) = halted_by old.fault (sym is ∙ has) (x.keeps).halted

    passed : (change : Change) → is_step v.act ≡ true → MayChange old lane (moment v) (kind v) change → IsChange v (touches_kept old.upkeep) change
    passed change step (inl same) = inr (step, inl same)
    passed change step (inr (inl takes)) = inr (step, inr (inl ((takes.1).digest, (takes.1).change_is)))
    passed change step (inr (inr saves)) = inr (step, inr (inr (as_of (moment v) (old.upkeep).book, refl, (λ q. refl), saves.1)))

    by_step : (b : Bool) → is_step v.act ≡ b → Left
    by_step false plain = record {
      calls_are = calls;
      serves = record { kept = ((x.applies).answers).kept; count = ((x.applies).answers).count; cause = λ met. ((x.applies).answers).cause met.1 (none met.0) };
      uncalled = uncalled;
      reads = (x.keeps).reads;
      change = by_reply (change_at old.parts lane v.act) (reply v);
      change_is = inl (plain, (kept_at old.parts lane, refl));
      content = λ calm unfailed honest. (x.keeps).content plain (none calm) unfailed honest;
      crash = (x.keeps).crash plain;
      touches = record {
        plainly = λ _. (x.keeps).upkeep plain;
        passes = λ step. clash (is_step v.act) step plain;
        untouched = λ step. clash (is_step v.act) step plain;
      };
    }
    by_step true step =
        let s = (x.keeps).stepped step in
        record {
          calls_are = calls;
          serves = record { kept = ((x.applies).answers).kept; count = ((x.applies).answers).count; cause = λ met. ((x.applies).answers).cause met.1 (none met.0) };
          uncalled = uncalled;
          reads = (x.keeps).reads;
          change = s.change;
          change_is = passed s.change step s.may_change;
          content = λ calm unfailed honest. s.content unfailed honest;
          crash = s.crash;
          touches = record {
            plainly = λ plain. clash (is_step v.act) step plain;
            passes = λ _. s.passes;
            untouched = λ _. s.untouched;
          };
        }

    act_leaves : Left
    act_leaves = by_step (is_step v.act) refl

    pub failed_next : ((kind v == FAULT_KIND) || failed) ≡ is_some new.fault
    failed_next =
        ap (λ b. (kind v == FAULT_KIND) || b) is ∙ failed_on (length (old.journal).entries.items) (kind v) old.fault
        ∙ ap is_some (sym ((x.applies).answers).fault)

  -- with the room that was made before
  was_done : (old new : Core D E C) (v : Event) (failed : Bool) → failed ≡ is_some old.fault → WasDone d e clock old v new
      → ActLeaves d failed (old.parts).disk (touches_kept old.upkeep) v (new.parts).disk (touches_kept new.upkeep)
  was_done old new v failed is done =
      subst (λ (p : Parts D). ActLeaves d failed p.disk (touches_kept old.upkeep) v (new.parts).disk (touches_kept new.upkeep)) (done.room).parts
      (subst (λ (u : Upkeep). ActLeaves d failed ((done.found).parts).disk (touches_kept u) v (new.parts).disk (touches_kept new.upkeep)) (done.room).upkeep
      (act_leaves done.found new v done.lane failed (is ∙ ap is_some (sym (done.room).fault)) done.applied done.calls_are))

  pub all_done : (old new : Core D E C) (es : List Event) (failed : Bool) → failed ≡ is_some old.fault → WereDone d e clock old es new
      → AllLeave d failed (old.parts).disk (touches_kept old.upkeep) es (new.parts).disk (touches_kept new.upkeep)
  all_done old new [] failed is same = (ap (λ (p : Parts D). p.disk) same.parts, ap touches_kept same.upkeep)
  all_done old new (v ∷ vs) failed is (next, done, more) = (
    (next.parts).disk,
    touches_kept next.upkeep,
    was_done old next v failed is done,
    all_done next new vs ((kind v == FAULT_KIND) || failed)
        (failed_next done.found next v done.lane failed (is ∙ ap is_some (sym (done.room).fault)) done.applied done.calls_are) more,
  )

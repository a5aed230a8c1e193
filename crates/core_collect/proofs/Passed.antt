-- The next act of the lane's collector, by whether it is open, and its entry.
use Rattle.disk_trait.specs.declared.disk.Disk.{Ghosts}
use Rattle.std.proofs.Common.{◌≡◌, ℕ, true, false, Option, Some, None, IfSome, Err, refl, sym, ap, subst, ◌∙◌}
use Rattle.std.specs.Prelude.{IfErr}
use Rattle.store_types.specs.declared.refusal.Refusal.TheVariants.{WrongState}
use Rattle.wire_commands.specs.HasText.{ReplyHasText}
use Rattle.store_history.specs.declared.act.Act.TheVariants.{Step}
use Rattle.store_history.specs.declared.act.Answer.{Answer}
use Rattle.core_state.specs.declared.collector.Collector.{Collector}
use Rattle.core_state.specs.declared.entering.Place.{Place}
use Rattle.core_state.specs.declared.kept.Session.{Session}
use Rattle.core_state.specs.declared.parts.Parts.{Parts}
use Rattle.core_state.specs.declared.state.Core.{Core}
use Rattle.store_stops.specs.declared.stop.Stop.{Stop}
use Rattle.store_stops.specs.declared.stop.Stop.TheVariants as stops
use Rattle.core_state.specs.declared.upkeep.Upkeep.{Upkeep}
use Rattle.core_state.specs.Closing.{closes_by}
use Rattle.core_state.specs.Collectors.{is_cut, is_on}
use Rattle.core_state.specs.Settles.{Settles}
use Rattle.core_state.specs.States.{state_of}
use Rattle.core_state.specs.Stops.{told}
use Rattle.snapshot_files.specs.Reads.{StopHasText}
use Rattle.core_state.specs.Wanted.{session_at}
use Rattle.core_state.proofs.Texts.{disk_fault_has_text, no_memory_has_text}
use Rattle.core_collect.specs.Stepping.{CollectDoes, Outcome, PassDoes}
use Rattle.core_collect.proofs.Collected.{unrefused_text}
use Rattle.core_collect.proofs.Stepped.{uncut_ended}

true_false : true ≡ false → ⊥
true_false e = cc

some_same : {A : Type 0} (x y : A) → Some x ≡ Some y → x ≡ y
some_same x y e = cc

-- ---- by whether it is open on the lane

module _ {D : Type 0} (d : Ghosts D) where
  -- it is not
  pub is_refused : (old : Parts D) (u : Upkeep) (b : Option Collector) (at : Place) (result : Outcome) → is_on at.lane b ≡ false
      → result ≡ Err (stops.Refused (WrongState (state_of (session_at old at.lane)))) → IfErr result StopHasText → PassDoes d old old u u b b at result
  is_refused old u b at result off is text = record {
    refused = λ _. record { result_is = is; parts = refl; upkeep = refl; collector = refl };
    collects = λ x there on. absurd (true_false (sym on ∙ off));
    text = text;
  }

  -- it is
  pub collects_as : (old new : Parts D) (u v : Upkeep) (b : Option Collector) (x y : Collector) (at : Place) (result : Outcome) → b ≡ Some x → is_on at.lane b ≡ true
      → CollectDoes d old new u v x y at result → PassDoes d old new u v b (Some y) at result
  collects_as old new u v b x y at result is on does = record {
    refused = λ off. absurd (true_false (sym on ∙ off));
    collects = λ z there _. subst (λ q. CollectDoes d old new u v q y at result) (some_same x z (sym is ∙ there)) does;
    text = unrefused_text result does.unrefused;
  }

pub goes_uncut : (lane : ℕ) (b : Option Collector) (x : Collector) → b ≡ Some x → is_on lane b ≡ true → is_cut lane b ≡ false → x.ended ≡ None
goes_uncut lane b x is on uncut = uncut_ended lane x (sym (ap (is_on lane) is) ∙ on) (sym (ap (is_cut lane) is) ∙ uncut)

pub never_none : (lane : ℕ) (b : Option Collector) → b ≡ None → is_on lane b ≡ true → ⊥
never_none lane b is on = true_false (sym on ∙ ap (is_on lane) is)

-- ---- its entry

-- what stopped it has a spelling, as it is entered
pub settled_text : {D E C : Type 0} (d : Ghosts D) (old new : Core D E C) (lane m : ℕ) (stop : Stop) (answer : Answer) → StopHasText stop → Settles d old new lane m (told (Err stop)) answer
    → IfSome answer.reply ReplyHasText
settled_text d old new lane m (stops.Refused refusal) answer text e = subst (λ r. IfSome r ReplyHasText) (sym e.reply_is) text
settled_text d old new lane m stops.NoMemory answer text e = subst (λ r. IfSome r ReplyHasText) (sym e.reply_is) no_memory_has_text
settled_text d old new lane m stops.DiskFailed answer text e = subst (λ r. IfSome r ReplyHasText) (sym e.reply_is) disk_fault_has_text

-- it ends no session
pub closes_no_session : (fault : Option ℕ) (x : Session) → closes_by fault Step x ≡ false
closes_no_session None x = refl
closes_no_session (Some first) x = refl

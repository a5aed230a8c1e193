-- An act of a collector after its start, by how it ended.
use Rattle.disk_trait.specs.declared.disk.Disk.{Ghosts}
use Rattle.std.proofs.Common.{◌≡◌, ◌↔◌, ◌⊎◌, ⊎_elim, ◌<◌, ◌≤◌, ◌==◌, ◌&&◌, ℕ, Bool, true, false, is_some, length, [], ◌∷◌, Option, Some, None, IfSome, IsTrue, Ok, Err, inl, inr, refl, sym, ap, subst, ◌∙◌, arith}
use Rattle.std.specs.Prelude.{IsErrOf, IsSomeAnd}
use Rattle.std.specs.FinMap.{get}
use Rattle.std.specs.Option.{IsSome}
use Rattle.std.proofs.lemmas.Bool.{eqb-true}
use Rattle.disk_trait.specs.Disk.{Rose}
use Rattle.port_traits.specs.declared.clock.Clock as clocks
use Rattle.store_types.specs.declared.refusal.Refusal.TheVariants as refusals
use Rattle.store_types.specs.declared.names.Digest32.{Digest32}
use Rattle.store_types.specs.declared.order.TheConstants.{COMMAND_KIND, PART_KIND, MEMORY_KIND, STOP_KIND, FAULT_KIND}
use Rattle.store_files.specs.Book.{Book, FitsBook, book_text}
use Rattle.store_files.specs.Folder.{chunk_name}
use Rattle.wire_commands.specs.HasText.{ReplyHasText}
use Rattle.wire_commands.specs.declared.reply.Reply.{Reply}
use Rattle.wire_commands.specs.declared.reply.Reply.TheVariants.{Refused}
use Rattle.store_model.specs.Weave.{first_fault}
use Rattle.atime_book.specs.Touches.{NoneAfter, as_of}
use Rattle.gc_plan.specs.declared.GcReport.{GcReport}
use Rattle.store_history.specs.declared.act.Act.TheVariants.{Step}
use Rattle.store_history.specs.declared.act.Answer.{Answer}
use Rattle.store_history.specs.Acts.{sweeping}
use Rattle.store_history.specs.History.{kind_of, open_on}
use Rattle.store_history.specs.LastTouches.{SameTouches, dated}
use Rattle.store_history.specs.Legal.{Reports as ReportsEnd}
use Rattle.store_history.specs.Sweeping.{EndsSweep, FitsSweep, Sweep, is_over, passed, report_of}
use Rattle.core_state.specs.declared.collector.Collector.{Collector}
use Rattle.core_state.specs.declared.collector.Early.{Early}
use Rattle.core_state.specs.declared.collector.Early.TheVariants as earlies
use Rattle.core_state.specs.declared.entering.Admitted.TheVariants.{Answered}
use Rattle.core_state.specs.declared.entering.Place.{Place}
use Rattle.core_state.specs.declared.state.Core.{Core}
use Rattle.store_stops.specs.declared.stop.Stop.TheVariants as stops
use Rattle.core_state.specs.declared.upkeep.Upkeep.{Upkeep}
use Rattle.core_state.specs.Answers.{StepHasCause, done, failed, halted, short, step_as_any, step_ends, step_passes}
use Rattle.store_history.specs.Answered.{fault_after}
use Rattle.core_state.specs.Applies.{ActApplies, ActKeeps}
use Rattle.core_state.specs.Begins.{AdmittedHasText, IsBegun, IsNext, IsReady, IsShort, Refuses, short as is_out_of_memory, halted as is_halted}
use Rattle.core_state.specs.Changes.{Change, LeavesChange, after, drops, stays}
use Rattle.store_history.specs.ChunkFiles.{HoldsOnly}
use Rattle.core_state.specs.Collectors.{OpenOn, closed_on, cut_on, is_cut, is_on, open_in, refusal_of, shown_collecting}
use Rattle.core_state.specs.Entering.{held_by}
use Rattle.core_state.specs.History.{History, StandsFor, event_of, pieces_of, then_event, world}
use Rattle.core_state.specs.Holds.{IsOnDisk}
use Rattle.core_state.specs.KeepsTouches.{KeepsTouches, swept_of, touches_of_history}
use Rattle.core_state.specs.Passes.{MayChange, PassTouches, Takes}
use Rattle.store_history.specs.Replies.{may_end}
use Rattle.core_state.specs.Reserved.{StepKeeps}
use Rattle.core_state.specs.Settles.{IsEntered}
use Rattle.core_state.specs.States.{state_of}
use Rattle.core_state.specs.Sweeps.{ShowsOpen}
use Rattle.core_state.specs.Unchanged.{SameKept, Unchanged}
use Rattle.core_state.specs.Upkeeps.{touches_kept}
use Rattle.core_state.specs.Wanted.{session_at}
use Rattle.core_state.proofs.Answering.{untouched}
use Rattle.core_state.proofs.Calls.{later}
use Rattle.core_state.proofs.Clocks.{entered_for, next_begun}
use Rattle.core_state.proofs.ForeignLemmas.{no_fault_before}
use Rattle.core_state.proofs.LaterPlans.{WasOpen, closed_open, was_open}
use Rattle.core_state.proofs.Reserves.{step_keeps_cut, step_keeps_filled, step_keeps_short}
use Rattle.core_state.proofs.Acting.{plain_of}
use Rattle.core_state.proofs.Stepped.{IsStepped, acted_stepped, begun_stepped, closed_step_stands, ended_shown, failed_step_stands, going_shown, halted_step_stands, passed_step_stands, refused_step_stands, short_step_stands}
use Rattle.core_state.proofs.SteppedImages.{SparesStored, stays_spare}
use Rattle.core_state.proofs.SteppedTouches.{passed_keeps, unpassed_keeps}
use Rattle.core_state.proofs.Stepping.{faulted_closed, faulted_entered, step_applies, step_keeps, unfaulted_entered, unfaulted_same}
use Rattle.core_state.proofs.Texts.{no_memory_has_text}
use Rattle.core_state.proofs.Touching.{same_touches}
use Rattle.core_state.proofs.Unchanging.{same_unchanged}
use Rattle.core_collect.specs.Beside.{StandsBeside, passed_touches}
use Rattle.core_collect.specs.Calls.{OpenCalls}
use Rattle.core_collect.specs.Ending.{Reports, TellsEarly, early_in, halts_early, replies_early, report_reply}
use Rattle.core_collect.specs.Marking.{next_unreadable}
use Rattle.core_collect.specs.Passing.{CoreFails, CorePasses, EndsWhole, FailsByPlan, PassesOrEnds}
use Rattle.core_collect.specs.Stepping.{CollectDoes, EntersPass, GoesOn, IsAlone, IsTheSweeps, KeepsOthers, Outcome, PassDoes, StepTells, TakesNext, has_passed, not_begun, path_ended}
use Rattle.core_collect.specs.Stepping as stepping
use Rattle.core_collect.specs.Visiting.{goes}
use Rattle.core_collect.proofs.Losing.{MayPass, spared_stands}
use Rattle.core_collect.proofs.Stepped.{Collects, HasChanged, OnLane, collects_closed, collects_cut, collects_faulted, collects_off, collects_passed, collects_short, none_later, not_here, on_closed, on_lane, only_after, open_here, step_leaves, uncut_ended}
use Rattle.core_collect.proofs.Sweepable.{sweepable}

true_false : true ≡ false → ⊥
true_false e = cc

none_some : {A : Type 0} (x : A) → None ≡ Some x → ⊥
none_some x e = cc

some_none : {A : Type 0} (x : A) → Some x ≡ None → ⊥
some_none x e = cc

some_same : {A : Type 0} (x y : A) → Some x ≡ Some y → x ≡ y
some_same x y e = cc

-- there is one, of which it is said
there : {A : Type 0} (P : A → Type 0) (o : Option A) → IsSomeAnd o P → (x : A) × (o ≡ Some x) × P x
there P None said = absurd said
there P (Some x) said = (x, refl, said)

-- what an act after its start promises
pub record IsRightStep {D E C : Type 0} (d : Ghosts D) (clock : clocks.Ghosts C) (old new : Core D E C) (lane : ℕ) (answer : Answer) : Type 0 where
  pub applies : ActApplies d clock old new lane Step answer
  pub keeps : ActKeeps d old new lane Step answer
  pub told : StepTells d old new lane answer

-- no entry that tells anything of its own
tells_none : {D E C : Type 0} (d : Ghosts D) (old new : Core D E C) (lane n : ℕ) (answer : Answer) → (answer.entry).kind ≡ n → (n ≡ 2) ⊎ ((n ≡ 5) × IsSome old.fault) → StepTells d old new lane answer
tells_none d old new lane n answer is none = record {
  refused = λ zero. absurd (other 0 (λ e. omega (arith, e)) (λ e. omega (arith, e)) (sym is ∙ zero));
  open_alone = λ _. subst (IsAlone old.fault) (sym is) (inr none);
  passes = λ _ one. absurd (other 1 (λ e. omega (arith, e)) (λ e. omega (arith, e)) (sym is ∙ one));
  failed = λ _ five unfailed. absurd (before (sym is ∙ five) unfailed);
  ends = λ _ four. absurd (other 4 (λ e. omega (arith, e)) (λ e. omega (arith, e)) (sym is ∙ four));
  reports = λ _ four. absurd (other 4 (λ e. omega (arith, e)) (λ e. omega (arith, e)) (sym is ∙ four));
  fits = λ _ four. absurd (other 4 (λ e. omega (arith, e)) (λ e. omega (arith, e)) (sym is ∙ four));
  unread = λ _ one. absurd (other 1 (λ e. omega (arith, e)) (λ e. omega (arith, e)) (sym is ∙ one));
  calls = λ _ one. absurd (other 1 (λ e. omega (arith, e)) (λ e. omega (arith, e)) (sym is ∙ one));
}
  where
    other : (k : ℕ) → (2 ≡ k → ⊥) → (5 ≡ k → ⊥) → n ≡ k → ⊥
    other k two five same = ⊎_elim {C = ⊥} (λ (is_two : n ≡ 2). two (sym is_two ∙ same)) (λ (is_five : (n ≡ 5) × IsSome old.fault). five (sym is_five.0 ∙ same)) none

    before : n ≡ 5 → old.fault ≡ None → ⊥
    before five unfailed = ⊎_elim {C = ⊥} (λ (is_two : n ≡ 2). omega (arith, is_two, five)) (λ (is_five : (n ≡ 5) × IsSome old.fault). true_false (sym is_five.1 ∙ ap is_some unfailed)) none

-- the entry's kind and lane fit the sweep, where this kind and lane do
fits_as : (h : History) (k n : ℕ) (answer : Answer) → (answer.entry).lane ≡ k → (answer.entry).kind ≡ n → FitsSweep (world h) (swept_of h) k answer.reply sweeping (kind_of n)
    → FitsSweep (world h) (swept_of h) (answer.entry).lane answer.reply sweeping (kind_of (answer.entry).kind)
fits_as h k n answer lane kind fits =
    subst (λ l. FitsSweep (world h) (swept_of h) l answer.reply sweeping (kind_of (answer.entry).kind)) (sym lane)
    (subst (λ x. FitsSweep (world h) (swept_of h) k answer.reply sweeping (kind_of x)) (sym kind) fits)

-- ---- the disk was not called

module _ {D E C : Type 0} (d : Ghosts D) (clock : clocks.Ghosts C) (old mid new : Core D E C) (lane m n : ℕ) (r : Reply) (answer : Answer) (c : Option Collector)
    (begun : IsBegun clock.readings old mid lane m) (fault : mid.fault ≡ fault_after (length (old.journal).entries.items) n old.fault) (entered : IsEntered d (record mid { collector = c }) new lane m n (Some r) answer)
    (other0 : n ≡ 0 → ⊥) (other1 : n ≡ 1 → ⊥) (ended : n ≡ 4 → is_cut lane old.collector ≡ true) (faulted : n ≡ 5 → old.fault ≡ None → ⊥) where
  abbrev acted : Core D E C
  acted = record mid { collector = c }

  stepped : IsStepped d clock.readings old acted new lane m n (Some r) answer
  stepped = begun_stepped d clock.readings old mid new lane m n (Some r) answer c begun fault faulted entered

  same : (mid.parts).disk ≡ (old.parts).disk
  same = ap (λ p. p.disk) begun.parts

  abbrev changed : HasChanged d old acted lane m n (Some r)
  changed = record {
    change = stays;
    may_change = inl refl;
    content = λ _ _. ap d.content same;
    crash = inl same;
    saves = λ four uncut. absurd (true_false (sym (ended four) ∙ uncut));
    closes_only = λ _. same;
    passes = λ one. absurd (other1 one);
    untouched = λ _. begun.upkeep;
    early = λ early. subst (λ u. NoneAfter u.book m) (sym begun.upkeep) (none_later (old.upkeep).book old.last m (begun.clock).risen early);
    refused = λ zero. absurd (other0 zero);
  }

  honest : (h : History) → StandsFor d clock.readings old h → d.honest (mid.parts).disk
  honest h s = subst d.honest (sym same) s.honest

  on_disk : (h : History) → StandsFor d clock.readings old h → (world h).fault ≡ None → IsOnDisk (d.content (mid.parts).disk) (world h).store × HoldsOnly (d.content (mid.parts).disk) (pieces_of h)
  on_disk h s none = subst (λ x. IsOnDisk (d.content x) (world h).store × HoldsOnly (d.content x) (pieces_of h)) (sym same) (s.files none, s.chunks none)

  -- its book and its plan
  touches : ((y : Collector) → new.collector ≡ Some y → WasOpen old.collector y)
      → ((h : History) → StandsFor d clock.readings old h → FitsSweep (world h) (swept_of h) lane answer.reply sweeping (kind_of n))
      → (h : History) → StandsFor d clock.readings old h → KeepsTouches d old h → StandsFor d clock.readings new (then_event h (event_of Step answer (d.calls (new.parts).disk)))
      → KeepsTouches d new (then_event h (event_of Step answer (d.calls (new.parts).disk)))
  touches was fits h s kept so =
      unpassed_keeps d clock.readings old acted new h lane m n (Some r) answer stepped so kept other1
      (subst (λ u. SameTouches (touches_kept u) (touches_kept old.upkeep)) (sym begun.upkeep) (same_touches (touches_kept old.upkeep)))
      (λ none x digest. subst (λ q. IsSome (get (d.content q) (chunk_name x)) ↔ IsSome ((touches_of_history h).last x)) (sym same)
      (kept.present (no_fault_before (length (old.journal).entries.items) n old.fault (sym fault ∙ sym entered.fault ∙ none)) x digest))
      old.collector kept.sweep was
      (fits_as h lane n answer (ap (λ x. x.lane) entered.entry) (ap (λ x. x.kind) entered.entry) (fits h s))

  uncalled : ReplyHasText r → StepHasCause d old new Step answer → StepKeeps old new lane answer → Collects n lane old.collector new.collector
      → ((h : History) → StandsFor d clock.readings old h → IsStepped d clock.readings old acted new lane m n (Some r) answer → d.honest (mid.parts).disk
      → ((world h).fault ≡ None → IsOnDisk (d.content (mid.parts).disk) (world h).store × HoldsOnly (d.content (mid.parts).disk) (pieces_of h)) → StandsFor d clock.readings new (then_event h (event_of Step answer (d.calls (new.parts).disk))))
      → ((y : Collector) → new.collector ≡ Some y → WasOpen old.collector y)
      → ((h : History) → StandsFor d clock.readings old h → FitsSweep (world h) (swept_of h) lane answer.reply sweeping (kind_of n))
      → StepTells d old new lane answer → IsRightStep d clock old new lane answer
  uncalled text cause reserve collects stands was fits told =
      let leaves = step_leaves d clock.readings old acted new lane m n (Some r) answer stepped changed collects in record {
        applies = step_applies d clock old acted new lane m n (Some r) answer stepped text cause leaves.0 (λ h s kept. stands h s stepped (honest h s) (on_disk h s)) (touches was fits)
            (λ h s kept none. stays_spare (leaves.0).change (d.content (old.parts).disk) (world h) leaves.1);
        keeps = step_keeps d clock old acted new lane m n (Some r) answer stepped (same_unchanged d old.parts mid.parts r begun.parts) leaves.0 reserve;
        told = told;
      }

-- ---- an act that was not begun, and the end of a collector that was ended early

first_true : (a b : Bool) → a && b ≡ true → a ≡ true
first_true true b is = refl
first_true false b is = absurd (true_false (sym is))

-- the collector that was ended early
record WasEnded (lane : ℕ) (c : Option Collector) (early : Early) : Type 0 where
  pub was : Collector
  pub open_is : c ≡ Some was
  pub on : is_on lane (Some was) ≡ true
  pub ended : was.ended ≡ Some early

was_ended : (lane : ℕ) (c : Option Collector) (early : Early) → is_cut lane c ≡ true → early_in c ≡ Some early → WasEnded lane c early
was_ended lane None early cut has = absurd (true_false (sym cut))
was_ended lane (Some x) early cut has = record { was = x; open_is = refl; on = first_true (x.lane == lane) (is_some x.ended) cut; ended = has }

pub cut_is_on : (lane : ℕ) (c : Option Collector) → is_cut lane c ≡ true → is_on lane c ≡ true
cut_is_on lane None cut = absurd (true_false (sym cut))
cut_is_on lane (Some x) cut = first_true (x.lane == lane) (is_some x.ended) cut

-- what ended it early may be replied by its end
may_early : (early : Early) → IsTrue (may_end (Refused (refusal_of early)))
may_early earlies.NoMemory = refl
may_early (earlies.Unreadable path) = refl

module _ {D E C : Type 0} (d : Ghosts D) (clock : clocks.Ghosts C) (old between new : Core D E C) (lane : ℕ) (answer : Answer) (inside : lane < 64) (closes : new ≡ faulted_closed lane (answer.entry).kind between) where
  -- memory was wanting
  short_step : is_cut lane old.collector ≡ false → IsShort d clock.readings old between lane answer → IsRightStep d clock old new lane answer
  short_step uncut is =
      let mid = is.between in
      let b = is.begun in
      let r : Reply = Refused refusals.NoMemory in
      let entered : IsEntered d mid new lane is.moment 2 (Some r) answer = unfaulted_entered d mid between new lane lane is.moment 2 (Some r) answer is.entered closes refl in
      let now : IsShort d clock.readings old new lane answer =
      subst (λ (x : Core D E C). IsShort d clock.readings old x lane answer) (sym (unfaulted_same d mid between new lane lane is.moment 2 (Some r) answer is.entered closes refl)) is in
      let collector : new.collector ≡ cut_on lane old.collector = entered.collector ∙ ap (cut_on lane) b.collector in
      let kind : (answer.entry).kind ≡ MEMORY_KIND = ap (λ x. x.kind) entered.entry in
      uncalled d clock old mid new lane is.moment 2 r answer mid.collector b b.fault entered
      (λ e. omega (arith, e)) (λ e. omega (arith, e)) (λ e. absurd (omega (arith, e))) (λ e. absurd (omega (arith, e)))
      no_memory_has_text (step_as_any (short kind entered.reply_is)) (step_keeps_short d clock.readings old new lane answer uncut now)
      (collects_cut lane old.collector new.collector uncut collector)
      (λ h s stepped honest has. short_step_stands d clock.readings old mid new h lane is.moment answer s inside honest stepped uncut (ap open_in b.collector) has)
      (λ y at. was_open 2 lane old.collector y (sym collector ∙ at))
      (λ h s. tt)
      (tells_none d old new lane 2 answer kind (inl refl))

  -- the disk failed before
  halted_by : (mid : Core D E C) (m first : ℕ) → old.fault ≡ Some first → IsBegun clock.readings old mid lane m → IsEntered d mid between lane m 5 (Some (Refused (refusals.Halted first))) answer
      → IfSome answer.reply ReplyHasText
      → (IsEntered d (record mid { collector = closed_on lane mid.collector }) new lane m 5 (Some (Refused (refusals.Halted first))) answer → StepKeeps old new lane answer)
      → IsRightStep d clock old new lane answer
  halted_by mid m first some b e text reserve =
      let r : Reply = Refused (refusals.Halted first) in
      let entered : IsEntered d (record mid { collector = closed_on lane mid.collector }) new lane m 5 (Some r) answer = faulted_entered d mid between new lane lane m (Some r) answer e closes in
      let collector : new.collector ≡ closed_on lane old.collector = entered.collector ∙ ap (closed_on lane) b.collector in
      let kind : (answer.entry).kind ≡ FAULT_KIND = ap (λ x. x.kind) entered.entry in
      uncalled d clock old mid new lane m 5 r answer (closed_on lane mid.collector) b (b.fault ∙ some ∙ ap (first_fault (length (old.journal).entries.items)) (sym some)) entered
      (λ e. omega (arith, e)) (λ e. omega (arith, e)) (λ e. absurd (omega (arith, e))) (λ _ none. some_none first (sym some ∙ none))
      (subst (λ x. IfSome x ReplyHasText) entered.reply_is text) (step_as_any (halted first some kind entered.reply_is)) (reserve entered)
      (collects_faulted lane old.collector new.collector collector)
      (λ h s stepped honest has. halted_step_stands d clock.readings old (record mid { collector = closed_on lane mid.collector }) new h lane m answer s inside honest first stepped some (ap (closed_on lane) b.collector))
      (λ y at. closed_open lane old.collector y (sym collector ∙ at))
      (λ h s. tt)
      (tells_none d old new lane 5 answer kind (inr (refl, ap is_some some)))

  refused_before : is_cut lane old.collector ≡ false → Refuses d clock.readings old between lane answer → AdmittedHasText (Answered answer) → IsRightStep d clock old new lane answer
  refused_before uncut (is_out_of_memory is) text = short_step uncut is
  refused_before uncut (is_halted is) text =
      halted_by is.between is.moment is.first is.fault is.begun is.entered text
      (λ entered. step_keeps_filled d clock.readings old is.between (record (is.between) { collector = closed_on lane (is.between).collector }) new lane is.moment 5 (Some (Refused (refusals.Halted is.first))) answer
      is.begun refl (is.whole, is.spare) uncut entered)

  -- it replies what ended the collector early
  early_step : (mid : Core D E C) (at : Place) (early : Early) → is_cut lane old.collector ≡ true → old.fault ≡ None → early_in old.collector ≡ Some early → IsNext clock.readings old mid lane at
      → IsEntered d (record mid { collector = None }) between lane at.moment 4 (Some (Refused (refusal_of early))) answer → IfSome answer.reply ReplyHasText → IsRightStep d clock old new lane answer
  early_step mid at early cut none has next e text =
      let r : Reply = Refused (refusal_of early) in
      let b : IsBegun clock.readings old mid lane at.moment = next_begun clock.readings old mid lane at next in
      let entered : IsEntered d (record mid { collector = None }) new lane at.moment 4 (Some r) answer =
      unfaulted_entered d (record mid { collector = None }) between new lane lane at.moment 4 (Some r) answer e closes refl in
      let collector : new.collector ≡ None = entered.collector in
      let kind : (answer.entry).kind ≡ STOP_KIND = ap (λ x. x.kind) entered.entry in
      let x : WasEnded lane old.collector early = was_ended lane old.collector early cut has in
      let shown : (h : History) → StandsFor d clock.readings old h → (open_on lane (world h).collecting ≡ Some true) × (early ≡ earlies.NoMemory) =
      λ h s. ended_shown lane x.was (world h).collecting early (ap open_in (sym x.open_is) ∙ s.collecting) x.on x.ended in
      uncalled d clock old mid new lane at.moment 4 r answer None b b.fault entered
      (λ e. omega (arith, e)) (λ e. omega (arith, e)) (λ _. cut) (λ e. absurd (omega (arith, e)))
      (subst (λ x. IfSome x ReplyHasText) entered.reply_is text) (step_ends none kind r entered.reply_is (may_early early))
      (step_keeps_cut d old (record mid { collector = None }) new lane at.moment 4 (Some r) answer next.journal (λ e. omega (arith, e)) cut entered)
      (collects_closed 4 lane old.collector new.collector (inl refl) (cut_is_on lane old.collector cut) collector)
      (λ h s stepped honest on_disk.
      closed_step_stands d clock.readings old (record mid { collector = None }) new h lane at.moment answer s inside honest (Some r) stepped none
      (subst (λ o. ReportsEnd o (Some r)) (sym (shown h s).0) (ap (λ q. Some (Refused (refusal_of q))) (shown h s).1)) refl (on_disk (sym s.fault ∙ none)))
      (λ y at. absurd (none_some y (sym collector ∙ at)))
      (λ h s. subst (λ o. EndsSweep (swept_of h) answer.reply o) (sym (shown h s).0) tt)
      (record {
        refused = λ zero. absurd (omega (arith, kind, zero));
        open_alone = λ off. absurd (true_false (sym (cut_is_on lane old.collector cut) ∙ off));
        passes = λ uncut. absurd (true_false (sym cut ∙ uncut));
        failed = λ uncut. absurd (true_false (sym cut ∙ uncut));
        ends = λ _ _. subst (λ o. IsSomeAnd o (λ q. answer.reply ≡ Some (Refused (refusal_of q)))) (sym has) entered.reply_is;
        reports = λ uncut. absurd (true_false (sym cut ∙ uncut));
        fits = λ uncut. absurd (true_false (sym cut ∙ uncut));
        unread = λ uncut. absurd (true_false (sym cut ∙ uncut));
        calls = λ uncut. absurd (true_false (sym cut ∙ uncut));
      })

  ended_early : is_cut lane old.collector ≡ true → TellsEarly d clock.readings old between lane answer → IfSome answer.reply ReplyHasText → IsRightStep d clock old new lane answer
  ended_early cut (replies_early mid at early none has next e) text = early_step mid at early cut none has next e text
  ended_early cut (halts_early mid at first some next e) text =
      halted_by mid at.moment first some (next_begun clock.readings old mid lane at next) e text
      (λ entered. step_keeps_cut d old (record mid { collector = closed_on lane mid.collector }) new lane at.moment 5 (Some (Refused (refusals.Halted first))) answer next.journal (λ e. omega (arith, e)) cut entered)

-- ---- an act that was done

abbrev opens : ℕ → Option Early → Option OpenOn
opens lane ended = Some (record { lane = lane; ended = ended })

some_more : {A : Type 0} (P Q : A → Type 0) (o : Option A) → ((x : A) → P x → Q x) → IsSomeAnd o P → IsSomeAnd o Q
some_more P Q None more said = absurd said
some_more P Q (Some x) more said = more x said

-- it takes a chunk out, or saves the book, or changes nothing
may_pass : (book : Book) (c : Collector) (m : ℕ) (change : Change) (result : Outcome) → stepping.MayChange book c m change result → MayPass change
may_pass book c m change (Ok None) (inl none) = inl none
may_pass book c m change (Ok None) (inr taken) = inr (inl (taken.0, taken.2))
may_pass book c m change (Ok (Some report)) saved = inr (inr (book_text (as_of m book), saved))
may_pass book c m change (Err stops.DiskFailed) (inl none) = inl none
may_pass book c m change (Err stops.DiskFailed) (inr (inl taken)) = inr (inl (taken.0, taken.2))
may_pass book c m change (Err stops.DiskFailed) (inr (inr saved)) = inr (inr (book_text (as_of m book), saved))
may_pass book c m change (Err stops.NoMemory) none = inl none
may_pass book c m change (Err (stops.Refused refusal)) none = inl none

module _ {D E C : Type 0} (d : Ghosts D) (clock : clocks.Ghosts C) (old mid acted between new : Core D E C) (lane : ℕ) (at : Place) (answer : Answer) (inside : lane < 64) (closes : new ≡ faulted_closed lane (answer.entry).kind between)
    (uncut : is_cut lane old.collector ≡ false) (ready : IsReady clock.readings old mid lane at.moment) (filled : (3 ≤ held_by mid.journal lane) × (0 < (mid.journal).spare)) (others : KeepsOthers mid acted)
    (text : IfSome answer.reply ReplyHasText) where
  abbrev m : ℕ
  m = at.moment

  abbrev b : IsBegun clock.readings old mid lane m
  b = ready.begun

  abbrev none : old.fault ≡ None
  none = ready.no_fault

  -- by what it was entered on
  finished : (n : ℕ) (reply : Option Reply) (on : Core D E C) → IsStepped d clock.readings old on new lane m n reply answer → (x : HasChanged d old on lane m n reply) → Collects n lane old.collector new.collector
      → StepHasCause d old new Step answer → StepKeeps old new lane answer → IfSome reply (Unchanged d old.parts on.parts)
      → ((h : History) → StandsFor d clock.readings old h → KeepsTouches d old h → StandsFor d clock.readings new (then_event h (event_of Step answer (d.calls (new.parts).disk))))
      → ((h : History) → StandsFor d clock.readings old h → KeepsTouches d old h → StandsFor d clock.readings new (then_event h (event_of Step answer (d.calls (new.parts).disk)))
      → KeepsTouches d new (then_event h (event_of Step answer (d.calls (new.parts).disk))))
      → ((h : History) → StandsFor d clock.readings old h → KeepsTouches d old h → SparesStored x.change (d.content (old.parts).disk) (world h))
      → StepTells d old new lane answer → IsRightStep d clock old new lane answer
  finished n reply on stepped x collects cause reserve unchanged stands touches spares told =
      let leaves = step_leaves d clock.readings old on new lane m n reply answer stepped x collects in record {
        applies = step_applies d clock old on new lane m n reply answer stepped (subst (λ r. IfSome r ReplyHasText) (stepped.entered).reply_is text) cause leaves.0 stands touches
            (λ h s kept _. subst (λ z. SparesStored z (d.content (old.parts).disk) (world h)) (sym leaves.1) (spares h s kept));
        keeps = step_keeps d clock old on new lane m n reply answer stepped unchanged leaves.0 reserve;
        told = told;
      }

  none_there : (h : History) → StandsFor d clock.readings old h → (world h).fault ≡ None
  none_there h s = sym s.fault ∙ none

  not_cut : {P : Type 0} → is_cut lane old.collector ≡ true → P
  not_cut cut = absurd (true_false (sym cut ∙ uncut))

  -- its book, where nothing was touched
  same_book : acted.upkeep ≡ mid.upkeep → SameTouches (touches_kept acted.upkeep) (touches_kept old.upkeep)
  same_book same = subst (λ u. SameTouches (touches_kept u) (touches_kept old.upkeep)) (sym (same ∙ b.upkeep)) (same_touches (touches_kept old.upkeep))

  early_book : acted.upkeep ≡ mid.upkeep → NoneAfter (old.upkeep).book old.last → NoneAfter (acted.upkeep).book m
  early_book same early = subst (λ u. NoneAfter u.book m) (sym (same ∙ b.upkeep)) (none_later (old.upkeep).book old.last m (b.clock).risen early)

  -- ---- refused: the lane's collector is not open

  refused_step : is_on lane mid.collector ≡ false → acted.parts ≡ mid.parts → acted.upkeep ≡ mid.upkeep → acted.collector ≡ mid.collector
      → IsEntered d acted between lane m 0 (Some (Refused (refusals.WrongState (state_of (session_at mid.parts lane))))) answer → IsRightStep d clock old new lane answer
  refused_step off parts upkeep collector e =
      let r : Reply = Refused (refusals.WrongState (state_of (session_at old.parts lane))) in
      let before : acted.parts ≡ old.parts = parts ∙ b.parts in
      let same : (acted.parts).disk ≡ (old.parts).disk = ap (λ p. p.disk) before in
      let off_before : is_on lane old.collector ≡ false = ap (is_on lane) (sym b.collector) ∙ off in
      let entered : IsEntered d acted new lane m 0 (Some r) answer =
      subst (λ p. IsEntered d acted new lane m 0 (Some (Refused (refusals.WrongState (state_of (session_at p lane))))) answer) b.parts
      (unfaulted_entered d acted between new lane lane m 0 (Some (Refused (refusals.WrongState (state_of (session_at mid.parts lane))))) answer e closes refl) in
      let kind : (answer.entry).kind ≡ COMMAND_KIND = ap (λ x. x.kind) entered.entry in
      let kept : SameKept mid.parts acted.parts = record { catalogue = ap (λ p. p.catalogue.listed) parts; sessions = ap (λ p. p.sessions.items) parts; locks = ap (λ p. p.locks) parts; indexes = ap (λ p. p.indexes.items) parts } in
      let still : new.collector ≡ old.collector = entered.collector ∙ collector ∙ b.collector in
      let stepped : IsStepped d clock.readings old acted new lane m 0 (Some r) answer =
      acted_stepped d clock.readings old mid acted new lane m 0 (Some r) answer ⊥ acted.fault acted.collector ready others.journal others.clock others.remote (others.fault ∙ b.fault) kept
      (untouched d (mid.parts).disk (acted.parts).disk (ap (λ p. p.disk) parts)) (λ e. omega (arith, e)) (let up = ap (λ p. d.calls p.disk) parts in omega (arith, up)) entered in
      finished 0 (Some r) acted stepped
      (record {
        change = stays;
        may_change = inl refl;
        content = λ _ _. ap d.content same;
        crash = inl same;
        saves = λ four. absurd (omega (arith, four));
        closes_only = λ _. same;
        passes = λ one. absurd (omega (arith, one));
        untouched = λ _. upkeep ∙ b.upkeep;
        early = early_book upkeep;
        refused = λ _. off_before;
      })
      (collects_off 0 lane old.collector new.collector off_before still) (step_as_any (done none kind r entered.reply_is refl))
      (step_keeps_filled d clock.readings old mid acted new lane m 0 (Some r) answer b others.journal filled uncut entered) (same_unchanged d old.parts acted.parts r before)
      (λ h s touches.
      refused_step_stands d clock.readings old acted new h lane m answer s inside (subst d.honest (sym same) s.honest) stepped none off_before (collector ∙ b.collector)
      (subst (λ x. IsOnDisk (d.content x) (world h).store × HoldsOnly (d.content x) (pieces_of h)) (sym same) (s.files (none_there h s), s.chunks (none_there h s))))
      (λ h s touches so.
      unpassed_keeps d clock.readings old acted new h lane m 0 (Some r) answer stepped so touches (λ e. omega (arith, e)) (same_book upkeep)
      (λ _ x digest. subst (λ q. IsSome (get (d.content q) (chunk_name x)) ↔ IsSome ((touches_of_history h).last x)) (sym same) (touches.present none x digest)) old.collector touches.sweep
      (λ y at. record { was = y; there = sym still ∙ at; plan = refl; same_pages = refl })
      (fits_as h lane 0 answer (ap (λ x. x.lane) entered.entry) kind tt))
      (λ h s touches. stays_spare stays (d.content (old.parts).disk) (world h) refl)
      (record {
        refused = λ _. (off_before, entered.reply_is);
        open_alone = λ _. inl kind;
        passes = λ _ one. absurd (omega (arith, kind, one));
        failed = λ _ five. absurd (omega (arith, kind, five));
        ends = λ cut. not_cut cut;
        reports = λ _ four. absurd (omega (arith, kind, four));
        fits = λ _ four. absurd (omega (arith, kind, four));
        unread = λ _ one. absurd (omega (arith, kind, one));
        calls = λ _ one. absurd (omega (arith, kind, one));
      })

  -- ---- the lane's collector goes on

  module _ (x y : Collector) (begun_with : mid.collector ≡ Some x) (on : is_on lane (Some x) ≡ true) (then_is : acted.collector ≡ Some y) where
    abbrev Does : Outcome → Type 0
    Does result = CollectDoes d mid.parts acted.parts mid.upkeep acted.upkeep x y at result

    was : old.collector ≡ Some x
    was = sym b.collector ∙ begun_with

    on_before : is_on lane old.collector ≡ true
    on_before = ap (is_on lane) was ∙ on

    goes_on : x.ended ≡ None
    goes_on = uncut_ended lane x on (ap (is_cut lane) (sym was) ∙ uncut)

    shown : (h : History) → StandsFor d clock.readings old h → open_in (Some x) ≡ shown_collecting (world h).collecting
    shown h s = ap open_in (sym was) ∙ s.collecting

    going : (h : History) → StandsFor d clock.readings old h → open_on lane (world h).collecting ≡ Some false
    going h s = going_shown lane x (world h).collecting (shown h s) on goes_on

    -- what a history tells as it is begun
    beside : (h : History) → StandsFor d clock.readings old h → KeepsTouches d old h
        → StandsBeside d mid.parts mid.upkeep (length (old.journal).entries.items) (Some x) (world h).store (swept_of h).touches (swept_of h).sweep
    beside h s kept =
        subst (λ p. StandsBeside d p mid.upkeep (length (old.journal).entries.items) (Some x) (world h).store (swept_of h).touches (swept_of h).sweep) (sym b.parts)
        (subst (λ u. StandsBeside d old.parts u (length (old.journal).entries.items) (Some x) (world h).store (swept_of h).touches (swept_of h).sweep) (sym b.upkeep) (record {
          holds = record { honest = s.honest; shows = s.shows; files = s.files (none_there h s) };
          touches_are = kept.touches;
          present = kept.present none;
          shows = subst (λ o. ShowsOpen (length (old.journal).entries.items) (old.parts).catalogue.listed ((world h).store).snapshots o (swept_of h).sweep) was kept.sweep;
        }))

    module _ (result : Outcome) (does : Does result) where
      tells : (h : History) → StandsFor d clock.readings old h → KeepsTouches d old h
          → IsTheSweeps d acted.parts acted.upkeep (length (old.journal).entries.items) y (world h).store (swept_of h) m result × stepping.Spares (world h).store does.change
      tells h s kept = does.tells (length (old.journal).entries.items) (world h).store (swept_of h) (beside h s kept) (sweepable d clock.readings old h s)

      on_after : is_on lane (Some y) ≡ true
      on_after = ap (λ l. l == lane) does.lane ∙ on

      closed_after : closed_on lane acted.collector ≡ None
      closed_after = ap (closed_on lane) then_is ∙ on_closed lane (Some y) on_after

      reads : (IsErrOf result stops.DiskFailed → ⊥) → d.honest (old.parts).disk → d.content (acted.parts).disk ≡ after does.change (d.content (old.parts).disk)
      reads fine = subst (λ p. d.honest p.disk → d.content (acted.parts).disk ≡ after does.change (d.content p.disk)) b.parts (does.content fine)

      crash : LeavesChange d (old.parts).disk (acted.parts).disk does.change
      crash = subst (λ p. LeavesChange d p.disk (acted.parts).disk does.change) b.parts does.crash

      may : stepping.MayChange (old.upkeep).book x m does.change result
      may = subst (λ u. stepping.MayChange u.book x m does.change result) b.upkeep does.may_change

      pass : MayPass does.change
      pass = may_pass (old.upkeep).book x m does.change result may

      -- no chunk file comes
      only : (IsErrOf result stops.DiskFailed → ⊥) → (h : History) → StandsFor d clock.readings old h → HoldsOnly (d.content (acted.parts).disk) (pieces_of h)
      only fine h s =
          subst (λ f. HoldsOnly f (pieces_of h)) (sym (reads fine s.honest)) (only_after does.change (d.content (old.parts).disk) (pieces_of h) pass (s.chunks (none_there h s)))

      up : d.calls (mid.parts).disk ≤ d.calls (acted.parts).disk
      up = later d (mid.parts).disk (acted.parts).disk _ does.crash

      stepped_as : (n : ℕ) (reply : Option Reply) → (n ≡ 5 → ⊥) → old.fault ≡ fault_after (length (old.journal).entries.items) n old.fault → IsEntered d acted new lane m n reply answer
          → IsStepped d clock.readings old acted new lane m n reply answer
      stepped_as n reply calm same e =
          acted_stepped d clock.readings old mid acted new lane m n reply answer (IsErrOf result stops.DiskFailed) acted.fault acted.collector ready others.journal others.clock others.remote
          (others.fault ∙ b.fault ∙ same) does.kept does.serves (λ five. absurd (calm five)) up e

      stored : (h : History) → StandsFor d clock.readings old h → KeepsTouches d old h → SparesStored does.change (d.content (old.parts).disk) (world h)
      stored h s kept f g left stood = spared_stands (world h).store does.change (d.content (old.parts).disk) f g (tells h s kept).1 pass left stood

      takes : (digest : Digest32) → goes (old.upkeep).book x.plan digest ≡ true → does.change ≡ drops (chunk_name digest.0 ∷ []) → Takes old lane does.change
      takes digest stale is = record { collector = x; digest = digest; open_is = was; lane_is = eqb-true x.lane lane on; stale = stale; change_is = is }

      -- the collector is as it was, but for its plan and the digests at hand
      opened_same : y.ended ≡ None → open_in acted.collector ≡ open_in old.collector
      opened_same still = ap open_in then_is ∙ ap (λ l. opens l y.ended) does.lane ∙ ap (opens x.lane) (still ∙ sym goes_on) ∙ ap open_in (sym was)

      -- its plan shows the sweep, in the catalogue as it was
      shows_as : (sweep : Option Sweep) (h : History) → ShowsOpen (length (old.journal).entries.items) (acted.parts).catalogue.listed ((world h).store).snapshots (Some y) sweep
          → ShowsOpen (length (old.journal).entries.items) (old.parts).catalogue.listed ((world h).store).snapshots (Some y) sweep
      shows_as sweep h shows =
          subst (λ l. ShowsOpen (length (old.journal).entries.items) l ((world h).store).snapshots (Some y) sweep) ((does.kept).catalogue ∙ ap (λ p. p.catalogue.listed) b.parts) shows

    not_off : {P : Type 0} → is_on lane old.collector ≡ false → P
    not_off off = absurd (true_false (sym on_before ∙ off))

    -- ---- a mark or a visit

    core_passes : Does (Ok None) → IsEntered d acted new lane m 1 None answer → CorePasses d old new x y m
    core_passes does entered = record {
      going = does.by_plan.0;
      change = does.change;
      content = λ honest. ap (λ p. d.content p.disk) entered.parts ∙ reads (Ok None) does (λ failed. cc) honest;
      crash = subst (λ p. LeavesChange d (old.parts).disk p.disk does.change) (sym entered.parts) (crash (Ok None) does);
      book = (acted.upkeep).book;
      passes = subst (λ u. PassesOrEnds d (old.parts).disk (old.parts).catalogue.listed u.book (acted.upkeep).book x y m does.change y.ended) b.upkeep
          (subst (λ p. PassesOrEnds d p.disk p.catalogue.listed (mid.upkeep).book (acted.upkeep).book x y m does.change y.ended) b.parts does.by_plan.2);
      dates = subst (λ u. SameTouches (touches_kept new.upkeep) (dated m (touches_kept u))) (does.by_plan.1 ∙ ap (λ (u : Upkeep). record u { book = (acted.upkeep).book }) b.upkeep) entered.upkeep;
    }

    passed_step : Does (Ok None) → IsEntered d acted between lane m 1 None answer → IsRightStep d clock old new lane answer
    passed_step does e =
        let entered : IsEntered d acted new lane m 1 None answer = unfaulted_entered d acted between new lane lane m 1 None answer e closes refl in
        let stepped = stepped_as (Ok None) does 1 None (λ e. omega (arith, e)) refl entered in
        let kind : (answer.entry).kind ≡ PART_KIND = ap (λ x. x.kind) entered.entry in
        let now : new.collector ≡ Some y = entered.collector ∙ then_is in
        finished 1 None acted stepped
        (record {
          change = does.change;
          may_change = ⊎_elim {C = MayChange old lane m 1 does.change} (λ stays_so. inl stays_so) (λ taken. inr (inl (inl refl, takes (Ok None) does taken.0 taken.1 taken.2))) (may (Ok None) does);
          content = λ _. reads (Ok None) does (λ failed. cc);
          crash = crash (Ok None) does;
          saves = λ four. absurd (omega (arith, four));
          closes_only = λ cut. not_cut cut;
          passes = λ _. subst (λ u. PassTouches does.change (touches_kept u) (touches_kept acted.upkeep) m) b.upkeep does.touches;
          untouched = λ other. absurd (other refl);
          early = λ early. does.early old.last (b.clock).risen (subst (λ u. NoneAfter u.book old.last) (sym b.upkeep) early);
          refused = λ zero. absurd (omega (arith, zero));
        })
        (collects_passed lane old.collector new.collector x y was now does.lane on does.same does.further) (step_passes none kind entered.reply_is)
        (step_keeps_filled d clock.readings old mid acted new lane m 1 None answer b others.journal filled uncut entered) tt
        (λ h s kept. let (sweep, is, still) = its_pass does h s kept in
        passed_step_stands d clock.readings old acted new h lane m answer s inside ((still.2).holds).honest x y stepped none was on goes_on then_is does.lane still.1
        (((still.2).holds).files, only (Ok None) does (λ failed. cc) h s))
        (λ h s kept so. let (sweep, is, still) = its_pass does h s kept in
        passed_keeps d clock.readings old acted new h lane m 1 None answer stepped so kept refl sweep is still.0 (still.2).touches_are (still.2).present y now
        (shows_as (Ok None) does (Some (passed (swept_of h) sweep sweep.unmarked)) h (still.2).shows))
        (stored (Ok None) does)
        (record {
          refused = λ zero. absurd (omega (arith, kind, zero));
          open_alone = λ off. not_off off;
          passes = λ _ _. subst (λ o. IsSomeAnd o (λ c. IsSomeAnd new.collector (λ e. CorePasses d old new c e (answer.entry).moment))) (sym was)
              (subst (λ o. IsSomeAnd o (λ e. CorePasses d old new x e (answer.entry).moment)) (sym now) (subst (CorePasses d old new x y) (sym (ap (λ z. z.moment) entered.entry)) (core_passes does entered)));
          failed = λ _ five. absurd (omega (arith, kind, five));
          ends = λ cut. not_cut cut;
          reports = λ _ four. absurd (omega (arith, kind, four));
          fits = λ _ four. absurd (omega (arith, kind, four));
          unread = λ _ _ honest. subst (λ o. IsSomeAnd o (λ c. path_ended new.collector ≡ next_unreadable (d.content (old.parts).disk) (old.parts).catalogue.listed c)) (sym was)
              (ap path_ended now ∙ subst (λ p. d.honest p.disk → path_ended (Some y) ≡ next_unreadable (d.content p.disk) p.catalogue.listed x) b.parts (does.unread refl) honest);
          calls = λ _ _. subst (λ o. IsSomeAnd o (OpenCalls d old.parts new.parts)) (sym was)
              (subst (λ p. OpenCalls d old.parts p x) (sym entered.parts) (subst (λ p. OpenCalls d p acted.parts x) b.parts (does.calls refl)));
        })
      where
        its_pass : Does (Ok None) → (h : History) → StandsFor d clock.readings old h → KeepsTouches d old h
            → (sweep : Sweep) × ((swept_of h).sweep ≡ Some sweep) × ((is_over sweep ≡ false) × (y.ended ≡ None)
            × StandsBeside d acted.parts acted.upkeep (length (old.journal).entries.items) (Some y) (world h).store (passed_touches (swept_of h) sweep m) (Some (passed (swept_of h) sweep sweep.unmarked)))
        its_pass does h s kept =
            there (λ sweep. (is_over sweep ≡ false) × (y.ended ≡ None)
            × StandsBeside d acted.parts acted.upkeep (length (old.journal).entries.items) (Some y) (world h).store (passed_touches (swept_of h) sweep m) (Some (passed (swept_of h) sweep sweep.unmarked)))
            (swept_of h).sweep (tells (Ok None) does h s kept).0

    -- ---- the end of a whole collection

    over_step : (report : GcReport) → Does (Ok (Some report)) → IsEntered d acted between lane m 4 (Some (report_reply report)) answer → IsRightStep d clock old new lane answer
    over_step report does e =
        let o : Outcome = Ok (Some report) in
        let r : Reply = report_reply report in
        let entered : IsEntered d acted new lane m 4 (Some r) answer = unfaulted_entered d acted between new lane lane m 4 (Some r) answer e closes refl in
        let stepped = stepped_as o does 4 (Some r) (λ e. omega (arith, e)) refl entered in
        let kind : (answer.entry).kind ≡ STOP_KIND = ap (λ x. x.kind) entered.entry in
        let now : new.collector ≡ None = entered.collector ∙ closed_after o does in
        finished 4 (Some r) acted stepped
        (record {
          change = does.change;
          may_change = inr (inr (inl refl, may o does));
          content = λ _. reads o does (λ failed. cc);
          crash = crash o does;
          saves = λ _ _. may o does;
          closes_only = λ cut. not_cut cut;
          passes = λ one. absurd (omega (arith, one));
          untouched = λ _. does.touches ∙ b.upkeep;
          early = early_book does.touches;
          refused = λ zero. absurd (omega (arith, zero));
        })
        (collects_closed 4 lane old.collector new.collector (inl refl) on_before now) (step_ends none kind r entered.reply_is refl)
        (step_keeps_filled d clock.readings old mid acted new lane m 4 (Some r) answer b others.journal filled uncut entered) tt
        (λ h s kept. let w = ((tells o does h s kept).0).1 in
        closed_step_stands d clock.readings old acted new h lane m answer s inside (w.holds).honest (Some r) stepped none (subst (λ q. ReportsEnd q (Some r)) (sym (going h s)) tt) (closed_after o does)
        ((w.holds).files, only o does (λ failed. cc) h s))
        (λ h s kept so. let w = ((tells o does h s kept).0).1 in
        unpassed_keeps d clock.readings old acted new h lane m 4 (Some r) answer stepped so kept (λ e. omega (arith, e)) (same_book does.touches) (λ _. w.present)
        (Some y) (shows_as o does (swept_of h).sweep h w.shows) (λ z at. absurd (none_some z (sym now ∙ at)))
        (fits_as h lane 4 answer (ap (λ x. x.lane) entered.entry) kind (subst (λ q. EndsSweep (swept_of h) answer.reply q) (sym (going h s)) (ends_so h entered.reply_is ((tells o does h s kept).0).0))))
        (stored o does)
        (record {
          refused = λ zero. absurd (omega (arith, kind, zero));
          open_alone = λ off. not_off off;
          passes = λ _ one. absurd (omega (arith, kind, one));
          failed = λ _ five. absurd (omega (arith, kind, five));
          ends = λ cut. not_cut cut;
          reports = λ _ _. subst (λ o. IsSomeAnd o (λ c. EndsWhole (old.upkeep).book c answer.reply)) (sym was)
              (does.by_plan.0, (report, subst (λ u. Reports u.book x.plan report) b.upkeep does.by_plan.1, entered.reply_is));
          fits = λ _ _ early. subst (λ n. FitsBook (as_of n (old.upkeep).book)) (sym (ap (λ x. x.moment) entered.entry)) (fits_so (subst (λ u. NoneAfter u.book old.last) (sym b.upkeep) early));
          unread = λ _ one. absurd (omega (arith, kind, one));
          calls = λ _ one. absurd (omega (arith, kind, one));
        })
      where
        fits_so : NoneAfter (mid.upkeep).book old.last → FitsBook (as_of m (old.upkeep).book)
        fits_so early = subst (λ u. FitsBook (as_of m u.book)) b.upkeep (does.fits old.last (b.clock).risen (b.clock).in_time early)

        ends_so : (h : History) → answer.reply ≡ Some (report_reply report) → IsSomeAnd (swept_of h).sweep (λ sweep. (is_over sweep ≡ true) × (report_reply report ≡ report_of (swept_of h) sweep))
            → IsSomeAnd (swept_of h).sweep (λ sweep. (is_over sweep ≡ true) × (answer.reply ≡ Some (report_of (swept_of h) sweep)))
        ends_so h told said =
            some_more (λ sweep. (is_over sweep ≡ true) × (report_reply report ≡ report_of (swept_of h) sweep)) (λ sweep. (is_over sweep ≡ true) × (answer.reply ≡ Some (report_of (swept_of h) sweep)))
            (swept_of h).sweep (λ sweep its. (its.0, told ∙ ap (λ q. Some q) its.1)) said

    -- ---- memory was wanting

    wanting_step : Does (Err stops.NoMemory) → IsEntered d acted between lane m 2 (Some (Refused refusals.NoMemory)) answer → IsRightStep d clock old new lane answer
    wanting_step does e =
        let o : Outcome = Err stops.NoMemory in
        let r : Reply = Refused refusals.NoMemory in
        let entered : IsEntered d acted new lane m 2 (Some r) answer = unfaulted_entered d acted between new lane lane m 2 (Some r) answer e closes refl in
        let stepped = stepped_as o does 2 (Some r) (λ e. omega (arith, e)) refl entered in
        let kind : (answer.entry).kind ≡ MEMORY_KIND = ap (λ x. x.kind) entered.entry in
        let now : new.collector ≡ cut_on lane (Some y) = entered.collector ∙ ap (cut_on lane) then_is in
        finished 2 (Some r) acted stepped
        (record {
          change = does.change;
          may_change = inl (may o does);
          content = λ _. reads o does (λ failed. cc);
          crash = crash o does;
          saves = λ four. absurd (omega (arith, four));
          closes_only = λ cut. not_cut cut;
          passes = λ one. absurd (omega (arith, one));
          untouched = λ _. does.touches ∙ b.upkeep;
          early = early_book does.touches;
          refused = λ zero. absurd (omega (arith, zero));
        })
        (collects_short lane old.collector new.collector x y was now does.lane on goes_on does.same) (step_as_any (short kind entered.reply_is))
        (step_keeps_filled d clock.readings old mid acted new lane m 2 (Some r) answer b others.journal filled uncut entered)
        (record { kept = plain_of old.parts acted.parts stepped.kept; uncalled = λ none_called. absurd (true_false (sym none_called)); disk = λ _ honest. reads o does (λ failed. cc) honest ∙ ap (λ z. after z (d.content (old.parts).disk)) (may o does) })
        (λ h s kept. let w = (tells o does h s kept).0 in
        short_step_stands d clock.readings old acted new h lane m answer s inside (w.holds).honest stepped uncut (opened_same o does does.ends) (λ _. ((w.holds).files, only o does (λ failed. cc) h s)))
        (λ h s kept so. let w = (tells o does h s kept).0 in
        unpassed_keeps d clock.readings old acted new h lane m 2 (Some r) answer stepped so kept (λ e. omega (arith, e)) (same_book does.touches) (λ _. w.present)
        (Some y) (shows_as o does (swept_of h).sweep h w.shows) (λ z at. was_open 2 lane (Some y) z (sym now ∙ at))
        (fits_as h lane 2 answer (ap (λ x. x.lane) entered.entry) kind tt))
        (stored o does)
        (tells_none d old new lane 2 answer kind (inl refl))

    -- ---- the disk failed in it

    failed_step : Does (Err stops.DiskFailed) → IsEntered d (record acted { fault = Some (length (acted.journal).entries.items) }) between lane m 5 (Some (Refused refusals.DiskFault)) answer
        → IsRightStep d clock old new lane answer
    failed_step does e =
        let o : Outcome = Err stops.DiskFailed in
        let r : Reply = Refused refusals.DiskFault in
        let place : ℕ = length (acted.journal).entries.items in
        let entered : IsEntered d (record acted { fault = Some place; collector = closed_on lane acted.collector }) new lane m 5 (Some r) answer =
        faulted_entered d (record acted { fault = Some place }) between new lane lane m (Some r) answer e closes in
        let entries : (acted.journal).entries.items ≡ (old.journal).entries.items = ap (λ j. j.entries.items) others.journal ∙ (b.entries).entries in
        let stepped : IsStepped d clock.readings old (record acted { fault = Some place; collector = closed_on lane acted.collector }) new lane m 5 (Some r) answer =
        acted_stepped d clock.readings old mid acted new lane m 5 (Some r) answer (IsErrOf o stops.DiskFailed) (Some place) (closed_on lane acted.collector) ready others.journal others.clock others.remote
        (ap (λ n. Some n) (ap length entries) ∙ sym (ap (first_fault (length (old.journal).entries.items)) none)) does.kept does.serves (λ _. refl) (up o does) entered in
        let kind : (answer.entry).kind ≡ FAULT_KIND = ap (λ x. x.kind) entered.entry in
        let now : new.collector ≡ None = entered.collector ∙ closed_after o does in
        finished 5 (Some r) (record acted { fault = Some place; collector = closed_on lane acted.collector }) stepped
        (record {
          change = does.change;
          may_change = failed_change does (may o does);
          content = λ fine. absurd (fine refl);
          crash = crash o does;
          saves = λ four. absurd (omega (arith, four));
          closes_only = λ cut. not_cut cut;
          passes = λ one. absurd (omega (arith, one));
          untouched = λ _. does.touches ∙ b.upkeep;
          early = early_book does.touches;
          refused = λ zero. absurd (omega (arith, zero));
        })
        (collects_closed 5 lane old.collector new.collector (inr refl) on_before now)
        (step_as_any (failed none kind entered.reply_is (entered.fault ∙ ap (λ n. Some n) (sym entered.place))
        (subst (λ p. Rose (d.faults (old.parts).disk) (d.faults p.disk)) (sym entered.parts) (stepped.rose refl none))))
        (step_keeps_filled d clock.readings old mid (record acted { fault = Some place; collector = closed_on lane acted.collector }) new lane m 5 (Some r) answer b others.journal filled uncut entered)
        (record { kept = plain_of old.parts acted.parts stepped.kept; uncalled = λ none_called. absurd (true_false (sym none_called)); disk = λ fine. absurd (fine refl) })
        (λ h s kept.
        failed_step_stands d clock.readings old (record acted { fault = Some place; collector = closed_on lane acted.collector }) new h lane m answer s inside
        ((does.serves).kept.0 (subst (λ p. d.honest p.disk) (sym b.parts) s.honest)) acted.collector stepped none (opened_same o does does.ends) refl)
        (λ h s kept so.
        unpassed_keeps d clock.readings old (record acted { fault = Some place; collector = closed_on lane acted.collector }) new h lane m 5 (Some r) answer stepped so kept (λ e. omega (arith, e)) (same_book does.touches)
        (λ calm. absurd (some_none place (sym entered.fault ∙ calm))) old.collector kept.sweep (λ z at. absurd (none_some z (sym now ∙ at)))
        (fits_as h lane 5 answer (ap (λ x. x.lane) entered.entry) kind tt))
        (stored o does)
        (record {
          refused = λ zero. absurd (omega (arith, kind, zero));
          open_alone = λ off. not_off off;
          passes = λ _ one. absurd (omega (arith, kind, one));
          failed = λ _ _ _. subst (λ o. IsSomeAnd o (λ c. CoreFails d old new c (answer.entry).moment)) (sym was)
              (subst (CoreFails d old new x) (sym (ap (λ z. z.moment) entered.entry)) (core_fails does entered.parts));
          ends = λ cut. not_cut cut;
          reports = λ _ four. absurd (omega (arith, kind, four));
          fits = λ _ four. absurd (omega (arith, kind, four));
          unread = λ _ one. absurd (omega (arith, kind, one));
          calls = λ _ one. absurd (omega (arith, kind, one));
        })
      where
        core_fails : Does (Err stops.DiskFailed) → new.parts ≡ acted.parts → CoreFails d old new x m
        core_fails does parts = record {
          change = does.change;
          crash = subst (λ p. LeavesChange d (old.parts).disk p.disk does.change) (sym parts) (crash (Err stops.DiskFailed) does);
          fails = subst (λ u. FailsByPlan d (old.parts).disk (old.parts).catalogue.listed u.book x m does.change) b.upkeep
              (subst (λ p. FailsByPlan d p.disk p.catalogue.listed (mid.upkeep).book x m does.change) b.parts does.by_plan);
        }

        failed_change : (does : Does (Err stops.DiskFailed)) → stepping.MayChange (old.upkeep).book x m does.change (Err stops.DiskFailed) → MayChange old lane m 5 does.change
        failed_change does (inl none_is) = inl none_is
        failed_change does (inr (inl taken)) = inr (inl (inr refl, takes (Err stops.DiskFailed) does taken.0 taken.1 taken.2))
        failed_change does (inr (inr saved)) = inr (inr (inr refl, saved))

    by_result : at.lane ≡ lane → (result : Outcome) → Does result → EntersPass d acted between at result answer → IsRightStep d clock old new lane answer
    by_result lane_is (Ok None) does e = passed_step does (entered_for d acted between lane 1 at None answer lane_is e)
    by_result lane_is (Ok (Some report)) does e = over_step report does (entered_for d acted between lane 4 at (Some (report_reply report)) answer lane_is e)
    by_result lane_is (Err stops.NoMemory) does e = wanting_step does (entered_for d acted between lane 2 at (Some (Refused refusals.NoMemory)) answer lane_is e)
    by_result lane_is (Err stops.DiskFailed) does e =
        failed_step does (entered_for d (record acted { fault = Some (length (acted.journal).entries.items) }) between lane 5 at (Some (Refused refusals.DiskFault)) answer lane_is e)
    by_result lane_is (Err (stops.Refused refusal)) does e = absurd (does.unrefused refusal refl)

  -- ---- by the lane's collector

  passes_by : at.lane ≡ lane → (result : Outcome) → PassDoes d mid.parts acted.parts mid.upkeep acted.upkeep mid.collector acted.collector at result → EntersPass d acted between at result answer
      → OnLane lane mid.collector → IsRightStep d clock old new lane answer
  passes_by lane_is result passes enters (open_here x begun_with on) =
      let does = there (λ y. CollectDoes d mid.parts acted.parts mid.upkeep acted.upkeep x y at result) acted.collector
      (passes.collects x begun_with (ap (λ l. is_on l mid.collector) lane_is ∙ ap (is_on lane) begun_with ∙ on)) in
      by_result x does.0 begun_with on does.1 lane_is result does.2 enters
  passes_by lane_is result passes enters (not_here off) =
      let its = passes.refused (ap (λ l. is_on l mid.collector) lane_is ∙ off) in
      let e : IsEntered d acted between at.lane m 0 (Some (Refused (refusals.WrongState (state_of (session_at mid.parts at.lane))))) answer =
      subst (λ z. EntersPass d acted between at z answer) its.result_is enters in
      refused_step off its.parts its.upkeep its.collector
      (subst (λ l. IsEntered d acted between l m 0 (Some (Refused (refusals.WrongState (state_of (session_at mid.parts l))))) answer) lane_is e)

-- ---- any act of a collector after its start

module _ {D E C : Type 0} (d : Ghosts D) (clock : clocks.Ghosts C) (old between new : Core D E C) (lane : ℕ) (answer : Answer) (inside : lane < 64) (closes : new ≡ faulted_closed lane (answer.entry).kind between) where
  cut_step : is_cut lane old.collector ≡ true → TellsEarly d clock.readings old between lane answer → IfSome answer.reply ReplyHasText → IsRightStep d clock old new lane answer
  cut_step cut tells text = ended_early d clock old between new lane answer inside closes cut tells text

  uncut_step : is_cut lane old.collector ≡ false → GoesOn d clock.readings old between lane answer → IsRightStep d clock old new lane answer
  uncut_step uncut (not_begun refuses text) = refused_before d clock old between new lane answer inside closes uncut refuses text
  uncut_step uncut (has_passed p) =
      passes_by d clock old p.mid p.acted between new lane p.at answer inside closes uncut (p.admitted).ready p.filled p.others p.text (p.admitted).lane_is p.result p.passes p.enters (on_lane lane (p.mid).collector)

  by_cut : (b : Bool) → is_cut lane old.collector ≡ b → TakesNext d clock.readings old between lane answer → IsRightStep d clock old new lane answer
  by_cut true cut takes = let ends = takes.ends cut in cut_step cut ends.0 ends.1
  by_cut false uncut takes = uncut_step uncut (takes.goes uncut)

  pub taken_next : TakesNext d clock.readings old between lane answer → IsRightStep d clock old new lane answer
  taken_next takes = by_cut (is_cut lane old.collector) refl takes

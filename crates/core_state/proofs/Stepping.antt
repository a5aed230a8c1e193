-- The records of an act of a collector after its start, by what it was entered on.
use Rattle.disk_trait.specs.declared.disk.Disk.{Ghosts}
use Rattle.std.proofs.Common.{◌≡◌, ◌==◌, ℕ, true, false, if◌then◌else◌, is_some, IfSome, Option, None, inl, inr, refl, sym, ap, subst, ◌∙◌, arith}
use Rattle.store_types.specs.declared.order.TheConstants.{FAULT_KIND}
use Rattle.port_traits.specs.declared.clock.Clock as clocks
use Rattle.wire_commands.specs.declared.reply.Reply.{Reply}
use Rattle.wire_commands.specs.HasText.{ReplyHasText}
use Rattle.store_history.specs.declared.act.Act.TheVariants.{Step}
use Rattle.store_history.specs.declared.act.Answer.{Answer}
use Rattle.core_state.specs.declared.state.Core.{Core}
use Rattle.core_state.specs.Answers.{HasCause, IsAnswered, IsToldBut, StepHasCause, done, failed, halted, short, step_as_any, step_ends, step_passes}
use Rattle.core_state.specs.Applies.{ActApplies, ActKeeps}
use Rattle.core_state.specs.Collectors.{closed_on}
use Rattle.core_state.specs.History.{History, StandsFor, event_of, then_event, world}
use Rattle.core_state.specs.Indexed.{row_at, row_in}
use Rattle.core_state.specs.KeepsTouches.{KeepsTouches}
use Rattle.core_state.specs.Passes.{StepLeaves}
use Rattle.core_state.specs.Reserved.{StepKeeps}
use Rattle.core_state.specs.Settles.{IsEntered}
use Rattle.core_state.specs.Unchanged.{Unchanged}
use Rattle.core_state.specs.Wanted.{session_at}
use Rattle.core_state.proofs.Answering.{entered_answered}
use Rattle.core_state.proofs.Applying.{closes_none}
use Rattle.core_state.proofs.Commanding.{others_same}
use Rattle.core_state.proofs.Recorded.{entered_timely, records_more, sweep_fits, sweep_tells}
use Rattle.core_state.proofs.Stepped.{IsStepped}
use Rattle.core_state.proofs.SteppedImages.{SparesStored, recovers_step}

false_true : false ≡ true → ⊥
false_true e = cc

-- ---- at a fault its collector closes behind the entry

-- the core once a fault has closed the lane's collector
abbrev pub faulted_closed : {D E C : Type 0} → ℕ → ℕ → Core D E C → Core D E C
faulted_closed lane kind core = record core { collector = if kind == FAULT_KIND then closed_on lane core.collector else core.collector }

module _ {D E C : Type 0} (d : Ghosts D) (acted between new : Core D E C) (lane k m n : ℕ) (reply : Option Reply) (answer : Answer) (e : IsEntered d acted between k m n reply answer)
    (closes : new ≡ faulted_closed lane (answer.entry).kind between) where
  kind_is : (answer.entry).kind ≡ n
  kind_is = ap (λ x. x.kind) e.entry

  -- no other entry closes it so
  pub unfaulted_same : (n == 5) ≡ false → new ≡ between
  unfaulted_same calm = closes ∙ ap (λ x. faulted_closed lane x between) kind_is ∙ ap (λ b. record between { collector = if b then closed_on lane between.collector else between.collector }) calm

  pub unfaulted_entered : (n == 5) ≡ false → IsEntered d acted new k m n reply answer
  unfaulted_entered calm = subst (λ x. IsEntered d acted x k m n reply answer) (sym (unfaulted_same calm)) e

-- as though it had closed before
pub faulted_entered : {D E C : Type 0} (d : Ghosts D) (acted between new : Core D E C) (lane k m : ℕ) (reply : Option Reply) (answer : Answer) → IsEntered d acted between k m 5 reply answer
    → new ≡ faulted_closed lane (answer.entry).kind between → IsEntered d (record acted { collector = closed_on lane acted.collector }) new k m 5 reply answer
faulted_entered d acted between new lane k m reply answer e closes =
    subst (λ x. IsEntered d (record acted { collector = closed_on lane acted.collector }) x k m 5 reply answer)
    (sym (closes ∙ ap (λ x. faulted_closed lane x between) (ap (λ x. x.kind) e.entry)))
    (record {
      parts = e.parts;
      remote = e.remote;
      clock = e.clock;
      fault = e.fault;
      last = e.last;
      upkeep = e.upkeep;
      collector = ap (closed_on lane) e.collector;
      entries = e.entries;
      calls = e.calls;
      entry = e.entry;
      reply_is = e.reply_is;
      place = e.place;
      is_held = e.is_held;
      room = e.room;
      last_held = e.last_held;
    })

-- ---- told

as_any_told : {D E C : Type 0} (d : Ghosts D) (old new : Core D E C) (answer : Answer) → HasCause d old new Step answer → IsToldBut 1 answer
as_any_told d old new answer (done before zero reply told may) = inr (λ one. omega (arith, zero, one), ap is_some told)
as_any_told d old new answer (short two told) = inr (λ one. omega (arith, two, one), ap is_some told)
as_any_told d old new answer (failed before five told fault rose) = inr (λ one. omega (arith, five, one), ap is_some told)
as_any_told d old new answer (halted place before five told) = inr (λ one. omega (arith, five, one), ap is_some told)

step_told : {D E C : Type 0} (d : Ghosts D) (old new : Core D E C) (answer : Answer) → StepHasCause d old new Step answer → IsToldBut 1 answer
step_told d old new answer (step_passes before one told) = inl (one, told)
step_told d old new answer (step_ends before four reply told may) = inr (λ one. omega (arith, four, one), ap is_some told)
step_told d old new answer (step_as_any cause) = as_any_told d old new answer cause

-- ---- the two records

module _ {D E C : Type 0} (d : Ghosts D) (clock : clocks.Ghosts C) (old acted new : Core D E C) (k m n : ℕ) (reply : Option Reply) (answer : Answer) (is : IsStepped d clock.readings old acted new k m n reply answer) where
  halts : IfSome old.fault (λ _. (new.parts).disk ≡ (old.parts).disk)
  halts = subst (λ p. IfSome old.fault (λ _. p.disk ≡ (old.parts).disk)) (sym (is.entered).parts) is.halted

  listed : (new.parts).catalogue.listed ≡ (old.parts).catalogue.listed
  listed = ap (λ p. p.catalogue.listed) (is.entered).parts ∙ (is.kept).catalogue

  pub step_keeps : IfSome reply (Unchanged d old.parts acted.parts) → StepLeaves d old new k answer → StepKeeps old new k answer → ActKeeps d old new k Step answer
  step_keeps unchanged leaves reserve = record {
    unchanged = subst (λ p. IfSome answer.reply (Unchanged d old.parts p)) (sym (is.entered).parts) (subst (λ r. IfSome r (Unchanged d old.parts acted.parts)) (sym (is.entered).reply_is) unchanged);
    no_disk_call = λ no_disk_call. absurd (false_true no_disk_call);
    reads = λ only. absurd (false_true only);
    content = λ no. absurd (false_true (sym no));
    crash = λ no. absurd (false_true (sym no));
    passed_its_tests = λ _ _ s h. tt;
    firm = λ _ _. tt;
    listed = listed;
    admin = λ _. (ap (λ p. p.sessions.items) (is.entered).parts ∙ (is.kept).sessions, ap (λ p. p.locks) (is.entered).parts ∙ (is.kept).locks);
    others = λ i other. ap (λ p. session_at p i) (is.entered).parts ∙ others_same old.parts acted.parts k (is.kept).sessions i other;
    ended = λ ends. absurd (false_true ends);
    rows = λ i _. ap (λ p. row_at p i) (is.entered).parts ∙ ap (λ xs. row_in xs i) (is.kept).indexes;
    halted = halts;
    writes = λ writes. absurd (false_true writes);
    remote = λ _. (is.entered).remote ∙ is.remote;
    upkeep = λ no. absurd (false_true (sym no));
    collector = λ no. absurd (false_true (sym no));
    stepped = λ _. leaves;
    memory = λ closing. absurd (closes_none old.fault Step (session_at old.parts k) refl closing);
    reserve = reserve;
  }

  answers : IfSome reply ReplyHasText → IsAnswered d old new k answer
  answers text = entered_answered d old acted new k m n reply answer is.entered is.entries is.calls text is.fault is.count is.honest is.rose

  -- by what it leaves, what it stands for, its book, and that it spares what is stored
  pub step_applies : IfSome reply ReplyHasText → StepHasCause d old new Step answer → (leaves : StepLeaves d old new k answer)
      → ((h : History) → StandsFor d clock.readings old h → KeepsTouches d old h → StandsFor d clock.readings new (then_event h (event_of Step answer (d.calls (new.parts).disk))))
      → ((h : History) → StandsFor d clock.readings old h → KeepsTouches d old h → StandsFor d clock.readings new (then_event h (event_of Step answer (d.calls (new.parts).disk)))
      → KeepsTouches d new (then_event h (event_of Step answer (d.calls (new.parts).disk))))
      → ((h : History) → StandsFor d clock.readings old h → KeepsTouches d old h → old.fault ≡ None → SparesStored leaves.change (d.content (old.parts).disk) (world h))
      → ActApplies d clock old new k Step answer
  step_applies text cause leaves stands touches spares =
      let its = answers text in
      let timely = entered_timely d clock.readings old acted new k m n reply answer is.clock is.entered in record {
        history = λ h s kept clear. stands h s kept;
        records = λ h. records_more d clock.readings old new k Step answer h its timely (sweep_fits d old new answer cause) (sweep_tells d old new answer cause its.text) listed leaves.early;
        recovers = λ told start h s clear kept. recovers_step d clock told old new answer h s halts leaves.change leaves.crash (spares h s kept) start;
        touches = λ h s kept clear. touches h s kept (stands h s kept);
        answers = its;
        timely = timely;
        told = step_told d old new answer cause;
        cause = cause;
      }

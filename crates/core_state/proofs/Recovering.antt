-- Each image stands for what the history gives by then, with one act more.
use Rattle.std.proofs.Common.{◌≡◌, ◌<◌, ◌≤◌, ◌⊎◌, ⊎_elim, inl, inr, ℕ, Bool, true, false, not, ◌&&◌, ◌==◌, if◌then◌else◌, is_none, nat_le, length, List, [], ◌∷◌, ◌++◌, append-nil, Option, Some, None, IfSome, refl, sym, ap, subst, ◌∙◌, arith}
use Rattle.std.proofs.lemmas.Bool.{cases_lt, leb-true}
use Rattle.store_types.specs.declared.order.TheConstants.{FAULT_KIND}
use Rattle.disk_trait.specs.Disk.{Now}
use Rattle.disk_trait.specs.Files.{Files}
use Rattle.disk_trait.specs.declared.disk.Disk.{Ghosts}
use Rattle.port_traits.specs.declared.clock.Clock as clocks
use Rattle.store_files.specs.Archive.{Snapshot}
use Rattle.store_model.specs.Stands.{StandsFor as Stands}
use Rattle.store_model.specs.Store.{Store}
use Rattle.store_model.specs.Weave.{first_fault}
use Rattle.store_history.specs.declared.act.Act.{Act}
use Rattle.store_history.specs.declared.act.Act.TheVariants.{Chunk, Step}
use Rattle.store_history.specs.declared.act.Answer.{Answer}
use Rattle.store_history.specs.declared.act.Event.{Event}
use Rattle.store_history.specs.CrashPoints.{Either, Reopens, is_past, one_more, undisturbed}
use Rattle.store_history.specs.History.{World, after, after_all, kind, lane as lane_of, moment, opened}
use Rattle.store_history.specs.Legal.{IsLegal, IsRight}
use Rattle.store_history.proofs.Longer.{calls_risen}
use Rattle.store_history.proofs.Prefixes.{reopens_before, reopens_from, reopens_halted, reopens_to}
use Rattle.core_state.specs.declared.state.Core.{Core}
use Rattle.core_state.specs.Answers.{IsAnswered, IsCaused}
use Rattle.store_history.specs.Answered.{fault_after}
use Rattle.core_state.specs.Applies.{ActKeeps, IsClearFor, IsKeptFor}
use Rattle.core_state.specs.Changes.{Change, LeavesChange}
use Rattle.core_state.specs.Commands.{is_step}
use Rattle.core_state.specs.History.{History, IsClear, StandsFor, event_of, then_event, world}
use Rattle.core_state.specs.Holds.{Holds}
use Rattle.core_state.specs.KeepsTouches.{KeepsTouches}
use Rattle.core_state.specs.Recovers.{Recovers, TellsMoments}
use Rattle.core_state.proofs.Calls.{later}
use Rattle.core_state.proofs.ForeignLemmas.{not_faulted}
use Rattle.core_state.proofs.Leading.{IsCalm, Leads, leads}
use Rattle.core_state.proofs.SameSnapshots.{next_store}

-- ---- the last event

pub last_right : (R : Option (List Snapshot)) (w : World) (h : List Event) (e : Event) → IsLegal R w (h ++ e ∷ []) → IsRight R (after_all R w h) e
unfolding after_all
last_right R w [] e legal = legal.0
last_right R w (v ∷ vs) e legal = last_right R (after R w v) vs e legal.1

pub one_is : (R : Option (List Snapshot)) (w : World) (e : Event) → one_more R w e ≡ next_store R w (lane_of e) (moment e) e.act (kind e)
unfolding after
one_is R w e = refl

after_is : (R : Option (List Snapshot)) (w : World) (e : Event) → (kind e == FAULT_KIND) ≡ false → one_more R w e ≡ (after R w e).store
after_is R w e calm = ap (λ b. if b then undisturbed R w e else (after R w e).store) calm

pub clear_for : (act : Act) (h : History) → IsClear h → IsClearFor act h
clear_for (Chunk digest checked) h clear = clear
clear_for act h clear = tt

-- each act may ask for it
pub kept_for : {D E C : Type 0} (d : Ghosts D) (core : Core D E C) (act : Act) (h : History) → KeepsTouches d core h → IsKeptFor d core act h
kept_for d core Step h keeps = keeps
kept_for d core act h keeps = tt

some_is : (o : Option ℕ) (n : ℕ) → o ≡ Some n → is_none o ≡ false
some_is o n e = ap is_none e

-- ---- one act

module _ {D E C : Type 0} (d : Ghosts D) (clock : clocks.Ghosts C) (told : TellsMoments d) (old new : Core D E C) (act : Act) (answer : Answer) (h : History) where
  abbrev e : Event
  e = event_of act answer (d.calls (new.parts).disk)

  abbrev w : World
  w = world h

  abbrev start : World
  start = opened h.opening

  abbrev k : ℕ
  k = (answer.entry).lane

  abbrev Found : ℕ → Files → Type 0
  Found t c = (found : List Snapshot) × Stands c found × Reopens h.remote start (h.events ++ e ∷ []) t found

  -- What it leaves of images that stand for the snapshots of now, where the disk had not failed.
  abbrev pub LeadsOn : Type 0
  LeadsOn = old.fault ≡ None → Leads d (old.parts).disk (new.parts).disk ((kind e == FAULT_KIND) ≡ false) (w.store).snapshots (one_more h.remote w e).snapshots

  module _ (s : StandsFor d clock.readings old h) (halts : IfSome old.fault (λ _. (new.parts).disk ≡ (old.parts).disk))
      (change : Change) (crash : LeavesChange d (old.parts).disk (new.parts).disk change) (leads_on : LeadsOn) (begin : ℕ) (recovers : Recovers d begin old h) where
    -- after a fault the disk is not called
    halted : (first : ℕ) → old.fault ≡ Some first → (t : ℕ) (c : Files) → begin ≤ t → d.images (new.parts).disk t c → Found t c
    halted first is t c from image =
        let same : (new.parts).disk ≡ (old.parts).disk = subst (λ f. IfSome f (λ _. (new.parts).disk ≡ (old.parts).disk)) is halts in
        let x = recovers.each t c from (subst (λ (y : D). d.images y t c) same image) in
        (x.0, x.1, reopens_halted h.remote start h.events e t x.0 (some_is w.fault first (sym s.fault ∙ is)) x.2)

    module _ (none : old.fault ≡ None) where
      calm : is_none w.fault ≡ true
      calm = ap is_none (sym s.fault ∙ none)

      its : Leads d (old.parts).disk (new.parts).disk ((kind e == FAULT_KIND) ≡ false) (w.store).snapshots (one_more h.remote w e).snapshots
      its = leads_on none

      -- each image of now stands for the snapshots of now
      now : Now d.calls d.images (old.parts).disk (λ b. Stands b (w.store).snapshots)
      now b image =
          let risen = calls_risen h.remote start h.events s.legal in
          let reached = s.reached in
          let begun = recovers.begun in
          let x = recovers.each (d.calls (old.parts).disk) b (omega (arith, risen, reached, begun)) image in
          let is : x.0 ≡ (w.store).snapshots = reopens_to h.remote (d.calls (old.parts).disk) x.0 start h.events [] s.legal s.reached calm
          (subst (λ es. Reopens h.remote start es (d.calls (old.parts).disk) x.0) (sym (append-nil h.events)) x.2) in
          subst (Stands b) is x.1

      before : (t : ℕ) (c : Files) → begin ≤ t → t < d.calls (old.parts).disk → d.images (old.parts).disk t c → Found t c
      before t c from lt image =
          let x = recovers.each t c from image in
          let up = later d (old.parts).disk (new.parts).disk _ crash in
          (x.0, x.1, reopens_before h.remote start h.events e t x.0 (omega (arith, lt, up)) x.2)

      past_by : (t : ℕ) (a b : Bool) → nat_le e.calls t ≡ a → (kind e == FAULT_KIND) ≡ b → is_past t w e ≡ (a && not b && true)
      past_by t a b p q =
          ap (λ x. x && not (kind e == FAULT_KIND) && is_none w.fault) p ∙ ap (λ x. a && not x && is_none w.fault) q ∙ ap (λ x. a && not b && x) calm

      abbrev Gives : ℕ → List Snapshot → Bool → Type 0
      Gives t found past = Either past (found ≡ ((after h.remote w e).store).snapshots) ((found ≡ (w.store).snapshots) ⊎ (found ≡ (one_more h.remote w e).snapshots))

      given : (t : ℕ) (c : Files) (found : List Snapshot) (past : Bool) → d.calls (old.parts).disk ≤ t → Stands c found → is_past t w e ≡ past → Gives t found past → Found t c
      given t c found past le stands is gives =
          let reached = s.reached in
          (found, stands, reopens_from h.remote t found start h.events (e ∷ []) s.legal (omega (arith, le, reached)) calm (subst (Gives t found) (sym is) gives))

      -- it was not answered by then
      either : (t : ℕ) (c : Files) → d.calls (old.parts).disk ≤ t → is_past t w e ≡ false → Stands c (w.store).snapshots ⊎ Stands c (one_more h.remote w e).snapshots → Found t c
      either t c le is (inl stands) = given t c (w.store).snapshots false le stands is (inl refl)
      either t c le is (inr stands) = given t c (one_more h.remote w e).snapshots false le stands is (inr refl)

      since : (t : ℕ) (c : Files) → d.calls (old.parts).disk ≤ t → d.images (new.parts).disk t c → Found t c
      since t c le image = by_kind (kind e == FAULT_KIND) refl
        where
          one_of : Stands c (w.store).snapshots ⊎ Stands c (one_more h.remote w e).snapshots
          one_of = its.each now t c le image

          late : (a : Bool) → (a && false && true) ≡ false
          late true = refl
          late false = refl

          by_time : (kind e == FAULT_KIND) ≡ false → (a : Bool) → nat_le e.calls t ≡ a → Found t c
          by_time calm true past =
              let last = (told (new.parts).disk t c image).1 in
              let low : e.calls ≤ t = leb-true e.calls t past in
              let at : t ≡ e.calls = omega (arith, last, low) in
              given t c (one_more h.remote w e).snapshots true le (its.firm calm now c (subst (λ n. d.images (new.parts).disk n c) at image)) (past_by t true false past calm)
              (ap (λ (x : Store). x.snapshots) (after_is h.remote w e calm))
          by_time calm false past = either t c le (past_by t false false past calm) one_of

          by_kind : (b : Bool) → (kind e == FAULT_KIND) ≡ b → Found t c
          by_kind true hurt = either t c le (past_by t (nat_le e.calls t) true refl hurt ∙ late (nat_le e.calls t)) one_of
          by_kind false calm = by_time calm (nat_le e.calls t) refl

      stood : (t : ℕ) (c : Files) → t < d.calls (old.parts).disk → d.images (new.parts).disk t c → d.images (old.parts).disk t c
      stood t c lt image = ⊎_elim {C = d.images (old.parts).disk t c} (λ same. subst (λ (x : D). d.images x t c) same image) (λ steps. steps.past t c (omega (arith, lt)) image) crash

      unhalted : (t : ℕ) (c : Files) → begin ≤ t → d.images (new.parts).disk t c → Found t c
      unhalted t c from image = ⊎_elim {C = Found t c} (λ (lt : t < d.calls (old.parts).disk). before t c from lt (stood t c lt image)) (λ (le : d.calls (old.parts).disk ≤ t). since t c le image) (cases_lt t (d.calls (old.parts).disk))

    pub recovers_here : Recovers d begin new (then_event h e)
    recovers_here = record { begun = recovers.begun; each = λ t c from image. by_fault old.fault refl t c from image }
      where
        by_fault : (f : Option ℕ) → old.fault ≡ f → (t : ℕ) (c : Files) → begin ≤ t → d.images (new.parts).disk t c → Found t c
        by_fault None none = unhalted none
        by_fault (Some first) is = halted first is

  module _ (inside : k < 64) (so : StandsFor d clock.readings new (then_event h e)) (fault : new.fault ≡ fault_after (length (old.journal).entries.items) (answer.entry).kind old.fault)
      (cause : IsCaused d old new act answer) (keeps : ActKeeps d old new k act answer) (no : is_step act ≡ false) (s : StandsFor d clock.readings old h) (none : old.fault ≡ None) where
    right : IsRight h.remote w e
    right = last_right h.remote start h.events e so.legal

    none_there : w.fault ≡ None
    none_there = sym s.fault ∙ none

    unhurt : (kind e == FAULT_KIND) ≡ false → new.fault ≡ None
    unhurt calm = fault ∙ ap (λ b. if b then first_fault (length (old.journal).entries.items) old.fault else old.fault) calm ∙ none

    facts : IsCalm d old new h.remote w act answer
    facts = record {
      none = none;
      none_there = none_there;
      inside = inside;
      keeps = keeps;
      no = no;
      holds = holds;
      formed = right.formed;
      right = right.says;
      unhurt = λ calm is. not_faulted d old new act answer cause (unhurt calm) is;
      whole = λ calm. ((so.files (sym so.fault ∙ unhurt calm)).snapshots).chunks;
      passed_its_tests = λ is. keeps.passed_its_tests none is w.store holds;
    }
      where
        holds : Holds d old.parts w.store
        holds = record { honest = s.honest; shows = s.shows; files = s.files none_there }

    led : Leads d (old.parts).disk (new.parts).disk ((kind e == FAULT_KIND) ≡ false) (w.store).snapshots (one_more h.remote w e).snapshots
    led = subst (λ (x : Store). Leads d (old.parts).disk (new.parts).disk ((kind e == FAULT_KIND) ≡ false) (w.store).snapshots x.snapshots) (sym (one_is h.remote w e))
        (leads d told old new h.remote w answer act facts)

-- By this the core stands for a history with the act's event more.
abbrev pub StandsMore : {D E C : Type 0} → Ghosts D → (clock : clocks.Ghosts C) → Core D E C → Core D E C → Act → Answer → Type 0
StandsMore d clock old new act answer =
    (h : History) → StandsFor d clock.readings old h → IsClearFor act (then_event h (event_of act answer (d.calls (new.parts).disk)))
    → StandsFor d clock.readings new (then_event h (event_of act answer (d.calls (new.parts).disk)))

-- with one act more, where the core stands for the history then
pub recovers_by : {D E C : Type 0} (d : Ghosts D) (clock : clocks.Ghosts C) (old new : Core D E C) (lane : ℕ) (act : Act) (answer : Answer)
    → lane < 64 → IsAnswered d old new lane answer → IsCaused d old new act answer → ActKeeps d old new lane act answer → is_step act ≡ false
    → TellsMoments d → (begin : ℕ) (h : History) → StandsFor d clock.readings old h → StandsFor d clock.readings new (then_event h (event_of act answer (d.calls (new.parts).disk)))
    → Recovers d begin old h → Recovers d begin new (then_event h (event_of act answer (d.calls (new.parts).disk)))
recovers_by d clock old new lane act answer lt answers cause keeps unstepped told begin h s so recovers =
    let is = answers.lane_is in
    let its : ActKeeps d old new (answer.entry).lane act answer = subst (λ l. ActKeeps d old new l act answer) (sym is) keeps in
    recovers_here d clock told old new act answer h s its.halted _ (its.crash unstepped)
    (led d clock told old new act answer h (subst (λ l. l < 64) (sym is) lt) so answers.fault cause its unstepped s) begin recovers

pub recovers_more : {D E C : Type 0} (d : Ghosts D) (clock : clocks.Ghosts C) (old new : Core D E C) (lane : ℕ) (act : Act) (answer : Answer)
    → lane < 64 → StandsMore d clock old new act answer → IsAnswered d old new lane answer → IsCaused d old new act answer → ActKeeps d old new lane act answer → is_step act ≡ false
    → TellsMoments d → (begin : ℕ) (h : History) → StandsFor d clock.readings old h → IsClear (then_event h (event_of act answer (d.calls (new.parts).disk)))
    → Recovers d begin old h → Recovers d begin new (then_event h (event_of act answer (d.calls (new.parts).disk)))
recovers_more d clock old new lane act answer lt more answers cause keeps unstepped told begin h s clear recovers =
    recovers_by d clock old new lane act answer lt answers cause keeps unstepped told begin h s
    (more h s (clear_for act (then_event h (event_of act answer (d.calls (new.parts).disk))) clear)) recovers

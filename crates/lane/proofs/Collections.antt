-- GC on a lane: what its collector's acts do, and where they lead.
use Rattle.std.proofs.Common.{◌≡◌, inl, inr, ℕ, Bool, true, false, ◌||◌, ◌==◌, List, [], ◌∷◌, if◌then◌else◌, Option, Some, None, refl, sym, ap, subst, ◌∙◌}
use Rattle.std.proofs.lemmas.Bool.{eqb-true}
use Rattle.store_types.specs.declared.order.TheConstants.{MEMORY_KIND, START_KIND}
use Rattle.wire_commands.specs.declared.reply.Reply.{Reply}
use Rattle.store_model.specs.Lanes.{collect, collecting}
use Rattle.store_history.specs.declared.act.Act.{Act}
use Rattle.store_history.specs.declared.act.Act.TheVariants as acts
use Rattle.store_history.specs.declared.act.Answer.{Answer}
use Rattle.store_history.specs.declared.act.Event.{Event}
use Rattle.store_history.specs.LaneRun as lane_run
use Rattle.store_history.specs.LaneRun.{ahead, Position, heard_at, heard}
use Rattle.store_history.specs.SoFar.{Leads}
use Rattle.store_history.proofs.Collecting.{next_collecting, follows_step, leads_start, leads_gc, leads_close}
use Rattle.store_history.proofs.Growing.{leads_more}
use Rattle.store_history.proofs.Unheld.{flagged}
use Rattle.seat_history.specs.Entered.{event_at}
use Rattle.core_state.specs.Answers.{IsToldBut}
use Rattle.core_state.specs.History.{History}
use Rattle.lane.specs.Doing.{IsNext, answered}
use Rattle.lane.specs.Tasks.{Stage, done, starts, sweeps, taken, taken_by, sweeping_at, IsAt, StepsOn}
use Rattle.lane.proofs.Acting.{Acted, none_some}
use Rattle.lane.proofs.Doing.{read_on}

-- ---- what an answer leaves of an open collector

-- one without a reply
heard_pass : (p : Position) (b : Bool) (a : Answer) → p.task ≡ Some (lane_run.sweeps b) → a.reply ≡ None → heard p a ≡ flagged a p
unfolding heard heard_at
heard_pass p b a on none =
    ap (λ x. flagged a (heard_at p (a.entry).kind a.reply x)) (next_collecting p b on)
    ∙ ap (λ (x : Option Reply). flagged a (heard_at p (a.entry).kind x (ahead (collecting b)))) none

-- want of memory
heard_want : (p : Position) (b : Bool) (a : Answer) (r : Reply) → p.task ≡ Some (lane_run.sweeps b) → a.reply ≡ Some r → (a.entry).kind ≡ MEMORY_KIND
    → heard p a ≡ flagged a (record p { task = Some (lane_run.sweeps true) })
unfolding heard heard_at
heard_want p b a r on says two =
    ap (λ x. flagged a (heard_at p (a.entry).kind a.reply x)) (next_collecting p b on)
    ∙ ap (λ (x : Option Reply). flagged a (heard_at p (a.entry).kind x (ahead (collecting b)))) says
    ∙ ap (λ n. flagged a (heard_at p n (Some r) (ahead (collecting b)))) two

-- ---- one act

step_by : (before after : History → Type 0) (k : ℕ) (act : Act) (a : Answer) (old new : Stage) (was now : Bool) (x : Acted before after k act a)
    → ((p q : Position) (left : List ℕ) → IsAt p left old was q → (r : Position) × (Leads q (event_at act a x.calls ∷ []) r × IsAt p left new now r))
    → StepsOn before after k old new was now
step_by before after k act a old new was now x led = record { events = event_at act a x.calls ∷ []; history = x.history; lanes = (x.lane_is, tt); leads = led }

-- the collector opens, or its start was told something
pub starts_once : (before after : History → Type 0) (k : ℕ) (was : Bool) (a : Answer) → Acted before after k acts.Start a → StepsOn before after k starts (taken starts a) was (a.last || was)
starts_once before after k was a x = by_reply a.reply refl
  where
    v : Event
    v = event_at acts.Start a x.calls

    is_three : IsToldBut 3 a → a.reply ≡ None → (a.entry).kind ≡ START_KIND
    is_three (inl opened) none = opened.0
    is_three (inr told) none = absurd (none_some a.reply none told.1)

    last_is : (p : Position) (left : List ℕ) → IsNext (collect left) p → was ≡ false → a.last || p.is_spent ≡ a.last || was
    last_is p left next none = ap (λ b. a.last || b) (read_on p (collect left) next.next refl next.on ∙ sym none)

    on : (p : Position) (left : List ℕ) → IsNext (collect left) p → p.is_spent ≡ false
    on p left next = read_on p (collect left) next.next refl next.on

    by_reply : (o : Option Reply) → a.reply ≡ o → StepsOn before after k starts (taken_by starts (a.entry).kind o) was (a.last || was)
    by_reply None none = step_by before after k acts.Start a starts sweeps was (a.last || was) x (λ p q left at. let next = at.2 in (
      sweeping_at p left false (a.last || was),
      (
        subst (λ y. Leads y (v ∷ []) (sweeping_at p left false (a.last || was))) (sym at.0)
            (subst (λ b. Leads p (v ∷ []) (sweeping_at p left false b)) (last_is p left next at.1)
            (leads_start [] p p left v refl (on p left next) next.next refl none (is_three x.told none))),
        (false, refl, next),
      ),
    ))
    by_reply (Some r) says = step_by before after k acts.Start a starts (done r) was (a.last || was) x (λ p q left at. let next = at.2 in (
      answered p left r (a.last || was),
      (
        subst (λ y. Leads y (v ∷ []) (answered p left r (a.last || was))) (sym at.0)
            (subst (λ b. Leads p (v ∷ []) (answered p left r b)) (last_is p left next at.1)
            (leads_gc [] p p left v r refl (on p left next) next.next refl says)),
        refl,
      ),
    ))

-- a mark or a visit, want of memory, or the end
pub sweeps_once : (before after : History → Type 0) (k : ℕ) (was : Bool) (a : Answer) → Acted before after k acts.Step a → StepsOn before after k sweeps (taken sweeps a) was (a.last || was)
sweeps_once before after k was a x = by_reply a.reply refl
  where
    v : Event
    v = event_at acts.Step a x.calls

    -- from where it is open, and memory was wanting or not
    opened : Position → List ℕ → Bool → Position
    opened p left s = sweeping_at p left s was

    heard_led : (p : Position) (left : List ℕ) (s : Bool) → Leads (opened p left s) (v ∷ []) (heard (opened p left s) a)
    heard_led p left s = leads_more [] (opened p left s) (opened p left s) v refl (follows_step (opened p left s) s v refl refl)

    -- still open, with this of memory
    open_still : (p q : Position) (left : List ℕ) (s : Bool) (b : Bool) → q ≡ opened p left s → IsNext (collect left) p
        → heard (opened p left s) a ≡ sweeping_at p left b (a.last || was) → (r : Position) × (Leads q (v ∷ []) r × IsAt p left sweeps (a.last || was) r)
    open_still p q left s b at next is = (
      sweeping_at p left b (a.last || was),
      (
        subst (λ y. Leads y (v ∷ []) (sweeping_at p left b (a.last || was))) (sym at) (subst (λ y. Leads (opened p left s) (v ∷ []) y) is (heard_led p left s)),
        (b, refl, next),
      ),
    )

    -- its end
    closed : (p q : Position) (left : List ℕ) (s : Bool) (r : Reply) → q ≡ opened p left s → IsNext (collect left) p → a.reply ≡ Some r → ((a.entry).kind == MEMORY_KIND) ≡ false
        → (t : Position) × (Leads q (v ∷ []) t × IsAt p left (done r) (a.last || was) t)
    closed p q left s r at next says other = (
      answered p left r (a.last || was),
      (
        subst (λ y. Leads y (v ∷ []) (answered p left r (a.last || was))) (sym at)
            (leads_close [] (opened p left s) (opened p left s) s v r refl refl refl says other),
        refl,
      ),
    )

    by_reply : (o : Option Reply) → a.reply ≡ o → StepsOn before after k sweeps (taken_by sweeps (a.entry).kind o) was (a.last || was)
    by_reply None none = step_by before after k acts.Step a sweeps sweeps was (a.last || was) x
        (λ p q left at. open_still p q left at.0 at.0 at.1 at.2 (heard_pass (opened p left at.0) at.0 a refl none))
    by_reply (Some r) says = by_kind ((a.entry).kind == MEMORY_KIND) refl
      where
        by_kind : (b : Bool) → ((a.entry).kind == MEMORY_KIND) ≡ b → StepsOn before after k sweeps (if b then sweeps else done r) was (a.last || was)
        by_kind true two = step_by before after k acts.Step a sweeps sweeps was (a.last || was) x
            (λ p q left at. open_still p q left at.0 true at.1 at.2 (heard_want (opened p left at.0) at.0 a r refl says (eqb-true (a.entry).kind 2 two)))
        by_kind false other = step_by before after k acts.Step a sweeps (done r) was (a.last || was) x (λ p q left at. closed p q left at.0 r at.1 at.2 says other)

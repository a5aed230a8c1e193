-- A lane that runs its program makes the steps of the job that is next, and tells its report before anything else.
use Rattle.std.proofs.Common.{◌≡◌, ◌⊎◌, inl, inr, ℕ, ◌==◌, ◌||◌, Bool, true, false, cond, List, [], ◌∷◌, ◌++◌, length, Option, Some, refl, sym, ap, subst, ◌∙◌, arith, eq-eqb}
use Rattle.std.specs.List.{fold}
use Rattle.std.proofs.lemmas.List.{append_assoc, append_cancel_left, length-append}
use Rattle.store_types.specs.declared.order.TheConstants.{COMMAND_KIND}
use Rattle.store_files.specs.Archive.{Snapshot}
use Rattle.wire_commands.specs.declared.reply.Reply.{Reply}
use Rattle.store_model.specs.declared.ending.Ending.{Ending}
use Rattle.store_model.specs.Job.{opening, Asking, Job, over, asking, step_of}
use Rattle.store_model.specs.Jobs.{take}
use Rattle.store_model.specs.Lanes.{job_step}
use Rattle.store_model.specs.Steps.{answered}
use Rattle.store_model.specs.Store.{Store}
use Rattle.store_history.specs.declared.act.Act.{Act}
use Rattle.store_history.specs.declared.act.Event.{Event}
use Rattle.store_history.specs.Acts.{Class, stepping, reaching, starting, sweeping, wanting, ending, act_of_step, class_of}
use Rattle.store_history.specs.History.{World, opened, step_kind, kind_of, act_outcome, after, after_all, lane, moment, kind, own, reply}
use Rattle.store_history.specs.LaneRun.{ahead, Position, begin, next_at, goes_on, heard_as, position_after, Asks, Does, Runs}
use Rattle.store_history.specs.Legal.{Right, IsRight, IsLegal}
use Rattle.store_history.proofs.Events.{step_class}
use Rattle.store_history.proofs.Jobs.{at_job, heard_job, at_job_next}
use Rattle.store_history.proofs.Longer.{own_append}
use Rattle.job_laws.specs.Others.{MayBegin, StepsTo, TellsFirst, position_behind, VerifiesAreTold}
use Rattle.job_laws.proofs.Besides.{legal_behind, verifies_beside_others}

-- ---- what is told

no_more : (rs : List Reply) (r : Reply) → rs ≡ rs ++ r ∷ [] → ⊥
no_more rs r h =
    let more = length-append rs (r ∷ []) in
    let same = ap length h in
    omega (arith, more, same)

same_last : (rs : List Reply) (q r : Reply) → rs ++ q ∷ [] ≡ rs ++ r ∷ [] → q ≡ r
same_last rs q r h = (let one = append_cancel_left rs (q ∷ []) (r ∷ []) h in cc)

-- ---- a step of the lane's own

module _ (R : Option (List Snapshot)) (end : Ending) (p : Position) (a : Asking) (left : List ℕ) (next : next_at p ≡ ahead (job_step a left)) where
  asked : (act : Act) → Asks (next_at p) act → act ≡ act_of_step (step_of a)
  asked act h = subst (λ n. Asks n act) next h

  asked_by : (c : Class) (w : World) (k m : ℕ) (act : Act) (r : Option Reply) (v : Event) (vs : List Event) → Does c end p v vs → Right R w k m act r c step_kind
      → v.act ≡ act_of_step (step_of a)
  asked_by stepping w k m act r v vs does right = asked v.act does.1
  asked_by reaching w k m act r v vs does right = asked v.act does.1
  asked_by starting w k m act r v vs does right = asked v.act does.1
  asked_by sweeping w k m act r v vs does right = asked v.act does
  asked_by wanting w k m act r v vs does right = absurd right
  asked_by ending w k m act r v vs does right = absurd right

  -- where it is over its report was told, and where it goes on nothing
  abbrev Hears : Position → Job → Type 0
  Hears q (over report) = q.told ≡ p.told ++ report ∷ []
  Hears q (asking b) = (next_at q ≡ ahead (job_step b left)) × (q.told ≡ p.told)

  heard_of : (job : Job) (b : Bool) → Hears (at_job p left job b) job
  unfolding goes_on
  heard_of (over report) b = refl
  heard_of (asking j) b = (at_job_next p left j b, refl)

  record Stepped (w : World) (v : Event) : Type 0 where
    act : v.act ≡ act_of_step (step_of a)
    answer : Reply
    says : reply v ≡ Some answer
    hears : Hears (position_after end p v) (take a answer)

  stepped : (w : World) (v : Event) (vs : List Event) → IsRight R w v → kind v ≡ COMMAND_KIND → Does (class_of v.act) end p v vs → Stepped w v
  unfolding position_after
  stepped w v vs right done does = record { act = act_is; answer = told.1; says = says; hears = subst (λ q. Hears q (take a told.1)) (sym heard_is) (heard_of (take a told.1) ((v.answer).last || p.is_spent)) }
    where
      of_kind : Right R w (lane v) (moment v) v.act (reply v) (class_of v.act) step_kind
      of_kind = subst (λ n. Right R w (lane v) (moment v) v.act (reply v) (class_of v.act) (kind_of n)) done right.says

      act_is : v.act ≡ act_of_step (step_of a)
      act_is = asked_by (class_of v.act) w (lane v) (moment v) v.act (reply v) v vs does of_kind

      class_is : class_of v.act ≡ stepping
      class_is = ap class_of act_is ∙ step_class (step_of a)

      told : Store × Reply
      told = answered w.store (act_outcome R w (lane v) (moment v) v.act)

      says : reply v ≡ Some told.1
      says = (subst (λ c. Right R w (lane v) (moment v) v.act (reply v) c step_kind) class_is of_kind).1

      heard_is : position_after end p v ≡ at_job p left (take a told.1) ((v.answer).last || p.is_spent)
      heard_is = ap (λ c. heard_as c end p v.answer) class_is ∙ heard_job p a left v.answer told.1 next says

-- ---- from step to step

module _ (R : Option (List Snapshot)) (k : ℕ) (end : Ending) (r : Reply) where
  -- some first part of the events are the job's steps, to this report
  record Reached (a : Asking) (es : List Event) : Type 0 where
    part : List Event
    rest : List Event
    are : es ≡ part ++ rest
    steps : StepsTo (asking a) (own k part) (over r)

  record OwnReached (a : Asking) (v : Event) (es : List Event) : Type 0 where
    part : List Event
    rest : List Event
    are : es ≡ part ++ rest
    steps : StepsTo (asking a) (v ∷ own k part) (over r)

  abbrev Reaches : List Event → Type 0
  Reaches es =
      (a : Asking) (left : List ℕ) (p : Position) (w : World) (told : List Reply) → next_at p ≡ ahead (job_step a left) → IsLegal R w es
      → Runs end p (own k es) told → TellsFirst end p (own k es) r → Reached a es

  own_reached : (v : Event) (es : List Event) → Reaches es → (a : Asking) (left : List ℕ) (p : Position) (w : World) (told : List Reply) → next_at p ≡ ahead (job_step a left)
      → IsRight R w v → IsLegal R (after R w v) es → Runs end p (v ∷ own k es) told → TellsFirst end p (v ∷ own k es) r → OwnReached a v es
  own_reached v es go a left p w told next right legal runs tells = by_job (take a one.answer) refl one.hears tells.1
    where
      one : Stepped R end p a left next w v
      one = stepped R end p a left next w v (own k es) right tells.0 runs.1

      q : Position
      q = position_after end p v

      with_steps : (part rest : List Event) → es ≡ part ++ rest → StepsTo (take a one.answer) (own k part) (over r) → OwnReached a v es
      with_steps part rest are steps = record { part = part; rest = rest; are = are; steps = (one.act, tells.0, one.answer, one.says, steps) }

      goes : (b : Asking) → take a one.answer ≡ asking b → Reached b es → OwnReached a v es
      goes b is reached = with_steps reached.part reached.rest reached.are (subst (λ j. StepsTo j (own k reached.part) (over r)) (sym is) reached.steps)

      by_job : (job : Job) → take a one.answer ≡ job → Hears R end p a left next q job
          → (q.told ≡ p.told ++ r ∷ []) ⊎ ((q.told ≡ p.told) × TellsFirst end q (own k es) r) → OwnReached a v es
      by_job (over report) is hears (inl now) = with_steps [] es refl (is ∙ ap over (same_last p.told report r (sym hears ∙ now)))
      by_job (over report) is hears (inr later) = absurd (no_more p.told report (sym later.0 ∙ hears))
      by_job (asking b) is hears (inl now) = absurd (no_more p.told r (sym hears.1 ∙ now))
      by_job (asking b) is hears (inr later) = goes b is (go b left q (after R w v) told hears.0 legal runs.2 later.1)

  reached : (es : List Event) → Reaches es
  reached [] a left p w told next legal runs tells = absurd tells
  reached (v ∷ es) a left p w told next legal runs tells = by_lane (lane v == k) refl runs tells (reached es)
    where
      by_lane : (b : Bool) → (lane v == k) ≡ b → Runs end p (cond b (v ∷ own k es) (own k es)) told → TellsFirst end p (cond b (v ∷ own k es) (own k es)) r → Reaches es → Reached a (v ∷ es)
      by_lane true on runs tells go =
          let its = own_reached v es go a left p w told next legal.0 legal.1 runs tells in
          record {
            part = v ∷ its.part;
            rest = its.rest;
            are = ap (λ xs. v ∷ xs) its.are;
            steps = subst (λ b. StepsTo (asking a) (cond b (v ∷ own k its.part) (own k its.part)) (over r)) (sym on) its.steps;
          }
      by_lane false off runs tells go =
          let its = go a left p (after R w v) told next legal.1 runs tells in
          record {
            part = v ∷ its.part;
            rest = its.rest;
            are = ap (λ xs. v ∷ xs) its.are;
            steps = subst (λ b. StepsTo (asking a) (cond b (v ∷ own k its.part) (own k its.part)) (over r)) (sym off) its.steps;
          }

-- ---- a whole run

runs_behind : (end : Ending) (p : Position) (xs ys : List Event) (told : List Reply) → Runs end p (xs ++ ys) told → Runs end (fold (position_after end) p xs) ys told
runs_behind end p [] ys told runs = runs
runs_behind end p (v ∷ xs) ys told runs = runs_behind end (position_after end p v) xs ys told runs.2

legal_before : (R : Option (List Snapshot)) (w : World) (xs ys : List Event) → IsLegal R w (xs ++ ys) → IsLegal R w xs
legal_before R w [] ys legal = tt
legal_before R w (e ∷ xs) ys legal = (legal.0, legal_before R (after R w e) xs ys legal.1)

pub verifies_are_told : VerifiesAreTold
unfolding after_all
verifies_are_told R o before first later text x input end told r h ran is tells =
    (verifies_beside_others R o before first its.part text x r begins its.steps).0
  where
    k : ℕ
    k = lane first

    p : Position
    p = position_behind input end (own k before)

    legal : IsLegal R (after_all R (opened o) before) (first ∷ later)
    legal = legal_behind R (opened o) before (first ∷ later) h.legal

    owns : own k (first ∷ later) ≡ first ∷ own k later
    owns = ap (λ b. cond b (first ∷ own k later) (own k later)) (eq-eqb (lane first) k refl)

    runs : Runs end p (first ∷ own k later) told
    runs =
        subst (λ es. Runs end p es told) owns
        (runs_behind end (begin input) (own k before) (own k (first ∷ later)) told (subst (λ es. Runs end (begin input) es told) (own_append k before (first ∷ later)) ran))

    its : OwnReached R k end r (opening text) first later
    its = own_reached R k end r first later (reached R k end r later) (opening text) is.left p (after_all R (opened o) before) told is.next legal.0 legal.1 runs tells

    begins : MayBegin R o before first its.part text x
    begins = record {
      legal = legal_before R (opened o) (before ++ first ∷ its.part) its.rest (subst (IsLegal R (opened o)) (ap (λ xs. before ++ first ∷ xs) its.are ∙ sym (append_assoc before (first ∷ its.part) its.rest)) h.legal);
      order = h.order;
      idle = h.idle;
      named = h.named;
      there = h.there;
      fits = h.fits;
    }

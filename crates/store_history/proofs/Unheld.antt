-- That a frame could not be held changes nothing but how the lane may end.
use Rattle.std.proofs.Common.{◌≡◌, ℕ, ◌-◌, Bool, true, false, ◌&&◌, ◌||◌, List, [], ◌∷◌, ◌++◌, Option, Some, None, is_none, refl, sym, ap, subst, ◌∙◌, if◌then◌else◌, ◌==◌}
use Rattle.store_types.specs.declared.order.TheConstants.{MEMORY_KIND, FAULT_KIND}
use Rattle.wire_commands.specs.declared.reply.Reply.{Reply}
use Rattle.wire_commands.specs.declared.reply.Reply.TheVariants.{Done, Refused}
use Rattle.store_model.specs.declared.ending.Ending.{Ending}
use Rattle.store_model.specs.declared.ending.Ending.TheVariants as endings
use Rattle.store_model.specs.Job.{Job, over, asking}
use Rattle.store_model.specs.Jobs.{take as job_take}
use Rattle.store_model.specs.Lanes.{job_step, plain, sync, collect, collecting, bye, broken, end}
use Rattle.store_model.specs.Weave.{is_replied}
use Rattle.store_history.specs.declared.act.Answer.{Answer}
use Rattle.store_history.specs.declared.act.Event.{Event}
use Rattle.store_history.specs.Acts.{Class, stepping, reaching, starting, sweeping, wanting, ending, class_of}
use Rattle.store_history.specs.History.{kind, reply}
use Rattle.store_history.specs.LaneRun.{sweeps, Ahead, ahead, pull, job_in, Position, next_at, tells, heard_at, heard, heard_as, goes_on, pulls_on, used_up, leaves_unheld, last_words, end_faulted, end_heard, position_after, EndsSo, Does, Runs}
use Rattle.store_history.specs.Pulling as model
use Rattle.store_history.specs.Pulling.{SyncJob, sought, take as pull_take}
use Rattle.store_history.specs.SoFar.{Follows}

-- ---- what is heard

-- what an answer leaves beside what was heard
abbrev pub flagged : Answer → Position → Position
flagged a q = record q { is_unheld = false; is_spent = a.last || q.is_spent }

abbrev pub unheld : Bool → Position → Position
unheld b p = record p { is_unheld = b }

job_unheld : (b : Bool) (p : Position) (left : List ℕ) (j : Job) → goes_on (unheld b p) left j ≡ unheld b (goes_on p left j)
unfolding goes_on
job_unheld b p left (over report) = refl
job_unheld b p left (asking j) = refl

pull_unheld : (b : Bool) (p : Position) (left : List ℕ) (j : SyncJob) → pulls_on (unheld b p) left j ≡ unheld b (pulls_on p left j)
unfolding pulls_on
pull_unheld b p left (model.reports report) = refl
pull_unheld b p left (model.asks x) = refl

heard_at_unheld : (b : Bool) (p : Position) (n : ℕ) (r : Option Reply) (x : Ahead) → heard_at (unheld b p) n r x ≡ unheld b (heard_at p n r x)
unfolding heard_at
heard_at_unheld b p n (Some r) (ahead (job_step j left)) = job_unheld b p left (job_take j r)
heard_at_unheld b p n (Some r) (ahead (plain c left)) = refl
heard_at_unheld b p n (Some r) (ahead (sync group left)) = by_kind (n == 1)
  where
    by_kind : (t : Bool) → (if t then pulls_on (unheld b p) p.left (sought group r) else tells (unheld b p) left r)
        ≡ unheld b (if t then pulls_on p p.left (sought group r) else tells p left r)
    by_kind true = pull_unheld b p p.left (sought group r)
    by_kind false = refl
heard_at_unheld b p n (Some r) (ahead (collect left)) = refl
heard_at_unheld b p n (Some r) (ahead (collecting is_out_of_memory)) = by_kind (n == 2)
  where
    by_kind : (t : Bool) → (if t then record (unheld b p) { task = Some (sweeps true) } else tells (unheld b p) p.left r)
        ≡ unheld b (if t then record p { task = Some (sweeps true) } else tells p p.left r)
    by_kind true = refl
    by_kind false = refl
heard_at_unheld b p n (Some r) (ahead (broken refusal)) = by_kind (n == 2)
  where
    by_kind : (t : Bool) → (if t then used_up (unheld b p) r else unheld b p) ≡ unheld b (if t then used_up p r else p)
    by_kind true = refl
    by_kind false = refl
heard_at_unheld b p n (Some r) (ahead bye) = refl
heard_at_unheld b p n (Some r) (ahead end) = refl
heard_at_unheld b p n None (ahead (job_step j left)) = refl
heard_at_unheld b p n None (ahead (plain c left)) = refl
heard_at_unheld b p n None (ahead (sync group left)) = refl
heard_at_unheld b p n None (ahead (collect left)) = by_kind (n == 3)
  where
    by_kind : (t : Bool) → (if t then record (unheld b p) { left = left; task = Some (sweeps false) } else unheld b p)
        ≡ unheld b (if t then record p { left = left; task = Some (sweeps false) } else p)
    by_kind true = refl
    by_kind false = refl
heard_at_unheld b p n None (ahead (collecting is_out_of_memory)) = refl
heard_at_unheld b p n (Some r) (pull x left) = pull_unheld b p left (pull_take x r)
heard_at_unheld b p n None (pull x left) = refl
heard_at_unheld b p n None (ahead (broken refusal)) = refl
heard_at_unheld b p n None (ahead bye) = refl
heard_at_unheld b p n None (ahead end) = refl

-- the next answer is heard as before
pub heard_unheld : (b : Bool) (p : Position) (a : Answer) → heard (unheld b p) a ≡ heard p a
unfolding heard next_at
heard_unheld b p a = ap (flagged a) (heard_at_unheld b p (a.entry).kind a.reply (next_at p))

-- ---- the lane's end

words_unheld : (b : Bool) (e : Ending) (p : Position) (x : Ahead) → last_words e (unheld b p) x ≡ unheld b (last_words e p x)
unfolding last_words
words_unheld b e p (ahead bye) = by_test (is_replied e)
  where
    by_test : (t : Bool) → (if t then tells (unheld b p) [] Done else unheld b p) ≡ unheld b (if t then tells p [] Done else p)
    by_test true = refl
    by_test false = refl
words_unheld b e p (ahead (broken refusal)) = by_test (is_replied e)
  where
    by_test : (t : Bool) → (if t then tells (unheld b p) [] (Refused refusal) else unheld b p) ≡ unheld b (if t then tells p [] (Refused refusal) else p)
    by_test true = refl
    by_test false = refl
words_unheld b e p (ahead (job_step j left)) = refl
words_unheld b e p (ahead (plain c left)) = refl
words_unheld b e p (ahead (sync group left)) = refl
words_unheld b e p (ahead (collect left)) = refl
words_unheld b e p (ahead (collecting is_out_of_memory)) = refl
words_unheld b e p (ahead end) = refl
words_unheld b e p (pull x left) = refl

faulted_unheld : (b : Bool) (e : Ending) (p : Position) (r : Option Reply) → end_faulted e (unheld b p) r ≡ unheld b (end_faulted e p r)
unfolding next_at
faulted_unheld b endings.NoMemory p r = by_test (is_none (job_in p.task))
  where
    by_test : (t : Bool) → (if t then unheld b p else heard_at (unheld b p) 5 r (next_at p)) ≡ unheld b (if t then p else heard_at p 5 r (next_at p))
    by_test true = refl
    by_test false = heard_at_unheld b p 5 r (next_at p)
faulted_unheld b e p r = heard_at_unheld b p 5 r (next_at p)

ended_unheld : (b : Bool) (e : Ending) (p : Position) (n : ℕ) (r : Option Reply) → end_heard e (unheld b p) n r ≡ unheld b (end_heard e p n r)
unfolding next_at
ended_unheld b e p n r = by_kind (n == FAULT_KIND)
  where
    by_kind : (t : Bool) → (if t then end_faulted e (unheld b p) r else record (last_words e (unheld b p) (next_at p)) { is_over = true })
        ≡ unheld b (if t then end_faulted e p r else record (last_words e p (next_at p)) { is_over = true })
    by_kind true = faulted_unheld b e p r
    by_kind false = ap (λ (q : Position). record q { is_over = true }) (words_unheld b e p (next_at p))

-- where it could be held, a lane may end so too where it could not
pub ends_unheld : (b : Bool) (e : Ending) (p : Position) (x : Ahead) → p.is_unheld ≡ false → EndsSo e p x → EndsSo e (unheld b p) x
ends_unheld b endings.Clean p (ahead bye) held h = h
ends_unheld b endings.Clean p (ahead end) held h = h
ends_unheld b (endings.Broken place) p (ahead (broken refusal)) held h = h
ends_unheld b endings.SourceFault p x held h = h
ends_unheld b endings.SourceTooLong p x held h = h
ends_unheld b endings.SinkFault p x held h = h
ends_unheld b endings.NoMemory p x held h = (by_test b (ap (λ t. t || p.is_spent) (sym held) ∙ h.0), h.1)
  where
    by_test : (t : Bool) → p.is_spent ≡ true → (t || p.is_spent) ≡ true
    by_test true spent = refl
    by_test false spent = spent
ends_unheld b endings.Clean p x held h = absurd h
ends_unheld b (endings.Broken place) p x held h = absurd h

-- ---- a run

does_unheld : (b : Bool) (c : Class) (e : Ending) (p : Position) (v : Event) (vs : List Event) → p.is_unheld ≡ false → Does c e p v vs → Does c e (unheld b p) v vs
unfolding next_at
does_unheld b stepping e p v vs held h = h
does_unheld b reaching e p v vs held h = h
does_unheld b starting e p v vs held h = h
does_unheld b sweeping e p v vs held h = h
does_unheld b wanting e p v vs held h = h
does_unheld b ending e p v vs held h = (ends_unheld b e p (next_at p) held h.0, h.1, h.2)

ended_held : (e : Ending) (p : Position) (n : ℕ) (r : Option Reply) → p.is_unheld ≡ false → (end_heard e p n r).is_unheld ≡ false
ended_held e p n r held =
    ap (λ (q : Position). (end_heard e q n r).is_unheld) (same p.is_unheld held) ∙ ap (λ (q : Position). q.is_unheld) (ended_unheld false e p n r)
  where
    same : (b : Bool) → b ≡ false → unheld b p ≡ unheld false p
    same b is = ap (λ t. unheld t p) is

-- a run from where it could be held is one from where it could not
pub unheld_runs : (b : Bool) (e : Ending) (p : Position) (vs : List Event) (told : List Reply) → p.is_unheld ≡ false → Runs e p vs told → Runs e (unheld b p) vs told
unfolding position_after
unheld_runs b e p [] told held runs = runs
unheld_runs b e p (v ∷ vs) told held runs = (runs.0, does_unheld b (class_of v.act) e p v vs held runs.1, by_class (class_of v.act) (λ q same. unheld_runs b e q vs told same) runs.2)
  where
    by_class : (c : Class) → ((q : Position) → q.is_unheld ≡ false → Runs e q vs told → Runs e (unheld b q) vs told) → Runs e (heard_as c e p v.answer) vs told → Runs e (heard_as c e (unheld b p) v.answer) vs told
    by_class ending behind h =
        subst (λ q. Runs e q vs told) (sym (ended_unheld b e p (kind v) (reply v)))
        (behind (end_heard e p (kind v) (reply v)) (ended_held e p (kind v) (reply v) held) h)
    by_class wanting behind h = subst (λ (q : Position). Runs e (unheld (leaves_unheld p v.answer) q) vs told) (sym (heard_unheld b p v.answer)) h
    by_class stepping behind h = subst (λ q. Runs e q vs told) (sym (heard_unheld b p v.answer)) h
    by_class reaching behind h = subst (λ q. Runs e q vs told) (sym (heard_unheld b p v.answer)) h
    by_class starting behind h = subst (λ q. Runs e q vs told) (sym (heard_unheld b p v.answer)) h
    by_class sweeping behind h = subst (λ q. Runs e q vs told) (sym (heard_unheld b p v.answer)) h

-- nor could it where something is open
pub heard_open : (p : Position) (a : Answer) → is_none p.task ≡ false → unheld (leaves_unheld p a) (heard p a) ≡ heard p a
unfolding heard
heard_open p a opened = ap (λ b. unheld (b && ((a.entry).kind == MEMORY_KIND)) (heard p a)) opened

heard_held : (p : Position) (a : Answer) → (heard p a).is_unheld ≡ false
unfolding heard
heard_held p a = refl

held_same : (p : Position) (a : Answer) → heard p a ≡ unheld false (heard p a)
unfolding heard
held_same p a = refl

-- where more follows, that a frame could not be held is all that `heard` leaves out
pub follows_heard : (b : Bool) (c : Class) (e : Ending) (p : Position) (v : Event) → Follows c p v → (t : Bool) × (heard_as c e (unheld b p) v.answer ≡ unheld t (heard p v.answer))
follows_heard b ending e p v follows = absurd follows
follows_heard b wanting e p v follows = (leaves_unheld p v.answer, ap (unheld (leaves_unheld p v.answer)) (heard_unheld b p v.answer))
follows_heard b stepping e p v follows = (false, heard_unheld b p v.answer ∙ held_same p v.answer)
follows_heard b reaching e p v follows = (false, heard_unheld b p v.answer ∙ held_same p v.answer)
follows_heard b starting e p v follows = (false, heard_unheld b p v.answer ∙ held_same p v.answer)
follows_heard b sweeping e p v follows = (false, heard_unheld b p v.answer ∙ held_same p v.answer)

-- so what was done so far leads to where a run of the lane goes on
pub follows_runs : (c : Class) (e : Ending) (p : Position) (v : Event) (vs : List Event) (told : List Reply) → Follows c p v → Runs e (heard p v.answer) vs told
    → Runs e (heard_as c e p v.answer) vs told
follows_runs ending e p v vs told follows h = absurd follows
follows_runs wanting e p v vs told follows h = unheld_runs (leaves_unheld p v.answer) e (heard p v.answer) vs told (heard_held p v.answer) h
follows_runs stepping e p v vs told follows h = h
follows_runs reaching e p v vs told follows h = h
follows_runs starting e p v vs told follows h = h
follows_runs sweeping e p v vs told follows h = h

-- A lane that ended by want of memory has an entry of it.
use Rattle.std.proofs.Common.{◌≡◌, ◌==◌, ◌&&◌, ◌||◌, ℕ, Bool, true, false, List, [], ◌∷◌, Option, Some, None, is_none, if◌then◌else◌, refl, sym, ap, subst, ◌∙◌}
use Rattle.std.specs.List.{list_any}
use Rattle.std.proofs.lemmas.Bool.{eq-eqb}
use Rattle.store_types.specs.declared.order.TheConstants.{PART_KIND, MEMORY_KIND, START_KIND}
use Rattle.wire_commands.specs.declared.reply.Reply.{Reply}
use Rattle.store_model.specs.declared.ending.Ending.TheVariants as endings
use Rattle.store_model.specs.Job.{Job, over, asking}
use Rattle.store_model.specs.Jobs.{take as job_take}
use Rattle.store_model.specs.Lanes.{job_step, plain, sync, collect, collecting, bye, broken, end}
use Rattle.store_history.specs.declared.act.Answer.{Answer}
use Rattle.store_history.specs.declared.act.Event.{Event}
use Rattle.store_history.specs.Acts.{Class, stepping, reaching, starting, sweeping, wanting, ending, class_of}
use Rattle.store_history.specs.History.{entry, entries, kind}
use Rattle.store_history.specs.LaneRun.{sweeps, Ahead, ahead, pull, Position, begin, next_at, tells, goes_on, pulls_on, heard_at, heard, leaves_unheld, heard_as, position_after, LaneRan, Runs, Does}
use Rattle.store_history.specs.Pulling.{SyncJob, reports, asks, sought, take as pull_take}
use Rattle.seat_history.specs.Lanes.{LastsAreWants}

record Quiet (p : Position) : Type 0 where
  pub spent : p.is_spent ≡ false
  pub on : p.is_over ≡ false

tells_quiet : (p : Position) (left : List ℕ) (r : Reply) → Quiet p → Quiet (tells p left r)
tells_quiet p left r q = record { spent = q.spent; on = q.on }

goes_quiet : (p : Position) (left : List ℕ) (job : Job) → Quiet p → Quiet (goes_on p left job)
unfolding goes_on
goes_quiet p left (over report) q = tells_quiet p left report q
goes_quiet p left (asking j) q = record { spent = q.spent; on = q.on }

pulls_quiet : (p : Position) (left : List ℕ) (job : SyncJob) → Quiet p → Quiet (pulls_on p left job)
unfolding pulls_on
pulls_quiet p left (reports report) q = tells_quiet p left report q
pulls_quiet p left (asks x) q = record { spent = q.spent; on = q.on }

at_quiet : (p : Position) (n : ℕ) (r : Option Reply) (next : Ahead) → (n == MEMORY_KIND) ≡ false → Quiet p → Quiet (heard_at p n r next)
unfolding heard_at
at_quiet p n (Some r) (ahead (job_step j left)) other q = goes_quiet p left (job_take j r) q
at_quiet p n (Some r) (ahead (plain c left)) other q = tells_quiet p left r q
at_quiet p n (Some r) (ahead (sync group left)) other q = by_test (n == PART_KIND)
  where
    by_test : (b : Bool) → Quiet (if b then pulls_on p p.left (sought group r) else tells p left r)
    by_test true = pulls_quiet p p.left (sought group r) q
    by_test false = tells_quiet p left r q
at_quiet p n (Some r) (ahead (collect left)) other q = tells_quiet p left r q
at_quiet p n None (ahead (collect left)) other q = by_test (n == START_KIND)
  where
    by_test : (b : Bool) → Quiet (if b then record p { left = left; task = Some (sweeps false) } else p)
    by_test true = record { spent = q.spent; on = q.on }
    by_test false = q
at_quiet p n (Some r) (ahead (collecting is_out_of_memory)) other q =
    subst (λ b. Quiet (if b then record p { task = Some (sweeps true) } else tells p p.left r)) (sym other)
    (record { spent = q.spent; on = q.on })
at_quiet p n (Some r) (ahead (broken refusal)) other q =
    subst (λ b. Quiet (if b then record (tells p [] r) { is_spent = true } else p)) (sym other) q
at_quiet p n (Some r) (ahead bye) other q = q
at_quiet p n (Some r) (ahead end) other q = q
at_quiet p n None (ahead (job_step j left)) other q = q
at_quiet p n None (ahead (plain c left)) other q = q
at_quiet p n None (ahead (sync group left)) other q = q
at_quiet p n None (ahead (collecting is_out_of_memory)) other q = q
at_quiet p n (Some r) (pull x left) other q = pulls_quiet p left (pull_take x r) q
at_quiet p n None (pull x left) other q = q
at_quiet p n None (ahead (broken refusal)) other q = q
at_quiet p n None (ahead bye) other q = q
at_quiet p n None (ahead end) other q = q

-- no want of memory so far
record Calm (p : Position) : Type 0 where
  pub held : p.is_unheld ≡ false
  pub quiet : Quiet p

heard_calm : (p : Position) (a : Answer) → ((a.entry).kind == MEMORY_KIND) ≡ false → a.last ≡ false → Calm p → Calm (heard p a)
unfolding heard
heard_calm p a other none c = let q = at_quiet p (a.entry).kind a.reply (next_at p) other c.quiet in record {
  held = refl;
  quiet = record { spent = ap (λ b. b || (heard_at p (a.entry).kind a.reply (next_at p)).is_spent) none ∙ q.spent; on = q.on };
}

true_false : true ≡ false → ⊥
true_false e = cc

false_true : false ≡ true → ⊥
false_true e = cc

not_last : (v : Event) → ((v.answer).last ≡ true → kind v ≡ MEMORY_KIND) → (kind v == MEMORY_KIND) ≡ false → (v.answer).last ≡ false
not_last v lasting other = by_last (v.answer).last refl
  where
    by_last : (b : Bool) → (v.answer).last ≡ b → (v.answer).last ≡ false
    by_last false is = is
    by_last true is = absurd (true_false (sym (eq-eqb (kind v) MEMORY_KIND (lasting is)) ∙ other))

no_end : (p : Position) → Calm p → (p.is_unheld || p.is_spent) ≡ true → ⊥
no_end p c wanted = false_true (sym (ap (λ b. b || p.is_spent) c.held ∙ (c.quiet).spent) ∙ wanted)

none_left : (b : Bool) → (b && false) ≡ false
none_left true = refl
none_left false = refl

at_once : (p : Position) (b : Bool) → Quiet p → Quiet (record p { is_unheld = b })
at_once p b q = record { spent = q.spent; on = q.on }

later_calm : (c : Class) (p : Position) (v : Event) (vs : List Event) → Does c endings.NoMemory p v vs → (kind v == MEMORY_KIND) ≡ false → (v.answer).last ≡ false → Calm p
    → Calm (heard_as c endings.NoMemory p v.answer)
later_calm stepping p v vs does other none calm = heard_calm p v.answer other none calm
later_calm reaching p v vs does other none calm = heard_calm p v.answer other none calm
later_calm starting p v vs does other none calm = heard_calm p v.answer other none calm
later_calm sweeping p v vs does other none calm = heard_calm p v.answer other none calm
later_calm wanting p v vs does other none calm = record {
  held = ap (λ b. is_none p.task && b) other ∙ none_left (is_none p.task);
  quiet = at_once (heard p v.answer) (leaves_unheld p v.answer) (heard_calm p v.answer other none calm).quiet;
}
later_calm ending p v vs does other none calm = absurd (no_end p calm (does.0).0)

wanted_from : (p : Position) (es : List Event) (told : List Reply) → Runs endings.NoMemory p es told → LastsAreWants es → Calm p → list_any (λ e. e.kind == MEMORY_KIND) (entries es) ≡ true
unfolding position_after
wanted_from p [] told runs lasting calm = absurd (true_false (sym runs.0 ∙ (calm.quiet).on))
wanted_from p (v ∷ vs) told runs lasting calm =
    by_test (kind v == MEMORY_KIND) refl (wanted_from (heard_as (class_of v.act) endings.NoMemory p v.answer) vs told runs.2 lasting.1)
  where
    by_test : (b : Bool) → (kind v == MEMORY_KIND) ≡ b
        → (Calm (heard_as (class_of v.act) endings.NoMemory p v.answer) → list_any (λ e. e.kind == MEMORY_KIND) (entries vs) ≡ true)
        → ((kind v == MEMORY_KIND) || list_any (λ e. e.kind == MEMORY_KIND) (entries vs)) ≡ true
    by_test true is behind = ap (λ b. b || list_any (λ e. e.kind == MEMORY_KIND) (entries vs)) is
    by_test false is behind =
        ap (λ b. b || list_any (λ e. e.kind == MEMORY_KIND) (entries vs)) is
        ∙ behind (later_calm (class_of v.act) p v vs runs.1 is (not_last v lasting.0 is) calm)

-- among its entries there is one of want of memory
pub memory_is_entered : (input : List ℕ) (events : List Event) (told : List Reply) → LaneRan input endings.NoMemory events told → LastsAreWants events → list_any (λ e. e.kind == MEMORY_KIND) (entries events) ≡ true
memory_is_entered input events told ran lasting = wanted_from (begin input) events told ran lasting (record { held = refl; quiet = record { spent = refl; on = refl } })

-- A lane that ended cleanly did so too on all that its source had left.
use Rattle.std.proofs.Common.{◌≡◌, ◌+◌, ◌-◌, ◌==◌, ℕ, Bool, true, false, List, [], ◌∷◌, ◌++◌, length, Option, Some, None, refl, sym, ap, subst, ◌∙◌, append-nil, length-append, arith, if◌then◌else◌}
use Rattle.wire_frames.specs.Frames.{Front, short, too_long, whole, cut}
use Rattle.wire_commands.specs.CommandText.{command_of}
use Rattle.wire_commands.specs.declared.command.Command.{Command}
use Rattle.wire_commands.specs.declared.command.Command.TheVariants as commands
use Rattle.wire_commands.specs.declared.reply.Reply.{Reply}
use Rattle.wire_commands.specs.Inputs.{InputFront, nothing, next, over_limit, no_command, front, cut_front, body_front}
use Rattle.store_types.specs.declared.order.TheConstants.{FAULT_KIND}
use Rattle.store_model.specs.declared.ending.Ending.TheVariants.{Clean}
use Rattle.store_model.specs.Job.{Asking}
use Rattle.store_model.specs.Jobs.{job_of}
use Rattle.store_model.specs.Lanes.{Next, job_step, plain, sync, collect, collecting, bye, broken, end, command_next, front_next}
use Rattle.store_history.specs.declared.act.Event.{Event}
use Rattle.store_history.specs.Acts.{ending, class_of}
use Rattle.store_history.specs.History.{entries, kind, reply}
use Rattle.store_history.specs.LaneRun.{Task, steps, pulls, sweeps, Ahead, ahead, pull, Position, begin, ahead_by, next_at, end_faulted, last_words, heard_as, position_after, Does, EndsSo, IsShut, Runs, LaneRan}
use Rattle.store_history.specs.SoFar.{grown}
use Rattle.store_history.proofs.Growing.{front_more, leads_grown, leads_runs}
use Rattle.store_history.proofs.Unheld.{unheld}
use Rattle.lane.specs.AtOnce.{AreEnds}
use Rattle.lane.specs.Entries.{has_kind}
use Rattle.lane.specs.Ran.{EndsRead, IsReadOut}
use Rattle.pbs_server.proofs.Broken.{RunsOn, leads_back}
use Rattle.pbs_server.proofs.NeverBroken.{same_next}
use Rattle.pbs_server.proofs.Tests.{neither}

clash : true ≡ false → ⊥
clash h = cc

-- ---- what is next at the end

-- BYE, or nothing
abbrev AtEnd : Ahead → Type 0
AtEnd (ahead bye) = Unit {0}
AtEnd (ahead end) = Unit {0}
AtEnd n = ⊥

end_so : (p : Position) (n : Ahead) → EndsSo Clean p n → AtEnd n
end_so p (ahead bye) so = tt
end_so p (ahead end) so = tt
end_so p (ahead (job_step j left)) so = absurd so
end_so p (ahead (plain c left)) so = absurd so
end_so p (ahead (sync group left)) so = absurd so
end_so p (ahead (collect left)) so = absurd so
end_so p (ahead (collecting is_out_of_memory)) so = absurd so
end_so p (ahead (broken refusal)) so = absurd so
end_so p (pull x left) so = absurd so

-- what stands at the front there
abbrev FrontFits : Next → List ℕ → Type 0
FrontFits bye left = (rest : List ℕ) × (front left ≡ next commands.Bye rest)
FrontFits end left = left ≡ []
FrontFits n left = Unit {0}

command_bye : (c : Command) (left : List ℕ) → command_next c left ≡ bye → c ≡ commands.Bye
unfolding command_next
command_bye commands.Bye left is = refl
command_bye (commands.Sync group) left is = cc
command_bye commands.Gc left is = cc
command_bye c left is = from (job_of c) is
  where
    from : (o : Option Asking) → elim o [ None ↦ plain c left | Some j ↦ job_step j left ] ≡ bye → c ≡ commands.Bye
    from None e = cc
    from (Some j) e = cc

command_end : (c : Command) (left : List ℕ) → command_next c left ≡ end → ⊥
unfolding command_next
command_end commands.Bye left is = cc
command_end (commands.Sync group) left is = cc
command_end commands.Gc left is = cc
command_end c left is = from (job_of c) is
  where
    from : (o : Option Asking) → elim o [ None ↦ plain c left | Some j ↦ job_step j left ] ≡ end → ⊥
    from None e = cc
    from (Some j) e = cc

none_left : (left : List ℕ) → front left ≡ nothing → left ≡ []
unfolding front
none_left [] is = refl
none_left (b ∷ bytes) is = by_cut (cut (b ∷ bytes)) is
  where
    by_body : (o : Option Command) (rest : List ℕ) → body_front o rest ≡ nothing → b ∷ bytes ≡ []
    by_body None rest h = cc
    by_body (Some c) rest h = cc

    by_cut : (f : Front) → cut_front f ≡ nothing → b ∷ bytes ≡ []
    by_cut short h = cc
    by_cut (too_long n) h = cc
    by_cut (whole body rest) h = by_body (command_of body) rest h

front_bye : (n : ℕ) (left : List ℕ) (f : InputFront) → front left ≡ f → front_next n f ≡ bye → FrontFits bye left
unfolding front_next
front_bye n left nothing at is = cc
front_bye n left (next c rest) at is = (rest, at ∙ ap (λ d. next d rest) (command_bye c rest is))
front_bye n left (over_limit m) at is = cc
front_bye n left no_command at is = cc

front_end : (n : ℕ) (left : List ℕ) (f : InputFront) → front left ≡ f → front_next n f ≡ end → FrontFits end left
unfolding front_next
front_end n left nothing at is = none_left left at
front_end n left (next c rest) at is = absurd (command_end c rest is)
front_end n left (over_limit m) at is = cc
front_end n left no_command at is = cc

-- nothing is open there
record IsOff (p : Position) (n : Next) : Type 0 where
  none : p.task ≡ None
  fits : FrontFits n p.left

off_bye : (p : Position) → IsShut p.task → next_at p ≡ ahead bye → IsOff p bye
unfolding next_at
off_bye p shut is = by_task p.task refl shut is
  where
    by_task : (t : Option Task) → p.task ≡ t → IsShut t → ahead_by t (p.size - length p.left) p.left ≡ ahead bye → IsOff p bye
    by_task None none shut e = record {
      none = none;
      fits = front_bye (p.size - length p.left) p.left (front p.left) refl (same_next (front_next (p.size - length p.left) (front p.left)) bye e);
    }
    by_task (Some (steps j)) none shut e = cc
    by_task (Some (pulls x)) none shut e = absurd shut
    by_task (Some (sweeps is_out_of_memory)) none shut e = absurd shut

off_end : (p : Position) → IsShut p.task → next_at p ≡ ahead end → IsOff p end
unfolding next_at
off_end p shut is = by_task p.task refl shut is
  where
    by_task : (t : Option Task) → p.task ≡ t → IsShut t → ahead_by t (p.size - length p.left) p.left ≡ ahead end → IsOff p end
    by_task None none shut e = record {
      none = none;
      fits = front_end (p.size - length p.left) p.left (front p.left) refl (same_next (front_next (p.size - length p.left) (front p.left)) end e);
    }
    by_task (Some (steps j)) none shut e = cc
    by_task (Some (pulls x)) none shut e = absurd shut
    by_task (Some (sweeps is_out_of_memory)) none shut e = absurd shut

-- BYE stays next
bye_grown : (more : List ℕ) (p : Position) → IsOff p bye → next_at (grown more p) ≡ ahead bye
unfolding next_at front_next command_next
bye_grown more p off =
    ap (λ (t : Option Task). ahead_by t (p.size + length more - length (p.left ++ more)) (p.left ++ more)) off.none
    ∙ ap (λ f. ahead (front_next (p.size + length more - length (p.left ++ more)) f)) (front_more p.left more commands.Bye (off.fits).0 (off.fits).1)

grown_none : (p : Position) → grown [] p ≡ p
grown_none p = ap (λ n. record p { size = n; left = p.left ++ [] }) (none p.size) ∙ ap (λ xs. record p { left = xs }) (append-nil p.left)
  where
    none : (n : ℕ) → n + 0 ≡ n
    none n = omega arith

cut_nothing : (left : List ℕ) → left ≡ [] → cut left ≡ short
unfolding cut
cut_nothing [] is = refl
cut_nothing (b ∷ bytes) is = cc

-- where nothing more may stand behind a part of a frame, what is next stays next
next_stays : (more : List ℕ) (p : Position) → (cut p.left ≡ short → more ≡ []) → (n : Ahead) → AtEnd n → IsShut p.task → next_at p ≡ n → next_at (grown more p) ≡ n
next_stays more p nothing_is (ahead bye) at shut is = bye_grown more p (off_bye p shut is)
next_stays more p nothing_is (ahead end) at shut is =
    let none : more ≡ [] = nothing_is (cut_nothing p.left (off_end p shut is).fits) in
    ap (λ xs. next_at (grown xs p)) none ∙ ap next_at (grown_none p) ∙ is
next_stays more p nothing_is n at shut is = absurd at

-- ---- the lane's end

words_grown : (more : List ℕ) (b : Bool) (p : Position) (n : Ahead) → AtEnd n → (last_words Clean (grown more p) n).told ≡ (last_words Clean (unheld b p) n).told
unfolding last_words
words_grown more b p (ahead bye) at = refl
words_grown more b p (ahead end) at = refl
words_grown more b p n at = absurd at

-- what a lane told that is over
over_told : (p : Position) (vs : List Event) (told : List Reply) → p.is_over ≡ true → Runs Clean p vs told → (vs ≡ []) × (p.told ≡ told)
over_told p [] told over runs = (refl, runs.1)
over_told p (v ∷ vs) told over runs = absurd (clash (sym over ∙ runs.0))

-- without a fault of the disk
end_is : (p : Position) (v : Event) → class_of v.act ≡ ending → (kind v == FAULT_KIND) ≡ false → position_after Clean p v ≡ record (last_words Clean p (next_at p)) { is_over = true }
unfolding position_after
end_is p v is sound =
    ap (λ c. heard_as c Clean p v.answer) is
    ∙ ap (λ b. if b then end_faulted Clean p (reply v) else record (last_words Clean p (next_at p)) { is_over = true }) sound

ends_grown : (more : List ℕ) (b : Bool) (p : Position) (ends : List Event) (told : List Reply) → AreEnds ends → has_kind 5 (entries ends) ≡ false → (cut p.left ≡ short → more ≡ [])
    → RunsOn Clean (unheld b p) ends told → Runs Clean (grown more p) ends told
unfolding next_at
ends_grown more b p [] told are sound nothing_is r = absurd (clash (sym (r.runs).0 ∙ r.on))
ends_grown more b p (v ∷ vs) told are sound nothing_is r =
    let class : class_of v.act ≡ ending = ap class_of are.0 in
    let faults = neither (kind v == FAULT_KIND) (has_kind 5 (entries vs)) sound in
    let does : Does ending Clean (unheld b p) v vs = subst (λ c. Does c Clean (unheld b p) v vs) class (r.runs).1 in
    let at : AtEnd (next_at p) = end_so (unheld b p) (next_at p) does.0 in
    let same : next_at (grown more p) ≡ next_at p = next_stays more p nothing_is (next_at p) at does.2 refl in
    let over = over_told (record (last_words Clean (unheld b p) (next_at p)) { is_over = true }) vs told refl (subst (λ (q : Position). Runs Clean q vs told) (end_is (unheld b p) v class faults.0) (r.runs).2) in (
      r.on,
      subst (λ c. Does c Clean (grown more p) v vs) (sym class) (subst (λ n. EndsSo Clean (grown more p) n) (sym same) (spent_same (next_at p) does.0), does.1, does.2),
      subst (λ (q : Position). Runs Clean q vs told) (sym (end_is (grown more p) v class faults.0))
          (subst (λ xs. Runs Clean (record (last_words Clean (grown more p) (next_at (grown more p))) { is_over = true }) xs told) (sym over.0)
          (refl, ap (λ n. (last_words Clean (grown more p) n).told) same ∙ words_grown more b p (next_at p) at ∙ over.1)),
    )
  where
    spent_same : (n : Ahead) → EndsSo Clean (unheld b p) n → EndsSo Clean (grown more p) n
    spent_same (ahead bye) so = so
    spent_same (ahead end) so = so
    spent_same (ahead (job_step j left)) so = absurd so
    spent_same (ahead (plain c left)) so = absurd so
    spent_same (ahead (sync group left)) so = absurd so
    spent_same (ahead (collect left)) so = absurd so
    spent_same (ahead (collecting is_out_of_memory)) so = absurd so
    spent_same (ahead (broken refusal)) so = absurd so
    spent_same (pull x left) so = absurd so

later_sound : (first later : List Event) → has_kind 5 (entries (first ++ later)) ≡ false → has_kind 5 (entries later) ≡ false
later_sound [] later sound = sound
later_sound (v ∷ vs) later sound = later_sound vs later (neither (kind v == FAULT_KIND) (has_kind 5 (entries (vs ++ later))) sound).1

begin_grown : (input more : List ℕ) → grown more (begin input) ≡ begin (input ++ more)
begin_grown input more = ap (λ n. record (begin (input ++ more)) { size = n }) (sym (length-append input more))

pub ran_whole : (input more : List ℕ) (events : List Event) (told : List Reply) → has_kind 5 (entries events) ≡ false → LaneRan input Clean events told → EndsRead Clean input events (Some more)
    → LaneRan (input ++ more) Clean events told
ran_whole input more events told sound ran read =
    let out : IsReadOut input read.before read.ends (Some more) = read.read in
    let on = leads_back false Clean read.before read.ends (begin input) out.last told out.leads refl (subst (λ es. Runs Clean (begin input) es told) read.split ran) in
    let ends = ends_grown more on.0 out.last read.ends told out.ended (later_sound read.before read.ends (subst (λ es. has_kind 5 (entries es) ≡ false) read.split sound)) out.nothing on.1 in
    subst (λ es. Runs Clean (begin (input ++ more)) es told) (sym read.split)
    (subst (λ (p : Position). Runs Clean p (read.before ++ read.ends) told) (begin_grown input more)
    (leads_runs Clean read.before read.ends (grown more (begin input)) (grown more out.last) told refl (leads_grown more read.before (begin input) out.last out.leads) ends))

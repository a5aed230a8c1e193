-- Along what a lane does, what is left of commands is commands.
use Rattle.std.proofs.Common.{◌≡◌, ◌-◌, ◌≤◌, ℕ, Bool, true, false, List, [], ◌∷◌, ◌++◌, length, take, drop, nat_lt, Option, Some, None, refl, sym, subst, ◌∙◌, append-nil, if◌then◌else◌, ◌==◌}
use Rattle.std.specs.Int.{w32, from_le_bytes}
use Rattle.std.proofs.lemmas.Bool.{ltb-true, ltb-false}
use Rattle.wire_frames.specs.Frames.{Front, body_limit, short, too_long, whole, cut, cut_body}
use Rattle.wire_frames.proofs.FramesLemmas.{cut-append, cut-append_whole, cut_body-above}
use Rattle.wire_commands.specs.CommandText.{command_of}
use Rattle.wire_commands.specs.declared.command.Command.{Command}
use Rattle.wire_commands.specs.declared.command.Command.TheVariants as commands
use Rattle.wire_commands.specs.declared.reply.Reply.{Reply}
use Rattle.wire_commands.specs.Inputs.{InputFront, nothing, next, over_limit, no_command, front, cut_front, body_front}
use Rattle.store_types.specs.declared.refusal.Refusal.{Refusal}
use Rattle.store_model.specs.Job.{Asking, Job, over, asking}
use Rattle.store_model.specs.Jobs.{job_of, take as job_take}
use Rattle.store_model.specs.Lanes.{Next, job_step, plain, sync, collect, collecting, bye, broken, end, command_next, front_next}
use Rattle.store_history.specs.declared.act.Answer.{Answer}
use Rattle.store_history.specs.declared.act.Event.{Event}
use Rattle.store_history.specs.LaneRun.{Task, steps, pulls, sweeps, Ahead, ahead, pull, Position, begin, pull_ahead, ahead_by, next_at, tells, used_up, goes_on, pulls_on, heard_at, heard}
use Rattle.store_history.specs.Pulling.{Pulling, comparing, SyncJob, reports, asks, sought, take as pull_take}
use Rattle.store_history.specs.SoFar.{Leads, grown}
use Rattle.store_history.proofs.Growing.{leads_grown}
use Rattle.generator.specs.Laws.{EndsWell, at_end, at_bye, behind as goes_behind, IsCommands}

-- ---- what is left behind a command

-- by what stands at the front
abbrev IsFront : InputFront → Type 0
IsFront nothing = Unit {0}
IsFront (next commands.Bye rest) = Unit {0}
IsFront (next c rest) = IsCommands rest
IsFront (over_limit n) = ⊥
IsFront no_command = ⊥

front_of : {f : InputFront} → EndsWell f → IsFront f
front_of at_end = tt
front_of (at_bye rest) = tt
front_of (goes_behind c rest h) = by_command c rest h
  where
    by_command : (c : Command) (rest : List ℕ) → EndsWell (front rest) → IsFront (next c rest)
    by_command commands.Bye rest h = tt
    by_command c rest h = h

-- what is left behind a command, a job's or a SYNC's is commands
abbrev FitsLeft : Next → Type 0
FitsLeft (job_step j left) = IsCommands left
FitsLeft (plain c left) = IsCommands left
FitsLeft (sync group left) = IsCommands left
FitsLeft (collect left) = IsCommands left
FitsLeft n = Unit {0}

by_job : (c : Command) (left : List ℕ) (o : Option Asking) → IsCommands left → FitsLeft (elim o [ None ↦ plain c left | Some j ↦ job_step j left ])
by_job c left None h = h
by_job c left (Some j) h = h

command_fits : (c : Command) (left : List ℕ) → IsFront (next c left) → FitsLeft (command_next c left)
unfolding command_next
command_fits commands.Bye left h = tt
command_fits (commands.Sync group) left h = h
command_fits commands.Gc left h = h
command_fits c left h = by_job c left (job_of c) h

front_fits : (offset : ℕ) (f : InputFront) → IsFront f → FitsLeft (front_next offset f)
unfolding front_next
front_fits offset nothing h = tt
front_fits offset (next c left) h = command_fits c left h
front_fits offset (over_limit n) h = tt
front_fits offset no_command h = tt

-- or what an open SYNC asks
abbrev FitsAhead : Ahead → Type 0
FitsAhead (ahead n) = FitsLeft n
FitsAhead (pull x left) = IsCommands left

pull_fits : (x : Pulling) (left : List ℕ) (n : Next) → IsCommands left → FitsLeft n → FitsAhead (pull_ahead x left n)
pull_fits (comparing group remote) left (sync name behind) h f = f
pull_fits (comparing group remote) left n h f = tt
pull_fits x left n h f = h

next_fits : (p : Position) → IsCommands p.left → FitsAhead (next_at p)
unfolding next_at
next_fits p h = by_task p.task
  where
    at_front : FitsLeft (front_next (p.size - length p.left) (front p.left))
    at_front = front_fits (p.size - length p.left) (front p.left) (front_of h)

    by_task : (t : Option Task) → FitsAhead (ahead_by t (p.size - length p.left) p.left)
    by_task None = at_front
    by_task (Some (steps j)) = h
    by_task (Some (pulls x)) = pull_fits x p.left (front_next (p.size - length p.left) (front p.left)) h at_front
    by_task (Some (sweeps is_out_of_memory)) = tt

-- ---- an answer

goes_left : (p : Position) (left : List ℕ) (j : Job) → IsCommands left → IsCommands (goes_on p left j).left
unfolding goes_on
goes_left p left (over report) h = h
goes_left p left (asking j) h = h

pulls_left : (p : Position) (left : List ℕ) (j : SyncJob) → IsCommands left → IsCommands (pulls_on p left j).left
unfolding pulls_on
pulls_left p left (reports report) h = h
pulls_left p left (asks x) h = h

nothing_left : IsCommands []
unfolding front
nothing_left = at_end

heard_left : (p : Position) (n : ℕ) (r : Option Reply) (x : Ahead) → IsCommands p.left → FitsAhead x → IsCommands (heard_at p n r x).left
unfolding heard_at
heard_left p n (Some r) (ahead (job_step j left)) h f = goes_left p left (job_take j r) f
heard_left p n None (ahead (job_step j left)) h f = h
heard_left p n (Some r) (ahead (plain c left)) h f = f
heard_left p n None (ahead (plain c left)) h f = h
heard_left p n (Some r) (ahead (sync group left)) h f = by_kind (n == 1)
  where
    by_kind : (b : Bool) → IsCommands (if b then pulls_on p p.left (sought group r) else tells p left r).left
    by_kind true = pulls_left p p.left (sought group r) h
    by_kind false = f
heard_left p n None (ahead (sync group left)) h f = h
heard_left p n (Some r) (ahead (collect left)) h f = f
heard_left p n None (ahead (collect left)) h f = by_kind (n == 3)
  where
    by_kind : (b : Bool) → IsCommands (if b then record p { left = left; task = Some (sweeps false) } else p).left
    by_kind true = f
    by_kind false = h
heard_left p n (Some r) (ahead (collecting is_out_of_memory)) h f = by_kind (n == 2)
  where
    by_kind : (b : Bool) → IsCommands (if b then record p { task = Some (sweeps true) } else tells p p.left r).left
    by_kind true = h
    by_kind false = h
heard_left p n None (ahead (collecting is_out_of_memory)) h f = h
heard_left p n (Some r) (ahead (broken refusal)) h f = by_kind (n == 2)
  where
    by_kind : (b : Bool) → IsCommands (if b then used_up p r else p).left
    by_kind true = nothing_left
    by_kind false = h
heard_left p n None (ahead (broken refusal)) h f = h
heard_left p n (Some r) (ahead bye) h f = h
heard_left p n None (ahead bye) h f = h
heard_left p n (Some r) (ahead end) h f = h
heard_left p n None (ahead end) h f = h
heard_left p n (Some r) (pull x left) h f = pulls_left p left (pull_take x r) f
heard_left p n None (pull x left) h f = h

answer_left : (p : Position) (a : Answer) → IsCommands p.left → IsCommands (heard p a).left
unfolding heard
answer_left p a h = heard_left p (a.entry).kind a.reply (next_at p) h (next_fits p h)

leads_left : (vs : List Event) (p q : Position) → Leads p vs q → IsCommands p.left → IsCommands q.left
leads_left [] p q leads h = subst (λ (x : Position). IsCommands x.left) leads h
leads_left (v ∷ vs) p q leads h = leads_left vs (heard p v.answer) q leads.1 (answer_left p v.answer h)

-- ---- where no command stands

abbrev IsStuck : InputFront → Type 0
IsStuck nothing = ⊥
IsStuck (next c rest) = ⊥
IsStuck (over_limit n) = Unit {0}
IsStuck no_command = Unit {0}

not_stuck : (f : InputFront) → IsStuck f → IsFront f → ⊥
not_stuck nothing stuck h = stuck
not_stuck (next c rest) stuck h = stuck
not_stuck (over_limit n) stuck h = h
not_stuck no_command stuck h = h

by_command : (c : Command) (left : List ℕ) (z : Refusal) → command_next c left ≡ broken z → ⊥
unfolding command_next
by_command (commands.Sync group) left z is = cc
by_command commands.Gc left z is = cc
by_command commands.Bye left z is = cc
by_command c left z is = from (job_of c) is
  where
    from : (o : Option Asking) → elim o [ None ↦ plain c left | Some j ↦ job_step j left ] ≡ broken z → ⊥
    from None e = cc
    from (Some j) e = cc

by_front : (offset : ℕ) (f : InputFront) (z : Refusal) → front_next offset f ≡ broken z → IsStuck f
unfolding front_next
by_front offset nothing z is = cc
by_front offset (next c left) z is = absurd (by_command c left z is)
by_front offset (over_limit n) z is = tt
by_front offset no_command z is = tt

pub same_next : (n m : Next) → ahead n ≡ ahead m → n ≡ m
same_next n m is = cc

pull_unbroken : (x : Pulling) (left : List ℕ) (n : Next) (z : Refusal) → pull_ahead x left n ≡ ahead (broken z) → ⊥
pull_unbroken (comparing group remote) left (sync name behind) z is = cc
pull_unbroken (comparing group remote) left n z is = cc
pull_unbroken x left n z is = cc

stuck_at : (p : Position) (z : Refusal) → next_at p ≡ ahead (broken z) → IsStuck (front p.left)
unfolding next_at
stuck_at p z is = by_task p.task is
  where
    by_task : (t : Option Task) → ahead_by t (p.size - length p.left) p.left ≡ ahead (broken z) → IsStuck (front p.left)
    by_task None e =
        by_front (p.size - length p.left) (front p.left) z (same_next (front_next (p.size - length p.left) (front p.left)) (broken z) e)
    by_task (Some (steps j)) e = cc
    by_task (Some (pulls x)) e = absurd (pull_unbroken x p.left (front_next (p.size - length p.left) (front p.left)) z e)
    by_task (Some (sweeps is_out_of_memory)) e = cc

-- a length above the limit stays
above_more : (bytes more : List ℕ) (n : ℕ) → cut bytes ≡ too_long n → cut (bytes ++ more) ≡ too_long n
unfolding cut
above_more bytes more n is = by_length (nat_lt (length bytes) 4) refl is
  where
    by_size : (b : Bool) → nat_lt body_limit (from_le_bytes w32 (take 4 bytes)) ≡ b → 4 ≤ length bytes
        → (if b then too_long (from_le_bytes w32 (take 4 bytes)) else
        if nat_lt (length (drop 4 bytes)) (from_le_bytes w32 (take 4 bytes)) then short else
        whole (take (from_le_bytes w32 (take 4 bytes)) (drop 4 bytes)) (drop (from_le_bytes w32 (take 4 bytes)) (drop 4 bytes))) ≡ too_long n
        → cut (bytes ++ more) ≡ too_long n
    by_size true above enough e =
        cut-append bytes more enough ∙ cut_body-above (from_le_bytes w32 (take 4 bytes)) (drop 4 bytes ++ more) (ltb-true body_limit (from_le_bytes w32 (take 4 bytes)) above) ∙ e
    by_size false above enough e = absurd (by_test (nat_lt (length (drop 4 bytes)) (from_le_bytes w32 (take 4 bytes))) _ _ e)
      where
        by_test : (b : Bool) (x y : List ℕ) → (if b then short else whole x y) ≡ too_long n → ⊥
        by_test true x y h = cc
        by_test false x y h = cc

    by_length : (b : Bool) → nat_lt (length bytes) 4 ≡ b → (if b then short else cut_body (from_le_bytes w32 (take 4 bytes)) (drop 4 bytes)) ≡ too_long n → cut (bytes ++ more) ≡ too_long n
    by_length true few e = cc
    by_length false enough e = by_size (nat_lt body_limit (from_le_bytes w32 (take 4 bytes))) refl (ltb-false (length bytes) 4 enough) e

-- more behind it makes no command of it, unless it is a part of a frame
stuck_more : (left more : List ℕ) → IsStuck (front left) → (cut left ≡ short → more ≡ []) → IsStuck (front (left ++ more))
unfolding front
stuck_more [] more stuck whole_is = absurd stuck
stuck_more (b ∷ bytes) more stuck whole_is = by_cut (cut (b ∷ bytes)) refl stuck
  where
    by_body : (o : Option Command) (rest rest' : List ℕ) → IsStuck (body_front o rest) → IsStuck (body_front o rest')
    by_body None rest rest' h = tt
    by_body (Some c) rest rest' h = absurd h

    by_cut : (f : Front) → cut (b ∷ bytes) ≡ f → IsStuck (cut_front f) → IsStuck (cut_front (cut (b ∷ bytes ++ more)))
    by_cut short is h =
        subst (λ xs. IsStuck (cut_front (cut (b ∷ bytes ++ xs)))) (sym (whole_is is))
        (subst (λ xs. IsStuck (cut_front (cut (b ∷ xs)))) (sym (append-nil bytes)) (subst (λ f. IsStuck (cut_front f)) (sym is) tt))
    by_cut (too_long n) is h = subst (λ f. IsStuck (cut_front f)) (sym (above_more (b ∷ bytes) more n is)) tt
    by_cut (whole body rest) is h =
        subst (λ f. IsStuck (cut_front f)) (sym (cut-append_whole (b ∷ bytes) more body rest is)) (by_body (command_of body) rest (rest ++ more) h)

-- Where a lane is led on the front of commands, no place without a command is next, unless a part of a frame stands there.
pub never_broken : (input rest : List ℕ) (vs : List Event) (last : Position) (z : Refusal) → IsCommands (input ++ rest) → Leads (begin input) vs last → next_at last ≡ ahead (broken z)
    → (cut last.left ≡ short → rest ≡ []) → ⊥
never_broken input rest vs last z commands leads at whole_is =
    let well = leads_left vs (grown rest (begin input)) (grown rest last) (leads_grown rest vs (begin input) last leads) commands in
    not_stuck (front (last.left ++ rest)) (stuck_more last.left rest (stuck_at last z at) whole_is) (front_of well)

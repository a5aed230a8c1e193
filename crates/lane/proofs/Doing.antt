-- What a command does, or a job: its acts, and where they lead.
use Rattle.std.proofs.Common.{◌≡◌, ◌≢◌, ℕ, ◌-◌, length, Bool, true, false, not, ◌||◌, ◌==◌, List, [], ◌∷◌, ◌++◌, Option, None, Some, refl, sym, ap, subst, ◌∙◌}
use Rattle.wire_commands.specs.declared.command.Command.{Command}
use Rattle.wire_commands.specs.declared.command.Command.TheVariants as commands
use Rattle.store_model.specs.Jobs.{IsJob}
use Rattle.wire_commands.specs.Inputs.{front}
use Rattle.store_model.specs.Lanes.{Next, job_step, plain, collecting, end, command_next, front_next}
use Rattle.store_history.specs.declared.act.Act.{Act}
use Rattle.store_history.specs.declared.act.Event.{Event}
use Rattle.store_history.specs.Acts.{act_of_command}
use Rattle.store_history.specs.LaneRun.{Task, steps, pulls, sweeps, Ahead, ahead, pull_ahead, ahead_by, Position, next_at, heard, stops, may_step}
use Rattle.store_history.specs.Pulling.{Pulling, comparing, is_ending}
use Rattle.store_history.specs.Seats.{AreOf}
use Rattle.store_history.specs.SoFar.{Leads}
use Rattle.store_history.proofs.Ending.{IsCommand, command_is, leads_command}
use Rattle.core_state.specs.History.{History}
use Rattle.lane.specs.declared.acts.Told.{Told}
use Rattle.lane.specs.Acting.{Did}
use Rattle.lane.specs.Doing.{IsStep, answered, Does}
use Rattle.lane.specs.Fronts.{is_job, is_gc, IsJobs}

-- ---- events behind others

pub of_both : (k : ℕ) (es vs : List Event) → AreOf k es → AreOf k vs → AreOf k (es ++ vs)
of_both k [] vs are more = more
of_both k (e ∷ es) vs are more = (are.0, of_both k es vs are.1 more)

pub leads_then : (us vs : List Event) (p q r : Position) → Leads p us q → Leads q vs r → Leads p (us ++ vs) r
leads_then [] vs p q r first second = subst (λ x. Leads x vs r) (sym first) second
leads_then (u ∷ us) vs p q r first second = (first.0, leads_then us vs (heard p u.answer) q r first.1 second)

-- ---- what is next by a command

pub step_is_job : (c : Command) (left : List ℕ) → IsStep (command_next c left) → IsJobs c
unfolding command_next
step_is_job commands.Bye left h = absurd h
step_is_job (commands.Prune group keep dry) left h = tt
step_is_job (commands.Verify snapshot) left h = tt
step_is_job (commands.Sync group) left h = tt
step_is_job c left h = absurd h

-- ---- by one act, or by a job's

pub or_false : (p : Position) (b : Bool) → p.is_spent ≡ false → (b || p.is_spent) ≡ b
or_false p b is = ap (λ x. b || x) is ∙ last b
  where
    last : (b : Bool) → (b || false) ≡ b
    last true = refl
    last false = refl

-- what is next is read of the input
abbrev pub is_read : Next → Bool
is_read (job_step j left) = false
is_read (collecting is_out_of_memory) = false
is_read n = true

abbrev next_in : Ahead → Next
next_in (ahead n) = n
next_in a = end

false_true : false ≡ true → ⊥
false_true e = cc

read_stop : (n : Next) → is_read n ≡ true → (t : Option Task) (offset : ℕ) (left : List ℕ) → ahead_by t offset left ≡ ahead n → stops t ≡ false
read_stop n read None offset left is = refl
read_stop n read (Some (steps j)) offset left is = absurd (false_true (ap (λ a. is_read (next_in a)) is ∙ read))
read_stop n read (Some (pulls x)) offset left is = by_pull x (front_next offset (front left)) is
  where
    by_pull : (x : Pulling) (y : Next) → pull_ahead x left y ≡ ahead n → is_ending x ≡ false
    by_pull (comparing group remote) y e = refl
    by_pull x y e = cc
read_stop n read (Some (sweeps b)) offset left is = refl

-- where that is next, no answer so far was the last
pub read_on : (p : Position) (n : Next) → next_at p ≡ ahead n → is_read n ≡ true → may_step p ≡ true → p.is_spent ≡ false
unfolding next_at
read_on p n is read on = by_spent p.is_spent (ap (λ b. not p.is_spent || b) (sym (read_stop n read p.task (p.size - length p.left) p.left is)) ∙ on)
  where
    by_spent : (b : Bool) → (not b || false) ≡ true → b ≡ false
    by_spent true h = cc
    by_spent false h = refl

pub does_plain : (before after : History → Type 0) (k : ℕ) (c : Command) (act : Act) (told : Told) → Did before after k act told → act ≡ act_of_command c → IsCommand c
    → Does before after k (command_next c) told
does_plain before after k c act told d is_act alone = let v = d.event in record {
  events = v ∷ [];
  history = d.history;
  lanes = (d.lane_is, tt);
  leads = λ p left is.
      let on = read_on p (plain c left) (is.next ∙ ap ahead (command_is c left alone)) refl is.on in
      subst (λ b. Leads p (v ∷ []) (answered p left told.reply b)) (or_false p (v.answer).last on ∙ d.last)
      (leads_command [] p p c left v told.reply refl on (is.next ∙ ap ahead (command_is c left alone)) (d.asks ∙ is_act) d.tells);
}

-- ---- the commands of one act

pub command_alone : (c : Command) → c ≢ commands.Bye → is_job c ≡ false → is_gc c ≡ false → ((group : List ℕ) → c ≡ commands.Sync group → ⊥) → IsCommand c
command_alone commands.Bye ne job gc sync = absurd (ne refl)
command_alone (commands.Prune group keep dry) ne job gc sync = cc
command_alone commands.Gc ne job gc sync = cc
command_alone (commands.Verify snapshot) ne job gc sync = cc
command_alone (commands.Sync group) ne job gc sync = absurd (sync group refl)
command_alone c ne job gc sync = tt

pub job_by : (c : Command) → is_job c ≡ true → IsJob c
job_by (commands.Prune group keep dry) is = tt
job_by (commands.Verify snapshot) is = tt
job_by c is = cc

pub gc_by : (c : Command) → is_gc c ≡ true → c ≡ commands.Gc
gc_by commands.Gc is = refl
gc_by c is = cc

-- Where a job may go on.
use Rattle.std.proofs.Common.{◌≡◌, inr, Bool, true, false, ◌||◌, refl, sym, subst}
use Rattle.wire_commands.specs.declared.reply.Reply.{Reply}
use Rattle.wire_commands.specs.declared.reply.Reply.TheVariants as replies
use Rattle.store_types.specs.declared.refusal.Refusal.TheVariants.{NoMemory, RemoteFault}
use Rattle.store_model.specs.Job.{Asking, grouping, forgetting, opening, listing, reading, checking, closing, aborting, Job, over, asking, closed}
use Rattle.store_model.specs.Jobs.{take}
use Rattle.store_model.specs.PruneJob as prune
use Rattle.store_model.specs.VerifyJob as verify
use Rattle.store_model.proofs.LaneLemmas.{GoesOn}
use Rattle.store_history.specs.declared.act.Act.{Act}
use Rattle.store_history.specs.Begun.{IsBegun}
use Rattle.store_history.specs.LaneRun.{is_stopping}
use Rattle.store_history.proofs.Jobs.{take_begun}
use Rattle.lane.specs.declared.acts.Told.{Told}
use Rattle.lane.specs.Acting.{MayTell}
use Rattle.lane.specs.Tasks.{steps, job_stage, IsStopped, IsSound, MayGoOn}
use Rattle.lane.proofs.Stages.{by_last}

false_true : false ≡ true → ⊥
false_true e = cc

-- ---- want of memory ends a job, or what is left is that its session closes

want_stops : (j : Asking) → IsSound (steps j) → IsStopped (job_stage (take j (replies.Refused NoMemory)))
unfolding take prune.grouped prune.forgot verify.opened verify.listed verify.read_part verify.checked
want_stops (grouping c keep dry) begun = tt
want_stops (forgetting before snapshot later) begun = tt
want_stops (opening snapshot) begun = tt
want_stops (listing snapshot) begun = refl
want_stops (reading v row bytes) begun = refl
want_stops (checking v row fault place d later) begun = refl
want_stops (closing (replies.Refused refusal)) begun = refl
want_stops (closing report) begun = refl
want_stops j begun = absurd begun

closed_stops : (first r : Reply) → is_stopping (closing first) ≡ true → IsStopped (job_stage (closed closing first r))
closed_stops (replies.Refused first) (replies.Refused NoMemory) stops = refl
closed_stops (replies.Refused first) (replies.Refused RemoteFault) stops = refl
closed_stops (replies.Refused first) (replies.Refused refusal) stops = tt
closed_stops (replies.Refused first) r stops = tt
closed_stops report r stops = absurd (false_true stops)

stays_stopped : (j : Asking) (r : Reply) → IsSound (steps j) → is_stopping j ≡ true → IsStopped (job_stage (take j r))
unfolding take
stays_stopped (closing report) r begun stops = closed_stops report r stops
stays_stopped (grouping c keep dry) r begun stops = absurd (false_true stops)
stays_stopped (forgetting before snapshot later) r begun stops = absurd (false_true stops)
stays_stopped (opening snapshot) r begun stops = absurd (false_true stops)
stays_stopped (listing snapshot) r begun stops = absurd (false_true stops)
stays_stopped (reading v row bytes) r begun stops = absurd (false_true stops)
stays_stopped (checking v row fault place d later) r begun stops = absurd (false_true stops)
stays_stopped j r begun stops = absurd begun

-- ---- from where its next act was told

sound_by : (job : Job) → IsBegun job → IsSound (job_stage job)
sound_by (over report) begun = tt
sound_by (asking j) begun = begun

pub steps_on : (j : Asking) (was : Bool) (act : Act) (told : Told) → MayTell act told → MayGoOn (steps j) was → MayGoOn (job_stage (take j told.reply)) (told.last || was)
steps_on j was act told tells on = record {
  stops = by_last (IsStopped (job_stage (take j told.reply))) told.last was
      (λ last. subst (λ r. IsStopped (job_stage (take j r))) (sym (tells.want (inr last))) (want_stops j on.sound))
      (λ before. stays_stopped j told.reply on.sound (on.stops before));
  sound = sound_by (take j told.reply) (take_begun j told.reply on.sound);
}

-- a job that goes on may want memory
pub goes_stays : (j : Asking) → GoesOn (asking j) → is_stopping j ≡ false
goes_stays (closing (replies.Refused refusal)) goes = absurd goes
goes_stays (aborting report) goes = absurd goes
goes_stays j goes = refl

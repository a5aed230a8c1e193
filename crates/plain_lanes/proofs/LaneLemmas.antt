-- What stands next on a lane, by its open job.
use Rattle.std.proofs.Common.{◌≡◌, ℕ, ◌-◌, length, None, Some, refl}
use Rattle.wire_commands.specs.Inputs.{front}
use Rattle.store_model.specs.Job.{Asking}
use Rattle.store_model.specs.Lanes.{Lane, job_step, front_next, lane_next}

pub job_stands : (lane : Lane) (a : Asking) → lane.job ≡ Some a → lane_next lane ≡ job_step a lane.left
unfolding lane_next
job_stands lane a h = rw h refl

pub input_stands : (lane : Lane) (offset : ℕ) → lane.job ≡ None → offset ≡ lane.size - length lane.left → lane_next lane ≡ front_next offset (front lane.left)
unfolding lane_next
input_stands lane offset h is = rw (h, is) refl

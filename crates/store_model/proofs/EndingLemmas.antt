-- How a job that has a session ends.
use Rattle.std.proofs.Common.{◌≡◌, true, false, refl}
use Rattle.store_types.specs.declared.refusal.Refusal.TheVariants.{RemoteFault, DiskFault, Halted, NoMemory}
use Rattle.wire_commands.specs.declared.reply.Reply.{Reply}
use Rattle.wire_commands.specs.declared.reply.Reply.TheVariants.{Refused}
use Rattle.store_model.specs.Job.{Asking, over, asking, closed, ended_by, closes_first, is_refused, leaves_open}

module _ (close : Reply → Asking) where
  pub ends_first : (reply : Reply) → closes_first reply ≡ true → asking (close reply) ≡ ended_by close reply
  ends_first (Refused DiskFault) h = cc
  ends_first (Refused (Halted place)) h = cc
  ends_first (Refused refusal) h = refl
  ends_first reply h = cc

  pub ends_at_once : (reply : Reply) → closes_first reply ≡ false → over reply ≡ ended_by close reply
  ends_at_once (Refused DiskFault) h = refl
  ends_at_once (Refused (Halted place)) h = refl
  ends_at_once (Refused refusal) h = cc
  ends_at_once reply h = refl

  -- the session is open still, and what was refused first is to be reported
  pub again_first : (report reply : Reply) → leaves_open reply ≡ true → is_refused report ≡ true → asking (close report) ≡ closed close report reply
  again_first (Refused first) (Refused NoMemory) stays h = refl
  again_first (Refused first) (Refused RemoteFault) stays h = refl
  again_first (Refused first) (Refused refusal) stays h = cc
  again_first (Refused first) reply stays h = cc
  again_first report reply stays h = cc

  pub again_refused : (report reply : Reply) → leaves_open reply ≡ true → is_refused report ≡ false → asking (close reply) ≡ closed close report reply
  again_refused (Refused first) reply stays h = cc
  again_refused report (Refused NoMemory) stays h = refl
  again_refused report (Refused RemoteFault) stays h = refl
  again_refused report (Refused refusal) stays h = cc
  again_refused report reply stays h = cc

  -- it is closed, and what was refused first is reported
  pub closed_refused : (report reply : Reply) → leaves_open reply ≡ false → is_refused report ≡ true → over report ≡ closed close report reply
  closed_refused (Refused first) (Refused NoMemory) shut h = cc
  closed_refused (Refused first) (Refused RemoteFault) shut h = cc
  closed_refused (Refused first) (Refused refusal) shut h = refl
  closed_refused (Refused first) reply shut h = refl
  closed_refused report reply shut h = cc

  -- behind any other report, by the reply
  pub closed_told : (report reply : Reply) → is_refused report ≡ false → is_refused reply ≡ false → over report ≡ closed close report reply
  closed_told (Refused first) reply other h = cc
  closed_told report (Refused refusal) other h = cc
  closed_told report reply other h = refl

  pub closed_over : (report reply : Reply) → leaves_open reply ≡ false → is_refused report ≡ false → is_refused reply ≡ true → over reply ≡ closed close report reply
  closed_over (Refused first) reply shut other h = cc
  closed_over report (Refused NoMemory) shut other h = cc
  closed_over report (Refused RemoteFault) shut other h = cc
  closed_over report (Refused refusal) shut other h = refl
  closed_over report reply shut other h = cc

use Rattle.std.proofs.Common.{◌≡◌, take, length, vec_len, vec_capacity}
use Rattle.store_model.specs.VerifyJob.{dynamic_pieces}
use Rattle.job_steps.proofs.judging.dynamic_entries.Given as goal

abbrev pub invariant-loop-i : goal.invariant-loop-i
invariant-loop-i l = record {
  pushed : l.entries.items ≡ dynamic_pieces 0 (take l.i l.view.entries);
  long : vec_len l.entries ≡ l.i;
  room : vec_capacity l.entries ≡ length l.view.entries;
}

use Rattle.std.proofs.Common.{◌≡◌, take, length, vec_len, vec_capacity}
use Rattle.store_model.specs.VerifyJob.{fixed_pieces}
use Rattle.job_steps.proofs.judging.fixed_entries.Given as goal

abbrev pub invariant-loop-i : goal.invariant-loop-i
invariant-loop-i l = record {
  pushed : l.entries.items ≡ fixed_pieces l.view.size l.view.chunk_size 0 (take l.i l.view.digests);
  long : vec_len l.entries ≡ l.i;
  room : vec_capacity l.entries ≡ length l.view.digests;
}

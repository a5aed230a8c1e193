use Rattle.std.proofs.Common.{◌≡◌, [], length, vec_len, vec_capacity}
use Rattle.pull_steps.proofs.Entered.{fixed_left}
use Rattle.pull_steps.proofs.index.fixed_entries.Given as goal

abbrev pub invariant-loop-i : goal.invariant-loop-i
invariant-loop-i l = record {
  made : fixed_left l.view l.i l.entries.items ≡ fixed_left l.view 0 [];
  long : vec_len l.entries ≡ l.i;
  room : vec_capacity l.entries ≡ length l.view.digests;
}

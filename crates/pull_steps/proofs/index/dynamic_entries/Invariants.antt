use Rattle.std.proofs.Common.{◌≡◌, [], length, vec_len, vec_capacity}
use Rattle.pull_steps.proofs.Entered.{dynamic_left}
use Rattle.pull_steps.proofs.index.dynamic_entries.Given as goal

abbrev pub invariant-loop-i : goal.invariant-loop-i
invariant-loop-i l = record {
  made : dynamic_left l.view l.i l.entries.items ≡ dynamic_left l.view 0 [];
  long : vec_len l.entries ≡ l.i;
  room : vec_capacity l.entries ≡ length l.view.entries;
}

use Rattle.std.proofs.Common.{◌≡◌, ◌-◌, ◌<◌, ◌++◌}
use Rattle.generator.specs.Archives.{facts}
use Rattle.generator.specs.Sessions.{first_backups, input_of}
use Rattle.generator.proofs.session.put_backups.Given as goal

abbrev pub invariant-loop-j : goal.invariant-loop-j
invariant-loop-j l = record {
  puts : l.input.items ≡ l.fn.input.items ++ input_of (first_backups l.k l.j);
  made : 0 < l.j → l.made.items ≡ facts l.k (l.j - 1);
}

use Rattle.std.proofs.Common.{◌≡◌, ◌++◌}
use Rattle.generator.specs.Sessions.{first_chunks, input_of}
use Rattle.generator.proofs.PieceLemmas.{first_facts}
use Rattle.generator.proofs.session.put_chunks.Given as goal

abbrev pub invariant-loop-i : goal.invariant-loop-i
invariant-loop-i l = record {
  puts : l.input.items ≡ l.fn.input.items ++ input_of (first_chunks l.k l.j l.i);
  made : l.made.items ≡ first_facts l.k l.j l.i;
}

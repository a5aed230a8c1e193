use Rattle.std.proofs.Common.{arith}
use Rattle.core_state.proofs.Texts.{bad_range_has_text}
use Rattle.core_reader.proofs.entries.want_entry.Goals as goal

pub returns-then-place-count-clause-text : goal.returns-then-place-count-clause-text
returns-then-place-count-clause-text c = bad_range_has_text c.from.result (omega (arith, c.from.ensures, c.len-count.ensures.limit))

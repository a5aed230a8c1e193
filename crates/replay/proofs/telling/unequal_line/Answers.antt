use Rattle.std.specs.Prelude.{string_bytes}
use Rattle.replay.proofs.Lines.{line_told}
use Rattle.replay.proofs.telling.unequal_line.Goals as goal

pub returns : goal.returns
returns c =
    line_told c.format.result c.args.unequal (string_bytes c.in_ok-replayed.replayed) (string_bytes c.in_ok-kept.kept) c.in_ok-replayed.ensures c.in_ok-kept.ensures c.format.ensures.ok

use Rattle.std.proofs.Common.{◌≡◌, ◌+◌, length, sym, ap, ◌∙◌, arith, rules}
use Rattle.plain_snapshots.proofs.Entries.{end_more}
use Rattle.plain_snapshots.proofs.archive.end_of.Goals as goal

pub loop-piece-preserved : goal.loop-piece-preserved
loop-piece-preserved c =
    let i = c.loop-piece.piece-index in
    let xs = c.args.pieces.now in
    let x = c.piece-item.result in
    let added : c.in_ok-end.end ≡ c.loop-piece.end + length x = search (rules, arith) in
    added ∙ ap (λ n. n + length x) c.loop-piece.invariant ∙ sym (end_more xs i x (omega arith) c.piece-item.is)

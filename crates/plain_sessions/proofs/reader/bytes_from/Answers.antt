use Rattle.std.proofs.Common.{◌≡◌, ◌+◌, ◌-◌, ◌∙◌, ◌++◌, take, drop, length, ap, arith}
use Rattle.std.specs.List.{concat}
use Rattle.std.proofs.lemmas.List.{length-take}
use Rattle.plain_sessions.proofs.Ranges.{from_place, part_more, range_done}
use Rattle.plain_sessions.proofs.reader.bytes_from.Goals as goal

pub loop-piece-preserved : goal.loop-piece-preserved
loop-piece-preserved c =
    let ps = c.args.pieces.now in
    let i = c.loop-piece.piece-index in
    let p = c.piece-item.result in
    let bytes = c.loop-piece.bytes.items in
    let before = c.loop-piece.before in
    let left = c.loop-piece.left in
    let part = c.part_of-part.result.now in
    let new = c.extend_from_slice.new.self.items in
    let rest = drop (i + 1) ps in
    let skip = c.saturating_sub-before.result in
    let few : c.saturating_sub-left.result ≡ left - length part = c.saturating_sub-left.ensures in
    let past : skip ≡ before - length p = c.saturating_sub-before.ensures ∙ ap (λ q. before - length q) c.as_slice.ensures.value in
    ap (λ n. new ++ take n (drop skip (concat rest))) few
    ∙ ap (λ n. new ++ take (left - length part) (drop n (concat rest))) past
    ∙ part_more bytes p part new before left (drop i ps) rest (from_place ps i p (omega arith) c.piece-item.is) c.part_of-part.ensures c.in_ok-extend_from_slice.ensures.items
    ∙ c.loop-piece.invariant

pub returns-clause-bytes : goal.returns-clause-bytes
returns-clause-bytes c =
    c.from_vec.ensures
    ∙ range_done c.loop-piece.bytes.items _ c.loop-piece.before c.loop-piece.left c.loop-piece.piece-index c.args.pieces.now (omega arith) c.loop-piece.invariant

pub returns-clause-short : goal.returns-clause-short
returns-clause-short c =
    let is = c.from_vec.ensures
    ∙ range_done c.loop-piece.bytes.items _ c.loop-piece.before c.loop-piece.left c.loop-piece.piece-index c.args.pieces.now (omega arith) c.loop-piece.invariant in
    omega (arith, ap length is, length-take c.args.count (drop c.args.offset (concat c.args.pieces.now)))

use Rattle.std.proofs.Common.{◌+◌, drop, refl, ◌∙◌, arith}
use Rattle.plain_lanes.specs.Uploading.{chunks_of}
use Rattle.plain_lanes.proofs.UploadLemmas.{from_place, all_done, chunk_pushed, sent_on, sent_all}
use Rattle.plain_lanes.proofs.uploads.push_chunks.Goals as goal

pub loop-piece-preserved : goal.loop-piece-preserved
loop-piece-preserved c =
    let ps = c.args.pieces.now in
    let i = c.loop-piece.piece-index in
    let p = c.piece-item.result in
    let next = from_place ps i p (omega arith) c.piece-item.is in (
      chunk_pushed c.loop-piece.commands.items c.push_chunk.new.commands.items c.loop-piece.sent c.push_chunk.new.sent p (drop i ps) (drop (i + 1) ps)
          next c.in_ok-push_chunk.ensures.pushes c.in_ok-push_chunk.ensures.sent
          ∙ c.loop-piece.invariant.0,
      sent_on c.loop-piece.sent c.push_chunk.new.sent p (drop i ps) (drop (i + 1) ps) next c.in_ok-push_chunk.ensures.sent ∙ c.loop-piece.invariant.1,
    )

pub returns-clause-pushes : goal.returns-clause-pushes
returns-clause-pushes c =
    all_done (chunks_of c.loop-piece.sent) c.loop-piece.commands.items _ c.args.pieces.now c.loop-piece.piece-index refl (omega arith) c.loop-piece.invariant.0

pub returns-clause-sent : goal.returns-clause-sent
returns-clause-sent c = sent_all c.loop-piece.sent c.args.pieces.now c.loop-piece.piece-index (omega arith) ∙ c.loop-piece.invariant.1

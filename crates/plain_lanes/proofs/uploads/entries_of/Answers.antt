use Rattle.std.proofs.Common.{◌≡◌, ◌+◌, ◌<◌, length, drop, refl, ap, ◌∙◌, arith, rules}
use Rattle.store_types.specs.declared.append.AppendEntry.{AppendEntry}
use Rattle.store_types.specs.declared.names.Digest32.{Digest32}
use Rattle.store_model.specs.SyncJob.{entries_from}
use Rattle.plain_lanes.proofs.UploadLemmas.{from_place, all_done, entry_pushed}
use Rattle.plain_lanes.proofs.uploads.entries_of.Goals as goal

pub loop-piece-preserved : goal.loop-piece-preserved
loop-piece-preserved c =
    let ps = c.args.pieces.now in
    let i = c.loop-piece.piece-index in
    let p = c.piece-item.result in
    let offset = c.loop-piece.offset in
    let below : i < length ps = omega arith in
    let e : AppendEntry = record { digest = c.digest.result; offset = offset } in
    let own = ap (λ (d : Digest32). (let x : AppendEntry = record { digest = d; offset = offset } in x)) c.digest.ensures in
    let further : c.in_ok-offset.offset ≡ offset + length p = search (rules, arith) in
    entry_pushed c.loop-piece.entries.items c.push.new.self.items e offset c.in_ok-offset.offset p (drop i ps) (drop (i + 1) ps)
    (from_place ps i p below c.piece-item.is) c.in_ok-push.ensures.items own further
    ∙ c.loop-piece.invariant

pub returns : goal.returns
returns c = all_done (entries_from c.loop-piece.offset) c.loop-piece.entries.items _ c.args.pieces.now c.loop-piece.piece-index refl (omega arith) c.loop-piece.invariant

use Rattle.std.proofs.Common.{◌≡◌, true, false, ap, ◌∙◌, rules}
use Rattle.std.specs.FinMap.{insert}
use Rattle.store_types.specs.declared.names.Digest32.{Digest32}
use Rattle.plain_lanes.specs.Uploading.{is_sent}
use Rattle.plain_lanes.proofs.UploadLemmas.{chunk_sent, chunk_unsent, sent_already, sent_now}
use Rattle.plain_lanes.proofs.uploads.push_chunk.Goals as goal

pub returns-then-is_some-clause-pushes : goal.returns-then-is_some-clause-pushes
returns-then-is_some-clause-pushes c =
    let told : is_sent c.args.piece.now c.args.sent.now ≡ true = search rules in
    chunk_sent c.args.sent.now c.args.piece.now c.args.commands.now.items told

pub returns-then-is_some-clause-sent : goal.returns-then-is_some-clause-sent
returns-then-is_some-clause-sent c =
    let told : is_sent c.args.piece.now c.args.sent.now ≡ true = search rules in
    sent_already c.args.sent.now c.args.piece.now told

pub returns-clause-pushes : goal.returns-clause-pushes
returns-clause-pushes c =
    let told : is_sent c.args.piece.now c.args.sent.now ≡ false = search rules in
    chunk_unsent c.args.sent.now c.args.piece.now c.args.commands.now.items c.push.new.self.items c.in_ok-chunk.field-0 told c.in_ok-chunk.ensures c.in_ok-push.ensures.items

pub returns-clause-sent : goal.returns-clause-sent
returns-clause-sent c =
    let told : is_sent c.args.piece.now c.args.sent.now ≡ false = search rules in
    sent_now c.args.sent.now c.args.piece.now c.add.new.self told (c.in_ok-add.ensures.ok ∙ ap (λ (d : Digest32). insert c.args.sent.now d.0 0) c.digest-digest.ensures)

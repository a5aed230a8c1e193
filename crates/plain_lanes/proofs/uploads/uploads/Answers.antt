use Rattle.std.proofs.Common.{◌+◌, drop, refl, ◌∙◌, arith}
use Rattle.plain_lanes.specs.Uploading.{uploads_by}
use Rattle.plain_lanes.proofs.UploadLemmas.{from_place, all_done, file_pushed}
use Rattle.plain_lanes.proofs.uploads.uploads.Goals as goal

pub loop-file-preserved : goal.loop-file-preserved
loop-file-preserved c =
    let fs = c.args.files.now in
    let i = c.loop-file.file-index in
    let f = c.file-item.result in
    file_pushed c.loop-file.commands.items c.push_file.new.commands.items c.loop-file.sent c.push_file.new.sent f (drop i fs) (drop (i + 1) fs) (from_place fs i f (omega arith) c.file-item.is)
    c.in_ok-push_file.ensures.pushes c.in_ok-push_file.ensures.sent
    ∙ c.loop-file.invariant

pub returns : goal.returns
returns c = all_done (uploads_by c.loop-file.sent) c.loop-file.commands.items _ c.args.files.now c.loop-file.file-index refl (omega arith) c.loop-file.invariant

use Rattle.std.proofs.Common.{◌≡◌, ◌++◌, drop}
use Rattle.std.specs.FinMap.{empty}
use Rattle.plain_lanes.specs.Uploading.{uploads_by}
use Rattle.plain_lanes.proofs.uploads.uploads.Given as goal

abbrev pub invariant-loop-file : goal.invariant-loop-file
invariant-loop-file l = l.commands.items ++ uploads_by l.sent (drop l.file-index l.files) ≡ uploads_by empty l.files

use Rattle.std.proofs.Common.{◌≡◌, ◌++◌, ◌≤◌, ◌<◌, length, take, ap, ◌∙◌, arith}
use Rattle.std.proofs.lemmas.List.{take_at}
use Rattle.blob_codec.specs.Blob.{blob_limit}
use Rattle.store_model.specs.Load.{read_manifest}
use Rattle.store_history.specs.Pulling.{asks, manifest_read, reading_manifest}
use Rattle.pull_steps.specs.States.{shown_course}
use Rattle.pull_steps.proofs.Parts.{manifest_long, manifest_more, manifest_whole}
use Rattle.pull_steps.proofs.stages.ManifestRead.append.Goals as goal

pub returns-then-total-gt-BLOB_LIMIT-clause-part : goal.returns-then-total-gt-BLOB_LIMIT-clause-part
returns-then-total-gt-BLOB_LIMIT-clause-part c =
    let r = c.args.self.now in
    let long : blob_limit < c.args.total = omega arith in
    c.in_ok-bad_manifest.ensures.listing ∙ manifest_long (shown_course r.course) (r.bytes.items ++ c.args.more.now) c.args.total long

pub returns-then-len-total-clause-part : goal.returns-then-len-total-clause-part
returns-then-len-total-clause-part c =
    let r = c.args.self.now in
    let bytes = r.bytes.items ++ c.args.more.now in
    let fits : c.args.total ≤ blob_limit = omega arith in
    let short : length bytes < c.args.total = omega (arith, c.len.ensures, ap length c.in_ok-extend_from_slice.ensures.items) in
    ap (λ b. asks (reading_manifest (shown_course r.course) b)) c.in_ok-extend_from_slice.ensures.items ∙ manifest_more (shown_course r.course) bytes c.args.total fits short

pub returns-in-Ok-clause-part : goal.returns-in-Ok-clause-part
returns-in-Ok-clause-part c =
    let r = c.args.self.now in
    let bytes = r.bytes.items ++ c.args.more.now in
    let fits : c.args.total ≤ blob_limit = omega arith in
    let within : c.args.total ≤ length bytes = omega (arith, c.len.ensures, ap length c.in_ok-extend_from_slice.ensures.items) in
    let read : c.deref.result.now ≡ bytes = c.deref.ensures.value ∙ c.in_ok-extend_from_slice.ensures.items in
    c.in-Ok.ensures.listing ∙ ap (λ b. manifest_read (shown_course r.course) b (read_manifest b)) read ∙ manifest_whole (shown_course r.course) bytes c.args.total fits within

pub returns-in-Err-clause-err : goal.returns-in-Err-clause-err
returns-in-Err-clause-err c =
    let r = c.args.self.now in
    c.truncate.ensures.items ∙ ap (take c.len-before.result) c.in_ok-extend_from_slice.ensures.items
    ∙ take_at r.bytes.items c.args.more.now c.len-before.result (omega (arith, c.len-before.ensures, r.bytes.ok.0))

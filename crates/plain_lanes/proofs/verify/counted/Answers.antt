use Rattle.std.proofs.Common.{◌≡◌, ◌+◌, ap, ◌∙◌, arith, rules}
use Rattle.store_model.specs.Job.{Visit}
use Rattle.plain_lanes.specs.Visits.{shown_visit}
use Rattle.plain_lanes.proofs.verify.counted.Goals as goal

pub returns : goal.returns
returns c =
    let v = shown_visit c.args.visit in
    let entries : c.in_ok-entries.entries ≡ v.entries + c.args.more = search (rules, arith) in
    let bytes : c.in_ok-bytes.bytes ≡ v.bytes + c.args.longer = search (rules, arith) in
    ap (λ n. (let y : Visit = record v { entries = n; bytes = c.in_ok-bytes.bytes } in y)) entries
    ∙ ap (λ n. (let y : Visit = record v { entries = v.entries + c.args.more; bytes = n } in y)) bytes

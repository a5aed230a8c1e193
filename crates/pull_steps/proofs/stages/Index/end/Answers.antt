use Rattle.std.proofs.Common.{◌<◌, ◌≤◌, ◌+◌, length, arith}
use Rattle.pull_steps.proofs.Sizes.{ends_before, ends_last}
use Rattle.pull_steps.proofs.stages.Index.end.Goals as goal

pub returns-then-place-len : goal.returns-then-place-len
returns-then-place-len c =
    let x = c.args.self.now in
    let more : c.args.place + 1 < length x.entries.items = omega (arith, c.len.ensures, x.entries.ok.0) in
    ends_before x c.args.place c.index.result.now more c.index.ensures

pub returns : goal.returns
returns c =
    let x = c.args.self.now in
    let last : length x.entries.items ≤ c.args.place + 1 = omega (arith, c.len.ensures, x.entries.ok.0) in
    ends_last x c.args.place last

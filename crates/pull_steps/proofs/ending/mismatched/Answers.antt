use Rattle.std.proofs.Common.{◌≡◌, length, rules}
use Rattle.pull_steps.proofs.Ends.{damaged_text}
use Rattle.pull_steps.proofs.ending.mismatched.Goals as goal

pub stopped-requires : goal.stopped-requires
stopped-requires c =
    let is : length c.args.digest.0 ≡ 32 = search rules in
    damaged_text c.args.digest is
